-- What statements are refused for, kind by kind.
use Rattle.std.proofs.Common.{◌≡◌, refl, rules, map, Option, option_map, Result, subst}
use Rattle.ec_base.specs.declared.fail.Fail.{Fail}
use Rattle.ec_syntax.specs.declared.expression.Expr.{Expr}
use Rattle.ec_syntax.specs.declared.statement.Assign.{Assign}
use Rattle.ec_syntax.specs.declared.statement.Stmt.{Stmt}
use Rattle.ec_syntax.specs.declared.statement.StmtKind.TheFolds.{the_lemmas as folds}
use Rattle.ec_syntax.specs.declared.statement.StmtKind.TheVariants.{If, Forall, Set, WriteTo, AddTo}
use Rattle.ec_types.specs.declared.refusal.TypeRefusal.{TypeRefusal}
use Rattle.ec_types.specs.Assignments.{assigned, condition}
use Rattle.ec_types.specs.Context.{Context, inside_of}
use Rattle.ec_types.specs.Judged.{Fine, Gives, ◌also◌, every}
use Rattle.ec_types.specs.Statements.{statement, each_in, otherwise, forall_header, sends}
use Rattle.ec_types.proofs.Bodies.Lists.{Goes}

pub of_If :
    (c : Context) (s : Stmt) (e : Expr) (a : Stmt) (b : Option Stmt) → s.kind ≡ If e a b
    → statement s c ≡ (condition c s.at e also statement a c also otherwise (option_map statement b) c)
of_If c s e a b q = search (rules, folds, q)

pub of_Forall :
    (c : Context) (s : Stmt) (i : Assign) (e : Expr) (n : Assign) (inner : Stmt) → s.kind ≡ Forall i e n inner
    → statement s c ≡ (forall_header c s.at i e n also statement inner (inside_of c))
of_Forall c s i e n inner q = search (rules, folds, q)

pub of_Set : (c : Context) (s : Stmt) (a : Assign) → s.kind ≡ Set a → statement s c ≡ assigned c s.at a
of_Set c s a q = search (rules, folds, q)

pub of_WriteTo : (c : Context) (s : Stmt) (to e : Expr) → s.kind ≡ WriteTo to e → statement s c ≡ sends c s.at to e
of_WriteTo c s to e q = search (rules, folds, q)

pub of_AddTo : (c : Context) (s : Stmt) (to e : Expr) → s.kind ≡ AddTo to e → statement s c ≡ sends c s.at to e
of_AddTo c s to e q = search (rules, folds, q)

-- one statement after the other
pub statements_go : (c : Context) → Goes {A = Stmt} (λ s. statement s c) (λ ss. every (each_in c (map statement ss)))
statements_go c = record { none = refl; more = λ s ss. refl }

-- as answers, where the parts were read from other places
pub of_header :
    (r : Result (Unit {0}) (Fail TypeRefusal)) (f : Assign → Expr → Assign → Fine) (i i' n n' : Assign) (e e' : Expr)
    → i ≡ i' → e ≡ e' → n ≡ n' → Gives r (f i e n) → Gives r (f i' e' n')
of_header r f i i' n n' e e' p q s h =
    subst (λ v. Gives r (f i' e' v)) s (subst (λ v. Gives r (f i' v n)) q (subst (λ v. Gives r (f v e n)) p h))
