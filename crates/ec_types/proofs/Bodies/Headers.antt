-- Expressions in which nothing is called or allocated.
use Rattle.std.proofs.Common.{◌≡◌, refl, rules, ◌∙◌, sym, ap, ap₂, subst}
use Rattle.std.proofs.Common.{List, [], ◌∷◌, ◌++◌, map, Option, Some, Result, Ok, Err}
use Rattle.ec_base.specs.declared.fail.Fail.{Fail}
use Rattle.ec_base.specs.declared.operator.BinOp.{BinOp}
use Rattle.ec_syntax.specs.declared.expression.Call.{Call, out-Call}
use Rattle.ec_syntax.specs.declared.expression.Expr.{Expr}
use Rattle.ec_syntax.specs.declared.expression.ExprKind.TheFolds.{the_lemmas as folds}
use Rattle.ec_syntax.specs.declared.expression.ExprKind.TheVariants.{Binary, And, Or, Index, New}
use Rattle.ec_syntax.specs.declared.name.Ty.{Ty}
use Rattle.ec_syntax.specs.declared.statement.Assign.{Assign}
use Rattle.ec_types.specs.declared.refusal.TypeRefusal.{TypeRefusal}
use Rattle.ec_calls.specs.Effects.{Effect, a_call, a_malloc, joined}
use Rattle.ec_calls.specs.Effects.{effects, assign_effects, call_effects, placement_effects}
use Rattle.ec_types.specs.Headers.{is_no_effect, no_effects, still}
use Rattle.ec_types.specs.Judged.{Fine, fine, Gives, ◌also◌}
use Rattle.ec_types.proofs.Bodies.Lists.{also_assoc, Goes}

-- ---- lists of calls and `malloc`s

fine_also : (x : Fine) → (fine also x) ≡ x
fine_also (Ok tt) = refl
fine_also (Err why) = refl

pub no_effects-append : (a b : List Effect) → no_effects (a ++ b) ≡ (no_effects a also no_effects b)
no_effects-append [] b = sym (fine_also (no_effects b))
no_effects-append (x ∷ a) b =
    ap (λ v. is_no_effect x also v) (no_effects-append a b)
    ∙ sym (also_assoc (is_no_effect x) (no_effects a) (no_effects b))

pub joined_goes : Goes {A = Expr} (λ e. no_effects (effects e)) (λ es. no_effects (joined (map effects es)))
joined_goes = record { none = refl; more = λ e es. no_effects-append (effects e) (joined (map effects es)) }

-- ---- kind by kind

pub of_Binary : (e : Expr) (op : BinOp) (a b : Expr) → e.kind ≡ Binary op a b → effects e ≡ effects a ++ effects b
of_Binary e op a b q = search (rules, folds, q)

pub of_And : (e a b : Expr) → e.kind ≡ And a b → effects e ≡ effects a ++ effects b
of_And e a b q = search (rules, folds, q)

pub of_Or : (e a b : Expr) → e.kind ≡ Or a b → effects e ≡ effects a ++ effects b
of_Or e a b q = search (rules, folds, q)

pub of_Index : (e a b : Expr) → e.kind ≡ Index a b → effects e ≡ effects a ++ effects b
of_Index e a b q = search (rules, folds, q)

pub of_New :
    (e : Expr) (to : Option Ty) (all : Option Expr) (count : Expr) (element : Ty)
    → e.kind ≡ New to all element → all ≡ Some count → effects e ≡ a_malloc e.at ∷ effects count
of_New e to all count element q s = search (rules, folds, q, s)

abbrev pub arguments_effects : Call → List Effect
arguments_effects x = joined (map effects (out-Call x).args)

pub of_call :
    (x : Call)
    → call_effects x ≡ a_call (out-Call x).name.text (out-Call x).at ∷ arguments_effects x ++ placement_effects (out-Call x).place
of_call x = search (rules, folds)

-- two expressions side by side, where they were read from other places
pub pair_still :
    (e a b a' b' : Expr) (r : Result (Unit {0}) (Fail TypeRefusal))
    → effects e ≡ effects a ++ effects b → a' ≡ a → b' ≡ b
    → Gives r (no_effects (effects a') also no_effects (effects b')) → Gives r (no_effects (effects e))
pair_still e a b a' b' r is p q h =
    subst (λ v. Gives r (no_effects v)) (sym is)
    (subst (Gives r) (sym (no_effects-append (effects a) (effects b)))
    (subst (λ v. Gives r (no_effects (effects a) also no_effects (effects v))) q
    (subst (λ v. Gives r (no_effects (effects v) also no_effects (effects b'))) p h)))

-- ---- assignments and headers

abbrev pub still_sides : Assign → Fine
still_sides a = no_effects (effects a.left) also no_effects (effects a.right)

pub of_header :
    (first : Assign) (test : Expr) (last : Assign)
    → still first test last ≡ (still_sides first also no_effects (effects test) also still_sides last)
of_header first test last =
    no_effects-append (assign_effects first ++ effects test) (assign_effects last)
    ∙ ap₂ (λ v w. v also w)
    (no_effects-append (assign_effects first) (effects test)
    ∙ ap (λ v. v also no_effects (effects test)) (no_effects-append (effects first.left) (effects first.right)))
    (no_effects-append (effects last.left) (effects last.right))
    ∙ also_assoc (still_sides first) (no_effects (effects test)) (still_sides last)
