-- What expressions are, kind by kind.
use Rattle.std.proofs.Common.{◌≡◌, rules, if◌then◌else◌, Option, Some, None, Result, subst}
use Rattle.ec_base.specs.declared.fail.Fail.{Fail}
use Rattle.ec_types.specs.declared.refusal.TypeRefusal.{TypeRefusal}
use Rattle.ec_base.specs.declared.operator.BinOp.{BinOp}
use Rattle.ec_syntax.specs.declared.expression.Expr.{Expr}
use Rattle.ec_syntax.specs.declared.expression.ExprKind.TheFolds.{the_lemmas as folds}
use Rattle.ec_syntax.specs.declared.expression.ExprKind.TheVariants.{Binary, And, Or, Index, ValueOf, New}
use Rattle.ec_syntax.specs.declared.name.Ty.{Ty}
use Rattle.ec_types.specs.Context.{Context}
use Rattle.ec_types.specs.Expressions.{judged, new, indexes_locally}
use Rattle.ec_types.specs.Judged.{Judged, Gives, ◌and_then◌}
use Rattle.ec_types.specs.Operators.{binary_type, logic_type, element_type}
use Rattle.ec_types.specs.Parts.{Other, Allocation, part, access, by_two, shared, tested, typed}
use Rattle.ec_types.specs.Types.{is_shared, is_number, number}

pub is_Binary : (c : Context) (e : Expr) (op : BinOp) (a b : Expr) → e.kind ≡ Binary op a b → judged c e ≡ part Other e.at (by_two e.at (binary_type op) (judged c a) (judged c b))
is_Binary c e op a b q = search (rules, folds, q)

pub is_And : (c : Context) (e : Expr) (a b : Expr) → e.kind ≡ And a b → judged c e ≡ part Other e.at (by_two e.at logic_type (judged c a) (judged c b))
is_And c e a b q = search (rules, folds, q)

pub is_Or : (c : Context) (e : Expr) (a b : Expr) → e.kind ≡ Or a b → judged c e ≡ part Other e.at (by_two e.at logic_type (judged c a) (judged c b))
is_Or c e a b q = search (rules, folds, q)

pub is_Index : (c : Context) (e : Expr) (a b : Expr) → e.kind ≡ Index a b → judged c e ≡ access (indexes_locally c (judged c a)) e.at (by_two e.at element_type (judged c a) (judged c b))
is_Index c e a b q = search (rules, folds, q)

pub is_ValueOf : (c : Context) (e : Expr) (a : Expr) → e.kind ≡ ValueOf a → judged c e ≡ part Other e.at (shared (judged c a) and_then (λ t. typed e.at (if is_shared t then Some number else None)))
is_ValueOf c e a q = search (rules, folds, q)

pub is_New :
    (c : Context) (e : Expr) (to : Option Ty) (all : Option Expr) (count : Expr) (element : Ty) → e.kind ≡ New to all element → all ≡ Some count
    → judged c e ≡ part Allocation e.at (new c to (tested is_number (Some (judged c count))) element e.at)
is_New c e to all count element q s = search (rules, folds, q, s)

-- the same as answers, where the parts were read from other places
pub of_one :
    {A : Type 0} (r : Result A (Fail TypeRefusal)) (f : Expr → Judged A) (a a' : Expr) → a ≡ a' → Gives r (f a) → Gives r (f a')
of_one r f a a' p h = subst (λ v. Gives r (f v)) p h

pub of_two :
    {A : Type 0} (r : Result A (Fail TypeRefusal)) (f : Expr → Expr → Judged A) (a a' b b' : Expr) → a ≡ a' → b ≡ b'
    → Gives r (f a b) → Gives r (f a' b')
of_two r f a a' b b' p q h = subst (λ v. Gives r (f a' v)) q (subst (λ v. Gives r (f v b)) p h)
