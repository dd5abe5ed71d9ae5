-- What judgements without refusals say of their parts.
use Rattle.std.proofs.Common.{◌≡◌, refl, Bool, true, false, List, Option, Some, None, Ok, Err}
use Rattle.std.specs.Bool.{then_some}
use Rattle.ec_base.specs.declared.reason.Reason.{Reason}
use Rattle.ec_base.specs.declared.token.Span.{Span}
use Rattle.ec_types.specs.declared.refusal.TypeRefusal.{TypeRefusal}
use Rattle.ec_types.specs.declared.value_type.ExprType.{ExprType}
use Rattle.ec_types.specs.declared.value_type.ExprType.TheVariants.{Value, Null, Array, Shared, SharedName}
use Rattle.ec_types.specs.Judged.{Judged, Fine, must, ◌and_then◌, both, ◌also◌, ◌and◌}
use Rattle.ec_types.specs.Parts.{Part, unshared, sharing, valued, shared, typed}

pub not_right : {A B : Type 0} {why : List TypeRefusal} {a : A} → ◌≡◌ {A = Judged A} (Err why) (Ok a) → B
not_right e = let no : ⊥ = cc in absurd no

-- ---- one after the other

pub record Then {A B : Type 0} (x : Judged A) (f : A → Judged B) (b : B) : Type 0 where
  pub a : A
  pub first : x ≡ Ok a
  pub next : f a ≡ Ok b

pub then_right : {A B : Type 0} (x : Judged A) (f : A → Judged B) (b : B) → (x and_then f) ≡ Ok b → Then x f b
then_right (Ok a) f b e = record { a = a; first = refl; next = e }
then_right (Err why) f b e = not_right e

pub also_left : {A B : Type 0} (x : Judged A) (y : Judged B) (a : A) → (x also y) ≡ Ok a → x ≡ Ok a
also_left (Ok a) (Ok b) c e = e
also_left (Ok a) (Err why) c e = not_right e
also_left (Err why) (Ok b) c e = e
also_left (Err why) (Err more) c e = not_right e

pub also_right : {A B : Type 0} (x : Judged A) (y : Judged B) (a : A) → (x also y) ≡ Ok a → (b : B) × (y ≡ Ok b)
also_right (Ok a) (Ok b) c e = (b, refl)
also_right (Ok a) (Err why) c e = not_right e
also_right (Err why) (Ok b) c e = (b, refl)
also_right (Err why) (Err more) c e = not_right e

-- of what is merely right
pub fine_left : (x y : Fine) → (x also y) ≡ Ok tt → x ≡ Ok tt
fine_left x y e = also_left x y tt e

pub fine_right : (x y : Fine) → (x also y) ≡ Ok tt → y ≡ Ok tt
fine_right x y e = (also_right x y tt e).1

pub fine_both : (x y : Fine) → x ≡ Ok tt → y ≡ Ok tt → (x also y) ≡ Ok tt
fine_both (Ok u) (Ok v) e f = refl
fine_both (Ok u) (Err why) e f = not_right f
fine_both (Err why) y e f = not_right e

pub both_left : {A B : Type 0} (x : Judged A) (y : Judged B) (p : A × B) → both x y ≡ Ok p → x ≡ Ok p.0
both_left (Ok a) (Ok b) p e = let same : (a, b) ≡ p = cc in cc
both_left (Ok a) (Err why) p e = not_right e
both_left (Err why) (Ok b) p e = not_right e
both_left (Err why) (Err more) p e = not_right e

pub both_right : {A B : Type 0} (x : Judged A) (y : Judged B) (p : A × B) → both x y ≡ Ok p → y ≡ Ok p.1
both_right (Ok a) (Ok b) p e = let same : (a, b) ≡ p = cc in cc
both_right (Ok a) (Err why) p e = not_right e
both_right (Err why) (Ok b) p e = not_right e
both_right (Err why) (Err more) p e = not_right e

-- two tests that hold
pub and_right : (x y : Judged Bool) → (x and y) ≡ Ok true → (x ≡ Ok true) × (y ≡ Ok true)
and_right (Ok true) (Ok true) e = (refl, refl)
and_right (Ok true) (Ok false) e = let no : ⊥ = cc in absurd no
and_right (Ok false) (Ok b) e = let no : ⊥ = cc in absurd no
and_right (Ok a) (Err why) e = not_right e
and_right (Err why) (Ok b) e = not_right e
and_right (Err why) (Err more) e = not_right e

-- ---- tests and rules

pub must_hold : (test : Bool) (fault : Reason) (at : Span) → must test fault at ≡ Ok tt → test ≡ true
must_hold true fault at e = refl
must_hold false fault at e = not_right e

pub then_some_is : {A : Type 0} (b : Bool) (x y : A) → then_some b x ≡ Some y → (b ≡ true) × (x ≡ y)
then_some_is true x y e = (refl, cc)
then_some_is false x y e = let no : ⊥ = cc in absurd no

pub typed_is : (at : Span) (o : Option ExprType) (t : ExprType) → typed at o ≡ Ok t → o ≡ Some t
typed_is at None t e = not_right e
typed_is at (Some u) t e = cc

-- ---- shared names

unshared_is : (at : Span) (t u : ExprType) → unshared at t ≡ Ok u → t ≡ u
unshared_is at (Value t) u e = cc
unshared_is at Null u e = cc
unshared_is at Array u e = cc
unshared_is at Shared u e = not_right e
unshared_is at SharedName u e = not_right e

sharing_is : (at : Span) (t u : ExprType) → sharing at t ≡ Ok u → t ≡ u
sharing_is at (Value t) u e = cc
sharing_is at Null u e = cc
sharing_is at Array u e = cc
sharing_is at Shared u e = cc
sharing_is at SharedName u e = not_right e

pub valued_is : (p : Part) (t : ExprType) → valued p ≡ Ok t → p.is ≡ Ok t
valued_is p t e =
    let h = then_right p.is (unshared p.at) t e in
    let same = unshared_is p.at h.a t h.next in
    let first = h.first in
    cc

pub shared_is : (p : Part) (t : ExprType) → shared p ≡ Ok t → p.is ≡ Ok t
shared_is p t e =
    let h = then_right p.is (sharing p.at) t e in
    let same = sharing_is p.at h.a t h.next in
    let first = h.first in
    cc
