-- What answers give of judgements that are put together.
use Rattle.std.proofs.Common.{subst, ap, Some, Result, Ok, Err}
use Rattle.ec_base.specs.declared.fail.Fail.{Fail}
use Rattle.ec_base.specs.declared.fail.Fail.TheVariants.{Memory, Refused}
use Rattle.ec_types.specs.declared.refusal.TypeRefusal.{TypeRefusal}
use Rattle.ec_types.specs.Judged.{Judged, Gives, ◌and_then◌, both, ◌also◌}
use Rattle.ec_types.specs.Refusals.{sooner}
use Rattle.ec_types.proofs.Order.{first_of_both}

pub both_refused :
    {A B : Type 0} (a b : TypeRefusal) (x : Judged A) (y : Judged B)
    → Gives {A = A} (Err (Refused a)) x → Gives {A = B} (Err (Refused b)) y
    → Gives {A = A × B} (Err (Refused (sooner a (Some b)))) (both x y)
both_refused a b (Ok v) y p q = absurd p
both_refused a b (Err why) (Ok w) p q = absurd q
both_refused a b (Err why) (Err more) p q = first_of_both a b why more p q

-- the first of two, where both together fail or are right
pub also_fails :
    {A B : Type 0} (e : Fail TypeRefusal) (x : Judged A) (y : Judged B)
    → Gives {A = A × B} (Err e) (both x y) → Gives {A = A} (Err e) (x also y)
also_fails Memory x y p = tt
also_fails (Refused r) (Ok a) (Ok b) p = absurd p
also_fails (Refused r) (Ok a) (Err why) p = p
also_fails (Refused r) (Err why) (Ok b) p = p
also_fails (Refused r) (Err why) (Err more) p = p

pub also_goes :
    {A B : Type 0} (v : A × B) (x : Judged A) (y : Judged B) → Gives (Ok v) (both x y) → Gives (Ok v.0) (x also y)
also_goes v (Ok a) (Ok b) p = ap (λ w. w.0) p
also_goes v (Ok a) (Err why) p = absurd p
also_goes v (Err why) (Ok b) p = absurd p
also_goes v (Err why) (Err more) p = absurd p

-- what isn't right stays so
pub gives_up :
    {A B : Type 0} (e : Fail TypeRefusal) (x : Judged A) (rest : A → Judged B)
    → Gives {A = A} (Err e) x → Gives {A = B} (Err e) (x and_then rest)
gives_up Memory x rest p = tt
gives_up (Refused r) (Ok a) rest p = absurd p
gives_up (Refused r) (Err why) rest p = p

pub goes_on :
    {A B : Type 0} (a : A) (x : Judged A) (rest : A → Judged B) (r : Result B (Fail TypeRefusal))
    → Gives (Ok a) x → Gives r (rest a) → Gives r (x and_then rest)
goes_on a (Ok b) rest r p q = subst (λ v. Gives r (rest v)) p q
goes_on a (Err why) rest r p q = absurd p
