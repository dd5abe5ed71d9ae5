-- Answers of parts that stand one after the other.
use Rattle.std.proofs.Common.{◌≡◌, ap, ◌∙◌, ℕ, Result, Ok, Err}
use Rattle.ec_base.specs.declared.fail.Fail.{Fail}
use Rattle.ec_base.specs.declared.fail.Fail.TheVariants.{Memory, Refused}
use Rattle.ec_base.specs.declared.trap.Trap.{Trap}
use Rattle.ec_types.specs.Meaning.State as state
use Rattle.ec_types.specs.Meaning.State.{Out, Does, With, and_then, pure}
use Rattle.ec_meaning.specs.declared.shared_state.Core.{Core}
use Rattle.ec_meaning.specs.Kept.{Kept}
use Rattle.ec_meaning.specs.Seen.{Untold, Tells, Performs, core}

-- what the first part refuses is refused
pub refused_then :
    {A B C D : Type 0} (f : A → B) (g : C → D) (k : B → Does D) (out : Out B) (c : state.Core) (r : ℕ) (e : Fail Trap) →
    Performs f (Err e) out c r → Performs g (Err e) (and_then out k) c r
refused_then f g k out c r Memory h = tt
refused_then f g k out c r (Refused t) h = ap (λ o. and_then o k) h

-- the second part answers
pub then_performs :
    {B C D : Type 0} (u : Untold) (g : C → D) (k : B → Does D) (out : Out B) (b : B) (old new : Core) (r : ℕ)
    (result : Result C (Fail Trap)) → (Tells u old → out ≡ (With b, core u old, r)) → Kept result old new → Tells u new →
    Performs g result (k b (core u old) r) (core u new) r → Performs g result (and_then out k) (core u new) r
then_performs u g k out b old new r (Ok x) first kept t h = ap (λ o. and_then o k) (first (kept.tells u t)) ∙ h
then_performs u g k out b old new r (Err (Refused x)) first kept t h =
    ap (λ o. and_then o k) (first (kept.tells u t)) ∙ h
then_performs u g k out b old new r (Err Memory) first kept t h = tt

-- a hand is what is made of the first part's answer
pub then_hand :
    {B D : Type 0} (k : B → D) (out : Out B) (b : B) (d : D) (c : state.Core) (r : ℕ) →
    out ≡ (With b, c, r) → k b ≡ d → and_then out (λ x. pure (k x)) ≡ (With d, c, r)
then_hand {D = D} k out b d c r is hand = ap (λ o. and_then o (λ x. pure (k x))) is ∙ ap (λ h. let o : Out D = (With h, c, r) in o) hand
