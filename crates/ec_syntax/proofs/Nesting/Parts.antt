-- Parts of their own, what is counted by its place, and what stands one deeper, at any depth.
use Rattle.std.proofs.Common.{◌≡◌, refl, arith, ◌≤◌, ◌+◌, ℕ, zero, suc, Bool, true, false}
use Rattle.ec_base.specs.declared.limits.TheConstants.{MAX_NESTING}
use Rattle.ec_base.specs.declared.token.Token.{Token}
use Rattle.ec_syntax.specs.Grammar.State.{State}
use Rattle.ec_syntax.specs.Grammar.Language as L
use Rattle.ec_syntax.specs.Grammar.Language.{Language, first_is}
use Rattle.ec_syntax.specs.Descent.Reader as R
use Rattle.ec_syntax.specs.Descent.Reader.{Reader, Outcome}
use Rattle.ec_syntax.specs.Descent.Reader.Outcome.{Done, Stopped}
use Rattle.ec_syntax.specs.declared.quantity.Quantity.{Quantity}
use Rattle.ec_syntax.specs.declared.quantity.Fault.TheVariants.{Passes}
use Rattle.ec_syntax.proofs.Decision.Procedures.{asks_nesting, Decides}
use Rattle.ec_syntax.proofs.Nesting.Limits as depths
use Rattle.ec_syntax.proofs.Decision.Limited.{Told}

-- ---- parts

pub parted : {X A : Type 0} {fits able : Type 0} {d : ℕ} {p : X → Reader A} {l : X → Language A} {empty : Type 0}
    {first goes : Token → Bool} →
    Told fits able d p l empty first goes → Told fits able d (λ x. R.part (p x)) (λ x. L.part (l x)) empty first goes
parted h = record { spoken = depths.parted_spoken h.spoken; decides = λ fit. depths.parted (h.decides fit) }

-- ---- the k-th of its kind

kth_decides : {X A : Type 0} {able : Type 0} {d : ℕ} {p : X → Reader A} {l : X → Language A} {first goes : Token → Bool}
    (q : Quantity) → asks_nesting (Passes q) ≡ true → (k : X → ℕ) (room : ℕ) → 1 ≤ room →
    Decides able d p l ⊥ first goes → d ≤ MAX_NESTING →
    Decides able d (λ x. R.kth q (k x) first room (p x)) (λ x. L.kth q (k x) (l x)) ⊥ first goes
kth_decides q asks k zero some h small = absurd (omega arith)
kth_decides q asks k (suc r) some h small = depths.kth q asks k r h small

pub kth_told : {X A : Type 0} {fits able : Type 0} {d : ℕ} {p : X → Reader A} {l : X → Language A}
    {first goes : Token → Bool} (q : Quantity) → asks_nesting (Passes q) ≡ true → (k : X → ℕ) (room : ℕ) →
    (fits → 1 ≤ room) → (fits → d ≤ MAX_NESTING) → Told fits able d p l ⊥ first goes →
    Told fits able d (λ x. R.kth q (k x) first room (p x)) (λ x. L.kth q (k x) (l x)) ⊥ first goes
kth_told q asks k room some small h = record { spoken = depths.kth_spoken q asks k h.spoken; decides = λ fit. kth_decides q asks k room (some fit) (h.decides fit) (small fit) }

-- ---- one deeper

-- Where what stands one deeper fits: where there is room for it.
pub record Room (fits inner : Type 0) (d room : ℕ) : Type 0 where
  pub small : fits → d ≤ MAX_NESTING
  pub deep : inner → suc d ≤ MAX_NESTING
  pub some : inner → 1 ≤ room
  pub sum : fits → suc d + room ≡ suc MAX_NESTING
  pub into : fits → 1 ≤ room → inner

-- where a limit is passed, nothing is read behind
pub passed_on : {A B : Type 0} (test : Token → Bool) (q : Quantity) (k : A → Reader B) (s : State) →
    R.passed {A = B} test q s ≡ R.◌>>=◌ (R.passed {A = A} test q) k s
passed_on {A} {B} test q k s = by (first_is test s.left) refl
  where
    by : (b : Bool) → first_is test s.left ≡ b → R.passed {A = B} test q s ≡ R.◌>>=◌ (R.passed {A = A} test q) k s
    by true e = rw e
    by false e = rw e

-- what stands behind may be read inside
pub inside_on : {A B : Type 0} (room : ℕ) (test : Token → Bool) (p : Reader A) (k : A → Reader B) (s : State) →
    R.inside room test (R.◌>>=◌ p k) s ≡ R.◌>>=◌ (R.inside room test p) k s
inside_on zero test p k s = passed_on test _ k s
inside_on (suc room) test p k s = refl

-- d is the depth of what stands around it
pub inside_told : {X A : Type 0} {fits inner able : Type 0} {d room : ℕ} {p : X → Reader A} {l : X → Language A}
    {first goes : Token → Bool} → (fits → suc d + room ≡ suc MAX_NESTING) → (fits → 1 ≤ room → inner) →
    Told inner able (suc d) p l ⊥ first goes → Told fits able (suc d) (λ x. R.inside room first (p x)) l ⊥ first goes
inside_told {room = room} sum into h = record { spoken = h.spoken; decides = λ fit. depths.inside room (sum fit) (λ k e. h.decides (into fit (omega (arith, e)))) h.spoken }
