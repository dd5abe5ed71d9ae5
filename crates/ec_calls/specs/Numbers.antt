-- Functions by numbers: which calls which, and the places that they come to.
use Rattle.std.specs.Prelude.{◌≡◌, ◌+◌, ◌*◌, ◌<◌, ◌^◌, ℕ, Bool, true, false, Contains, List, length, sum_by, get_or, Option, Some, None}
use Rattle.ec_base.specs.declared.token.Span.{Span}
use Rattle.ec_calls.specs.declared.reach.Edge.{Edge}
use Rattle.ec_calls.specs.Prints.{NoLater}
use Rattle.ec_calls.specs.Seen.{is_before}

-- the place of a number, if it has one
abbrev pub place_at : List (Option Span) → ℕ → Option Span
place_at places k = get_or places k None

-- a place that comes no later than this one
abbrev pub IsBy : Option Span → Span → Type 0
IsBy None at = ⊥
IsBy (Some p) at = NoLater p at

-- the first of these comes before the second
abbrev pub is_sooner : Option Span → Option Span → Bool
is_sooner None b = false
is_sooner (Some a) None = true
is_sooner (Some a) (Some b) = is_before a b

-- calls lead from one number to another, or it is the same one
pub data Leads (calls : List Edge) : ℕ → ℕ → Type 0 where
  ends : {k : ℕ} → Leads calls k k
  goes : {k last : ℕ} (e : Edge) → e.caller ≡ k → Contains calls e → Leads calls e.callee last → Leads calls k last

-- a place of a number to which calls lead
pub record ComesFrom (calls : List Edge) (places : List (Option Span)) (k : ℕ) (at : Span) : Type 0 where
  pub last : ℕ
  pub leads : Leads calls k last
  pub there : place_at places last ≡ Some at

-- numbers take over places of those that they call, and none gets a later one
pub record Lowers (calls : List Edge) (old new : List (Option Span)) : Type 0 where
  pub many : length new ≡ length old
  pub from : (k : ℕ) (at : Span) → place_at new k ≡ Some at → ComesFrom calls old k at
  pub lower : (k : ℕ) (at : Span) → place_at old k ≡ Some at → IsBy (place_at new k) at

-- the caller's place is no later than that of what it calls
abbrev pub IsKept : List (Option Span) → Edge → Type 0
IsKept places e = (at : Span) → place_at places e.callee ≡ Some at → IsBy (place_at places e.caller) at

-- numbers that have a place
abbrev pub IsWithin : ℕ → Edge → Type 0
IsWithin n e = (e.caller < n) × (e.callee < n)

-- where a place stands in the order of all that begin and end below n; a missing one stands behind them
abbrev pub rank : ℕ → Option Span → ℕ
rank n None = n * n
rank n (Some p) = p.from * n + p.to

abbrev pub start : Option Span → ℕ
start o = rank (2 ^ 32) o

abbrev pub total : List (Option Span) → ℕ
total places = sum_by start places

abbrev pub one_if : Bool → ℕ
one_if true = 1
one_if false = 0
