-- A typed program and its simple form have one and the same end, or neither ends, and what the one prints the other prints too.
use Rattle.std.specs.Prelude.{◌≡◌, ℕ, List, ℤ}
use Rattle.ec_simple.specs.Lower.{lowered}
use Rattle.ec_simple.specs.Meaning as simple
use Rattle.ec_syntax.specs.declared.item.Program.{Program as Source}
use Rattle.ec_types.specs.Programs.{IsTyped}
use Rattle.ec_types.specs.Meaning.Laws.{Begins}
use Rattle.ec_types.specs.Meaning.Programs.{Meaning, mean, HasEnded}

-- one and the same end, ticks apart
pub record SameEnd (m n : Meaning) : Type 0 where
  pub ending : m.ending ≡ n.ending
  pub output : m.output ≡ n.output
  pub result : m.result ≡ n.result
  pub store : m.store ≡ n.store
  pub most : m.most ≡ n.most
  pub places : m.places ≡ n.places
  pub forks : m.forks ≡ n.forks

-- where the first one ends so does the other
abbrev pub EndsAs : (ℕ → Meaning) → (ℕ → Meaning) → Type 0
EndsAs m n = (k : ℕ) → HasEnded (m k).ending → (j : ℕ) × SameEnd (m k) (n j)

-- each output of the first one begins one of the other
abbrev pub PrintsAs : (ℕ → Meaning) → (ℕ → Meaning) → Type 0
PrintsAs m n = (k : ℕ) → (j : ℕ) × Begins (m k).output (n j).output

abbrev pub simple_mean : Source → List ℤ → ℕ → Meaning
simple_mean p args = simple.mean (lowered p) args

pub record LoweredMeansSame (p : Source) (args : List ℤ) : Type 0 where
  pub ends : EndsAs (mean p args) (simple_mean p args)
  pub ended : EndsAs (simple_mean p args) (mean p args)
  pub prints : PrintsAs (mean p args) (simple_mean p args)
  pub printed : PrintsAs (simple_mean p args) (mean p args)

abbrev pub SimpleFormsMeanTheSame : Type 0
SimpleFormsMeanTheSame = (p : Source) (args : List ℤ) → IsTyped p → LoweredMeansSame p args
