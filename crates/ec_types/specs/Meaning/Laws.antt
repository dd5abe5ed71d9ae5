-- The laws of meanings: more ticks change nothing that has ended, and what goes on has spent all its ticks and goes on from there.
use Rattle.std.specs.Prelude.{◌≡◌, ℕ, ◌+◌, ◌≤◌, List, ◌++◌, ℤ}
use Rattle.ec_syntax.specs.declared.item.Program.{Program as Source}
use Rattle.ec_types.specs.Meaning.Programs.{Meaning, Unfinished, mean, HasEnded, IsFinal}

abbrev pub Begins : List ℕ → List ℕ → Type 0
Begins xs ys = (more : List ℕ) × (xs ++ more ≡ ys)

-- what has ended is the same with more ticks
abbrev pub EndsStay : Type 0
EndsStay = (p : Source) (args : List ℤ) (k more : ℕ) → HasEnded (mean p args k).ending → mean p args (k + more) ≡ mean p args k

-- so there is at most one meaning without a bound
abbrev pub OneEnd : Type 0
OneEnd = (p : Source) (args : List ℤ) (m n : Meaning) → IsFinal p args m → IsFinal p args n → m ≡ n

-- with more ticks the output begins with what it was, and no fewer activations were open at once
abbrev pub OutputGrows : Type 0
OutputGrows = (p : Source) (args : List ℤ) (k more : ℕ) → Begins (mean p args k).output (mean p args (k + more)).output

abbrev pub MostGrows : Type 0
MostGrows = (p : Source) (args : List ℤ) (k more : ℕ) → (mean p args k).most ≤ (mean p args (k + more)).most

-- no more ticks are spent than there are, and all of them where it goes on
abbrev pub WithinTicks : Type 0
WithinTicks = (p : Source) (args : List ℤ) (k : ℕ) → (mean p args k).ticks ≤ k

abbrev pub GoesOnWithoutTicks : Type 0
GoesOnWithoutTicks = (p : Source) (args : List ℤ) (k : ℕ) → (mean p args k).ending ≡ Unfinished → (mean p args k).ticks ≡ k
