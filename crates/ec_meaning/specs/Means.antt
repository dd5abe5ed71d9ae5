-- What the evaluator answers: the meaning of the definitions, or that it is too deep.
use Rattle.std.specs.Prelude.{◌≡◌, ℕ, suc, ◌≤◌, ◌<◌, List, [], map, find, Option, option_map, ℤ, pos}
use Rattle.std.specs.List.Sorted.{IsStrictlySortedBy}
use Rattle.std.specs.Ordering.{nat_cmp}
use Rattle.std.specs.Cmp.Lexicographic.{slice_cmp}
use Rattle.ec_base.specs.Words.{same}
use Rattle.ec_base.specs.declared.limits.TheConstants.{MAX_ACTIVATIONS}
use Rattle.ec_base.specs.declared.memory.MemCell.{MemCell}
use Rattle.ec_base.specs.declared.memory.MemCell.TheVariants as cell
use Rattle.ec_base.specs.declared.memory.Memory.{Memory}
use Rattle.ec_meaning.specs.declared.meant.Meant.{Meant}
use Rattle.ec_meaning.specs.declared.meant.MeantEnd.{MeantEnd}
use Rattle.ec_meaning.specs.declared.meant.MeantEnd.TheVariants as end
use Rattle.ec_syntax.specs.declared.item.Program.{Program}
use Rattle.ec_types.specs.Meaning.Values.{Path, Val, Num, Null, To}
use Rattle.ec_types.specs.Meaning.Programs.{Meaning, Ended, Trapped, Unfinished, mean}

-- ---- memory

abbrev pub value : MemCell → Val
value (cell.Int n) = Num n
value cell.Nil = Null
value (cell.To p) = To p

-- the cells of the block of a path
abbrev pub store : Memory → Path → Option (List Val)
store m p = option_map (λ b. map value b.1) (find (λ b. same b.0 p) m.blocks)

-- number by number, a prefix first
abbrev pub IsRising : Memory → Type 0
IsRising m = IsStrictlySortedBy (slice_cmp nat_cmp) (map (λ b. b.0) m.blocks)

-- ---- answers

-- the meaning's output, result, memory and ticks
pub record Agrees (m : Meaning) (answer : Meant) : Type 0 where
  pub output : answer.output ≡ m.output
  pub result : answer.result ≡ m.result
  pub store : (p : Path) → store answer.store p ≡ m.store p
  pub ticks : answer.ticks ≡ m.ticks
  pub shallow : m.most ≤ MAX_ACTIVATIONS

-- at the last tick that is spent one activation too many would be open at once
pub record IsTooDeep (p : Program) (args : List ℤ) (most : ℕ) (answer : Meant) : Type 0 where
  pub before : ℕ
  pub last : answer.ticks ≡ suc before
  pub within : answer.ticks ≤ most
  pub shallow : (mean p args before).most ≤ MAX_ACTIVATIONS
  pub deep : MAX_ACTIVATIONS < (mean p args answer.ticks).most
  pub output : answer.output ≡ []
  pub result : answer.result ≡ pos 0
  pub store : answer.store.blocks ≡ []

abbrev pub IsMeant : Program → List ℤ → ℕ → Meant → Type 0
IsMeant p args k answer = by answer.ending
  where
    by : MeantEnd → Type 0
    by end.Ended = ((mean p args k).ending ≡ Ended) × Agrees (mean p args k) answer
    by (end.Trapped t) = ((mean p args k).ending ≡ Trapped t) × Agrees (mean p args k) answer
    by end.OutOfTicks = ((mean p args k).ending ≡ Unfinished) × Agrees (mean p args k) answer
    by end.TooDeep = IsTooDeep p args k answer
