-- Blocks are kept in the order of their births: their paths rise, and the next birth's path is greater than all.
use Rattle.std.specs.Prelude.{◌≡◌, ◌≢◌, ℕ, suc, List, [], ◌∷◌, ◌++◌, map, reverse, drop, get_or, All}
use Rattle.std.specs.List.Sorted.{IsStrictlySortedBy}
use Rattle.std.specs.Ordering.{nat_cmp}
use Rattle.std.specs.declared.cmp.Ordering.TheVariants.{Less}
use Rattle.std.specs.Cmp.Lexicographic.{slice_cmp}
use Rattle.ec_types.specs.Meaning.Values.{Path}
use Rattle.ec_meaning.specs.declared.value.Block.{Block}
use Rattle.ec_meaning.specs.declared.shared_state.Core.{Core}

-- number by number, a prefix first
abbrev pub IsBefore : Path → Path → Type 0
IsBefore p q = slice_cmp nat_cmp p q ≡ Less

abbrev pub AreRising : List Path → Type 0
AreRising = IsStrictlySortedBy (slice_cmp nat_cmp)

abbrev pub paths : List Block → List Path
paths blocks = map (λ b. b.path) blocks

-- the path of the next birth, by the births of the open activations
abbrev pub next_of : List ℕ → Path
next_of births = reverse (drop 1 births) ++ suc (get_or births 0 0) ∷ []

abbrev pub next_path : Core → Path
next_path c = next_of c.births

-- an activation is open, and each block was born after those before it, and before the next birth
pub record InOrder (c : Core) : Type 0 where
  pub running : c.births ≢ []
  pub rising : AreRising (paths c.blocks.items)
  pub below : All (λ p. IsBefore p (next_path c)) (paths c.blocks.items)
