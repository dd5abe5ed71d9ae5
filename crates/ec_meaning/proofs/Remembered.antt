-- Blocks beside the cells that show theirs are the store, by the same paths.
use Rattle.std.proofs.Common.{◌≡◌, Bool, true, false, cond, List, [], ◌∷◌, map, zip, find, length, get_or, drop, Option, Some, option_map, refl, sym, ap, subst, arith}
use Rattle.ec_base.specs.Words.{same}
use Rattle.ec_base.specs.declared.memory.MemCell.{MemCell}
use Rattle.ec_types.specs.Meaning.Values.{Path, Val}
use Rattle.ec_meaning.specs.Means as means
use Rattle.ec_meaning.specs.Order.{AreRising, paths}
use Rattle.ec_meaning.specs.Seen as seen
use Rattle.ec_meaning.specs.Seen.{Untold}
use Rattle.ec_meaning.specs.Shown.{ShowsBlocks, ShowsStore}
use Rattle.ec_meaning.specs.declared.value.Block.{Block}

-- what `paired` gives
abbrev pub pairs : List Block → List (List MemCell) → List (Path × List MemCell)
pairs blocks shown = map (λ b. (b.0.path, b.1)) (zip blocks shown)

abbrev pub cells : Option (Path × List MemCell) → Option (List Val)
cells pair = option_map (λ b. map means.value b.1) pair

-- a pair's path is its block's, so the first one with a path stands where the first block does
module _ (u : Untold) (block : Block) (shown : List MemCell) (is : map means.value shown ≡ seen.cells u block) where
  chosen : (t : Bool) (pair : Option (Path × List MemCell)) (other : Option Block)
      → cells pair ≡ option_map (seen.cells u) other
      → cells (cond t (Some (block.path, shown)) pair) ≡ option_map (seen.cells u) (cond t (Some block) other)
  chosen true pair other later = ap Some is
  chosen false pair other later = later

found : (u : Untold) (blocks : List Block) (shown : List (List MemCell)) (p : Path)
    → map (map means.value) shown ≡ map (seen.cells u) blocks
    → cells (find (λ b. same b.0 p) (pairs blocks shown)) ≡ seen.store u blocks p
found u [] shown p e = refl
found u (block ∷ blocks) [] p e = let no : ⊥ = omega (arith, ap length e) in absurd no
found u (block ∷ blocks) (cells ∷ shown) p e =
    let first = ap (λ all. get_or all 0 []) e in
    chosen u block cells first (same block.path p) _ _ (found u blocks shown p (ap (drop 1) e))

pub ShowsStore-pairs : (blocks : List Block) (shown : List (List MemCell)) → ShowsBlocks blocks blocks shown
    → ShowsStore blocks record { blocks = pairs blocks shown }
ShowsStore-pairs blocks shown shows u names p = found u blocks shown p (shows u names)

paths-pairs : (blocks : List Block) (shown : List (List MemCell)) → length shown ≡ length blocks
    → map (λ b. b.0) (pairs blocks shown) ≡ paths blocks
paths-pairs [] shown e = refl
paths-pairs (block ∷ blocks) [] e = let no : ⊥ = omega (arith, e) in absurd no
paths-pairs (block ∷ blocks) (cells ∷ shown) e =
    ap (λ all. block.path ∷ all) (paths-pairs blocks shown (omega (arith, e)))

pub IsRising-pairs : (blocks : List Block) (shown : List (List MemCell)) → length shown ≡ length blocks
    → AreRising (paths blocks) → means.IsRising record { blocks = pairs blocks shown }
IsRising-pairs blocks shown long rising = subst AreRising (sym (paths-pairs blocks shown long)) rising
