-- Words of a source: the reserved ones, and those that may name a variable.
use Rattle.std.specs.Prelude.{ℕ, Bool, ◌&&◌, not, nat_le, List, [], ◌∷◌, length, Option, Some, None, option_map, suc, if◌then◌else◌}
pub use Rattle.ec_base.specs.Words.{same, is_among, reserved}

-- a word that may name a variable: no reserved one, of at most 64 bytes
abbrev pub is_name : List ℕ → Bool
is_name w = not (is_among w reserved) && nat_le (length w) 64

-- the number of the variable that a word names, by the order of declarations
abbrev pub place : List (List ℕ) → List ℕ → Option ℕ
place [] w = None
place (x ∷ xs) w = if same x w then Some 0 else option_map suc (place xs w)
