-- Words of a source: the reserved ones, and those that may be names.
use Rattle.std.specs.Prelude.{ℕ, Bool, not, List}
pub use Rattle.ec_base.specs.Words.{same, is_among, reserved}

abbrev pub is_name : List ℕ → Bool
is_name w = not (is_among w reserved)
