-- For each cell whether it is a pointer.
use Rattle.std.specs.Prelude.{Bool, List, replicate}
use Rattle.ec_syntax.specs.declared.item.Field.{Field}
use Rattle.ec_types.specs.Sizes.{cells_of}
use Rattle.ec_types.specs.Types.{value_type, is_pointer}

abbrev pub field : Field → List Bool
field f = replicate (cells_of f.array) (is_pointer (value_type f.ty))
