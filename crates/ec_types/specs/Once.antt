-- A program is refused once, and not where it is typed.
use Rattle.std.specs.Prelude.{◌≡◌}
use Rattle.ec_syntax.specs.declared.item.Program.{Program}
use Rattle.ec_types.specs.declared.refusal.TypeRefusal.{TypeRefusal}
use Rattle.ec_types.specs.Programs.{IsTyped, IsFirst}

abbrev pub OneRefusal : Type 0
OneRefusal = (p : Program) (r s : TypeRefusal) → IsFirst p r → IsFirst p s → r ≡ s

abbrev pub TypedIsNotRefused : Type 0
TypedIsNotRefused = (p : Program) (r : TypeRefusal) → IsTyped p → IsFirst p r → ⊥
