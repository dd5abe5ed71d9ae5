-- What a scope knows, and the fields that are found there.
use Rattle.ec_resolve.specs.declared.fields.Found.{Found}
use Rattle.ec_resolve.specs.declared.scope.Scope.{Scope}
use Rattle.ec_types.specs.Meaning.Layout as layout
use Rattle.ec_types.specs.Meaning.Resolution as resolution

abbrev pub scope : Scope → resolution.Scope
scope s = record { structs = s.structs.now; functions = s.functions.now; variables = s.variables }

abbrev pub found : Found → layout.Found
found f = record { number = f.extent.number; first = f.extent.first; field = f.field.now }
