-- What expressions of the code resolve to, as the definitions see it.
use Rattle.ec_resolve.specs.declared.operand.Form.{Form}
use Rattle.ec_resolve.specs.declared.operand.Form.TheVariants as written
use Rattle.ec_resolve.specs.declared.operand.Operand.{Operand}
use Rattle.ec_resolve.specs.Erased.{expression, place}
use Rattle.ec_types.specs.Meaning.Resolution as resolution
use Rattle.ec_types.specs.Meaning.Resolution.{Resolved}

abbrev pub form : Form → resolution.Form
form (written.Plain e) = resolution.Plain (expression e)
form (written.Access pointer p) = resolution.Access pointer (place p)

abbrev pub operand : Operand → Resolved
operand o = record { type = o.ty; form = form o.form }
