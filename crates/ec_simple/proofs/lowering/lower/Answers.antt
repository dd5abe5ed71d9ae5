use Rattle.std.proofs.Common.{sym, subst}
use Rattle.ec_simple.specs.Formed.{IsFormed}
use Rattle.ec_simple.proofs.formed.Programs.{programs_formed}
use Rattle.ec_simple.proofs.lowering.lower.Goals as goal

pub new-requires : goal.new-requires
new-requires c = subst IsFormed (sym c.in_ok-form.ensures.lowered) (programs_formed c.args.t.now c.in_ok-form.ensures.typed)
