use Rattle.std.proofs.Common.{◌∙◌, ap, sym, Some, option_map}
use Rattle.ec_types.specs.Meaning.Resolution.{assignment}
use Rattle.ec_resolve.specs.Seen.{scope}
use Rattle.ec_resolve.proofs.scope.Scope.optional_assignment.Goals as goal

pub returns-in_ok-assignment-in-Some : goal.returns-in_ok-assignment-in-Some
returns-in_ok-assignment-in-Some c =
    let of = assignment (scope c.args.self.now) in
    ap Some (c.in_ok-assignment-in-Some.ensures ∙ ap of c.get.ensures) ∙ ap (option_map of) (sym c.in-Some.is)
