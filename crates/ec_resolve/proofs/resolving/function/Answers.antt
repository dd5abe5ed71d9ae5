use Rattle.std.proofs.Common.{◌≡◌, IfOk, subst}
use Rattle.ec_types.specs.Meaning.Resolution.{function_in}
use Rattle.ec_resolve.specs.Erased.{function}
use Rattle.ec_resolve.proofs.resolving.function.Goals as goal

pub returns : goal.returns
returns c =
    subst (λ s. IfOk c.function.result (λ r. function r ≡ function_in s c.args.f.now)) c.in_ok-scope.ensures
    c.function.ensures
