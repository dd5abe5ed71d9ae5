use Rattle.std.proofs.Common.{ap, refl, ◌∙◌, []}
use Rattle.ec_resolve.specs.Erased as erased
use Rattle.ec_types.specs.Meaning.State.{Vars}
use Rattle.ec_meaning.specs.Activations.{Activates}
use Rattle.ec_meaning.specs.Seen.{table}
use Rattle.ec_meaning.specs.Steps.{StepsAlways, before}
use Rattle.ec_meaning.specs.Works.{Hand}
use Rattle.ec_meaning.specs.declared.hand.Awaits.TheVariants as waits
use Rattle.ec_meaning.specs.declared.work.Work.TheVariants as todo
use Rattle.ec_meaning.proofs.Entering.{branches_on, if_ok_then}
use Rattle.ec_meaning.proofs.machine.Machine.branch.Goals as goal

pub returns : goal.returns
returns c =
    let x = c.args.self.now in
    let frame = c.in_ok-frame.frame in
    let held = todo.Branch c.args.action in
    let child : Vars → Hand = λ vs. record { values = []; accesses = []; vars = vs } in
    if_ok_then c.activate.result (Activates frame waits.Vars x c.activate.new.self) (StepsAlways (before held x) c.activate.new.self)
    (λ s a pointer.
    branches_on pointer x held (erased.statement c.args.action.now) frame (λ u. refl) c.in_ok-frame.ensures.works
    (λ u. c.in_ok-frame.ensures.hand u ∙ ap (λ vs. child (table u vs)) c.as_slice.ensures.value)
    c.activate.new.self s a)
    c.activate.ensures
