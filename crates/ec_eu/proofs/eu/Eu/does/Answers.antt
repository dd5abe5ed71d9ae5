use Rattle.std.proofs.Common.{◌≡◌, ◌∙◌, ap, sym, subst, drop, slice_get, Some, option_copied}
use Rattle.ec_eu.specs.Fibers.{Stepped, does}
use Rattle.ec_eu.specs.Instructions.{one}
use Rattle.ec_eu.proofs.Fibers.{does_next}
use Rattle.ec_eu.proofs.Lists.{found}
use Rattle.ec_eu.proofs.eu.Eu.does.Goals as goal

pub loop-x-preserved : goal.loop-x-preserved
loop-x-preserved c =
    let n = c.args.n in
    let next = c.in-Some-2.next in
    let instrs = c.args.instrs.now in
    let x = c.in-Some.x.now in
    let did = one n x c.loop-x.self in
    let stepped : Stepped (Some next) c.loop-x.at did c.step.new.self =
    subst (λ o. Stepped o c.loop-x.at did c.step.new.self) c.in-Some-2.is c.in_ok-step.ensures in
    let found : slice_get instrs c.loop-x.at ≡ Some x =
    sym (found instrs c.loop-x.at c.get.result (c.get.ensures.lookup).3) ∙ ap option_copied c.in-Some.is in
    c.loop-x.invariant ∙ does_next n c.loop-x.at next instrs x c.loop-x.self found stepped.0 stepped.1
    ∙ ap (λ s. does n next next (drop next instrs) s) (sym stepped.2)
