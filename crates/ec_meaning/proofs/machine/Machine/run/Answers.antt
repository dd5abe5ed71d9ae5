use Rattle.std.proofs.Common.{subst}
use Rattle.ec_meaning.specs.Steps.{Steps}
use Rattle.ec_meaning.proofs.Finale.{advanced}
use Rattle.ec_meaning.proofs.machine.Machine.run.Goals as goal

pub returns-in_default : goal.returns-in_default
returns-in_default c s args pointer total r = record {
  old = c.loop.self;
  reached = c.loop.invariant s args pointer total r;
  stepped = c.in_ok-other.ensures pointer;
  ends = c.in_default.not-On;
}

pub loop-preserved : goal.loop-preserved
loop-preserved c s args pointer total r =
    advanced s args pointer total c.loop.self c.step.new.self (c.loop.invariant s args pointer total r)
    (subst (Steps pointer c.loop.self c.step.new.self) c.in-On.is (c.in_ok-other.ensures pointer))
