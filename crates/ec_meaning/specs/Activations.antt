-- How activations start and end.
use Rattle.std.specs.Prelude.{◌≡◌, suc, ◌+◌, ◌≤◌, ◌<◌, max, ◌∷◌, length, drop, get_or}
use Rattle.ec_base.specs.declared.limits.TheConstants.{MAX_ACTIVATIONS}
use Rattle.ec_meaning.specs.declared.shared_state.Core.{Core}
use Rattle.ec_meaning.specs.declared.hand.Awaits.{Awaits}
use Rattle.ec_meaning.specs.declared.hand.Frame.{Frame}
use Rattle.ec_meaning.specs.declared.machine.Machine.{Machine}
use Rattle.ec_meaning.specs.declared.machine.Step.{Step}
use Rattle.ec_meaning.specs.declared.machine.Step.TheVariants as step

-- an activation has started at the next birth
pub record Enters (old new : Core) : Type 0 where
  pub births : new.births ≡ 0 ∷ (get_or old.births 0 0 + 1) ∷ drop 1 old.births
  pub most : new.most ≡ max old.most (length new.births)
  pub output : new.output ≡ old.output
  pub blocks : new.blocks ≡ old.blocks

-- this frame runs in an activation of its own, and the one that ran waits for it
pub record Activated (frame : Frame) (awaits : Awaits) (old new : Machine) : Type 0 where
  pub functions : new.functions ≡ old.functions
  pub running : new.running ≡ frame
  pub waiting : new.waiting ≡ record { awaits = awaits; frame = old.running } ∷ old.waiting
  pub core : Enters old.core new.core
  pub ticks : old.ticks ≡ suc new.ticks
  pub shallow : length old.core.births < MAX_ACTIVATIONS

-- so many activations are open that with a tick there would be one too many
pub record Refused (old new : Machine) : Type 0 where
  pub ticks : old.ticks ≡ suc new.ticks
  pub deep : MAX_ACTIVATIONS ≤ length old.core.births

pub record Waits (old new : Machine) : Type 0 where
  pub ticks : old.ticks ≡ 0
  pub same : new ≡ old

abbrev pub Activates : Frame → Awaits → Machine → Machine → Step → Type 0
Activates frame awaits old new step.On = Activated frame awaits old new
Activates frame awaits old new step.OutOfTicks = Waits old new
Activates frame awaits old new step.TooDeep = Refused old new
Activates frame awaits old new (step.Trapped t) = ⊥
Activates frame awaits old new (step.Ended v) = ⊥
