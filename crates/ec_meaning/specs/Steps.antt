-- What a step of the evaluator comes to, and what all steps up to a state have come to.
use Rattle.std.specs.Prelude.{◌≡◌, ℕ, suc, ◌+◌, ◌≤◌, ◌<◌, Bool, List, ◌∷◌, map, length, Option, Some, None, ℤ}
use Rattle.ec_base.specs.declared.limits.TheConstants.{MAX_ACTIVATIONS}
use Rattle.ec_resolve.specs.Erased as erased
use Rattle.ec_syntax.specs.declared.item.Program.{Program as Source}
use Rattle.ec_types.specs.Meaning.Values.{Val}
use Rattle.ec_types.specs.Meaning.State.{Out, With, Traps, Going}
use Rattle.ec_types.specs.Meaning.Evaluation.{Program}
use Rattle.ec_types.specs.Meaning.Programs.{mean, told}
use Rattle.ec_meaning.specs.declared.machine.Machine.{Machine}
use Rattle.ec_meaning.specs.declared.machine.Step.{Step}
use Rattle.ec_meaning.specs.declared.machine.Step.TheVariants as step
use Rattle.ec_meaning.specs.declared.value.Value.{Value}
use Rattle.ec_meaning.specs.declared.work.Work.{Work}
use Rattle.ec_meaning.specs.Machine as m
use Rattle.ec_meaning.specs.Machine.{comes_to, shown, ticked, missing}
use Rattle.ec_meaning.specs.Order.{InOrder}
use Rattle.ec_meaning.specs.Seen.{Untold, Tells, val, core, machine}

abbrev pub program : Machine → Program
program x = map erased.function x.functions.now

abbrev pub seen : Untold → Machine → m.Machine
seen u x = machine u x.running x.waiting x.core

-- before this work was taken
abbrev pub before : Work → Machine → Machine
before w x = record x { running = record x.running { works = w ∷ x.running.works } }

-- blocks are in order, each activation that is open has its births, and never more were open than may be
pub record IsSound (x : Machine) : Type 0 where
  pub ordered : InOrder x.core
  pub counted : length x.core.births ≡ suc (length x.waiting)
  pub shallow : x.core.most ≤ MAX_ACTIVATIONS

-- the functions stay, what the new core tells the old one tells too, and it stays sound
pub record Keeps (old new : Machine) : Type 0 where
  pub functions : new.functions ≡ old.functions
  pub remembers : (u : Untold) → Tells u new.core → Tells u old.core
  pub sound : IsSound old → IsSound new

-- with the same paths it is seen so that both come to the same
pub record Turns (pointer spends : Bool) (old new : Machine) (u : Untold) : Type 0 where
  pub later : Untold
  pub paths : later.paths ≡ u.paths
  pub turns : m.Turns (program old) pointer spends (seen u old) (seen later new)

-- it goes on, in a state that comes to the same, with a tick less where one was spent
pub record Advances (pointer : Bool) (old new : Machine) : Type 0 where
  pub keeps : Keeps old new
  pub spends : Bool
  pub ticks : old.ticks ≡ ticked spends new.ticks
  pub turns : (u : Untold) → Tells u new.core → Turns pointer spends old new u

-- with so many ticks it comes to this
abbrev pub ComesTo : Bool → Machine → Untold → ℕ → Out Val → Type 0
ComesTo pointer x u r out = (n : ℕ) → r ≤ n → shown (comes_to (program x) n pointer (seen u x) r) ≡ shown out

-- a tick is due: without one it goes on here
abbrev pub IsDue : Bool → Machine → Type 0
IsDue pointer x = (u : Untold) → Tells u x.core → ComesTo pointer x u 0 (Going, core u x.core, 0)

-- with a tick one activation too many is open at once
abbrev pub IsDeep : Bool → Machine → Type 0
IsDeep pointer x =
    (u : Untold) → Tells u x.core → (n r : ℕ) → suc r < n →
    MAX_ACTIVATIONS < (comes_to (program x) n pointer (seen u x) (suc r)).1.most

pub record RunsOut (pointer : Bool) (old new : Machine) : Type 0 where
  pub ticks : old.ticks ≡ 0
  pub left : new.ticks ≡ 0
  pub core : new.core ≡ old.core
  pub due : IsDue pointer old

pub record IsTooDeep (pointer : Bool) (old new : Machine) : Type 0 where
  pub ticks : old.ticks ≡ suc new.ticks
  pub due : IsDue pointer old
  pub deep : IsDeep pointer old

-- it has come to its end with this ending, whatever ticks there are
pub record EndsWith (pointer : Bool) (old new : Machine) (out : Untold → ℕ → Out Val) : Type 0 where
  pub keeps : Keeps old new
  pub ticks : new.ticks ≡ old.ticks
  pub comes : (u : Untold) → Tells u new.core → (r : ℕ) → ComesTo pointer old u r (out u r)

abbrev pub ended : Bool → Option Value → Untold → Val
ended pointer None u = missing pointer
ended pointer (Some v) u = val u v

abbrev pub Steps : Bool → Machine → Machine → Step → Type 0
Steps pointer old new step.On = Advances pointer old new
Steps pointer old new step.OutOfTicks = RunsOut pointer old new
Steps pointer old new step.TooDeep = IsTooDeep pointer old new
Steps pointer old new (step.Trapped t) = EndsWith pointer old new (λ u r. (Traps t, core u new.core, r))
Steps pointer old new (step.Ended v) = EndsWith pointer old new (λ u r. (With (ended pointer v u), core u new.core, r))

-- as main's activation sees it, whose function gives a pointer or not
abbrev pub StepsAlways : Machine → Machine → Step → Type 0
StepsAlways old new step = (pointer : Bool) → Steps pointer old new step

-- ---- all steps

-- with the same paths it is seen so that the source means what it comes to with the ticks behind so many
pub record Means (s : Source) (args : List ℤ) (pointer : Bool) (spent : ℕ) (x : Machine) (u : Untold) : Type 0 where
  pub later : Untold
  pub paths : later.paths ≡ u.paths
  pub means : (n j : ℕ) → spent + j ≤ n →
      told (spent + j) (comes_to (program x) n pointer (seen later x) j) ≡ mean s args (spent + j)

-- so many ticks are spent, and the source means what this state comes to with those that are left
pub record Reaches (s : Source) (args : List ℤ) (pointer : Bool) (total : ℕ) (x : Machine) : Type 0 where
  pub spent : ℕ
  pub some : 0 < spent
  pub all : spent + x.ticks ≡ total
  pub sound : IsSound x
  pub means : (u : Untold) → Tells u x.core → Means s args pointer spent x u

-- no step follows this one, which was made where that was reached
pub record Ends (s : Source) (args : List ℤ) (pointer : Bool) (total : ℕ) (new : Machine) (last : Step) : Type 0 where
  pub old : Machine
  pub reached : Reaches s args pointer total old
  pub stepped : Steps pointer old new last
  pub ends : last ≡ step.On → ⊥

-- from wherever this was reached it ended so
abbrev pub RunsTo : Machine → Machine → Step → Type 0
RunsTo old new last =
    (s : Source) (args : List ℤ) (pointer : Bool) (total : ℕ) → Reaches s args pointer total old → Ends s args pointer total new last

-- what holds of each source and arguments whose machine ended so with so many ticks
abbrev pub EndedSo : ℕ → Machine → Step → (Source → List ℤ → Type 0) → Type 0
EndedSo total x last Holds =
    (s : Source) (args : List ℤ) (pointer : Bool) → Ends s args pointer total x last → Holds s args
