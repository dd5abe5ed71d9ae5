-- What a kept run is.
use Rattle.std.specs.Prelude.{◌≡◌, ℕ, ◌+◌, ◌*◌, ◌≤◌, ◌==◌, Bool, true, false, if◌then◌else◌, List, [], ◌∷◌, map, count_by, Some}
use Rattle.ec_core.specs.declared.choice.Act.{Act}
use Rattle.ec_core.specs.declared.choice.Act.TheVariants.{EuReady, EuSpawn, EuEvent, EuHungry, SuEvent, SuNet, SuReady, SuSend}
use Rattle.ec_core.specs.declared.choice.Choice.{Choice}
use Rattle.ec_core.specs.declared.choice.Stamped.{Stamped}
use Rattle.ec_core.specs.declared.choice.Run.{Run}
use Rattle.ec_core.specs.declared.code.Code.{Code}
use Rattle.ec_core.specs.declared.node.Node.{Node}
use Rattle.ec_core.specs.Run.{run, start, HasEnded}
use Rattle.ec_core.specs.Valid.{valid}
use Rattle.ec_small.specs.declared.tree.Program.{Program}
use Rattle.ec_small.specs.Meaning.{meaning}
use Rattle.ec_split.specs.Owes.{Owes}
use Rattle.ec_agree.specs.Agree.{Agrees, EveryRunAgrees, EveryRunGoesOn}
use Rattle.ec_driver.specs.declared.command.RunWords.{RunWords}
use Rattle.ec_driver.specs.Ending.{Ending, ran}
use Rattle.ec_driver.specs.Source.{Accepts}

-- ---- the steps of units

-- whether an act is the execution unit's
abbrev pub is_eu : Act → Bool
is_eu EuReady = true
is_eu EuSpawn = true
is_eu EuEvent = true
is_eu EuHungry = true
is_eu SuEvent = false
is_eu SuNet = false
is_eu SuReady = false
is_eu SuSend = false

-- the number of a choice's unit: node a has the execution unit 2a and the synchronisation unit 2a + 1
abbrev pub unit_of : Choice → ℕ
unit_of c = 2 * c.node + (if is_eu c.act then 0 else 1)

-- how many choices of a list are a unit's
abbrev pub steps_of : ℕ → List Stamped → ℕ
steps_of unit list = count_by (λ x. unit_of x.choice == unit) list

-- the choices of stamped ones
abbrev pub choices : List Stamped → List Choice
choices list = map (λ x. x.choice) list

-- each stamp is the choice's place in the list, the first being the given one
abbrev pub StampedFrom : ℕ → List Stamped → Type 0
StampedFrom k [] = Unit {0}
StampedFrom k (x ∷ xs) = (x.stamp ≡ k) × StampedFrom (k + 1) xs

-- ---- a run that is kept

-- the run has the nodes and the steps that the words ask for, and no unit makes more steps
pub record IsWithin (c : RunWords) (r : Run) : Type 0 where
  pub nodes : r.nodes ≡ c.nodes
  pub steps : r.steps ≡ c.steps
  pub units : (unit : ℕ) → steps_of unit r.list ≤ r.steps
  pub stamps : StampedFrom 1 r.list

-- some unit has made all the steps that it may
abbrev pub IsSpent : Run → Type 0
IsSpent r = (unit : ℕ) × (steps_of unit r.list ≡ r.steps)

-- the code is valid, and what this program is owed. Where the world has ended it agrees with the program's meaning; and
-- so does every list of steps of this code, whatever arguments it starts with, and goes on where it hasn't ended
pub record IsCodeOf (p : Program) (code : Code) (w : List Node) : Type 0 where
  pub valid : valid code ≡ true
  pub owes : Owes p code
  pub agrees : HasEnded w → Agrees w (meaning p)
  pub every_run_agrees : EveryRunAgrees p code
  pub every_run_goes_on : EveryRunGoesOn code

-- the run is of this code of the text's program, from the start that the words ask for to this last world, which has
-- ended or a unit's steps are spent
pub record RunsTo (c : RunWords) (text : List ℕ) (code : Code) (r : Run) (w : List Node) : Type 0 where
  pub program : Program
  pub accepts : Accepts text program
  pub code_of : IsCodeOf program code w
  pub within : IsWithin c r
  pub leads : run code (choices r.list) (start code c.nodes c.args) ≡ Some w
  pub spent : (HasEnded w → ⊥) → IsSpent r

-- how the run of a text may end
abbrev pub Runs : RunWords → List ℕ → Ending → Type 0
Runs c text e = (code : Code) × (r : Run) × (w : List Node) × RunsTo c text code r w × (e ≡ ran code r w)
