-- What the loop keeps from turn to turn.
use Rattle.std.specs.Prelude.{◌≡◌, ◌⊎◌, ℕ, ◌+◌, ◌≤◌, ◌<◌, true, false, if◌then◌else◌, not, count_by, List, [], ◌∷◌, ◌++◌, length, Option, Some, None}
use Rattle.ec_base.specs.declared.limits.TheConstants.{MAX_STEPS}
use Rattle.ec_core.specs.declared.choice.Act.{Act}
use Rattle.ec_core.specs.declared.choice.Choice.{Choice}
use Rattle.ec_core.specs.declared.choice.Stamped.{Stamped}
use Rattle.ec_core.specs.declared.choice.Run.{Run}
use Rattle.ec_core.specs.declared.code.Code.{Code}
use Rattle.ec_core.specs.declared.node.Node.{Node}
use Rattle.ec_core.specs.Step.{enabled}
use Rattle.ec_core.specs.Run.{run, start, HasEnded}
use Rattle.ec_small.specs.declared.tree.Program.{Program}
use Rattle.ec_small.specs.Sound.{Sound}
use Rattle.ec_split.specs.Cut.{code_of}
use Rattle.ec_agree.specs.Agree.{own}
use Rattle.ec_driver.specs.declared.command.RunWords.{RunWords}
use Rattle.ec_driver.specs.declared.drive.Progress.{Progress}
use Rattle.ec_driver.specs.Ending.{Ending, ran}
use Rattle.ec_driver.specs.Kept.{is_eu, choices, StampedFrom}

-- the code is that of some program
abbrev pub IsMade : Code → Type 0
IsMade code = (p : Program) × (Sound p) × (code ≡ code_of p)

-- how many choices of a list are of the execution unit's kind, and of the other
abbrev pub eu_steps : List Stamped → ℕ
eu_steps list = count_by (λ x. is_eu x.choice.act) list

abbrev pub su_steps : List Stamped → ℕ
su_steps list = count_by (λ x. not (is_eu x.choice.act)) list

-- all choices are node 0's
abbrev pub AreOwn : List Stamped → Type 0
AreOwn [] = Unit {0}
AreOwn (x ∷ xs) = (x.choice.node ≡ 0) × AreOwn xs

-- the choices so far lead from the start to the world, and the counts are theirs
pub record IsProgress (code : Code) (x : Progress) : Type 0 where
  pub sound : x.world.failed ≡ false
  pub run : run code (choices x.list) (start code 1 []) ≡ Some x.world.nodes
  pub stamps : StampedFrom 1 x.list
  pub size : length x.list ≡ x.eu + x.su
  pub own : AreOwn x.list
  pub eu : eu_steps x.list ≡ x.eu
  pub su : su_steps x.list ≡ x.su
  pub eu_fits : x.eu ≤ MAX_STEPS
  pub su_fits : x.su ≤ MAX_STEPS

-- the world has ended, or a unit has made all its steps
abbrev pub IsStopped : Progress → Type 0
IsStopped x = HasEnded x.world.nodes ⊎ ((MAX_STEPS ≤ x.eu) ⊎ (MAX_STEPS ≤ x.su))

-- the world hasn't ended, and each unit has steps left
pub record IsGoing (x : Progress) : Type 0 where
  pub unended : HasEnded x.world.nodes → ⊥
  pub eu : x.eu < MAX_STEPS
  pub su : x.su < MAX_STEPS

-- an act of node 0 that is enabled, or there is none
abbrev pub Chosen : List Node → Option Act → Type 0
Chosen w (Some act) = enabled (own act) w ≡ true
Chosen w None = (act : Act) → enabled (own act) w ≡ false

-- a choice more, with its place as its stamp
abbrev pub kept : Choice → Progress → Progress
kept c x = record {
  world = x.world;
  list = x.list ++ record { stamp = x.eu + x.su + 1; choice = c } ∷ [];
  eu = if is_eu c.act then x.eu + 1 else x.eu;
  su = if is_eu c.act then x.su else x.su + 1;
}

-- the run that is kept of these choices
abbrev pub kept_run : RunWords → List Stamped → Run
kept_run c list = record { nodes = c.nodes; steps = c.steps; list = list }

-- how the run of these choices ends
abbrev pub ran_to : RunWords → Code → Progress → Ending
ran_to c code x = ran code (kept_run c x.list) x.world.nodes
