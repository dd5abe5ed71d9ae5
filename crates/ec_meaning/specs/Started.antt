-- How the evaluator starts, and an answer without output.
use Rattle.std.specs.Prelude.{◌≡◌, ℕ, List, [], ◌∷◌, map, ℤ, pos}
use Rattle.ec_meaning.specs.declared.shared_state.Core.{Core}
use Rattle.ec_meaning.specs.declared.machine.Machine.{Machine}
use Rattle.ec_meaning.specs.declared.meant.Meant.{Meant}
use Rattle.ec_meaning.specs.declared.meant.MeantEnd.{MeantEnd}
use Rattle.ec_meaning.specs.Seen.{Untold, works, hand}
use Rattle.ec_meaning.specs.Acts.{entered}
use Rattle.ec_meaning.specs.Opened.{of_function}
use Rattle.ec_resolve.specs.declared.action.Function.{Function}
use Rattle.ec_resolve.specs.Erased as erased
use Rattle.ec_types.specs.Meaning.Values.{Num}

-- main's activation is open
pub record OfMain (c : Core) : Type 0 where
  pub births : c.births ≡ 0 ∷ []
  pub most : c.most ≡ 1
  pub output : c.output.items ≡ []
  pub blocks : c.blocks.items ≡ []

-- main's body runs with these arguments
pub record Starts (functions : List Function) (main : Function) (args : List ℤ) (ticks : ℕ) (x : Machine) : Type 0 where
  pub functions_are : x.functions.now ≡ functions
  pub works : (u : Untold) → works u x.running.works ≡ of_function (erased.function main)
  pub hand : (u : Untold) → hand u x.running.hand ≡ entered main.params (map Num args)
  pub waiting : x.waiting ≡ []
  pub core : OfMain x.core
  pub left : x.ticks ≡ ticks

abbrev pub without_output : MeantEnd → ℕ → Meant
without_output ending ticks = record { ending = ending; output = []; result = pos 0; store = record { blocks = [] }; ticks = ticks }
