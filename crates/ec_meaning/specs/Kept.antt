-- What works within an activation answer, and what they leave as it is.
use Rattle.std.specs.Prelude.{◌≡◌, ℕ, ◌<◌, Bool, true, false, length, drop, Option, Some, None, Ok, Err, Result}
use Rattle.ec_base.specs.declared.fail.Fail.{Fail}
use Rattle.ec_base.specs.declared.fail.Fail.TheVariants.{Memory, Refused}
use Rattle.ec_base.specs.declared.trap.Trap.{Trap}
use Rattle.ec_types.specs.Meaning.State as state
use Rattle.ec_meaning.specs.declared.shared_state.Core.{Core}
use Rattle.ec_meaning.specs.declared.hand.Hand.{Hand}
use Rattle.ec_meaning.specs.declared.work.Work.{Work}
use Rattle.ec_meaning.specs.declared.work.Work.TheVariants as todo
use Rattle.ec_meaning.specs.Order.{InOrder}
use Rattle.ec_meaning.specs.Seen.{Untold, Tells, Performs, Does, core}

-- a call answers what the part does, whatever the paths are that are told of the blocks
abbrev pub Meets :
    {A B : Type 0} → (Untold → A → B) → (Untold → state.Does B) → Core → Core → Result A (Fail Trap) → Type 0
Meets f part old new result =
    (u : Untold) (r : ℕ) → Tells u new → Performs (f u) result (part u (core u old) r) (core u new) r

-- an answer without a value stands for itself
abbrev pub itself : Untold → Unit {0} → Unit {0}
itself u done = done

-- What is told of the blocks was so before, and they stay in order. As many activations are open, and those above the one
-- that runs have as many births.
pub record Keeps (old new : Core) : Type 0 where
  pub tells : (u : Untold) → Tells u new → Tells u old
  pub above : drop 1 new.births ≡ drop 1 old.births
  pub open_ones : 0 < length old.births → length new.births ≡ length old.births
  pub most : new.most ≡ old.most
  pub ordered : InOrder old → InOrder new

-- unless memory was wanted
abbrev pub Kept : {A : Type 0} → Result A (Fail Trap) → Core → Core → Type 0
Kept (Ok a) old new = Keeps old new
Kept (Err (Refused t)) old new = Keeps old new
Kept (Err Memory) old new = Unit {0}

-- no two blocks have the same path
abbrev pub Apart : Untold → Type 0
Apart u = (i j : ℕ) → u.paths i ≡ u.paths j → i ≡ j

-- ---- works that read or change memory, print, or may trap

abbrev pub is_performed : Work → Bool
is_performed (todo.Combine at op) = true
is_performed todo.LoadFrom = true
is_performed (todo.LoadShared at) = true
is_performed (todo.Allocate at pointers) = true
is_performed todo.Share = true
is_performed todo.SaveTo = true
is_performed todo.CopyTo = true
is_performed (todo.SendTo at) = true
is_performed (todo.AddUp at) = true
is_performed (todo.PrintOut string count) = true
is_performed work = false

-- a work of another kind is left as it is
pub record Passes (work : Work) (h : Hand) (c : Core) (h' : Hand) (c' : Core) : Type 0 where
  pub other : is_performed work ≡ false
  pub hand : h' ≡ h
  pub core : c' ≡ c

pub record Carries (work : Work) (h : Hand) (c : Core) (h' : Hand) (c' : Core) (result : Result (Unit {0}) (Fail Trap)) : Type 0 where
  pub does : Does work h c h' c' result
  pub kept : Kept result c c'

abbrev pub Performed : Work → Hand → Core → Hand → Core → Option (Result (Unit {0}) (Fail Trap)) → Type 0
Performed work h c h' c' None = Passes work h c h' c'
Performed work h c h' c' (Some result) = Carries work h c h' c' result
