-- The evaluator's state: the activation that runs, those that wait for it, and what it comes to.
use Rattle.std.specs.Prelude.{◌≡◌, ℕ, suc, ◌-◌, ◌<◌, Bool, true, false, if◌then◌else◌, List, [], ◌∷◌, length, take, get_or}
use Rattle.ec_types.specs.Meaning.Values.{Val, Null, zero_value}
use Rattle.ec_types.specs.Meaning.State.{Core, Out, With, Returns, Traps, Going}
use Rattle.ec_types.specs.Meaning.Evaluation.{Program, calls}
use Rattle.ec_meaning.specs.Works.{Work, Hand}
use Rattle.ec_meaning.specs.Acts.{push, with_vars, act_all}

-- what an activation that has ended gives the one that waits: a value, NULL or 0 where it is missing, or its variables
pub data Awaits : Type 0 where
  AwaitsValue : Bool → Awaits
  AwaitsVars : Awaits

-- an activation that waits for another one: for what, and what it has still to do
pub record Waiting : Type 0 where
  pub awaits : Awaits
  pub works : List Work
  pub hand : Hand

pub record Machine : Type 0 where
  pub works : List Work
  pub hand : Hand
  pub waiting : List Waiting
  pub core : Core

abbrev pub missing : Bool → Val
missing pointer = if pointer then Null else zero_value

-- at the end of its works
abbrev pub completed : Awaits → Hand → Hand → Hand
completed (AwaitsValue pointer) child h = push (missing pointer) h
completed AwaitsVars child h = with_vars child.vars h

-- at a `return`
abbrev pub answered : Awaits → Val → Hand → Hand
answered (AwaitsValue pointer) v h = push v h
answered AwaitsVars v h = h

-- back in the activation above
abbrev pub above : Core → Core
above c = record c { path = take (length c.path - 1) c.path; births = get_or c.path (length c.path - 1) 0 }

module _ (p : Program) (n : ℕ) where
  -- what the activations that wait do once the one that runs has come to this
  abbrev pub resumed : Bool → List Waiting → Out Hand → Out Val
  resumed pointer [] (With h, c, r) = (With (missing pointer), c, r)
  resumed pointer [] (Returns v, c, r) = (With v, c, r)
  resumed pointer (w ∷ ws) (With h, c, r) =
      resumed pointer ws (act_all (calls true true p n) n w.works (completed w.awaits h w.hand) (above c) r)
  resumed pointer (w ∷ ws) (Returns v, c, r) =
      resumed pointer ws (act_all (calls true true p n) n w.works (answered w.awaits v w.hand) (above c) r)
  resumed pointer ws (Traps t, c, r) = (Traps t, c, r)
  resumed pointer ws (Going, c, r) = (Going, c, r)

  -- what all comes to, with r ticks
  abbrev pub comes_to : Bool → Machine → ℕ → Out Val
  comes_to pointer m r = resumed pointer m.waiting (act_all (calls true true p n) n m.works m.hand m.core r)

-- ---- what a step of the evaluator keeps

-- without the path and births of the activation in which it ended
abbrev pub shown : Out Val → Out Val
shown (e, c, r) = (e, record c { path = []; births = 0 }, r)

abbrev pub ticked : Bool → ℕ → ℕ
ticked true r = suc r
ticked false r = r

-- with every number of ticks, and room for more than these, both come to the same, where the first one has a tick more if
-- one is spent
abbrev pub Turns : Program → Bool → Bool → Machine → Machine → Type 0
Turns p pointer spends old new =
    (n r : ℕ) → ticked spends r < n → shown (comes_to p n pointer old (ticked spends r)) ≡ shown (comes_to p n pointer new r)
