-- What works do keeps the activation, and no fewer activations were open at once.
use Rattle.std.proofs.Common.{ℕ, ◌≤◌, le_trans, Bool, true, List, [], ◌∷◌}
use Rattle.ec_types.specs.Meaning.State.{Out, With, Returns, Traps, Going}
use Rattle.ec_types.specs.Meaning.Evaluation.{Caller, Program, calls}
use Rattle.ec_types.proofs.meaning.Relations.{Each, Loops}
use Rattle.ec_types.proofs.meaning.Keeps.{Keeps, kept_steps, kept_binds, kept_catches, kept_ticks, kept_enters, kept_forks, kept_turns, kept_calls}
use Rattle.ec_meaning.specs.Works.{Work, Hand}
use Rattle.ec_meaning.specs.Acts.{acts, act_all}
use Rattle.ec_meaning.specs.Machine.{Waiting, Machine, completed, answered, above, resumed, comes_to}
use Rattle.ec_meaning.proofs.Related.{acts_both, act_all_both}

module _ (p : Program) (n : ℕ) where
  abbrev called : Caller
  called = calls true true p n

  turns_keep : Loops Keeps true true called called true true n n
  turns_keep test test' body body' tests bodies = kept_turns true true called n test test' body body' tests bodies n

  pub acts-keeps : (w : Work) → Each Keeps Hand Hand (acts called n w) (acts called n w)
  acts-keeps =
      acts_both Keeps kept_steps kept_binds (kept_ticks true) called called (kept_calls true true p n) n n
      kept_catches (kept_enters true) (kept_forks true true called n) turns_keep

  act_all-keeps : (ws : List Work) → Each Keeps Hand Hand (act_all called n ws) (act_all called n ws)
  act_all-keeps =
      act_all_both Keeps kept_steps kept_binds (kept_ticks true) called called (kept_calls true true p n) n n
      kept_catches (kept_enters true) (kept_forks true true called n) turns_keep

  -- ---- whatever waits

  resumed_grows :
      (pointer : Bool) (us : List Waiting) (m : ℕ) (x : Out Hand) → m ≤ x.1.most →
      m ≤ (resumed p n pointer us x).1.most
  resumed_grows pointer [] m (With h, c, r) l = l
  resumed_grows pointer [] m (Returns v, c, r) l = l
  resumed_grows pointer [] m (Traps t, c, r) l = l
  resumed_grows pointer [] m (Going, c, r) l = l
  resumed_grows pointer (u ∷ us) m (With h, c, r) l =
      let k = completed u.awaits h u.hand in
      let x = act_all called n u.works k (above c) r in
      resumed_grows pointer us m x (le_trans l (act_all-keeps u.works k (above c) r).most)
  resumed_grows pointer (u ∷ us) m (Returns v, c, r) l =
      let k = answered u.awaits v u.hand in
      let x = act_all called n u.works k (above c) r in
      resumed_grows pointer us m x (le_trans l (act_all-keeps u.works k (above c) r).most)
  resumed_grows pointer (u ∷ us) m (Traps t, c, r) l = l
  resumed_grows pointer (u ∷ us) m (Going, c, r) l = l

-- no fewer activations are open at once in the end
pub most_grows :
    (p : Program) (n : ℕ) (pointer : Bool) (m : Machine) (r : ℕ) → m.core.most ≤ (comes_to p n pointer m r).1.most
most_grows p n pointer m r =
    resumed_grows p n pointer m.waiting m.core.most (act_all (calls true true p n) n m.works m.hand m.core r)
    (act_all-keeps p n m.works m.hand m.core r).most
