-- How a turn of a loop opens: room for turns doesn't matter within the ticks.
use Rattle.std.proofs.Common.{◌≡◌, refl, ap, ◌∙◌, ℕ, zero, suc, ◌≤◌, arith, true, pos}
use Rattle.ec_types.specs.Meaning.Values.{Val, Num}
use Rattle.ec_types.specs.Meaning.State.{Core, Does, and_then, pure, Vars}
use Rattle.ec_types.specs.Meaning.Evaluation.{Caller, Program, calls, turns}
use Rattle.ec_types.proofs.meaning.Relations.{turned, Each, Loops}
use Rattle.ec_types.proofs.meaning.Closed.{turned_both}
use Rattle.ec_types.proofs.meaning.Spent.{Spends, spent_steps, spent_binds, spent_catches, spent_ticks, spent_enters, spent_forks, spent_turns, spent_calls}
use Rattle.ec_types.proofs.meaning.Room.{Same, same_spent, same_below, same_steps, same_binds, same_turns}
use Rattle.ec_meaning.specs.Works.{Loop, WhileLoop, ForLoop, ForallLoop, Hand, Turn}
use Rattle.ec_meaning.specs.Acts.{acts, act_all, with_vars, keeping, giving, tests, repeats, loop}
use Rattle.ec_meaning.specs.Opened.{of_turn, test}
use Rattle.ec_meaning.proofs.Binds.{then_then, then_pure, if_then}
use Rattle.ec_meaning.proofs.Expressions.{part_acts}
use Rattle.ec_meaning.proofs.Related.{tests_both, repeats_both}

-- ---- what a loop tests and repeats makes no ticks

module _ (p : Program) (n : ℕ) where
  abbrev called : Caller
  called = calls true true p n

  turns_spent : Loops (Spends n) true true called called true true n n
  turns_spent test test' body body' tests bodies =
      spent_turns true called n test test' body body' tests bodies n (omega arith)

  tests_spent : (l : Loop) → Each (Spends n) Vars Val (tests called n l) (tests called n l)
  tests_spent =
      tests_both (Spends n) (spent_steps n) (spent_binds n) (spent_ticks n true) called called (spent_calls true p n)
      n n (spent_catches n) (spent_enters n) (spent_forks true called n) turns_spent

  repeats_spent : (l : Loop) → Each (Spends n) Vars Vars (repeats called n l) (repeats called n l)
  repeats_spent =
      repeats_both (Spends n) (spent_steps n) (spent_binds n) (spent_ticks n true) called called (spent_calls true p n)
      n n (spent_catches n) (spent_enters n) (spent_forks true called n) turns_spent

-- ---- a turn

module _ (call : Caller) (n : ℕ) where
  test_acts : (l : Loop) (h : Hand) → acts call n (test l) h ≡ giving call n 0 h (tests call n l h.vars)
  test_acts (WhileLoop e s) h = refl
  test_acts (ForLoop e a s) h = part_acts call n (Num (pos 1)) e h
  test_acts (ForallLoop e a s) h = refl

  turned_acts :
      (l : Loop) (h : Hand) →
      keeping call n h (turned (tests call n l) (repeats call n l) (loop call n l) h.vars)
      ≡ act_all call n (of_turn l) h
  turned_acts l h = simp (test_acts, then_then, if_then, then_pure)

-- with room for m + 1 a turn and the rest within room for m do the same as within all room
module _ (p : Program) (m : ℕ) (l : Loop) where
  abbrev test_of : Vars → Does Val
  test_of = tests (called p (suc m)) (suc m) l

  abbrev body_of : Vars → Does Vars
  body_of = repeats (called p (suc m)) (suc m) l

  abbrev rest : ℕ → Vars → Does Vars
  rest i = turns true (called p (suc m)) true (suc m) i test_of body_of

  tests_same : (k : ℕ) → k ≤ suc m → Each (Same k) Vars Val test_of test_of
  tests_same k h vs =
      let d = test_of vs in same_below (suc m) k Val d d h (same_spent (suc m) Val d (tests_spent p (suc m) l vs))

  bodies_same : (k : ℕ) → k ≤ suc m → Each (Same k) Vars Vars body_of body_of
  bodies_same k h vs =
      let d = body_of vs in same_below (suc m) k Vars d d h (same_spent (suc m) Vars d (repeats_spent p (suc m) l vs))

  turned_same : Each (Same m) Vars Vars (turned test_of body_of (rest m)) (turned test_of body_of (rest (suc m)))
  turned_same =
      let call = called p (suc m) in
      turned_both (Same m) (same_steps m) (same_binds m) test_of test_of body_of body_of (rest m) (rest (suc m))
      (tests_same m (omega arith)) (bodies_same m (omega arith))
      (same_turns call call (suc m) (suc m) m test_of test_of body_of body_of
      (tests_same m (omega arith)) (bodies_same m (omega arith)) m m (suc m) (omega arith) (omega arith) (omega arith))

pub turn_opens :
    (p : Program) (n : ℕ) (l : Loop) (h : Hand) (c : Core) (r : ℕ) → suc r ≤ n →
    acts (calls true true p n) n (Turn l) h c (suc r) ≡ act_all (calls true true p n) n (of_turn l) h c r
turn_opens p zero l h c r m = absurd (omega (arith, m))
turn_opens p (suc n) l h c r m =
    ap (λ x. and_then x (λ vs. pure (with_vars vs h))) ((turned_same p n l h.vars).same c r (omega (arith, m)))
    ∙ ap (λ (d : Does Hand). d c r) (turned_acts (called p (suc n)) (suc n) l h)
