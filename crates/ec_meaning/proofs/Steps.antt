-- What steps of the evaluator keep: works that others stand for, works that are performed, and activations that end.
use Rattle.std.proofs.Common.{◌≡◌, refl, sym, ap, ◌∙◌, ℕ, ◌<◌, Bool, true, false, List, [], ◌∷◌, ◌++◌}
use Rattle.ec_base.specs.declared.trap.Trap.{Trap}
use Rattle.ec_types.specs.Meaning.State.{Core, Out, With, Traps, Going, and_then}
use Rattle.ec_types.specs.Meaning.Evaluation.{Caller, Program, calls}
use Rattle.ec_meaning.specs.Works.{Work, Hand, GiveBack}
use Rattle.ec_meaning.specs.Acts.{acts, act_all, top}
use Rattle.ec_meaning.specs.Machine.{Waiting, missing, completed, answered, above, resumed, comes_to, shown, ticked, Turns}
use Rattle.ec_meaning.proofs.Binds.{act_all-append}

-- ---- works in the place of one

module _ (call : Caller) (n : ℕ) where
  in_place :
      (ws us : List Work) (k : Hand) (c : Core) (r : ℕ) (x : Out Hand) → x ≡ act_all call n ws k c r →
      and_then x (act_all call n us) ≡ act_all call n (ws ++ us) k c r
  in_place ws us k c r x e =
      ap (λ y. and_then y (act_all call n us)) e ∙ sym (ap (λ d. d c r) (act_all-append call n ws us k))

-- what a work does the new ones do
pub turns_to :
    (p : Program) (pointer ticks : Bool) (w : Work) (h k : Hand) (new ws : List Work) (us : List Waiting) (c d : Core) →
    ((n r : ℕ) → ticked ticks r < n →
    acts (calls true true p n) n w h c (ticked ticks r) ≡ act_all (calls true true p n) n new k d r) →
    Turns p pointer ticks (record { works = w ∷ ws; hand = h; waiting = us; core = c })
    (record { works = new ++ ws; hand = k; waiting = us; core = d })
turns_to p pointer ticks w h k new ws us c d does n r l =
    let call = calls true true p n in
    let x = acts call n w h c (ticked ticks r) in
    ap (λ y. shown (resumed p n pointer us y)) (in_place call n new ws k d r x (does n r l))

-- ---- works that are performed

pub performs :
    (p : Program) (pointer : Bool) (w : Work) (h k : Hand) (ws : List Work) (us : List Waiting) (c d : Core) →
    ((call : Caller) (n r : ℕ) → acts call n w h c r ≡ (With k, d, r)) →
    Turns p pointer false (record { works = w ∷ ws; hand = h; waiting = us; core = c })
    (record { works = ws; hand = k; waiting = us; core = d })
performs p pointer w h k ws us c d does =
    turns_to p pointer false w h k [] ws us c d (λ n r l. does (calls true true p n) n r)

-- what doesn't come to its end ends all that wait
pub resumed-traps :
    (p : Program) (n : ℕ) (pointer : Bool) (us : List Waiting) (t : Trap) (c : Core) (r : ℕ) →
    resumed p n pointer us (Traps t, c, r) ≡ (Traps t, c, r)
resumed-traps p n pointer [] t c r = refl
resumed-traps p n pointer (u ∷ us) t c r = refl

pub resumed-going :
    (p : Program) (n : ℕ) (pointer : Bool) (us : List Waiting) (c : Core) (r : ℕ) →
    resumed p n pointer us (Going, c, r) ≡ (Going, c, r)
resumed-going p n pointer [] c r = refl
resumed-going p n pointer (u ∷ us) c r = refl

pub performs_trap :
    (p : Program) (pointer : Bool) (w : Work) (h : Hand) (ws : List Work) (us : List Waiting) (c d : Core) (t : Trap) →
    ((call : Caller) (n r : ℕ) → acts call n w h c r ≡ (Traps t, d, r)) → (n r : ℕ) →
    shown (comes_to p n pointer (record { works = w ∷ ws; hand = h; waiting = us; core = c }) r) ≡ shown (Traps t, d, r)
performs_trap p pointer w h ws us c d t does n r =
    let call = calls true true p n in
    ap (λ x. shown (resumed p n pointer us (and_then x (act_all call n ws)))) (does call n r)
    ∙ ap shown (resumed-traps p n pointer us t d r)

-- ---- activations that end

module _ (p : Program) (pointer : Bool) (h : Hand) (c : Core) where
  pub completes :
      (u : Waiting) (us : List Waiting) →
      Turns p pointer false (record { works = []; hand = h; waiting = u ∷ us; core = c })
      (record { works = u.works; hand = completed u.awaits h u.hand; waiting = us; core = above c })
  completes u us n r l = refl

  pub answers :
      (ws : List Work) (u : Waiting) (us : List Waiting) →
      Turns p pointer false (record { works = GiveBack ∷ ws; hand = h; waiting = u ∷ us; core = c })
      (record { works = u.works; hand = answered u.awaits (top h) u.hand; waiting = us; core = above c })
  answers ws u us n r l = refl

  pub completes_all :
      (n r : ℕ) →
      comes_to p n pointer (record { works = []; hand = h; waiting = []; core = c }) r ≡ (With (missing pointer), c, r)
  completes_all n r = refl

  pub answers_all :
      (ws : List Work) (n r : ℕ) →
      comes_to p n pointer (record { works = GiveBack ∷ ws; hand = h; waiting = []; core = c }) r ≡ (With (top h), c, r)
  answers_all ws n r = refl
