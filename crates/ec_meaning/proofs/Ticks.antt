-- Where a tick is due and none is left, the whole goes on past its ticks.
use Rattle.std.proofs.Common.{◌≡◌, refl, sym, ap, ◌∙◌, ℕ, zero, suc, Bool, true, false, List, ◌∷◌, slice_get, Option, Some, None}
use Rattle.ec_types.specs.Meaning.Values.{Val}
use Rattle.ec_types.specs.Meaning.State.{Core, Out, Does, Going, and_then, pure, tick, inner, back_in}
use Rattle.ec_types.specs.Meaning.Tree.{Stmt, Function}
use Rattle.ec_types.specs.Meaning.Evaluation.{Caller, Program, run_function, calls}
use Rattle.ec_meaning.specs.Works.{Placement, Loop, Work, Value, Reach, Statement, Turn, Enter, Branch, Hand}
use Rattle.ec_meaning.specs.Acts.{top, without, replaced, last_values, operands, site, acts, act_all}
use Rattle.ec_meaning.specs.Opened.{Opened, opened, spends, value_ticks}
use Rattle.ec_meaning.specs.Machine.{Waiting, resumed, comes_to, shown}
use Rattle.ec_meaning.proofs.Expressions.{value_opens, place_opens}
use Rattle.ec_meaning.proofs.OpenedStatements.{statement_opens}
use Rattle.ec_meaning.proofs.Steps.{resumed-going}

false_not_true : false ≡ true → ⊥
false_not_true h = cc

-- ---- which works spend a tick

abbrev ticks_or : Bool → Option Opened → Bool
ticks_or b None = b
ticks_or b (Some o) = o.ticks

ticks_opened : (w : Work) (h : Hand) (births : ℕ) → ticks_or false (opened w h births) ≡ spends w
ticks_opened (Value e) h births = refl
ticks_opened (Reach q) h births = refl
ticks_opened (Statement s) h births = refl
ticks_opened (Turn l) h births = refl
ticks_opened w h births = refl

pub spends-opened : (w : Work) (h : Hand) (births : ℕ) (o : Opened) → opened w h births ≡ Some o → spends w ≡ o.ticks
spends-opened w h births o e = sym (ticks_opened w h births) ∙ ap (ticks_or false) e

pub spends-kept : (w : Work) (h : Hand) (births : ℕ) → opened w h births ≡ None → spends w ≡ false
spends-kept w h births e = sym (ticks_opened w h births) ∙ ap (ticks_or false) e

-- ---- works without ticks

idle_at : (b : Bool) (d e : Does Hand) → d ≡ tick b e → b ≡ true → (c : Core) → d c zero ≡ (Going, c, zero)
idle_at true d e h i c = ap (λ f. f c zero) h
idle_at false d e h i c = absurd (false_not_true i)

idle_turn :
    (call : Caller) (n : ℕ) (l : Loop) (h : Hand) (c : Core) → acts call n (Turn l) h c zero ≡ (Going, c, zero)
idle_turn call zero l h c = refl
idle_turn call (suc n) l h c = refl

idle_acts :
    (call : Caller) (n : ℕ) (w : Work) (h : Hand) (c : Core) → spends w ≡ true →
    acts call n w h c zero ≡ (Going, c, zero)
idle_acts call n (Value e) h c s = idle_at (value_ticks e) _ _ (value_opens call n e h) s c
idle_acts call n (Reach q) h c s = idle_at true _ _ (place_opens call n q h) s c
idle_acts call n (Statement t) h c s = statement_opens call n t h c zero
idle_acts call n (Turn l) h c s = idle_turn call n l h c
idle_acts call n w h c s = absurd (false_not_true s)

-- where it goes on, all that wait go on
idle_all :
    (p : Program) (n : ℕ) (pointer : Bool) (w : Work) (h : Hand) (ws : List Work) (us : List Waiting) (c d : Core) →
    acts (calls true true p n) n w h c zero ≡ (Going, d, zero) →
    shown (comes_to p n pointer (record { works = w ∷ ws; hand = h; waiting = us; core = c }) zero)
    ≡ shown (Going, d, zero)
idle_all p n pointer w h ws us c d e =
    ap (λ x. shown (resumed p n pointer us (and_then x (act_all (calls true true p n) n ws)))) e
    ∙ ap shown (resumed-going p n pointer us d zero)

-- ---- works at which a tick is due

module _ (p : Program) (n : ℕ) (pointer : Bool) (h : Hand) (ws : List Work) (us : List Waiting) (c : Core) where
  abbrev pub GoesOn : Work → Type 0
  GoesOn w =
      shown (comes_to p n pointer (record { works = w ∷ ws; hand = h; waiting = us; core = c }) zero)
      ≡ shown (Going, c, zero)

  pub goes_on : (w : Work) → spends w ≡ true → GoesOn w
  goes_on w s = idle_all p n pointer w h ws us c c (idle_acts (calls true true p n) n w h c s)

  pub goes_on-opened : (w : Work) (o : Opened) → opened w h c.births ≡ Some o → o.ticks ≡ true → GoesOn w
  goes_on-opened w o e t = goes_on w (spends-opened w h c.births o e ∙ t)

  pub goes_on-branch : (s : Stmt) → GoesOn (Branch s)
  goes_on-branch s = idle_all p n pointer (Branch s) h ws us c (back_in c (inner c)) refl

pub goes_on-enter :
    (p : Program) (n : ℕ) (pointer : Bool) (h : Hand) (ws : List Work) (us : List Waiting) (c : Core) (kind : Placement)
    (f k : ℕ) (g : Function) → slice_get p f ≡ Some g → GoesOn p n pointer h ws us c (Enter kind f k)
goes_on-enter p zero pointer h ws us c kind f k g e = idle_all p zero pointer (Enter kind f k) h ws us c c refl
goes_on-enter p (suc n) pointer h ws us c kind f k g e =
    idle_all p (suc n) pointer (Enter kind f k) h ws us c (back_in c (inner c)) entered
  where
    entered : acts (calls true true p (suc n)) (suc n) (Enter kind f k) h c zero ≡ (Going, back_in c (inner c), zero)
    entered =
        let args = without (operands kind) h in
        let called : Option Function → Out Val =
        λ o. run_function true true (calls true true p n) n o (last_values k args) (site kind (top h)) c zero in
        ap (λ o. and_then (called o) (λ v. pure (replaced k v args))) e
