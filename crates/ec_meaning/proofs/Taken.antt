-- When a work has been opened.
use Rattle.std.proofs.Common.{◌≡◌, ℕ, List, ◌++◌, Option, Some, None, is_some, T, Result, Ok, Err, IsOk, IfOk, OnOk, refl, sym, ap, subst}
use Rattle.ec_meaning.specs.Works as w
use Rattle.ec_meaning.specs.Opened.{Opened, opened}
use Rattle.ec_meaning.specs.Seen.{Untold, work, works, hand, Opens, Takes}
use Rattle.ec_meaning.specs.declared.hand.Frame.{Frame}
use Rattle.ec_meaning.specs.declared.hand.Hand.{Hand}
use Rattle.ec_meaning.specs.declared.work.Work.{Work}

abbrev pub works_of : Option Opened → List w.Work → List w.Work
works_of None ws = ws
works_of (Some o) ws = o.works ++ ws

abbrev pub hand_of : Option Opened → w.Hand → w.Hand
hand_of None h = h
hand_of (Some o) h = o.hand

-- what opening a work gives
abbrev pub opening : Untold → Work → Frame → ℕ → Option Opened
opening u taken old births = opened (work u taken) (hand u old.hand) births

module _ (births : ℕ) (old new : Frame) where
  abbrev pub Opening : Work → Type 0
  Opening taken = (u : Untold) → T (is_some (opening u taken old births))

  abbrev pub Works : Work → Type 0
  Works taken = (u : Untold) → works u new.works ≡ works_of (opening u taken old births) (works u old.works)

  abbrev pub Hands : Work → Type 0
  Hands taken = (u : Untold) → hand u new.hand ≡ hand_of (opening u taken old births) (hand u old.hand)

  opens_by :
      (taken : Work) (u : Untold) (o : Option Opened) → opening u taken old births ≡ o → T (is_some o) →
      works u new.works ≡ works_of o (works u old.works) → hand u new.hand ≡ hand_of o (hand u old.hand) →
      Opens u taken births old new
  opens_by taken u None is some ws h = absurd some
  opens_by taken u (Some o) is some ws h = record { result = o; is = is; works = ws; hand = h }

  pub opens : (taken : Work) → Opening taken → Works taken → Hands taken → (u : Untold) → Opens u taken births old new
  opens taken some ws h u = opens_by taken u (opening u taken old births) refl (some u) (ws u) (h u)

  -- a handler of the work v, and then nothing is handed back
  pub taken_by :
      {E : Type 0} (taken v : Work) (handled : Result (Unit {0}) E) (answer : Result (Option Work) E) → taken ≡ v →
      IfOk answer (λ back. (back ≡ None) × IsOk handled) → Opening v → OnOk handled (Works v) → OnOk handled (Hands v) →
      IfOk answer (λ back. Takes taken births old new back)
  taken_by taken v handled (Err e) is done some ws h = tt
  taken_by taken v (Err e) (Ok back) is done some ws h = absurd (subst T (sym done.1) tt)
  taken_by taken v (Ok t) (Ok back) is done some ws h =
      subst (λ x. Takes x births old new back) (sym is)
      (subst (λ x. Takes v births old new x) (sym done.0) (opens v some ws h))

-- ---- handlers that leave a part as it is

pub always : {A E : Type 0} {P : Type 0} (r : Result A E) → P → OnOk r P
always (Ok a) p = p
always (Err e) p = tt

pub kept :
    {E : Type 0} (old new : Hand) (r : Result (Unit {0}) E) →
    OnOk r (new ≡ old) → OnOk r ((u : Untold) → hand u new ≡ hand u old)
kept old new (Ok t) same = λ u. ap (hand u) same
kept old new (Err e) same = tt
