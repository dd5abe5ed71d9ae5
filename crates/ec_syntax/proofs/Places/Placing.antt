-- A value with its place: what was read of it stands within a part at that place.
use Rattle.std.proofs.Common.{◌≡◌, refl, sym, ◌∙◌, ap, ap₂, subst, inl, inr, ◌≤◌, ℕ, suc, Bool, true, true≢false, List, Option, Some, None, arith}
use Rattle.ec_base.specs.Lexical.{Rises}
use Rattle.ec_base.specs.declared.token.Span.{Span}
use Rattle.ec_base.specs.declared.token.Token.{Token}
use Rattle.ec_syntax.specs.Grammar.Language as L
use Rattle.ec_syntax.specs.Grammar.Language.{Language, begin, span}
use Rattle.ec_syntax.specs.Grammar.State.{State, Counts, limits}
use Rattle.ec_syntax.specs.Parts.{Role, Parts, one, ◌ahead_of◌}
use Rattle.ec_syntax.specs.Parts.Role.{Plain}
use Rattle.ec_syntax.specs.Places.{first, Stands}
use Rattle.ec_syntax.proofs.EndOfText.Inside.{Inside}
use Rattle.ec_syntax.proofs.Places.Standing.{stands_ahead_of, stands_earlier, parted, wrapped, Gives, gives_self, first_below}
use Rattle.ec_syntax.proofs.Places.Rules.{Took, Reached, Laid, Lays, laid_from, both_laid, given, token_lays}

-- ---- from the beginning of a part on

-- where a token was read
pub taken_on : {start low : ℕ} {s m : State} {us : Parts} (x : Laid true start low s m us) →
    Took low x.high s m
taken_on {start} {low} {s} {m} x = by x.high x.reached
  where
    by : (high : ℕ) → Reached true low high s m → Took low high s m
    by high (inl h) = h
    by high (inr h) = absurd (true≢false h.0)

-- what is read within a part, from the beginning of the part on, or from behind its first byte where it isn't plain
pub record Opens {A : Type 0} (role : A → Role) (l : Language A) (parts : A → Parts) : Type 0 where
  pub each : (low : ℕ) (s : State) (a : A) (m : State) → l limits s a m → Rises low s.left →
      Laid true (first (role a) (begin s)) low s m (parts a)

-- what is read within a part, from behind its first byte on
pub record Enters {A : Type 0} (l : Language A) (parts : A → Parts) : Type 0 where
  pub each : (low : ℕ) (s : State) (a : A) (m : State) → l limits s a m → Rises low s.left →
      Laid true (suc (begin s)) low s m (parts a)

pub strictly : {A : Type 0} {l : Language A} {f : A → Parts} (role : A → Role) → Enters l f → Opens role l f
strictly {f = f} role h = record {
  each = λ low s a m r rising.
      let x = h.each low s a m r rising in
      record { high = x.high; grows = x.grows; rising = x.rising; stands = stands_earlier (f a) (first (role a) (begin s)) (suc (begin s)) x.high (first_below (role a) (begin s)) x.stands; reached = x.reached };
}

pub rises_begin : (low : ℕ) (s : State) → Rises low s.left → (low ≤ begin s) × Rises (begin s) s.left
rises_begin low s rising = by s.left refl rising
  where
    by : (ts : List Token) → s.left ≡ ts → Rises low ts → (low ≤ begin s) × Rises (begin s) s.left
    by ts is (Rises.last {x = x} e small at) =
        let same : begin s ≡ x.at.from = ap (λ zs. begin (record s { left = zs })) is in
        (omega (arith, small, same), subst (λ zs. Rises (begin s) zs) (sym is) (Rises.last e (omega (arith, same)) at))
    by ts is (Rises.next {x = x} e small at r) =
        let same : begin s ≡ x.at.from = ap (λ zs. begin (record s { left = zs })) is in
        (omega (arith, small, same), subst (λ zs. Rises (begin s) zs) (sym is) (Rises.next e (omega (arith, same)) at r))

pub plainly : {A : Type 0} {l : Language A} {f : A → Parts} → Lays true Parts.nothing l f → Opens (λ _. Plain) l f
plainly h = record {
  each = λ low s a m r rising.
      let b = rises_begin low s rising in
      let x = h.each (begin s) (begin s) s a m r b.1 (omega arith) in
      record { high = x.high; grows = omega (arith, x.grows, b.0); rising = x.rising; stands = x.stands; reached = by s m low x.high b.0 x.reached };
}
  where
    by : (s m : State) (low high : ℕ) → low ≤ begin s →
        Reached true (begin s) high s m → Reached true low high s m
    by s m low high e (inl x) = inl (record { begins = e; goes = x.goes; ends = x.ends })
    by s m low high e (inr x) = absurd (true≢false x.0)

module _ {A B : Type 0} {q : A → Language B} {g : B → Parts} {c : Bool} where
  -- behind a first token
  pub entered : {d : ℕ} {pick : Token → Option A} {counts : State → A → Counts} {counted : State → State} →
      Inside pick →
      ((a : A) → Lays c Parts.nothing (q a) g) → Enters (L.◌>>=◌ (L.one d pick counts counted) q) g
  entered {d} {pick} {counts} {counted} inside h = record {
    each = λ low s v n r rising.
        let (a, m, x, y) = r in
        let one = (token_lays {d = d} {pick = pick} {counts = counts} {counted = counted} {before = Parts.nothing} inside).each low low s a m x rising (omega arith) in
        both_laid true c low (suc (begin s)) low s m n Parts.nothing (g v) one ((h a).each (suc (begin s)) one.high m v n y one.rising (taken_on one).goes);
  }

  pub enters_behind : {p : Language A} {f : A → Parts} → Enters p f → ((a : A) → Lays c (f a) (q a) g) →
      Enters (L.◌>>=◌ p q) g
  enters_behind {p} {f} h k = record {
    each = λ low s v n r rising.
        let (a, m, x, y) = r in
        let one = h.each low s a m x rising in
        let start = suc (begin s) in
        both_laid true c start start low s m n (f a) (g v) one ((k a).each start one.high m v n y one.rising one.stands);
  }

-- in a language that reads what another one does
pub enters_as : {A : Type 0} (l' : Language A) {l : Language A} {f : A → Parts} →
    ((s : State) (a : A) (m : State) → l limits s a m → l' limits s a m) → Enters l' f → Enters l f
enters_as l' k h = record { each = λ low s a m r rising. h.each low s a m (k s a m r) rising }

-- behind what takes no token
pub enters_given : {A B : Type 0} (a : A) {q : A → Language B} {g : B → Parts} → Enters (q a) g →
    Enters (L.◌>>=◌ (L.give a) q) g
enters_given a {q} {g} h = record {
  each = λ low s v n r rising.
      let (x, m, (e, i), y) = r in
      h.each low s v n (subst (λ z. q a limits z v n) i (subst (λ z. q z limits m v n) e y)) rising;
}

pub enters_part : {A : Type 0} {p : Language A} {f : A → Parts} → Enters p f → Enters (L.part p) f
enters_part h = record {
  each = λ low s a m r rising. laid_from refl refl (h.each low (record s { marks = 0 }) a m r rising);
}

-- behind what may be missing
pub enters_maybe : {A B : Type 0} {p : Language A} {q : Option A → Language B} {g : B → Parts} {c : Bool} →
    Enters p (λ _. Parts.nothing) → ((t : Option A) → Lays c Parts.nothing (q t) g) → Enters (q None) g → Enters (L.◌>>=◌ (L.maybe p) q) g
enters_maybe {A} {B} {p} {q} {g} h k none = record { each = λ low s v n r rising. by low s v n r.0 r.1 r.2 r.3 rising }
  where
    some : Enters (L.◌>>=◌ p (λ a. L.give (Some a))) (λ _. Parts.nothing)
    some = enters_behind h (λ a. given gives_self)

    by : (low : ℕ) (s : State) (v : B) (n : State) (t : Option A) (m : State) → L.maybe p limits s t m →
        q t limits m v n → Rises low s.left → Laid true (suc (begin s)) low s n (g v)
    by low s v n t m (inl x) y rising = (enters_behind some k).each low s v n (t, m, x, y) rising
    by low s v n t m (inr (e, i)) y rising = none.each low s v n (subst (λ z. q z limits s v n) e (subst (λ z. q t limits z v n) i y)) rising

-- ---- a part at its place

module _ {A B : Type 0} {p : Language A} (role : A → Role) {before : Parts} {f : A → Parts} {g : B → Parts}
    (make : A → Span → B) where
  pub placed_lays : ((a : A) (at : Span) → Gives (before ahead_of one (role a) at (f a)) (g (make a at))) →
      Opens role p f → Lays true before (L.placed make p) g
  placed_lays k h = record { each = by }
    where
      by : (start low : ℕ) (s : State) (v : B) (n : State) → L.placed make p limits s v n → Rises low s.left →
          Stands start low before → Laid true start low s n (g v)
      by start low s v n (from, s₁, (e₁, e₂), (a, m, r, (to, m₁, (e₃, e₄), (e₅, e₆)))) rising stands =
          let x = h.each low s a m (subst (λ z. p limits z a m) e₂ r) rising in
          let t = taken_on x in
          let at = span (begin s) x.high in
          let is : v ≡ make a at = e₅ ∙ ap₂ (λ i j. make a (span i j)) e₁ (e₃ ∙ sym t.ends) in
          let ends : m ≡ n = sym (e₆ ∙ e₄) in
          let all = stands_ahead_of before (one (role a) at (f a)) start low x.high stands (t.begins, t.goes, x.stands, omega arith) in
          record {
            high = x.high;
            grows = x.grows;
            rising = subst (λ z. Rises x.high z.left) ends x.rising;
            stands = subst (λ z. Stands start x.high (g z)) (sym is) ((k a at).on start x.high all);
            reached = inl (record { begins = t.begins; goes = t.goes; ends = t.ends ∙ ap (λ z. z.end) ends });
          }

-- ---- a part from the beginning of one before on

module _ {A B : Type 0} {p : Language A} (before : Parts) (role : Role) (at : Span) (within : Parts)
    (behind : A → Parts) {g : B → Parts} (make : A → Span → B) where
  pub closed_lays : ((a : A) (to : ℕ) →
      Gives (before ahead_of one Plain (span at.from to) (Parts.part role at within (behind a)))
      (g (make a (span at.from to)))) →
      Lays true (before ahead_of one role at within) p (λ a. before ahead_of Parts.part role at within (behind a)) →
      Lays true (before ahead_of one role at within) (L.◌>>=◌ p (λ a. L.◌>>=◌ (L.look (λ s. s.end)) (λ to. L.give (make a (span at.from to))))) g
  closed_lays k h = record { each = by }
    where
      by : (start low : ℕ) (s : State) (v : B) (n : State) →
          L.◌>>=◌ p (λ a. L.◌>>=◌ (L.look (λ s. s.end)) (λ to. L.give (make a (span at.from to)))) limits s v n →
          Rises low s.left → Stands start low (before ahead_of one role at within) → Laid true start low s n (g v)
      by start low s v n (a, m, r, (to, m₁, (e₃, e₄), (e₅, e₆))) rising stands =
          let x = h.each start low s a m r rising stands in
          let t = taken_on x in
          let is : v ≡ make a (span at.from x.high) = e₅ ∙ ap (λ j. make a (span at.from j)) (e₃ ∙ sym t.ends) in
          let ends : m ≡ n = sym (e₆ ∙ e₄) in
          let all = parted before (Parts.part role at within (behind a)) start x.high x.stands in
          let whole = stands_ahead_of before (one Plain (span at.from x.high) (Parts.part role at within (behind a))) start all.mid x.high all.before (wrapped role at within (behind a) all.mid x.high all.after) in
          record {
            high = x.high;
            grows = x.grows;
            rising = subst (λ z. Rises x.high z.left) ends x.rising;
            stands = subst (λ z. Stands start x.high (g z)) (sym is) ((k a x.high).on start x.high whole);
            reached = inl (record { begins = t.begins; goes = t.goes; ends = t.ends ∙ ap (λ z. z.end) ends });
          }
