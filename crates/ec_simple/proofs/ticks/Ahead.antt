-- One meaning is ahead of another: with ticks enough it ends as the other does, or goes on from where that one goes on.
use Rattle.std.proofs.Common.{◌≡◌, refl, sym, ap, ◌∙◌, subst, ℕ, zero, suc, ◌+◌, ◌-◌, ◌≤◌, le_trans, arith, Bool, true, false}
use Rattle.ec_types.specs.Meaning.Values.{Val}
use Rattle.ec_types.specs.Meaning.State.{Site, Core, Ends, Out, Does, With, Returns, Traps, Going, and_then, going, spend, inner, outer, opened, activate, Vars}
use Rattle.ec_types.specs.Meaning.Evaluation.{Caller, forked}
use Rattle.ec_types.proofs.meaning.Growth.{Grows, grows_refl, grows_trans, grows_opened}
use Rattle.ec_types.proofs.meaning.Steps.{IsOver}
use Rattle.ec_types.proofs.meaning.Relations.{caught, Relation, Each, Steps, Binds, Catches, Ticks, Enters, Forks}

-- y comes to this end with n ticks left or more
pub record Reached {A : Type 0} (e : Ends A) (c : Core) (n : ℕ) (y : Out A) : Type 0 where
  pub left : ℕ
  pub is : y ≡ (e, c, left)
  pub enough : n ≤ left

-- y ends as x does with j ticks more or yet more, or goes on from x
abbrev pub Reaches : {A : Type 0} → ℕ → Out A → Out A → Type 0
Reaches j (With a, c, q) y = Reached (With a) c (q + j) y
Reaches j (Returns v, c, q) y = Reached (Returns v) c (q + j) y
Reaches j (Traps t, c, q) y = Reached (Traps t) c (q + j) y
Reaches j (Going, c, q) y = Grows c y.1

-- how many ticks more can be needed: any number, or none
abbrev pub Allowed : Bool → ℕ → Type 0
Allowed true t = Unit {0}
Allowed false t = t ≡ 0

-- what f does with r ticks and those that it needs more, and with all numbers above
pub record Later {A : Type 0} (any : Bool) (r : ℕ) (x : Out A) (f : ℕ → Out A) : Type 0 where
  pub more : ℕ
  pub allowed : Allowed any more
  pub reaches : (j : ℕ) → Reaches j x (f (more + r + j))

pub record IsAhead (any : Bool) (A : Type 0) (d e : Does A) : Type 0 where
  pub grows : (c : Core) (r : ℕ) → Grows c (e c r).1
  pub later : (c : Core) (r : ℕ) → Later any r (d c r) (e c)

abbrev pub Ahead : Bool → Relation
Ahead any A d e = IsAhead any A d e

-- ---- ends

allowed_none : (any : Bool) → Allowed any 0
allowed_none true = tt
allowed_none false = refl

allowed_both : (any : Bool) (i j : ℕ) → Allowed any i → Allowed any j → Allowed any (i + j)
allowed_both true i j h k = tt
allowed_both false i j h k = omega (arith, h, k)

module _ {A : Type 0} {e : Ends A} {c : Core} {n : ℕ} {y : Out A} where
  reached_fewer : {m : ℕ} → m ≤ n → Reached e c n y → Reached e c m y
  reached_fewer l h = record { left = h.left; is = h.is; enough = le_trans l h.enough }

  -- what takes this end to another, and leaves the ticks
  reached_on :
      {B : Type 0} {e' : Ends B} {c' : Core} (w : Out A → Out B) → ((q : ℕ) → w (e, c, q) ≡ (e', c', q)) →
      Reached e c n y → Reached e' c' n (w y)
  reached_on w k h = record { left = h.left; is = ap w h.is ∙ k h.left; enough = h.enough }

reaches_fewer : {A : Type 0} (j i : ℕ) (x y : Out A) → j ≤ i → Reaches i x y → Reaches j x y
reaches_fewer j i (With a, c, q) y l h = reached_fewer (omega (arith, l)) h
reaches_fewer j i (Returns v, c, q) y l h = reached_fewer (omega (arith, l)) h
reaches_fewer j i (Traps t, c, q) y l h = reached_fewer (omega (arith, l)) h
reaches_fewer j i (Going, c, q) y l h = h

-- what does so on both sides
abbrev Carries : {A B : Type 0} → (Out A → Out B) → (Out A → Out B) → Type 0
Carries {A = A} w w' = (j : ℕ) (x y : Out A) → Reaches j x y → Reaches j (w x) (w' y)

later_on :
    {A B : Type 0} (any : Bool) (w w' : Out A → Out B) → Carries w w' → (r : ℕ) (x : Out A) (f : ℕ → Out A) →
    Later any r x f → Later any r (w x) (λ q. w' (f q))
later_on any w w' k r x f h = record {
  more = h.more;
  allowed = h.allowed;
  reaches = λ j. k j x (f (h.more + r + j)) (h.reaches j);
}

-- ---- steps, and what goes on at once

step_reaches : {A : Type 0} (e : Ends A) (c : Core) (r j : ℕ) → IsOver e → Reaches j (e, c, r) (e, c, 0 + r + j)
step_reaches (With a) c r j o = record { left = 0 + r + j; is = refl; enough = omega arith }
step_reaches (Returns v) c r j o = record { left = 0 + r + j; is = refl; enough = omega arith }
step_reaches (Traps t) c r j o = record { left = 0 + r + j; is = refl; enough = omega arith }
step_reaches Going c r j o = absurd o

later_going :
    {A : Type 0} (any : Bool) (r : ℕ) (c : Core) (q : ℕ) (f : ℕ → Out A) → ((n : ℕ) → Grows c (f n).1) →
    Later any r (Going, c, q) f
later_going any r c q f h = record { more = 0; allowed = allowed_none any; reaches = λ j. h (0 + r + j) }

grows_on :
    {A B : Type 0} (y : Out A) (g : A → Does B) → ((a : A) (c : Core) (r : ℕ) → Grows c (g a c r).1) →
    Grows y.1 (and_then y g).1
grows_on (With a, c, r) g h = h a c r
grows_on (Returns v, c, r) g h = grows_refl c
grows_on (Traps t, c, r) g h = grows_refl c
grows_on (Going, c, r) g h = grows_refl c

module _ (any : Bool) where
  pub ahead_going : (A : Type 0) (e : Does A) → ((c : Core) (r : ℕ) → Grows c (e c r).1) → Ahead any A going e
  ahead_going A e h = record { grows = h; later = λ c r. later_going any r c r (e c) (h c) }

  pub ahead_steps : Steps (Ahead any)
  ahead_steps A d s = record { grows = grows; later = later }
    where
      grows : (c : Core) (r : ℕ) → Grows c (d c r).1
      grows c r = let t = s c in subst (λ y. Grows c y.1) (sym (t.is r)) t.grows

      later : (c : Core) (r : ℕ) → Later any r (d c r) (d c)
      later c r =
          let t = s c in
          record {
            more = 0;
            allowed = allowed_none any;
            reaches =
                λ j. subst (λ x. Reaches j x (d c (0 + r + j))) (sym (t.is r))
                (subst (λ y. Reaches j (t.end, t.core, r) y) (sym (t.is (0 + r + j)))
                (step_reaches t.end t.core r j t.over));
          }

  -- ---- one after the other

  later_then :
      {A B : Type 0} (r : ℕ) (x : Out A) (h : ℕ → Out A) (f g : A → Does B) → Later any r x h →
      Each (Ahead any) A B f g → Later any r (and_then x f) (λ q. and_then (h q) g)
  later_then r (With a, c, q) h f g s k =
      let m = (k a).later c q in
      record {
        more = s.more + m.more;
        allowed = allowed_both any s.more m.more s.allowed m.allowed;
        reaches = λ j. after m j;
      }
    where
      after :
          (m : Later any q (f a c q) (g a c)) (j : ℕ) →
          Reaches j (f a c q) (and_then (h ((s.more + m.more) + r + j)) g)
      after m j =
          let y = s.reaches (m.more + j) in
          let l = y.enough in
          let i = y.left - (m.more + q) in
          let ticks : (s.more + m.more) + r + j ≡ s.more + r + (m.more + j) = omega arith in
          let left : m.more + q + (y.left - (m.more + q)) ≡ y.left = omega (arith, l) in
          let above : j ≤ y.left - (m.more + q) = omega (arith, l) in
          let reached = reaches_fewer j i (f a c q) (g a c (m.more + q + i)) above (m.reaches i) in
          subst (λ n. Reaches j (f a c q) (and_then (h n) g)) (sym ticks)
          (subst (λ o. Reaches j (f a c q) (and_then o g)) (sym y.is)
          (subst (λ n. Reaches j (f a c q) (g a c n)) left reached))
  later_then r (Returns v, c, q) h f g s k = record {
    more = s.more;
    allowed = s.allowed;
    reaches = λ j. reached_on (λ o. and_then o g) (λ n. refl) (s.reaches j);
  }
  later_then r (Traps t, c, q) h f g s k = record {
    more = s.more;
    allowed = s.allowed;
    reaches = λ j. reached_on (λ o. and_then o g) (λ n. refl) (s.reaches j);
  }
  later_then r (Going, c, q) h f g s k = record {
    more = s.more;
    allowed = s.allowed;
    reaches =
        λ j. let y = h (s.more + r + j) in
        grows_trans c y.1 (and_then y g).1 (s.reaches j) (grows_on y g (λ a. (k a).grows));
  }

  pub ahead_binds : Binds (Ahead any)
  ahead_binds A B d e f g h k = record {
    grows =
        λ c r. let y = e c r in
        grows_trans c y.1 (and_then y g).1 (h.grows c r) (grows_on y g (λ a. (k a).grows));
    later = λ c r. later_then r (d c r) (e c) f g (h.later c r) k;
  }

-- ---- what is caught, and forks

caught_grows : {A B : Type 0} (f : A → B) (g : Val → B) (c : Core) (y : Out A) → Grows c y.1 → Grows c (caught f g y).1
caught_grows f g c (With a, d, r) h = h
caught_grows f g c (Returns v, d, r) h = h
caught_grows f g c (Traps t, d, r) h = h
caught_grows f g c (Going, d, r) h = h

caught_reaches : {A B : Type 0} (f : A → B) (g : Val → B) → Carries (caught f g) (caught f g)
caught_reaches f g j (With a, c, q) y h = reached_on (caught f g) (λ n. refl) h
caught_reaches f g j (Returns v, c, q) y h = reached_on (caught f g) (λ n. refl) h
caught_reaches f g j (Traps t, c, q) y h = reached_on (caught f g) (λ n. refl) h
caught_reaches f g j (Going, c, q) y h = caught_grows f g c y h

pub ahead_catches : (any : Bool) → Catches (Ahead any)
ahead_catches any A B f g d e h = record {
  grows = λ c r. caught_grows f g c (e c r) (h.grows c r);
  later = λ c r. later_on any (caught f g) (caught f g) (caught_reaches f g) r (d c r) (e c) (h.later c r);
}

module _ (small small' : Bool) (call call' : Caller) (n n' : ℕ) where
  forked_grows : (b : ℕ) (c : Core) (y : Out Vars) → Grows c y.1 → Grows c (forked small' call' true n' b y).1
  forked_grows b c (With a, d, r) h = h
  forked_grows b c (Returns v, d, r) h = h
  forked_grows b c (Traps t, d, r) h = h
  forked_grows b c (Going, d, r) h = h

  forked_reaches : (b : ℕ) → Carries (forked small call true n b) (forked small' call' true n' b)
  forked_reaches b j (With a, c, q) y h = reached_on (forked small' call' true n' b) (λ m. refl) h
  forked_reaches b j (Returns v, c, q) y h = reached_on (forked small' call' true n' b) (λ m. refl) h
  forked_reaches b j (Traps t, c, q) y h = reached_on (forked small' call' true n' b) (λ m. refl) h
  forked_reaches b j (Going, c, q) y h = forked_grows b c y h

  pub ahead_forks : (any : Bool) → Forks (Ahead any) small small' call call' true true n n'
  ahead_forks any d e h = record {
    grows = λ c r. forked_grows c.births c (e c r) (h.grows c r);
    later =
        λ c r. later_on any (forked small call true n c.births) (forked small' call' true n' c.births)
        (forked_reaches c.births) r (d c r) (e c) (h.later c r);
  }

-- ---- ticks

spent_grows : {A : Type 0} (e : Does A) (c : Core) (r : ℕ) → ((q : ℕ) → Grows c (e c q).1) → Grows c (spend e c r).1
spent_grows e c zero h = grows_refl c
spent_grows e c (suc r) h = h r

module _ (any : Bool) (A : Type 0) (d e : Does A) (h : Ahead any A d e) where
  later_spent : (c : Core) (r : ℕ) → Later any r (spend d c r) (spend e c)
  later_spent c zero = later_going any zero c zero (spend e c) (λ n. spent_grows e c n (h.grows c))
  later_spent c (suc r) =
      let s = h.later c r in
      record { more = s.more; allowed = s.allowed; reaches = λ j. go s j }
    where
      go : (s : Later any r (d c r) (e c)) (j : ℕ) → Reaches j (d c r) (spend e c (s.more + suc r + j))
      go s j =
          let ticks : s.more + suc r + j ≡ suc (s.more + r + j) = omega arith in
          subst (λ n. Reaches j (d c r) (spend e c n)) (sym ticks) (s.reaches j)

  later_unspent : (c : Core) (r : ℕ) → Later any r (spend d c r) (e c)
  later_unspent c zero = later_going any zero c zero (e c) (h.grows c)
  later_unspent c (suc r) =
      let s = h.later c r in
      record { more = s.more; allowed = s.allowed; reaches = λ j. go s j }
    where
      go : (s : Later any r (d c r) (e c)) (j : ℕ) → Reaches j (d c r) (e c (s.more + suc r + j))
      go s j =
          let ticks : s.more + suc r + j ≡ s.more + r + suc j = omega arith in
          subst (λ n. Reaches j (d c r) (e c n)) (sym ticks)
          (reaches_fewer j (suc j) (d c r) (e c (s.more + r + suc j)) (omega arith) (s.reaches (suc j)))

-- ticks on both sides or on neither, on the side behind alone, and on the side ahead alone
pub ahead_ticks : (any b : Bool) → Ticks (Ahead any) b b
ahead_ticks any false A d e h = h
ahead_ticks any true A d e h =
    record { grows = λ c r. spent_grows e c r (h.grows c); later = later_spent any A d e h }

pub ahead_without : (any : Bool) → Ticks (Ahead any) true false
ahead_without any A d e h = record { grows = h.grows; later = later_unspent any A d e h }

pub ahead_with : Ticks (Ahead true) false true
ahead_with A d e h = record { grows = λ c r. spent_grows e c r (h.grows c); later = later }
  where
    go : (c : Core) (r : ℕ) (s : Later true r (d c r) (e c)) (j : ℕ) → Reaches j (d c r) (spend e c (suc s.more + r + j))
    go c r s j =
        let ticks : suc s.more + r + j ≡ suc (s.more + r + j) = omega arith in
        subst (λ n. Reaches j (d c r) (spend e c n)) (sym ticks) (s.reaches j)

    later : (c : Core) (r : ℕ) → Later true r (d c r) (spend e c)
    later c r = let s = h.later c r in record { more = suc s.more; allowed = tt; reaches = λ j. go c r s j }

-- ---- activations

outer_reaches : {A : Type 0} (o : Core) → Carries (outer {A = A} o) (outer {A = A} o)
outer_reaches o j (With a, c, q) y h = reached_on (outer o) (λ n. refl) h
outer_reaches o j (Returns v, c, q) y h = reached_on (outer o) (λ n. refl) h
outer_reaches o j (Traps t, c, q) y h = reached_on (outer o) (λ n. refl) h
outer_reaches o j (Going, c, q) y h = record { output = h.output; most = h.most }

pub ahead_activates :
    (any : Bool) (s : Site) (A : Type 0) (d e : Does A) → Ahead any A d e →
    Ahead any A (activate true s d) (activate true s e)
ahead_activates any s A d e h = ahead_ticks any true A (λ c r. d (opened s c) r) (λ c r. e (opened s c) r) opens
  where
    opens : Ahead any A (λ c r. d (opened s c) r) (λ c r. e (opened s c) r)
    opens = record {
      grows =
          λ c r. let o = opened s c in
          grows_trans c o (e o r).1 (grows_opened s c) (h.grows o r);
      later = λ c r. h.later (opened s c) r;
    }

pub ahead_enters : (any : Bool) → Enters (Ahead any) true true
ahead_enters any s A d e h =
    let a = ahead_activates any s A d e h in
    record {
      grows = λ c r. let g = a.grows (inner c) r in record { output = g.output; most = g.most };
      later =
          λ c r. let i = inner c in
          later_on any (outer c) (outer c) (outer_reaches c) r (activate true s d i r) (activate true s e i)
          (a.later i r);
    }
