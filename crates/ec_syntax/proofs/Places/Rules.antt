-- What is read between two places stands between them. These rules say so of the grammar's combinators: where the parts
-- before stand, those with what was read do.
use Rattle.std.proofs.Common.{◌≡◌, refl, sym, ◌∙◌, ap, subst, ◌⊎◌, inl, inr, ◌≤◌, ◌<◌, ℕ, Bool, true, false, true≢false, ◌||◌, List, ◌∷◌, Option, Some, None, arith}
use Rattle.ec_base.specs.Lexical.{Rises}
use Rattle.ec_base.specs.declared.token.Token.{Token}
use Rattle.ec_syntax.specs.declared.quantity.Quantity.{Quantity}
use Rattle.ec_syntax.specs.Grammar.Language as L
use Rattle.ec_syntax.specs.Grammar.Language.{Language, Turns, begin, span}
use Rattle.ec_syntax.specs.Grammar.Language.Turns.{over, more}
use Rattle.ec_syntax.specs.Grammar.State.{State, Counts, limits}
use Rattle.ec_syntax.specs.Grammar.Tokens.{is_end}
use Rattle.ec_syntax.specs.Parts.{Parts}
use Rattle.ec_syntax.specs.Places.{Stands}
use Rattle.ec_syntax.proofs.EndOfText.Inside.{Inside}
use Rattle.ec_syntax.proofs.EndOfText.Texts.{same_head, same_tail}
use Rattle.ec_syntax.proofs.Places.Standing.{stands_later, Gives}

-- ---- what is read

-- tokens were read from s to m, of which the last ends at `high`
pub record Took (low high : ℕ) (s m : State) : Type 0 where
  pub begins : low ≤ begin s
  pub goes : begin s < high
  pub ends : high ≡ m.end

-- none was read
pub record Stayed (low high : ℕ) (s m : State) : Type 0 where
  pub still : high ≡ low
  pub ends : m.end ≡ s.end
  pub left : m.left ≡ s.left

-- one of both, where one may be sure that a token was read
abbrev pub Reached : Bool → ℕ → ℕ → State → State → Type 0
Reached takes low high s m = Took low high s m ⊎ ((takes ≡ false) × Stayed low high s m)

-- From `low` on the tokens of s stand; those before m were read, and the parts stand up to their end.
pub record Laid (takes : Bool) (start low : ℕ) (s m : State) (parts : Parts) : Type 0 where
  pub high : ℕ
  pub grows : low ≤ high
  pub rising : Rises high m.left
  pub stands : Stands start high parts
  pub reached : Reached takes low high s m

-- Behind these parts, what is read makes the parts of its value. Whether a token is read for sure.
pub record Lays {A : Type 0} (takes : Bool) (before : Parts) (l : Language A) (parts : A → Parts) : Type 0 where
  pub each : (start low : ℕ) (s : State) (a : A) (m : State) → l limits s a m → Rises low s.left →
      Stands start low before → Laid takes start low s m (parts a)

pub looked : {A : Type 0} {f : State → A} {before : Parts} {parts : A → Parts} →
    ((s : State) → Gives before (parts (f s))) → Lays false before (L.look f) parts
looked {f = f} {parts = parts} h = record {
  each = λ start low s a m r rising stands. record {
    high = low;
    grows = omega arith;
    rising = subst (λ z. Rises low z.left) (sym r.1) rising;
    stands = subst (λ z. Stands start low (parts z)) (sym r.0) ((h s).on start low stands);
    reached = inr (refl, record { still = refl; ends = ap (λ z. z.end) r.1; left = ap (λ z. z.left) r.1 });
  };
}

pub given : {A : Type 0} {a : A} {before : Parts} {parts : A → Parts} → Gives before (parts a) →
    Lays false before (L.give a) parts
given {a = a} h = looked {f = λ _. a} (λ _. h)

pub as_parts : {A : Type 0} {takes : Bool} {before : Parts} {l : Language A} {f g : A → Parts} →
    ((a : A) → Gives (f a) (g a)) → Lays takes before l f → Lays takes before l g
as_parts k h = record {
  each = λ start low s a m r rising stands.
      let x = h.each start low s a m r rising stands in
      record { high = x.high; grows = x.grows; rising = x.rising; stands = (k a).on start x.high x.stands; reached = x.reached };
}

-- behind the same parts
pub lays_behind : {A : Type 0} {takes : Bool} {us vs : Parts} {l : Language A} {f : A → Parts} → us ≡ vs →
    Lays takes us l f → Lays takes vs l f
lays_behind {takes = takes} {l = l} {f = f} e h = subst (λ z. Lays takes z l f) e h

-- in a language that reads what another one does
pub reads_as : {A : Type 0} {takes : Bool} {before : Parts} (l' : Language A) {l : Language A} {f : A → Parts} →
    ((s : State) (a : A) (m : State) → l limits s a m → l' limits s a m) → Lays takes before l' f →
    Lays takes before l f
reads_as l' k h = record { each = λ start low s a m r rising stands. h.each start low s a m (k s a m r) rising stands }

-- ---- one behind the other

nothing_left : (a b : Bool) → a ≡ false → b ≡ false → (a || b) ≡ false
nothing_left a b e f = rw e f

same_begin : (s m : State) → m.left ≡ s.left → begin m ≡ begin s
same_begin s m e = ap (λ ts. begin (record s { left = ts })) e

-- from a state of other counts on
pub laid_from : {takes : Bool} {start low : ℕ} {s t m : State} {parts : Parts} → t.left ≡ s.left → t.end ≡ s.end →
    Laid takes start low t m parts → Laid takes start low s m parts
laid_from {takes} {start} {low} {s} {t} {m} left end x =
    record { high = x.high; grows = x.grows; rising = x.rising; stands = x.stands; reached = by x.high x.reached }
  where
    by : (high : ℕ) → Reached takes low high t m → Reached takes low high s m
    by high (inl y) =
        let k = same_begin s t left in
        inl (record { begins = omega (arith, y.begins, k); goes = omega (arith, y.goes, k); ends = y.ends })
    by high (inr (e, y)) = inr (e, record { still = y.still; ends = y.ends ∙ end; left = y.left ∙ left })

-- what is read, and then what is read behind it
pub both_laid : (b c : Bool) (begun start low : ℕ) (s m n : State) (us vs : Parts) (x : Laid b begun low s m us) →
    Laid c start x.high m n vs → Laid (b || c) start low s n vs
both_laid b c begun start low s m n us vs x y = record {
  high = y.high;
  grows = omega (arith, x.grows, y.grows);
  rising = y.rising;
  stands = y.stands;
  reached = over x.high y.high x.grows y.grows x.reached y.reached;
}
  where
    over : (mid high : ℕ) → low ≤ mid → mid ≤ high →
        Reached b low mid s m → Reached c mid high m n → Reached (b || c) low high s n
    over mid high u w (inl x) (inl y) = inl (record { begins = x.begins; goes = omega (arith, x.goes, w); ends = y.ends })
    over mid high u w (inl x) (inr (e, y)) = inl (record { begins = x.begins; goes = omega (arith, x.goes, w); ends = y.still ∙ x.ends ∙ sym y.ends })
    over mid high u w (inr (e, x)) (inl y) =
        let k = same_begin s m x.left in
        inl (record { begins = omega (arith, y.begins, x.still, k); goes = omega (arith, y.goes, k); ends = y.ends })
    over mid high u w (inr (e, x)) (inr (f, y)) = inr (nothing_left b c e f, record { still = y.still ∙ x.still; ends = y.ends ∙ x.ends; left = y.left ∙ x.left })

module _ {A B : Type 0} {p : Language A} {q : A → Language B} {before : Parts} {f : A → Parts} {g : B → Parts} where
  both_lay : (b c : Bool) → Lays b before p f → ((a : A) → Lays c (f a) (q a) g) → Lays (b || c) before (L.◌>>=◌ p q) g
  both_lay b c h k = record {
    each = λ start low s v n r rising stands.
        let (a, m, x, y) = r in
        let one = h.each start low s a m x rising stands in
        both_laid b c start start low s m n (f a) (g v) one ((k a).each start one.high m v n y one.rising one.stands);
  }

pub weaker : {A : Type 0} {takes : Bool} {before : Parts} {l : Language A} {f : A → Parts} → Lays takes before l f →
    Lays false before l f
weaker {takes = takes} h = record {
  each = λ start low s a m r rising stands.
      let x = h.each start low s a m r rising stands in
      record { high = x.high; grows = x.grows; rising = x.rising; stands = x.stands; reached = still s m low x.high x.reached };
}
  where
    still : (s m : State) (low high : ℕ) →
        Reached takes low high s m → Reached false low high s m
    still s m low high (inl x) = inl x
    still s m low high (inr (e, x)) = inr (refl, x)

module _ {A B : Type 0} {p : Language A} {q : A → Language B} {before : Parts} {f : A → Parts} {g : B → Parts} where
  pub behind : {b c : Bool} → Lays b before p f → ((a : A) → Lays c (f a) (q a) g) → Lays false before (L.◌>>=◌ p q) g
  behind {b} {c} h k = weaker (both_lay b c h k)

  -- where a token is read first
  pub firstly : {c : Bool} → Lays true before p f → ((a : A) → Lays c (f a) (q a) g) → Lays true before (L.◌>>=◌ p q) g
  firstly {c} h k = both_lay true c h k

  -- or later
  pub lastly : {b : Bool} → Lays b before p f → ((a : A) → Lays true (f a) (q a) g) → Lays true before (L.◌>>=◌ p q) g
  lastly {b = false} h k = both_lay false true h k
  lastly {b = true} h k = both_lay true true h k

pub made : {A B : Type 0} {takes : Bool} {p : Language A} {before : Parts} {f : A → Parts} {g : B → Parts}
    (h : A → B) → ((a : A) → Gives (f a) (g (h a))) → Lays takes before p f →
    Lays takes before (L.◌>>=◌ p (λ a. L.give (h a))) g
made {takes = true} h k l = firstly l (λ a. given (k a))
made {takes = false} h k l = behind l (λ a. given (k a))

-- ---- the other combinators

pub either : {A : Type 0} {takes : Bool} {p q : Language A} {before : Parts} {f : A → Parts} → Lays takes before p f →
    Lays takes before q f → Lays takes before (L.◌or◌ p q) f
either {A} {takes} {p} {q} {before} {f} h k = record { each = go }
  where
    go : (start low : ℕ) (s : State) (a : A) (m : State) → L.◌or◌ p q limits s a m → Rises low s.left →
        Stands start low before → Laid takes start low s m (f a)
    go start low s a m (inl r) = h.each start low s a m r
    go start low s a m (inr r) = k.each start low s a m r

pub never_lays : {A : Type 0} {takes : Bool} {before : Parts} {f : A → Parts} → Lays takes before L.never f
never_lays = record { each = λ start low s a m r rising stands. absurd r }

pub perhaps : {A : Type 0} {takes : Bool} {p : Language A} {before : Parts} {f : A → Parts} {g : Option A → Parts} →
    ((a : A) → Gives (f a) (g (Some a))) → Gives before (g None) → Lays takes before p f →
    Lays false before (L.maybe p) g
perhaps some none h = either (weaker (made Some some h)) (given none)

pub part_lays : {A : Type 0} {takes : Bool} {p : Language A} {before : Parts} {f : A → Parts} →
    Lays takes before p f → Lays takes before (L.part p) f
part_lays h = record {
  each = λ start low s a m r rising stands. laid_from refl refl (h.each start low (record s { marks = 0 }) a m r rising stands);
}

pub function_lays : {A : Type 0} {takes : Bool} {p : Language A} {before : Parts} {f : A → Parts} →
    Lays takes before p f → Lays takes before (L.function p) f
function_lays h = record {
  each = λ start low s a m r rising stands. laid_from refl refl (h.each start low (record s { variables = 0 }) a m r rising stands);
}

pub kth_lays : {A : Type 0} {takes : Bool} {p : Language A} {before : Parts} {f : A → Parts} (q : Quantity) (k : ℕ) →
    Lays takes before p f → Lays takes before (L.kth q k p) f
kth_lays q k h = record { each = λ start low s a m r rising stands. h.each start low s a m r.1 rising stands }

pub lacks_lays : (test : Token → Bool) {before : Parts} → Lays false before (L.lacks test) (λ _. before)
lacks_lays test = record {
  each = λ start low s a m r rising stands. record {
    high = low;
    grows = omega arith;
    rising = subst (λ z. Rises low z.left) (sym r.1) rising;
    stands = stands;
    reached = inr (refl, record { still = refl; ends = ap (λ z. z.end) r.1; left = ap (λ z. z.left) r.1 });
  };
}

module _ {A : Type 0} {takes : Bool} {turn : A → Language A} {f : A → Parts}
    (h : (a : A) → Lays takes (f a) (turn a) f) where
  each_turn : (start low : ℕ) (s : State) (a c : A) (n : State) → Turns turn limits s a c n → Rises low s.left →
      Stands start low (f a) → Laid false start low s n (f c)
  each_turn start low s a c n over rising stands = record { high = low; grows = omega arith; rising = rising; stands = stands; reached = inr (refl, record { still = refl; ends = refl; left = refl }) }
  each_turn start low s a c n (more {m = m} {b = b} r rs) rising stands =
      let one = (weaker (h a)).each start low s b m r rising stands in
      both_laid false false start start low s m n (f b) (f c) one (each_turn start one.high m b c n rs one.rising one.stands)

  pub turned : (a : A) → Lays false (f a) (L.turns turn a) f
  turned a = record { each = λ start low s c n r rising stands. each_turn start low s a c n r rising stands }

-- ---- tokens

-- what stands before a token that isn't the end, and behind it
record Fronted (low : ℕ) (x : Token) (rest : List Token) : Type 0 where
  begins : low ≤ x.at.from
  ends : x.at.from < x.at.to
  rising : Rises x.at.to rest

fronted : {low : ℕ} {ts : List Token} → Rises low ts → (x : Token) (rest : List Token) → ts ≡ x ∷ rest →
    is_end x ≡ false → Fronted low x rest
fronted (Rises.last {x = y} e small at) x rest eq h = absurd (true≢false (sym e ∙ ap is_end (same_head eq) ∙ h))
fronted {low} (Rises.next {x = y} {rest = ys} e small at r) x rest eq h =
    let head = same_head eq in
    record {
      begins = subst (λ (z : Token). low ≤ z.at.from) head small;
      ends = subst (λ (z : Token). z.at.from < z.at.to) head at;
      rising = subst (λ (z : Token). Rises z.at.to rest) head (subst (λ zs. Rises y.at.to zs) (same_tail eq) r);
    }

-- the parts that tokens make of the ones before
abbrev Makes : {A : Type 0} → Parts → (Token → Option A) → (A → Parts) → Type 0
Makes {A} before pick parts =
    (x : Token) (a : A) → pick x ≡ Some a → (start low : ℕ) → Stands start low before →
    low ≤ x.at.from → x.at.from < x.at.to → Stands start x.at.to (parts a)

pub taken : {A : Type 0} {d : ℕ} {pick : Token → Option A} {counts : State → A → Counts} {counted : State → State}
    {before : Parts} {f : A → Parts} → Inside pick → Makes before pick f → Lays true before (L.one d pick counts counted) f
taken inside h = record {
  each = λ start low s a m r rising stands.
      let x = fronted rising r.token r.rest r.stands (inside r.token a r.picked) in
      let same : begin s ≡ r.token.at.from = ap (λ ts. begin (record s { left = ts })) r.stands in
      record {
        high = r.token.at.to;
        grows = omega (arith, x.begins, x.ends);
        rising = subst (λ z. Rises r.token.at.to z.left) (sym r.next) x.rising;
        stands = h r.token a r.picked start low stands x.begins x.ends;
        reached = inl (record { begins = omega (arith, x.begins, same); goes = omega (arith, x.ends, same); ends = ap (λ z. z.end) (sym r.next) });
      };
}

-- a token that makes no parts
pub token_lays : {A : Type 0} {d : ℕ} {pick : Token → Option A} {counts : State → A → Counts}
    {counted : State → State} {before : Parts} → Inside pick →
    Lays true before (L.one d pick counts counted) (λ _. before)
token_lays {before = before} inside = taken inside (λ x a e start low stands h k. stands_later before start low x.at.to (omega (arith, h, k)) stands)
