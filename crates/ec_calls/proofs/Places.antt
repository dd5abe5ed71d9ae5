-- Places in their order: by where they begin, and of those that begin together by where they end.
use Rattle.std.proofs.Common.{◌≡◌, refl, ℕ, suc, ◌<◌, ◌≤◌, ◌+◌, ◌*◌, sym, ◌∙◌, Bool, true, false, true≢false, nat_lt, ◌==◌, ◌&&◌, Option, Some, None, ◌⊎◌, inl, inr, arith}
use Rattle.std.proofs.Math.Nat.{mul-le-mul_right}
use Rattle.std.proofs.lemmas.Bool.{cases_lt}
use Rattle.std.proofs.lemmas.Bool.Decides.{Decides-and, Decides-or, Decides-eqb, Decides-ltb}
use Rattle.std.specs.Bool.{Decides}
use Rattle.ec_base.specs.declared.token.Span.{Span}
use Rattle.ec_calls.specs.Numbers.{is_sooner, rank}
use Rattle.ec_calls.specs.Prints.{NoLater}
use Rattle.ec_calls.specs.Seen.{is_before}

abbrev pub IsBefore : Span → Span → Type 0
IsBefore a b = (a.from < b.from) ⊎ ((a.from ≡ b.from) × (a.to < b.to))

decides : (a b : Span) → Decides (is_before a b) (IsBefore a b)
decides a b =
    Decides-or (nat_lt a.from b.from) ((a.from == b.from) && nat_lt a.to b.to) (Decides-ltb a.from b.from)
    (Decides-and (a.from == b.from) (nat_lt a.to b.to) (Decides-eqb a.from b.from) (Decides-ltb a.to b.to))

-- ---- no later

pub no_later_itself : (a : Span) → NoLater a a
no_later_itself a = inr (refl, omega arith)

pub no_later_trans : (a b d : Span) → NoLater a b → NoLater b d → NoLater a d
no_later_trans a b d (inl p) (inl q) = inl (omega arith)
no_later_trans a b d (inl p) (inr q) = let e : b.from ≡ d.from = q.0 in inl (omega arith)
no_later_trans a b d (inr p) (inl q) = let e : a.from ≡ b.from = p.0 in inl (omega arith)
no_later_trans a b d (inr p) (inr q) =
    let h : a.to ≤ b.to = p.1 in
    let k : b.to ≤ d.to = q.1 in
    inr (p.0 ∙ q.0, omega arith)

-- not before and no later
never : {A : Type 0} (a b : Span) → IsBefore a b → NoLater b a → A
never a b (inl p) (inl q) = absurd (omega arith)
never a b (inl p) (inr q) = let e : b.from ≡ a.from = q.0 in absurd (omega arith)
never a b (inr p) (inl q) = let e : a.from ≡ b.from = p.0 in absurd (omega arith)
never a b (inr p) (inr q) =
    let h : a.to < b.to = p.1 in
    let k : b.to ≤ a.to = q.1 in
    absurd (omega arith)

either : (a b : Span) → IsBefore a b ⊎ NoLater b a
either a b = elim (cases_lt a.from b.from) [
  | inl p ↦ inl (inl p)
  | inr p ↦ elim (cases_lt b.from a.from) [
    | inl q ↦ inr (inl q)
    | inr q ↦ elim (cases_lt a.to b.to) [
      | inl r ↦ inl (inr (omega arith, r))
      | inr r ↦ inr (inr (omega arith, r))
    ]
  ]
]

weaker : (a b : Span) → IsBefore a b → NoLater a b
weaker a b (inl p) = inl p
weaker a b (inr p) = inr (p.0, let h : a.to < b.to = p.1 in omega arith)

-- ---- the test

pub before_is : (a b : Span) → is_before a b ≡ true → NoLater a b
before_is a b h = weaker a b ((decides a b).0 h)

pub not_before : (a b : Span) → is_before a b ≡ false → NoLater b a
not_before a b h = elim (either a b) [
  | inl p ↦ absurd (true≢false (sym ((decides a b).1 p) ∙ h))
  | inr p ↦ p
]

pub is_not_before : (a b : Span) → NoLater b a → is_before a b ≡ false
is_not_before a b h = by (is_before a b) refl
  where
    by : (t : Bool) → is_before a b ≡ t → is_before a b ≡ false
    by true e = never a b ((decides a b).0 e) h
    by false e = e

before_by : (a b d : Span) → IsBefore a b → NoLater b d → IsBefore a d
before_by a b d p q = elim (either a d) [
  | inl r ↦ r
  | inr r ↦ never a b p (no_later_trans b d a q r)
]

pub before_trans : (a b d : Span) → is_before a b ≡ true → is_before b d ≡ true → is_before a d ≡ true
before_trans a b d p q = (decides a d).1 (before_by a b d ((decides a b).0 p) (before_is b d q))

-- ---- ranks

abbrev pub AreWithin : ℕ → Span → Type 0
AreWithin n p = (p.from < n) × (p.to < n)

rises : (n x y a b : ℕ) → suc x ≤ y → a < n → x * n + a < y * n + b
rises n x y a b h k = let m : suc x * n ≤ y * n = mul-le-mul_right n h in omega arith

before_ranks : (n : ℕ) (a b : Span) → AreWithin n a → IsBefore a b → rank n (Some a) < rank n (Some b)
before_ranks n a b w (inl p) = rises n a.from b.from a.to b.to p w.1
before_ranks n a b w (inr p) =
    let e : a.from ≡ b.from = p.0 in
    let h : a.to < b.to = p.1 in
    grind (arith)

pub sooner_ranks :
    (n : ℕ) (a b : Option Span) → ((p : Span) → a ≡ Some p → AreWithin n p) → is_sooner a b ≡ true
    → rank n a < rank n b
sooner_ranks n None b small h = absurd (true≢false (sym h))
sooner_ranks n (Some p) None small h =
    let w = small p refl in
    let r : p.from * n + p.to < n * n + 0 = rises n p.from n p.to 0 w.0 w.1 in
    omega arith
sooner_ranks n (Some p) (Some q) small h = before_ranks n p q (small p refl) ((decides p q).0 h)
