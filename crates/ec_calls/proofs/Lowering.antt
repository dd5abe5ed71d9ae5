-- Places that are taken over along calls.
use Rattle.std.proofs.Common.{◌≡◌, refl, ℕ, suc, ◌<◌, ◌≤◌, ◌+◌, sym, ap, subst, ◌∙◌, true, false, true≢false, List, [], ◌∷◌, length, set, get_or, get_or-set_same, get_or-set_other, length-set, Option, Some, None, Contains, inl, inr, arith}
use Rattle.std.proofs.lemmas.Bool.{cases_eq}
use Rattle.std.proofs.lemmas.List.{get_or_default}
use Rattle.std.proofs.lemmas.List.Sums.{sum_by-set}
use Rattle.std.proofs.lemmas.List.Elements.{Contains-get_or, Contains-push_cases}
use Rattle.ec_base.specs.declared.token.Span.{Span}
use Rattle.ec_calls.specs.declared.reach.Edge.{Edge}
use Rattle.ec_calls.specs.Numbers.{place_at, IsBy, is_sooner, Leads, ends, goes, ComesFrom, Lowers, IsKept, IsWithin, start, total}
use Rattle.ec_calls.proofs.Places.{no_later_itself, no_later_trans, before_is, not_before}

by_itself : (o : Option Span) (at : Span) → o ≡ Some at → IsBy o at
by_itself o at e = subst (λ v. IsBy v at) (sym e) (no_later_itself at)

pub by_trans : (o u : Option Span) (at : Span) → IsBy o at → ((p : Span) → o ≡ Some p → IsBy u p) → IsBy u at
by_trans None u at h k = absurd h
by_trans (Some p) None at h k = absurd (k p refl)
by_trans (Some p) (Some q) at h k = no_later_trans q p at (k p refl) h

sooner_is_by : (a b : Option Span) (at : Span) → is_sooner a b ≡ true → b ≡ Some at → IsBy a at
sooner_is_by None b at h e = absurd (true≢false (sym h))
sooner_is_by (Some p) b at h e = before_is p at (subst (λ v. is_sooner (Some p) v ≡ true) e h)

pub not_sooner : (a b : Option Span) (at : Span) → is_sooner a b ≡ false → a ≡ Some at → IsBy b at
not_sooner a None at h e = absurd (true≢false (subst (λ v. is_sooner v None ≡ false) e h))
not_sooner a (Some q) at h e = not_before at q (subst (λ v. is_sooner v (Some q) ≡ false) e h)

-- ---- one call

module _ (old : List (Option Span)) (e : Edge) (within : IsWithin (length old) e)
    (sooner : is_sooner (place_at old e.callee) (place_at old e.caller) ≡ true) where
  abbrev new : List (Option Span)
  new = set old e.caller (place_at old e.callee)

  new_there : (k : ℕ) → k ≡ e.caller → place_at new k ≡ place_at old e.callee
  new_there k h = ap (place_at new) h ∙ get_or-set_same old e.caller (place_at old e.callee) None within.0

  new_elsewhere : (k : ℕ) → (k ≡ e.caller → ⊥) → place_at new k ≡ place_at old k
  new_elsewhere k h = get_or-set_other old e.caller k (place_at old e.callee) None h

  taken_from : (k : ℕ) (at : Span) → place_at new k ≡ Some at → ComesFrom (e ∷ []) old k at
  taken_from k at h = elim (cases_eq k e.caller) [
    | inl q ↦ record {
      last = e.callee;
      leads = goes e (sym q) (Contains-get_or (e ∷ []) 0 e (omega arith)) ends;
      there = sym (new_there k q) ∙ h;
    }
    | inr q ↦ record { last = k; leads = ends; there = sym (new_elsewhere k q) ∙ h }
  ]

  taken_lower : (k : ℕ) (at : Span) → place_at old k ≡ Some at → IsBy (place_at new k) at
  taken_lower k at h = elim (cases_eq k e.caller) [
    | inl q ↦ subst (λ v. IsBy v at) (sym (new_there k q))
        (sooner_is_by (place_at old e.callee) (place_at old e.caller) at sooner (ap (place_at old) (sym q) ∙ h))
    | inr q ↦ by_itself (place_at new k) at (new_elsewhere k q ∙ h)
  ]

  pub taken : Lowers (e ∷ []) old new
  taken = record { many = length-set old e.caller (place_at old e.callee); from = taken_from; lower = taken_lower }

  pub taken_falls : start (place_at old e.callee) < start (place_at old e.caller) → total new + 1 ≤ total old
  taken_falls h =
      let t : total new + start (place_at old e.caller) ≡ total old + start (place_at old e.callee) =
      sum_by-set start old e.caller (place_at old e.callee) None within.0 in
      omega arith

pub untouched : (calls : List Edge) (old : List (Option Span)) → Lowers calls old old
untouched calls old = record {
  many = refl;
  from = λ k at h. record { last = k; leads = ends; there = h };
  lower = λ k at h. by_itself (place_at old k) at h;
}

-- ---- several calls

joined_leads : (calls : List Edge) (a b d : ℕ) → Leads calls a b → Leads calls b d → Leads calls a d
joined_leads calls a b d ends q = q
joined_leads calls a b d (goes e is stands p) q = goes e is stands (joined_leads calls e.callee b d p q)

wider_leads : (some all : List Edge) → ((e : Edge) → Contains some e → Contains all e) → (a b : ℕ)
    → Leads some a b → Leads all a b
wider_leads some all among a b ends = ends
wider_leads some all among a b (goes e is stands p) =
    goes e is (among e stands) (wider_leads some all among e.callee b p)

pub wider : (some all : List Edge) (old after : List (Option Span))
    → ((e : Edge) → Contains some e → Contains all e) → Lowers some old after → Lowers all old after
wider some all old after among h = record {
  many = h.many;
  from = λ k at q.
      let c = h.from k at q in
      record { last = c.last; leads = wider_leads some all among k c.last c.leads; there = c.there };
  lower = h.lower;
}

pub and_then : (calls : List Edge) (old mid after : List (Option Span)) → Lowers calls old mid
    → Lowers calls mid after → Lowers calls old after
and_then calls old mid after a b = record {
  many = b.many ∙ a.many;
  from = λ k at q. let c = b.from k at q in let d = a.from c.last at c.there in
      record { last = d.last; leads = joined_leads calls k c.last d.last c.leads d.leads; there = d.there };
  lower = λ k at q. by_trans (place_at mid k) (place_at after k) at (a.lower k at q) (λ p r. b.lower k p r);
}

only_this : (calls : List Edge) (e : Edge) → Contains calls e → (d : Edge) → Contains (e ∷ []) d → Contains calls d
only_this calls e h d k = elim (Contains-push_cases [] e d k) [
  | inl q ↦ absurd (let q : q.0 < 0 = q.1 in omega arith)
  | inr q ↦ subst (Contains calls) q h
]

-- one call more
pub and_this : (calls : List Edge) (e : Edge) (old mid after : List (Option Span)) → Contains calls e
    → Lowers calls old mid → Lowers (e ∷ []) mid after → Lowers calls old after
and_this calls e old mid after h a b =
    and_then calls old mid after a (wider (e ∷ []) calls mid after (only_this calls e h) b)

-- the callers of the calls so far are kept
abbrev pub AreKept : List (Option Span) → List Edge → ℕ → Type 0
AreKept places calls n = (k : ℕ) (d : Edge) → k < n → IsKept places (get_or calls k d)

pub one_kept :
    (old after : List (Option Span)) (calls : List Edge) (i at : ℕ) (e : Edge) → suc i ≡ at → i < length calls
    → e ≡ get_or calls i e
    → after ≡ old → AreKept old calls i → IsKept after e → AreKept after calls at
one_kept old after calls i at e later h is same so_far this k d below = elim (cases_eq k i) [
  | inl q ↦ subst (IsKept after) (is ∙ get_or_default calls i e d h ∙ ap (λ n. get_or calls n d) (sym q)) this
  | inr q ↦ subst (λ v. IsKept v (get_or calls k d)) (sym same) (so_far k d (omega arith))
]
