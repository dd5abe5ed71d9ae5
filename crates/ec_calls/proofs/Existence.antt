-- Every list of functions has a table of first `printf`s: places are taken over until there is nothing to take.
use Rattle.std.proofs.Common.{◌≡◌, refl, ℕ, zero, suc, ◌+◌, ◌<◌, sym, ap, subst, Bool, true, false, List, [], ◌∷◌, length, set, Option, Some, None, All, Contains, ◌⊎◌, inl, inr, arith}
use Rattle.std.specs.Prelude.{sum_by}
use Rattle.std.proofs.lemmas.List.Sums.{sum_by-set}
use Rattle.ec_base.specs.declared.text.Text.{Text}
use Rattle.ec_base.specs.declared.token.Span.{Span}
use Rattle.ec_syntax.specs.declared.item.Func.{Func}
use Rattle.ec_calls.specs.declared.reach.Edge.{Edge}
use Rattle.ec_calls.specs.Graphs.{all_edges, own_places}
use Rattle.ec_calls.specs.Numbers.{place_at, is_sooner, rank, Lowers, IsKept, IsWithin}
use Rattle.ec_calls.specs.Prints.{ArePrints, printed}
use Rattle.ec_calls.specs.Seen.{firsts, names_of}
use Rattle.ec_calls.proofs.Firsts.{are_firsts, none_some}
use Rattle.ec_calls.proofs.Lowering.{not_sooner, taken, untouched, and_then, and_this}
use Rattle.ec_calls.proofs.Places.{AreWithin, sooner_ranks}
use Rattle.ec_calls.proofs.Reached.{in_front, behind, all_within, are_prints}

-- ---- numbers beyond all places

abbrev beyond : List (Option Span) → ℕ
beyond [] = 0
beyond (None ∷ ps) = beyond ps
beyond (Some p ∷ ps) = suc (p.from + p.to) + beyond ps

abbrev AreBelow : ℕ → List (Option Span) → Type 0
AreBelow n ps = (k : ℕ) (p : Span) → place_at ps k ≡ Some p → AreWithin n p

abbrev total_by : ℕ → List (Option Span) → ℕ
total_by n ps = sum_by (rank n) ps

-- ---- a call whose caller isn't kept

record Loose (calls : List Edge) (places : List (Option Span)) : Type 0 where
  e : Edge
  stands : Contains calls e
  sooner : is_sooner (place_at places e.callee) (place_at places e.caller) ≡ true

all_with : {X : Type 0} (P : X → Type 0) (x : X) (xs : List X) → P x → All P xs → All P (x ∷ xs)
all_with P x xs p ps zero d h = p
all_with P x xs p ps (suc k) d h = ps k d (omega arith)

kept_or_loose : (calls : List Edge) (places : List (Option Span)) → All (IsKept places) calls ⊎ Loose calls places
kept_or_loose [] places = inl (λ k d h. absurd (omega arith))
kept_or_loose (e ∷ es) places =
    loose_step (is_sooner (place_at places e.callee) (place_at places e.caller)) refl (kept_or_loose es places)
  where
    loose_step :
        (b : Bool) → is_sooner (place_at places e.callee) (place_at places e.caller) ≡ b
        → All (IsKept places) es ⊎ Loose es places
        → All (IsKept places) (e ∷ es) ⊎ Loose (e ∷ es) places
    loose_step true h rest = inr (record { e = e; stands = in_front e es; sooner = h })
    loose_step false h (inl all) =
        inl (all_with (IsKept places) e es
        (λ at q. not_sooner (place_at places e.callee) (place_at places e.caller) at h q) all)
    loose_step false h (inr l) = inr (record { e = l.e; stands = behind e es l.e l.stands; sooner = l.sooner })

-- ---- until all are kept

record Settled (calls : List Edge) (old : List (Option Span)) : Type 0 where
  new : List (Option Span)
  lowers : Lowers calls old new
  kept : All (IsKept new) calls

abbrev AllWithin : List Edge → List (Option Span) → Type 0
AllWithin calls places = (e : Edge) → Contains calls e → IsWithin (length places) e

module _ (n : ℕ) (calls : List Edge) (old : List (Option Span)) (below : AreBelow n old)
    (within : AllWithin calls old) (loose : Loose calls old) where
  abbrev e : Edge
  e = loose.e

  abbrev next : List (Option Span)
  next = set old e.caller (place_at old e.callee)

  next_lowers : Lowers (e ∷ []) old next
  next_lowers = taken old e (within e loose.stands) loose.sooner

  next_falls : total_by n next < total_by n old
  next_falls =
      let h : rank n (place_at old e.callee) < rank n (place_at old e.caller) =
      sooner_ranks n (place_at old e.callee) (place_at old e.caller) (λ p q. below e.callee p q) loose.sooner in
      let t : total_by n next + rank n (place_at old e.caller) ≡ total_by n old + rank n (place_at old e.callee) =
      sum_by-set (rank n) old e.caller (place_at old e.callee) None (within e loose.stands).0 in
      omega arith

  next_below : AreBelow n next
  next_below k p h = let c = next_lowers.from k p h in below c.last p c.there

  next_within : AllWithin calls next
  next_within d h = subst (λ v. IsWithin v d) (sym next_lowers.many) (within d h)

  after_next : Settled calls next → Settled calls old
  after_next s = record {
    new = s.new;
    lowers =
        and_then calls old next s.new (and_this calls e old old next loose.stands (untouched calls old) next_lowers)
        s.lowers;
    kept = s.kept;
  }

settles :
    (fuel n : ℕ) (calls : List Edge) (old : List (Option Span)) → total_by n old < fuel → AreBelow n old
    → AllWithin calls old
    → Settled calls old
settles zero n calls old short below within = absurd (omega arith)
settles (suc fuel) n calls old short below within = elim (kept_or_loose calls old) [
  | inl all ↦ record { new = old; lowers = untouched calls old; kept = all }
  | inr l ↦
      let falls : total_by n (set old l.e.caller (place_at old l.e.callee)) < total_by n old =
      next_falls n calls old below within l in
      after_next n calls old below within l
      (settles fuel n calls (set old l.e.caller (place_at old l.e.callee)) (omega arith)
      (next_below n calls old below within l)
      (next_within n calls old below within l))
]

the_same : (a b : Span) → ◌≡◌ {A = Option Span} (Some a) (Some b) → a ≡ b
the_same a b h = ap (λ v. elim v [ None ↦ a | Some x ↦ x ]) h

all_below : (ps : List (Option Span)) → AreBelow (beyond ps) ps
all_below [] k p h = none_some p h
all_below (None ∷ ps) zero p h = none_some p h
all_below (None ∷ ps) (suc k) p h = all_below ps k p h
all_below (Some q ∷ ps) zero p h =
    let e : q.from ≡ p.from = ap (λ (x : Span). x.from) (the_same q p h) in
    let f : q.to ≡ p.to = ap (λ (x : Span). x.to) (the_same q p h) in
    (omega arith, omega arith)
all_below (Some q ∷ ps) (suc k) p h =
    let b = all_below ps k p h in
    let x : p.from < beyond ps = b.0 in
    let y : p.to < beyond ps = b.1 in
    (omega arith, omega arith)

pub a_table : (fs : List Func) → (prints : Text → Option Span) × ArePrints fs prints
a_table fs =
    let gs = firsts fs in
    let own = own_places gs in
    let s =
    settles (suc (total_by (beyond own) own)) (beyond own) (all_edges (names_of gs) 0 gs) own
    (omega arith) (all_below own) (λ e h. all_within gs e h) in
    (printed (record { names = names_of gs; places = s.new }), are_prints fs gs (are_firsts fs) s.new s.lowers s.kept)
