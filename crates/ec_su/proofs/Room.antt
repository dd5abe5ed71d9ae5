-- Counts and fillings stay below their ends.
use Rattle.std.proofs.Common.{◌≡◌, ◌≢◌, ◌<◌, ◌≤◌, ◌+◌, ◌^◌, ◌⊎◌, inl, inr, ℕ, ◌-◌, Bool, true, false, if◌then◌else◌, eqb, List, [], refl, sym, ◌∙◌, subst, Option, Some, None, arith}
use Rattle.std.specs.Prelude.{is_some, nat_lt}
use Rattle.std.proofs.lemmas.Bool.{lt-ltb}
use Rattle.std.proofs.lemmas.Bool.Decides.{eqb_tells}
use Rattle.std.proofs.lemmas.Option.{same_Some}
use Rattle.ec_slots.specs.declared.slot.Slot.{Slot}
use Rattle.ec_slots.specs.Slots.{MOST, Row, fillings_of, has_room, incremented, is_last, one_less, one_more, put_slot, replaced, set_up, slot_of, synced, waiting, without}
use Rattle.ec_slots.proofs.Found.{slot_of_put, slot_of_put_other, slot_of_without, slot_of_without_other}
use Rattle.ec_su.specs.Room.{AllRoomy, IsRoomy}

-- a unit that has handled one message more may hold the same
pub room_more : (h : ℕ) (rows : List Row) → AllRoomy h rows → AllRoomy (h + 1) rows
room_more h rows r frame k s e =
    let x = r frame k s e in
    record { count = omega (arith, x.count); reset = x.reset; fillings = omega (arith, x.fillings) }

room_put : (h frame k : ℕ) (s : Slot) (rows : List Row) → IsRoomy h s → AllRoomy h rows → AllRoomy h (put_slot frame k s rows)
room_put h frame k s rows good r other j t e = by (eqb_tells other frame) (eqb_tells j k)
  where
    by : ((eqb other frame ≡ true) × (other ≡ frame)) ⊎ ((eqb other frame ≡ false) × (other ≢ frame)) →
        ((eqb j k ≡ true) × (j ≡ k)) ⊎ ((eqb j k ≡ false) × (j ≢ k)) → IsRoomy h t
    by (inl (_, f)) (inl (_, g)) =
        let at : slot_of frame k (put_slot frame k s rows) ≡ Some t =
        subst (λ o. slot_of o k (put_slot frame k s rows) ≡ Some t) f
        (subst (λ i. slot_of other i (put_slot frame k s rows) ≡ Some t) g e) in
        subst (IsRoomy h) (same_Some s t (sym (slot_of_put frame k s rows) ∙ at)) good
    by (inl (_, f)) (inr (_, n)) = r other j t (sym (slot_of_put_other frame k other j s rows (λ q. n)) ∙ e)
    by (inr (_, n)) g = r other j t (sym (slot_of_put_other frame k other j s rows (λ q. absurd (n q))) ∙ e)

room_replaced : (h frame k : ℕ) (f : Slot → Slot) (rows : List Row) → ((s : Slot) → IsRoomy h s → IsRoomy (h + 1) (f s)) → AllRoomy h rows →
    AllRoomy (h + 1) (replaced f frame k (slot_of frame k rows) rows)
room_replaced h frame k f rows keeps r = by (slot_of frame k rows) refl
  where
    by : (o : Option Slot) → slot_of frame k rows ≡ o → AllRoomy (h + 1) (replaced f frame k o rows)
    by None e = room_more h rows r
    by (Some s) e = room_put (h + 1) frame k (f s) rows (keeps s (r frame k s e)) (room_more h rows r)

-- after each kind of message
pub room_set_up : (h frame k count reset fiber : ℕ) (rows : List Row) → count < 2 ^ 32 → reset < 2 ^ 32 → AllRoomy h rows →
    AllRoomy (h + 1) (set_up frame k count reset fiber rows)
room_set_up h frame k count reset fiber rows small less r =
    room_put (h + 1) frame k (waiting count reset fiber (slot_of frame k rows)) rows
    (record { count = omega (arith, small); reset = less; fillings = by (slot_of frame k rows) refl }) (room_more h rows r)
  where
    by : (o : Option Slot) → slot_of frame k rows ≡ o → fillings_of o ≤ h + 1
    by None e = omega arith
    by (Some s) e = omega (arith, (r frame k s e).fillings)

pub room_incremented : (h frame k : ℕ) (rows : List Row) → AllRoomy h rows → AllRoomy (h + 1) (incremented frame k rows)
room_incremented h frame k rows =
    room_replaced h frame k one_more rows
    (λ s x. record { count = omega (arith, x.count); reset = x.reset; fillings = omega (arith, x.fillings) })

room_less : (h : ℕ) (s : Slot) (b : Bool) → IsRoomy h s →
    IsRoomy (h + 1) (if b then record s { count = s.reset; fillings = s.fillings + 1 } else record s { count = s.count - 1 })
room_less h s true x = record { count = omega (arith, x.reset); reset = x.reset; fillings = omega (arith, x.fillings) }
room_less h s false x = record { count = omega (arith, x.count); reset = x.reset; fillings = omega (arith, x.fillings) }

pub room_synced : (h frame k : ℕ) (rows : List Row) → AllRoomy h rows → AllRoomy (h + 1) (synced frame k rows)
room_synced h frame k rows = room_replaced h frame k one_less rows (λ s x. room_less h s (is_last s) x)

pub room_without : (h frame : ℕ) (rows : List Row) → AllRoomy h rows → AllRoomy (h + 1) (without frame rows)
room_without h frame rows r other k s e = by (eqb_tells other frame)
  where
    by : ((eqb other frame ≡ true) × (other ≡ frame)) ⊎ ((eqb other frame ≡ false) × (other ≢ frame)) → IsRoomy (h + 1) s
    by (inl (_, f)) =
        let none : None ≡ Some s =
        sym (slot_of_without frame k rows) ∙ subst (λ o. slot_of o k (without frame rows) ≡ Some s) f e in absurd (cc)
    by (inr (_, n)) = room_more h rows r other k s (sym (slot_of_without_other frame other k rows n) ∙ e)

-- the first slots, and none
pub room_none : AllRoomy 0 []
room_none frame k s e = absurd (cc)

-- a known slot has room
pub known_has_room : (h frame k : ℕ) (rows : List Row) → AllRoomy h rows → h < 2 ^ 32 → is_some (slot_of frame k rows) ≡ true →
    has_room (slot_of frame k rows) ≡ true
known_has_room h frame k rows r few = by (slot_of frame k rows) refl
  where
    by : (o : Option Slot) → slot_of frame k rows ≡ o → is_some o ≡ true → has_room o ≡ true
    by None e known = known
    by (Some s) e known =
        let x = r frame k s e in
        let count : nat_lt s.count MOST ≡ true = lt-ltb s.count MOST (omega (arith, x.count, few)) in
        let fillings : nat_lt s.fillings MOST ≡ true = lt-ltb s.fillings MOST (omega (arith, x.fillings, few)) in
        rw (count, fillings) refl

pub ruleset rooms = (room_more, room_set_up, room_incremented, room_synced, room_without, known_has_room)
