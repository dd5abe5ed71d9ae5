-- Walks along lists, and cells that are set in order.
use Rattle.std.proofs.Common.{◌≡◌, ◌<◌, ◌≤◌, ◌+◌, ℕ, zero, suc, List, [], ◌∷◌, length, drop, refl, Option, Some, None, slice_get, slice_set, sym, ap, arith, MatchOption, option_copied, add-one, drop-cons}
use Rattle.std.proofs.lemmas.Option.{slice_get_within, slice_get_past, slice_get_read, get_or_from_slice_get}
use denote.Bor.{Bor}
use Rattle.std.specs.List.{HoldsAt}
use Rattle.ec_base.specs.declared.value.Value.{Value}
use Rattle.ec_eu.specs.declared.state.Activation.{Activation}
use Rattle.ec_eu.specs.Cells.{put_all}
use Rattle.ec_eu.specs.Instructions.{activation_in}
use Rattle.ec_eu.specs.State.{Exec}

pub drop_get : {A : Type 0} (xs : List A) (i : ℕ) (x : A) → slice_get xs i ≡ Some x → drop i xs ≡ x ∷ drop (i + 1) xs
drop_get xs i x h =
    rw (add-one i, drop-cons xs i x (slice_get_within xs i x h), get_or_from_slice_get xs i x x h) refl

pub drop_past : {A : Type 0} (xs : List A) (i : ℕ) → length xs ≤ i → drop i xs ≡ []
drop_past [] zero h = refl
drop_past [] (suc i) h = refl
drop_past (x ∷ xs) zero h = absurd (omega arith)
drop_past (x ∷ xs) (suc i) h = drop_past xs i (omega arith)

-- what a look-up in a slice finds
pub found :
    {A : Type 0} (xs : List A) (i : ℕ) (r : Option (Bor A))
    → MatchOption r (length xs ≤ i) (λ x. (i < length xs) × HoldsAt (λ y. x.now ≡ y) xs i) → option_copied r ≡ slice_get xs i
found xs i None h = sym (slice_get_past xs i h)
found xs i (Some x) h = sym (slice_get_read xs (length xs) i x.now refl h.0 (h.1 x.now))

-- nothing is put where the values have ended
pub put_none : (n : ℕ) (cs : List ℕ) (s : Exec) → put_all n cs [] s ≡ s
put_none n [] s = refl
put_none n (c ∷ cs) s = refl

pub put_past : (n : ℕ) (cs : List ℕ) (xs : List Value) (i : ℕ) (s : Exec) → length xs ≤ i → put_all n cs (drop i xs) s ≡ s
put_past n cs xs i s h = rw (drop_past xs i h) (put_none n cs s)

pub ruleset puts = (drop_get, put_past)

-- ---- what frames were made for

-- what isn't there can be taken away
pub none_taken : (xs : List (Option Activation)) (n : ℕ) → activation_in (slice_get xs n) ≡ None → slice_set xs n None ≡ xs
none_taken [] n h = refl
none_taken (None ∷ xs) zero h = refl
none_taken (Some a ∷ xs) zero h = absurd (cc)
none_taken (x ∷ xs) (suc n) h = ap (λ ys. x ∷ ys) (none_taken xs n h)
