-- What holds of items and their places, as items are set, taken and put.
use Rattle.std.proofs.Common.{◌≡◌, ℕ, zero, suc, Bool, true, false, cond, List, [], ◌∷◌, ◌++◌, length, length-set, replicate, refl, Option, Some, None, slice_get, slice_set, get_or, subst}
use Rattle.std.specs.List.{All}
use Rattle.std.proofs.lemmas.List.Elements.{All-head, All-tail, All-set, All-push}
use Rattle.std.proofs.lemmas.Option.{same_Some, slice_get-get_or, some_pair_parts}
use Rattle.ec_queue.specs.Queues.{put_at, put_to, taken_at, taken_of}
use Rattle.ec_world_laws.proofs.Units.Values.{all_at}
use Rattle.ec_world_laws.specs.Worlds.{AllNumbered}

pub numbered_set : {A : Type 0} (P : ℕ → A → Type 0) (xs : List A) (i : ℕ) (y : A) → AllNumbered P xs → P i y →
    AllNumbered P (slice_set xs i y)
numbered_set P [] i y h g k x e = cc
numbered_set P (z ∷ xs) zero y h g zero x e = subst (P 0) (same_Some _ _ e) g
numbered_set P (z ∷ xs) zero y h g (suc k) x e = h (suc k) x e
numbered_set P (z ∷ xs) (suc i) y h g zero x e = h 0 x e
numbered_set P (z ∷ xs) (suc i) y h g (suc k) x e = numbered_set (λ j. P (suc j)) xs i y (λ j. h (suc j)) g k x e

pub numbered_replicate : {A : Type 0} (P : ℕ → A → Type 0) (count : ℕ) (y : A) → ((k : ℕ) → P k y) → AllNumbered P (replicate count y)
numbered_replicate P zero y h k x e = cc
numbered_replicate P (suc count) y h zero x e = subst (P 0) (same_Some _ _ e) (h 0)
numbered_replicate P (suc count) y h (suc k) x e = numbered_replicate (λ j. P (suc j)) count y (λ j. h (suc j)) k x e

-- ---- an item more in one queue of several

pub put_to_long : {A : Type 0} (o : Option (List A)) (at : ℕ) (x : A) (qs : List (List A)) → length (put_to o at x qs) ≡ length qs
put_to_long None at x qs = refl
put_to_long (Some q) at x qs = length-set qs at (q ++ x ∷ [])

put_to_numbered : {A : Type 0} (P : ℕ → A → Type 0) (o : Option (List A)) (at : ℕ) (x : A) (qs : List (List A)) → slice_get qs at ≡ o →
    AllNumbered (λ k. All (P k)) qs → P at x → AllNumbered (λ k. All (P k)) (put_to o at x qs)
put_to_numbered P None at x qs e h g = h
put_to_numbered P (Some q) at x qs e h g =
    numbered_set (λ k. All (P k)) qs at (q ++ x ∷ []) h (All-push (P at) q x (h at q e) g)

pub put_at_numbered : {A : Type 0} (P : ℕ → A → Type 0) (at : ℕ) (x : A) (qs : List (List A)) → AllNumbered (λ k. All (P k)) qs → P at x →
    AllNumbered (λ k. All (P k)) (put_at at x qs)
put_at_numbered P at x qs h g = put_to_numbered P (slice_get qs at) at x qs refl h g

put_to_all : {A : Type 0} (P : A → Type 0) (o : Option (List A)) (at : ℕ) (x : A) (qs : List (List A)) → slice_get qs at ≡ o →
    All (All P) qs → P x → All (All P) (put_to o at x qs)
put_to_all P None at x qs e h g = h
put_to_all P (Some q) at x qs e h g =
    All-set (All P) qs at (q ++ x ∷ []) (All-push P q x (all_at (All P) qs at q h e) g) h

pub put_at_all : {A : Type 0} (P : A → Type 0) (at : ℕ) (x : A) (qs : List (List A)) → All (All P) qs → P x → All (All P) (put_at at x qs)
put_at_all P at x qs h g = put_to_all P (slice_get qs at) at x qs refl h g

-- ---- the oldest item of one queue of several

-- of what holds of all items, the one that was taken, and those that are left
pub record Took {A : Type 0} (P : ℕ → A → Type 0) (at : ℕ) (x : A) (qs rest : List (List A)) : Type 0 where
  pub item : P at x
  pub left : AllNumbered (λ k. All (P k)) rest
  pub count : length rest ≡ length qs

took_of : {A : Type 0} (P : ℕ → A → Type 0) (o : Option (List A)) (at : ℕ) (x : A) (qs rest : List (List A)) → slice_get qs at ≡ o →
    AllNumbered (λ k. All (P k)) qs → taken_of o at qs ≡ Some (x, rest) → Took P at x qs rest
took_of P None at x qs rest e h t = cc
took_of P (Some []) at x qs rest e h t = cc
took_of P (Some (y ∷ ys)) at x qs rest e h t =
    let all = h at (y ∷ ys) e in
    let same = some_pair_parts y x (slice_set qs at ys) rest t in
    record {
      item = subst (P at) same.0 (All-head (P at) y ys all);
      left =
          subst (AllNumbered (λ k. All (P k))) same.1 (numbered_set (λ k. All (P k)) qs at ys h (All-tail (P at) y ys all));
      count = subst (λ kept. length kept ≡ length qs) same.1 (length-set qs at ys);
    }

pub took_at : {A : Type 0} (P : ℕ → A → Type 0) (at : ℕ) (x : A) (qs rest : List (List A)) → AllNumbered (λ k. All (P k)) qs →
    taken_at at qs ≡ Some (x, rest) → Took P at x qs rest
took_at P at x qs rest h t = took_of P (slice_get qs at) at x qs rest refl h t

-- ---- between what holds of all items and what holds of them at their places

pub numbered_from_all : {A : Type 0} (P : A → Type 0) (xs : List A) → All P xs → AllNumbered (λ k. P) xs
numbered_from_all P xs h k x e = all_at P xs k x h e

pub all_from_numbered : {A : Type 0} (P : A → Type 0) (xs : List A) → AllNumbered (λ k. P) xs → All P xs
all_from_numbered P xs h k d l = h k (get_or xs k d) (slice_get-get_or xs k d l)

-- ---- tests

-- a test before what may be there
pub tested : {A : Type 0} (b : Bool) (o : Option A) (x : A) → cond b o None ≡ Some x → o ≡ Some x
tested true o x h = h
tested false o x h = cc
