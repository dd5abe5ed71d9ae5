-- Lists that grow, and walks along lists.
use Rattle.std.proofs.Common.{◌≡◌, ◌<◌, ◌≤◌, ◌+◌, ◌-◌, ℕ, ℤ, pos, zero, suc, List, [], ◌∷◌, ◌++◌, length, replicate, map, take, drop, get_or, refl, ap, sym, ◌∙◌, Option, Some, None, slice_get, slice_set, max, arith, append_assoc, append-nil, add-one, drop-cons}
use Rattle.std.proofs.lemmas.Option.{slice_get_within, get_or_from_slice_get}
use Rattle.ec_core.specs.Queues.{grown}
use Rattle.ec_core.specs.Slots.{Row, row_in}
use Rattle.ec_core.specs.State.{Exec}
use Rattle.ec_core.specs.Fiber.{put_all}
use Rattle.ec_base.specs.declared.value.Value.{Value}
use Rattle.ec_base.specs.declared.value.Value.TheVariants.{Int}
use Rattle.ec_core.specs.Run.{main_args}

-- ---- lists that grow

-- one item more of those that are to come
pub grow_more : {A : Type 0} (xs : List A) (z : A) (i n : ℕ) → i < n → (xs ++ z ∷ []) ++ replicate (n - (i + 1)) z ≡ xs ++ replicate (n - i) z
grow_more xs z i n h =
    let e : n - i ≡ suc (n - (i + 1)) = omega arith in rw e (append_assoc xs (z ∷ []) (replicate (n - (i + 1)) z))

pub grow_done : {A : Type 0} (xs : List A) (z : A) (i n : ℕ) → n ≤ i → xs ++ replicate (n - i) z ≡ xs
grow_done xs z i n h = let e : n - i ≡ 0 = omega arith in rw e (append-nil xs)

pub ruleset grows = (grow_more, grow_done, append-nil)

take_replicate : {A : Type 0} (n k : ℕ) (z : A) → n ≤ k → take n (replicate k z) ≡ replicate n z
take_replicate zero k z h = refl
take_replicate (suc n) zero z h = absurd (omega arith)
take_replicate (suc n) (suc k) z h = ap (λ ys. z ∷ ys) (take_replicate n k z (omega arith))

taken_filled : {A B : Type 0} (n k : ℕ) (f : A → B) (xs : List A) (z : B) → n ≤ k → take n (map f xs ++ replicate k z) ≡ grown n z (map f (take n xs))
taken_filled zero k f xs z h = refl
taken_filled (suc n) k f [] z h = let e : suc n - 0 ≡ suc n = omega arith in rw e (take_replicate (suc n) k z h)
taken_filled (suc n) k f (x ∷ xs) z h =
    let e : suc n - suc (length (map f (take n xs))) ≡ n - length (map f (take n xs)) = omega arith
    in rw e (ap (λ ys. f x ∷ ys) (taken_filled n k f xs z (omega arith)))

-- the arguments as they are made
pub args_grown : (n : ℕ) (xs : List ℤ) → main_args n xs ≡ grown n (Int (pos 0)) (map Int (take n xs))
args_grown n xs = taken_filled n n Int xs (Int (pos 0)) (omega arith)

-- ---- the row of a frame

get_replicate : {A : Type 0} (i k : ℕ) (z : A) → i < k → slice_get (replicate k z) i ≡ Some z
get_replicate i zero z h = absurd (omega arith)
get_replicate zero (suc k) z h = refl
get_replicate (suc i) (suc k) z h = get_replicate i k z (omega arith)

row_of_filled : (i k : ℕ) (rows : List Row) → i + 1 ≤ length rows + k → slice_get (rows ++ replicate k []) i ≡ Some (row_in (slice_get rows i))
row_of_filled i k [] h = get_replicate i k [] (omega arith)
row_of_filled zero k (row ∷ rows) h = refl
row_of_filled (suc i) k (row ∷ rows) h = row_of_filled i k rows (omega arith)

-- the row that is read in the grown rows
pub row_of_grown : (rows : List Row) (i : ℕ) (row : Row) → row ≡ get_or (grown (i + 1) [] rows) i row → row_in (slice_get rows i) ≡ row
row_of_grown rows i row h =
    sym (h ∙ get_or_from_slice_get (grown (i + 1) [] rows) i (row_in (slice_get rows i)) row (row_of_filled i (i + 1 - length rows) rows (omega arith)))

-- ---- walks

pub drop_get : {A : Type 0} (xs : List A) (i : ℕ) (x : A) → slice_get xs i ≡ Some x → drop i xs ≡ x ∷ drop (i + 1) xs
drop_get xs i x h =
    rw (add-one i, drop-cons xs i x (slice_get_within xs i x h), get_or_from_slice_get xs i x x h) refl

drop_past : {A : Type 0} (xs : List A) (i : ℕ) → length xs ≤ i → drop i xs ≡ []
drop_past [] zero h = refl
drop_past [] (suc i) h = refl
drop_past (x ∷ xs) zero h = absurd (omega arith)
drop_past (x ∷ xs) (suc i) h = drop_past xs i (omega arith)

-- nothing is put where the values have ended
pub put_none : (n : ℕ) (cs : List ℕ) (s : Exec) → put_all n cs [] s ≡ s
put_none n [] s = refl
put_none n (c ∷ cs) s = refl

pub put_past : (n : ℕ) (cs : List ℕ) (xs : List Value) (i : ℕ) (s : Exec) → length xs ≤ i → put_all n cs (drop i xs) s ≡ s
put_past n cs xs i s h = rw (drop_past xs i h) (put_none n cs s)

pub ruleset puts = (drop_get, put_past)

pub greatest : (a b c : ℕ) → max (max a b) c ≡ max a (max b c)
greatest a b c = omega arith
