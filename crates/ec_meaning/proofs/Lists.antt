-- Lists from behind.
use Rattle.std.proofs.Common.{◌≡◌, refl, sym, ap, ◌∙◌, ℕ, zero, suc, add-one, ◌+◌, ◌-◌, ◌≤◌, ◌<◌, List, [], ◌∷◌, ◌++◌, length, take, drop, reverse, map, inl, inr, arith}
use Rattle.std.proofs.lemmas.Bool.{cases_lt}
use Rattle.std.proofs.lemmas.List.{take-append-le, drop-append-le, take_all, drop_all, reverse-append, length-reverse, length-drop, reverse-reverse, take-append-drop, append_assoc, append-nil, map-append, take-map}
use Rattle.std.specs.List.{repeat}
use Rattle.ec_types.specs.Meaning.Memory.{repeated}
use Rattle.ec_types.specs.Meaning.Values.{Val}

-- a list from behind, cut where so many are left
reverse_cut : {A : Type 0} (xs : List A) (k : ℕ) → reverse xs ≡ reverse (drop k xs) ++ reverse (take k xs)
reverse_cut xs k = ap reverse (sym (take-append-drop k xs)) ∙ reverse-append (take k xs) (drop k xs)

length_cut : {A : Type 0} (xs : List A) (n : ℕ) → n ≤ length xs → length (reverse (drop (length xs - n) xs)) ≡ n
length_cut xs n h = length-reverse (drop (length xs - n) xs) ∙ length-drop (length xs - n) xs ∙ omega arith

pub take-reverse : {A : Type 0} (xs : List A) (n : ℕ) → take n (reverse xs) ≡ reverse (drop (length xs - n) xs)
take-reverse xs n = elim (cases_lt (length xs) n) [ inl h ↦ past h | inr h ↦ within h ]
  where
    past : length xs < n → take n (reverse xs) ≡ reverse (drop (length xs - n) xs)
    past h =
        let none : length xs - n ≡ 0 = omega arith in
        rw none (take_all n (reverse xs) (omega (arith, length-reverse xs)))

    within : n ≤ length xs → take n (reverse xs) ≡ reverse (drop (length xs - n) xs)
    within h =
        let front = reverse (drop (length xs - n) xs) in
        let long : length front ≡ n = length_cut xs n h in
        ap (take n) (reverse_cut xs (length xs - n))
        ∙ take-append-le n front (reverse (take (length xs - n) xs)) (omega arith)
        ∙ take_all n front (omega arith)

pub drop-reverse : {A : Type 0} (xs : List A) (n : ℕ) → drop n (reverse xs) ≡ reverse (take (length xs - n) xs)
drop-reverse xs n = elim (cases_lt (length xs) n) [ inl h ↦ past h | inr h ↦ within h ]
  where
    past : length xs < n → drop n (reverse xs) ≡ reverse (take (length xs - n) xs)
    past h =
        let none : length xs - n ≡ 0 = omega arith in
        rw none (drop_all n (reverse xs) (omega (arith, length-reverse xs)))

    within : n ≤ length xs → drop n (reverse xs) ≡ reverse (take (length xs - n) xs)
    within h =
        let front = reverse (drop (length xs - n) xs) in
        let long : length front ≡ n = length_cut xs n h in
        ap (drop n) (reverse_cut xs (length xs - n))
        ∙ drop-append-le n front (reverse (take (length xs - n) xs)) (omega arith)
        ∙ ap (λ ys. ys ++ reverse (take (length xs - n) xs)) (drop_all n front (omega arith))

pub taken_last :
    {A : Type 0} (xs ys : List A) (left n : ℕ) → left ≡ length xs - n → ys ≡ reverse xs → drop left xs ≡ reverse (take n ys)
taken_last xs ys left n cut seen =
    rw (cut, seen, take-reverse xs n, reverse-reverse (drop (length xs - n) xs)) refl

pub left_last :
    {A : Type 0} (xs ys : List A) (left n : ℕ) → left ≡ length xs - n → ys ≡ reverse xs → reverse (take left xs) ≡ drop n ys
left_last xs ys left n cut seen = rw (cut, seen, drop-reverse xs n) refl

-- what is taken from behind, seen by f
pub map-reverse : {A B : Type 0} (f : A → B) (xs : List A) → reverse (map f xs) ≡ map f (reverse xs)
map-reverse f [] = refl
map-reverse f (x ∷ xs) =
    reverse-append (f x ∷ []) (map f xs)
    ∙ ap (λ ys. ys ++ f x ∷ []) (map-reverse f xs)
    ∙ sym (ap (map f) (reverse-append (x ∷ []) xs) ∙ map-append f (reverse xs) (x ∷ []))

pub map-taken : {A B : Type 0} (f : A → B) (xs : List A) (n : ℕ) → map f (reverse (take n xs)) ≡ reverse (take n (map f xs))
map-taken f xs n = sym (map-reverse f (take n xs)) ∙ ap reverse (sym (take-map f n xs))

-- ---- a list several times

repeat_suc : {A : Type 0} (n : ℕ) (xs : List A) → repeat (suc n) xs ≡ repeat n xs ++ xs
repeat_suc zero xs = append-nil xs
repeat_suc (suc n) xs = ap (λ ys. xs ++ ys) (repeat_suc n xs) ∙ sym (append_assoc xs (repeat n xs) xs)

pub repeat_more : {A : Type 0} (n : ℕ) (xs : List A) → repeat (n + 1) xs ≡ repeat n xs ++ xs
repeat_more n xs = rw add-one (repeat_suc n xs)

pub repeat_none : {A B : Type 0} (f : A → B) (n : ℕ) (xs : List A) → length xs ≡ 0 → repeat n (map f xs) ≡ []
repeat_none f zero xs h = refl
repeat_none f (suc n) [] h = repeat_none f n [] h
repeat_none f (suc n) (x ∷ xs) h = absurd (omega arith)

pub map-repeat : {A : Type 0} (f : A → Val) (n : ℕ) (xs : List A) → map f (repeat n xs) ≡ repeated n (map f xs)
map-repeat f zero xs = refl
map-repeat f (suc n) xs = map-append f xs (repeat n xs) ∙ ap (λ ys. map f xs ++ ys) (map-repeat f n xs)
