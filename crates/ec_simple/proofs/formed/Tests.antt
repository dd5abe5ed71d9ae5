-- Tests that pass: of two parts, of lists, and of kinds.
use Rattle.std.proofs.Common.{◌≡◌, refl, ◌∙◌, ℕ, Bool, true, false, ◌&&◌, ◌||◌, List, [], ◌∷◌, ◌++◌, map}
use Rattle.std.proofs.lemmas.List.Folds.{list_all-append}
use Rattle.std.specs.List.{list_all}
use Rattle.ec_simple.specs.Formed.{Kind, alike, all_alike}
use Rattle.ec_simple.specs.Sound.{IsIn}
use Rattle.ec_simple.proofs.formed.Code.{both_true}
use Rattle.ec_simple.proofs.lockstep.Variables.{in_head, in_tail}

pub three : (x y z : Bool) → x ≡ true → y ≡ true → z ≡ true → (x && y && z) ≡ true
three x y z h i j = both_true (x && y) z (both_true x y h i) j

pub four : (w x y z : Bool) → w ≡ true → x ≡ true → y ≡ true → z ≡ true → (w && x && y && z) ≡ true
four w x y z h i j k = both_true (w && x && y) z (three w x y h i j) k

pub or_right : (x y : Bool) → y ≡ true → (x || y) ≡ true
or_right true y h = refl
or_right false y h = h

-- ---- lists

pub all_both : {A : Type 0} (test : A → Bool) (xs ys : List A) → list_all test xs ≡ true → list_all test ys ≡ true →
    list_all test (xs ++ ys) ≡ true
all_both test xs ys h i = list_all-append test xs ys ∙ both_true (list_all test xs) (list_all test ys) h i

pub all_one : {A : Type 0} (test : A → Bool) (x : A) → test x ≡ true → list_all test (x ∷ []) ≡ true
all_one test x h = both_true (test x) true h refl

-- numbers of a list
pub all_in : {A : Type 0} (test : A → Bool) (f : ℕ → A) (xs : List ℕ) → ((x : ℕ) → IsIn x xs → test (f x) ≡ true) →
    list_all test (map f xs) ≡ true
all_in test f [] h = refl
all_in test f (x ∷ xs) h =
    both_true (test (f x)) (list_all test (map f xs)) (h x (in_head x x xs refl))
    (all_in test f xs (λ y i. h y (in_tail y x xs i)))

-- ---- kinds

-- a list of variables by its numbers on two sides
pub alike_in : (f g : ℕ → Kind) (p q : ℕ → ℕ) (xs : List ℕ) → ((x : ℕ) → IsIn x xs → alike (f (p x)) (g (q x)) ≡ true) →
    all_alike (map f (map p xs)) (map g (map q xs)) ≡ true
alike_in f g p q [] h = refl
alike_in f g p q (x ∷ xs) h =
    both_true (alike (f (p x)) (g (q x))) (all_alike (map f (map p xs)) (map g (map q xs))) (h x (in_head x x xs refl))
    (alike_in f g p q xs (λ y i. h y (in_tail y x xs i)))
