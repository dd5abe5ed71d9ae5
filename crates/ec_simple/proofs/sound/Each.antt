-- What holds of each item of a list.
use Rattle.std.proofs.Common.{◌≡◌, refl, subst, Bool, true, false, if◌then◌else◌, List, [], ◌∷◌, ◌++◌, find, Option, Some}
use Rattle.std.proofs.lemmas.Option.{none-some}

abbrev pub Each : {A : Type 0} → (A → Type 0) → List A → Type 0
Each P [] = Unit {0}
Each P (x ∷ xs) = P x × Each P xs

pub each_append : {A : Type 0} (P : A → Type 0) (xs ys : List A) → Each P xs → Each P ys → Each P (xs ++ ys)
each_append P [] ys h k = k
each_append P (x ∷ xs) ys h k = (h.0, each_append P xs ys h.1 k)

pub each_front : {A : Type 0} (P : A → Type 0) (xs ys : List A) → Each P (xs ++ ys) → Each P xs
each_front P [] ys h = tt
each_front P (x ∷ xs) ys h = (h.0, each_front P xs ys h.1)

pub each_back : {A : Type 0} (P : A → Type 0) (xs ys : List A) → Each P (xs ++ ys) → Each P ys
each_back P [] ys h = h
each_back P (x ∷ xs) ys h = each_back P xs ys h.1

pub each_so : {A : Type 0} (P Q : A → Type 0) → ((x : A) → P x → Q x) → (xs : List A) → Each P xs → Each Q xs
each_so P Q f [] h = tt
each_so P Q f (x ∷ xs) h = (f x h.0, each_so P Q f xs h.1)

-- ---- the first that passes a test

pub record Found {A : Type 0} (P : A → Type 0) (test : A → Bool) (x : A) : Type 0 where
  pub holds : P x
  pub passes : test x ≡ true

found_by :
    {A : Type 0} (P : A → Type 0) (test : A → Bool) (y x : A) (o : Option A) (b : Bool) → test y ≡ b → P y →
    (o ≡ Some x → Found P test x) → (if b then Some y else o) ≡ Some x → Found P test x
found_by P test y x o true e p later h =
    let same : y ≡ x = cc in
    subst (Found P test) same (record { holds = p; passes = e })
found_by P test y x o false e p later h = later h

pub each_found :
    {A : Type 0} (P : A → Type 0) (test : A → Bool) (xs : List A) (x : A) → Each P xs → find test xs ≡ Some x →
    Found P test x
each_found P test [] x h e = absurd (none-some x e)
each_found P test (y ∷ ys) x h e = found_by P test y x (find test ys) (test y) refl h.0 (each_found P test ys x h.1) e
