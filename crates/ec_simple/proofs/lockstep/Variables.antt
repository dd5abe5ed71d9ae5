-- Variables by name and by number: which are in a list, their places in it, and copies.
use Rattle.std.proofs.Common.{◌≡◌, ◌≢◌, refl, sym, ap, ◌∙◌, subst, ℕ, suc, ◌≤◌, ◌<◌, ◌⊎◌, inl, inr, ⊎_elim, Bool, true, false, ◌||◌, ◌==◌, if◌then◌else◌, List, [], ◌∷◌, ◌++◌, map, length, arith, true-eqb, eq-eqb, true≢false}
use Rattle.ec_simple.specs.Sound.{IsIn, IsNew}
use Rattle.ec_simple.specs.Statements.{index}
use Rattle.ec_simple.specs.Uses.{member}
use Rattle.ec_simple.proofs.lockstep.Alike.{set_here, set_other}
use Rattle.ec_types.specs.Meaning.State.{Vars, set, set_all}
use Rattle.ec_types.specs.Meaning.Values.{Val}

pub same_or_not : (x y : ℕ) → (x ≡ y) ⊎ (x ≢ y)
same_or_not x y = go (x == y) refl
  where
    go : (b : Bool) → (x == y) ≡ b → (x ≡ y) ⊎ (x ≢ y)
    go true e = inl (true-eqb x y (sym e))
    go false e = inr (λ s. true≢false (sym (eq-eqb x y s) ∙ e))

-- ---- in a list

pub in_head : (x y : ℕ) (ys : List ℕ) → y ≡ x → IsIn x (y ∷ ys)
in_head x y ys e = rw (eq-eqb y x e) refl

pub in_tail : (x y : ℕ) (ys : List ℕ) → IsIn x ys → IsIn x (y ∷ ys)
in_tail x y ys h = go (y == x)
  where
    go : (b : Bool) → (b || member x ys) ≡ true
    go true = refl
    go false = h

pub head_or_tail : (x y : ℕ) (ys : List ℕ) → IsIn x (y ∷ ys) → (y ≡ x) ⊎ IsIn x ys
head_or_tail x y ys = go (y == x) refl
  where
    go : (b : Bool) → (y == x) ≡ b → (b || member x ys) ≡ true → (y ≡ x) ⊎ IsIn x ys
    go true e h = inl (true-eqb y x (sym e))
    go false e h = inr h

pub in_or_new : (x : ℕ) (xs : List ℕ) → IsIn x xs ⊎ IsNew x xs
in_or_new x xs = go (member x xs) refl
  where
    go : (b : Bool) → member x xs ≡ b → IsIn x xs ⊎ IsNew x xs
    go true e = inl e
    go false e = inr e

pub not_both : (x : ℕ) (xs : List ℕ) → IsIn x xs → IsNew x xs → ⊥
not_both x xs h n = true≢false (sym h ∙ n)

-- one that is not in a list is not one that is
pub other : (x y : ℕ) (xs : List ℕ) → IsIn x xs → IsNew y xs → x ≢ y
other x y xs h n e = not_both y xs (subst (λ z. IsIn z xs) e h) n

pub new_of : (x : ℕ) (xs : List ℕ) → (IsIn x xs → ⊥) → IsNew x xs
new_of x xs h = ⊎_elim (λ i. absurd (h i)) (λ n. n) (in_or_new x xs)

pub in_front : (x : ℕ) (xs ys : List ℕ) → IsIn x xs → IsIn x (xs ++ ys)
in_front x [] ys h = absurd (true≢false (sym h))
in_front x (y ∷ xs) ys h =
    ⊎_elim (λ e. in_head x y (xs ++ ys) e) (λ i. in_tail x y (xs ++ ys) (in_front x xs ys i)) (head_or_tail x y xs h)

pub in_back : (x : ℕ) (xs ys : List ℕ) → IsIn x ys → IsIn x (xs ++ ys)
in_back x [] ys h = h
in_back x (y ∷ xs) ys h = in_tail x y (xs ++ ys) (in_back x xs ys h)

pub in_either : (x : ℕ) (xs ys : List ℕ) → IsIn x (xs ++ ys) → IsIn x xs ⊎ IsIn x ys
in_either x [] ys h = inr h
in_either x (y ∷ xs) ys h =
    ⊎_elim (λ e. inl (in_head x y xs e))
    (λ i. ⊎_elim (λ j. inl (in_tail x y xs j)) (λ j. inr j) (in_either x xs ys i))
    (head_or_tail x y (xs ++ ys) h)

abbrev pub Within : List ℕ → List ℕ → Type 0
Within xs ys = (x : ℕ) → IsIn x xs → IsIn x ys

-- ---- numbers of variables

-- the variables in scope, each with one number below v
pub record Numbers (place : ℕ → ℕ) (scope : List ℕ) (v : ℕ) : Type 0 where
  pub below : (x : ℕ) → IsIn x scope → place x < v
  pub apart : (x y : ℕ) → IsIn x scope → IsIn y scope → place x ≡ place y → x ≡ y

pub fewer : (place : ℕ → ℕ) (xs ys : List ℕ) (v : ℕ) → Within xs ys → Numbers place ys v → Numbers place xs v
fewer place xs ys v h n = record { below = λ x i. n.below x (h x i); apart = λ x y i j. n.apart x y (h x i) (h y j) }

-- what is in scope in the meaning has the simple form's values
abbrev pub Agrees : (ℕ → ℕ) → List ℕ → Vars → Vars → Type 0
Agrees place scope vs us = (x : ℕ) → IsIn x scope → vs x ≡ us (place x)

-- those below t are as they were
abbrev pub Keeps : ℕ → Vars → Vars → Type 0
Keeps t us ws = (y : ℕ) → y < t → ws y ≡ us y

pub keeps_less : (t u : ℕ) (us ws : Vars) → t ≤ u → Keeps u us ws → Keeps t us ws
keeps_less t u us ws h k y l = k y (omega (arith, h, l))

pub keeps_both : (t : ℕ) (us ws xs : Vars) → Keeps t us ws → Keeps t ws xs → Keeps t us xs
keeps_both t us ws xs h k y l = k y l ∙ h y l

pub keeps_set : (t x : ℕ) (v : Val) (us : Vars) → t ≤ x → Keeps t us (set x v us)
keeps_set t x v us h y l = set_other x y v us (λ e. omega (arith, e, h, l))

pub agrees_kept : (place : ℕ → ℕ) (scope : List ℕ) (v t : ℕ) (vs us ws : Vars) → Numbers place scope v → v ≤ t →
    Agrees place scope vs us → Keeps t us ws → Agrees place scope vs ws
agrees_kept place scope v t vs us ws n h g k x i = let b = n.below x i in g x i ∙ sym (k (place x) (omega (arith, b, h)))

-- a variable is set on both sides
pub agrees_set : (place : ℕ → ℕ) (scope : List ℕ) (v x : ℕ) (w : Val) (vs us : Vars) → Numbers place scope v →
    IsIn x scope → Agrees place scope vs us → Agrees place scope (set x w vs) (set (place x) w us)
agrees_set place scope v x w vs us n h g y i = go (same_or_not y x)
  where
    go : (y ≡ x) ⊎ (y ≢ x) → set x w vs y ≡ set (place x) w us (place y)
    go (inl e) =
        ap (set x w vs) e ∙ (set_here x w vs ∙ sym (ap (λ z. set (place x) w us (place z)) e ∙ set_here (place x) w us))
    go (inr d) =
        set_other x y w vs d ∙ (g y i ∙ sym (set_other (place x) (place y) w us (λ e. d (n.apart y x i h e))))

-- ---- places in a list

pub index_below : (xs : List ℕ) (x : ℕ) → IsIn x xs → index xs x < length xs
index_below [] x h = absurd (true≢false (sym h))
index_below (y ∷ xs) x h = go (y == x) h (index_below xs x)
  where
    go : (b : Bool) → (b || member x xs) ≡ true → (IsIn x xs → index xs x < length xs) →
        (if b then 0 else suc (index xs x)) < suc (length xs)
    go true h more = omega arith
    go false h more = let r = more h in omega (arith, r)

pub index_apart : (xs : List ℕ) (x y : ℕ) → IsIn x xs → IsIn y xs → index xs x ≡ index xs y → x ≡ y
index_apart [] x y h i e = absurd (true≢false (sym h))
index_apart (z ∷ xs) x y h i e = go (z == x) (z == y) refl refl h i e (index_apart xs x y)
  where
    go : (a b : Bool) → (z == x) ≡ a → (z == y) ≡ b → (a || member x xs) ≡ true → (b || member y xs) ≡ true →
        (if a then 0 else suc (index xs x)) ≡ (if b then 0 else suc (index xs y)) →
        (IsIn x xs → IsIn y xs → index xs x ≡ index xs y → x ≡ y) → x ≡ y
    go true true p q h i e more = sym (true-eqb z x (sym p)) ∙ true-eqb z y (sym q)
    go true false p q h i e more = absurd (let f : 0 ≡ suc (index xs y) = e in omega (arith, f))
    go false true p q h i e more = absurd (let f : suc (index xs x) ≡ 0 = e in omega (arith, f))
    go false false p q h i e more = more h i (let f : suc (index xs x) ≡ suc (index xs y) = e in omega (arith, f))

pub index_numbers : (xs : List ℕ) → Numbers (index xs) xs (length xs)
index_numbers xs = record { below = index_below xs; apart = index_apart xs }

-- ---- copies

-- copies under numbers: each variable has its value, where one that is not copied had it before
pub copied : (place : ℕ → ℕ) (names : List ℕ) (v : ℕ) → Numbers place names v → (val : ℕ → Val) (xs : List ℕ) →
    Within xs names → (us : Vars) (x : ℕ) → IsIn x names →
    (IsNew x xs → us (place x) ≡ val x) → set_all (map place xs) (map val xs) us (place x) ≡ val x
copied place names v n val [] w us x i h = h refl
copied place names v n val (y ∷ xs) w us x i h =
    copied place names v n val xs (λ z j. w z (in_tail z y xs j)) (set (place y) (val y) us) x i (λ k. go k (same_or_not x y))
  where
    go : IsNew x xs → (x ≡ y) ⊎ (x ≢ y) → set (place y) (val y) us (place x) ≡ val x
    go k (inl e) = ap (λ z. set (place y) (val y) us (place z)) e ∙ (set_here (place y) (val y) us ∙ ap val (sym e))
    go k (inr d) =
        set_other (place y) (place x) (val y) us (λ e. d (n.apart x y i (w y (in_head y y xs refl)) e))
        ∙ h (new_of x (y ∷ xs) (λ j. ⊎_elim (λ e. d (sym e)) (λ m. not_both x xs m k) (head_or_tail x y xs j)))

-- and no other number changes
pub copied_apart : (place : ℕ → ℕ) (v : ℕ) (xs : List ℕ) → ((x : ℕ) → IsIn x xs → place x < v) →
    (vs : List Val) (us : Vars) (y : ℕ) → v ≤ y → set_all (map place xs) vs us y ≡ us y
copied_apart place v [] h vs us y k = refl
copied_apart place v (x ∷ xs) h [] us y k = refl
copied_apart place v (x ∷ xs) h (a ∷ vs) us y k =
    copied_apart place v xs (λ z i. h z (in_tail z x xs i)) vs (set (place x) a us) y k
    ∙ set_other (place x) y a us (λ e. let b = h x (in_head x x xs refl) in omega (arith, b, k, e))

pub map_same : (f g : ℕ → Val) (xs : List ℕ) → ((x : ℕ) → IsIn x xs → f x ≡ g x) → map f xs ≡ map g xs
map_same f g [] h = refl
map_same f g (x ∷ xs) h = let a = h x (in_head x x xs refl) in let b = map_same f g xs (λ y i. h y (in_tail y x xs i)) in cc

pub map_twice : (f : ℕ → Val) (g : ℕ → ℕ) (xs : List ℕ) → map f (map g xs) ≡ map (λ x. f (g x)) xs
map_twice f g [] = refl
map_twice f g (x ∷ xs) = ap (λ r. f (g x) ∷ r) (map_twice f g xs)
