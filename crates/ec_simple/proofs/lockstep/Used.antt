-- Which variables are in lists of occurrences, outside a part, and among the numbers below a bound.
use Rattle.std.proofs.Common.{◌≡◌, refl, sym, ap, ◌∙◌, subst, ℕ, zero, suc, ◌+◌, ◌≤◌, ◌<◌, ◌⊎◌, inl, inr, ⊎_elim, Bool, true, false, not, cond, List, [], ◌∷◌, ◌++◌, map, filter, arith, true≢false}
use Rattle.std.specs.List.{range_with_len}
use Rattle.ec_simple.specs.Sound.{IsIn, IsNew}
use Rattle.ec_simple.specs.Uses.{Use, member, outside, numbers_below}
use Rattle.ec_simple.proofs.lockstep.Variables.{same_or_not, in_head, in_tail, head_or_tail}

abbrev pub names : List Use → List ℕ
names us = map (λ u. u.var) us

abbrev pub IsUsed : ℕ → List Use → Type 0
IsUsed x us = IsIn x (names us)

-- none is in an empty list
pub nowhere : {A : Type 0} → false ≡ true → A
nowhere h = absurd (true≢false (sym h))

pub used_front : (x : ℕ) (us ws : List Use) → IsUsed x us → IsUsed x (us ++ ws)
used_front x [] ws h = nowhere h
used_front x (u ∷ us) ws h =
    ⊎_elim (λ e. in_head x u.var (names (us ++ ws)) e) (λ i. in_tail x u.var (names (us ++ ws)) (used_front x us ws i))
    (head_or_tail x u.var (names us) h)

pub used_back : (x : ℕ) (us ws : List Use) → IsUsed x ws → IsUsed x (us ++ ws)
used_back x [] ws h = h
used_back x (u ∷ us) ws h = in_tail x u.var (names (us ++ ws)) (used_back x us ws h)

pub used_either : (x : ℕ) (us ws : List Use) → IsUsed x (us ++ ws) → IsUsed x us ⊎ IsUsed x ws
used_either x [] ws h = inr h
used_either x (u ∷ us) ws h =
    ⊎_elim (λ e. inl (in_head x u.var (names us) e))
    (λ i. ⊎_elim (λ j. inl (in_tail x u.var (names us) j)) (λ j. inr j) (used_either x us ws i))
    (head_or_tail x u.var (names (us ++ ws)) h)

-- ---- filters

in_filter : (p : ℕ → Bool) (x : ℕ) (xs : List ℕ) → IsIn x xs → p x ≡ true → IsIn x (filter p xs)
in_filter p x [] h e = h
in_filter p x (y ∷ xs) h e = go (p y) refl (head_or_tail x y xs h) (λ i. in_filter p x xs i e)
  where
    go : (b : Bool) → p y ≡ b → (y ≡ x) ⊎ IsIn x xs → (IsIn x xs → IsIn x (filter p xs)) →
        IsIn x (cond b (y ∷ filter p xs) (filter p xs))
    go true q (inl i) more = in_head x y (filter p xs) i
    go true q (inr i) more = in_tail x y (filter p xs) (more i)
    go false q (inl i) more = absurd (true≢false (sym e ∙ (ap p (sym i) ∙ q)))
    go false q (inr i) more = more i

filter_in : (p : ℕ → Bool) (x : ℕ) (xs : List ℕ) → IsIn x (filter p xs) → IsIn x xs × (p x ≡ true)
filter_in p x [] h = nowhere h
filter_in p x (y ∷ xs) h = go (p y) refl h (filter_in p x xs)
  where
    go : (b : Bool) → p y ≡ b → IsIn x (cond b (y ∷ filter p xs) (filter p xs)) →
        (IsIn x (filter p xs) → IsIn x xs × (p x ≡ true)) → IsIn x (y ∷ xs) × (p x ≡ true)
    go true q h more =
        ⊎_elim (λ e. (in_head x y xs e, ap p (sym e) ∙ q)) (λ i. let r = more i in (in_tail x y xs r.0, r.1))
        (head_or_tail x y (filter p xs) h)
    go false q h more = let r = more h in (in_tail x y xs r.0, r.1)

-- ---- what a part doesn't declare itself

pub outside_used : (own : List ℕ) (us : List Use) (x : ℕ) → IsUsed x (outside own us) → IsUsed x us × IsNew x own
outside_used own [] x h = nowhere h
outside_used own (u ∷ us) x h = go (member u.var own) refl h (outside_used own us x)
  where
    go : (b : Bool) → member u.var own ≡ b → IsUsed x (cond (not b) (u ∷ outside own us) (outside own us)) →
        (IsUsed x (outside own us) → IsUsed x us × IsNew x own) →
        IsUsed x (u ∷ us) × IsNew x own
    go true q h more = let r = more h in (in_tail x u.var (names us) r.0, r.1)
    go false q h more =
        ⊎_elim (λ e. (in_head x u.var (names us) e, subst (λ z. IsNew z own) e q))
        (λ i. let r = more i in (in_tail x u.var (names us) r.0, r.1))
        (head_or_tail x u.var (names (outside own us)) h)

pub in_outside : (own : List ℕ) (us : List Use) (x : ℕ) → IsUsed x us → IsNew x own → IsUsed x (outside own us)
in_outside own [] x h n = h
in_outside own (u ∷ us) x h n =
    go (member u.var own) refl (head_or_tail x u.var (names us) h) (λ i. in_outside own us x i n)
  where
    go : (b : Bool) → member u.var own ≡ b → (u.var ≡ x) ⊎ IsUsed x us → (IsUsed x us → IsUsed x (outside own us)) →
        IsUsed x (cond (not b) (u ∷ outside own us) (outside own us))
    go true q (inl e) more = absurd (true≢false (sym q ∙ (ap (λ z. member z own) e ∙ n)))
    go true q (inr i) more = more i
    go false q (inl e) more = in_head x u.var (names (outside own us)) e
    go false q (inr i) more = in_tail x u.var (names (outside own us)) (more i)

-- ---- numbers below a bound

in_range : (a n x : ℕ) → a ≤ x → x < a + n → IsIn x (range_with_len a n)
in_range a zero x h l = absurd (omega (arith, h, l))
in_range a (suc n) x h l =
    ⊎_elim (λ e. in_head x a (range_with_len (a + 1) n) e)
    (λ d. in_tail x a (range_with_len (a + 1) n) (in_range (a + 1) n x (omega (arith, h, d)) (omega (arith, l))))
    (same_or_not a x)

pub in_numbers : (n : ℕ) (us : List Use) (x : ℕ) → x < n → IsUsed x us → IsIn x (numbers_below n us)
in_numbers n us x l h = in_filter (λ y. member y (names us)) x (range_with_len 0 n)
    (in_range 0 n x (omega arith) (omega (arith, l))) h

pub numbers_used : (n : ℕ) (us : List Use) (x : ℕ) → IsIn x (numbers_below n us) → IsUsed x us
numbers_used n us x h = (filter_in (λ y. member y (names us)) x (range_with_len 0 n) h).1
