-- The places of variables in lists, as tables know them.
use Rattle.std.proofs.Common.{◌≡◌, refl, sym, ap, ◌∙◌, subst, ℕ, suc, ◌+◌, ◌-◌, ◌<◌, ◌==◌, Bool, true, false, ◌||◌, nat_lt, if◌then◌else◌, List, [], ◌∷◌, length, get_or, set, drop, drop-cons, replicate, slice_get, Some, ◌≢◌, arith}
use Rattle.std.proofs.Math.Seq.{drop-length}
use Rattle.std.proofs.lemmas.Bool.{eqb-true, eq-eqb, true≢false, lt-ltb, le-ltb, ltb-true, ltb-false}
use Rattle.std.proofs.lemmas.List.{get_or-replicate, get_or-set_same, get_or-set_other, length-set, length-replicate}
use Rattle.std.proofs.lemmas.Option.{slice_get_within, slice_get-get_or, get_or_from_slice_get}
use Rattle.ec_simple.specs.Statements.{index}
use Rattle.ec_simple.specs.Uses.{member}

-- ---- tables

abbrev pub Tells : List ℕ → (ℕ → ℕ) → Type 0
Tells table f = (x n : ℕ) → slice_get table x ≡ Some n → n ≡ f x

-- all the same
pub alike : (count n : ℕ) → Tells (replicate count n) (λ x. n)
alike count n x m h =
    let inside = slice_get_within (replicate count n) x m h in
    sym (get_or_from_slice_get (replicate count n) x m 0 h)
    ∙ get_or-replicate count x n 0 (subst (λ k. x < k) (length-replicate count n) inside)

-- no place is noted yet
pub none_noted : (table own : List ℕ) (count n : ℕ) → table ≡ replicate count n → n ≡ length own → Tells table (λ x. (length own - 0) + index (drop (length own - 0) own) x)
none_noted table own count n t e x m h =
    let all : length own - 0 ≡ length own = omega arith in
    let rest : drop (length own - 0) own ≡ [] = ap (λ k. drop k own) all ∙ drop-length own in
    let none : index (drop (length own - 0) own) x ≡ 0 = ap (λ l. index l x) rest in
    let is : m ≡ n = alike count n x m (subst (λ l. slice_get l x ≡ Some m) t h) in
    omega (arith, none, is, e)

one_noted :
    (table own : List ℕ) (y k : ℕ) → y < length table →
    Tells table (λ x. suc k + index own x) → Tells (set table y k) (λ x. k + index (y ∷ own) x)
one_noted table own y k inside tells x m h = go (y == x) refl
  where
    within : x < length table
    within = subst (λ n. x < n) (length-set table y k) (slice_get_within (set table y k) x m h)

    is : get_or (set table y k) x 0 ≡ m
    is = get_or_from_slice_get (set table y k) x m 0 h

    go : (b : Bool) → (y == x) ≡ b → m ≡ k + (if b then 0 else suc (index own x))
    go true e =
        let same : x ≡ y = sym (eqb-true y x e) in
        let here : m ≡ k = sym is ∙ ap (λ z. get_or (set table y k) z 0) same ∙ get_or-set_same table y k 0 inside in
        omega (arith, here)
    go false e =
        let apart : x ≢ y = λ s. true≢false (sym (eq-eqb y x (sym s)) ∙ e) in
        let was : m ≡ get_or table x 0 = sym is ∙ get_or-set_other table y x k 0 apart in
        let told : get_or table x 0 ≡ suc k + index own x = tells x (get_or table x 0) (slice_get-get_or table x 0 within) in
        omega (arith, was, told)

-- ---- among

one_less : (a b : ℕ) → nat_lt a b ≡ nat_lt (suc a) (suc b)
one_less a b = go (nat_lt a b) refl
  where
    go : (r : Bool) → nat_lt a b ≡ r → nat_lt a b ≡ nat_lt (suc a) (suc b)
    go true e = e ∙ sym (lt-ltb (suc a) (suc b) (omega (arith, ltb-true a b e)))
    go false e = e ∙ sym (le-ltb (suc a) (suc b) (omega (arith, ltb-false a b e)))

pub among : (xs : List ℕ) (x : ℕ) → member x xs ≡ nat_lt (index xs x) (length xs)
among [] x = refl
among (y ∷ ys) x = go (y == x) (among ys x)
  where
    go :
        (b : Bool) → member x ys ≡ nat_lt (index ys x) (length ys) →
        (b || member x ys) ≡ nat_lt (if b then 0 else suc (index ys x)) (suc (length ys))
    go true h = sym (lt-ltb 0 (suc (length ys)) (omega arith))
    go false h = h ∙ one_less (index ys x) (length ys)

-- the next one from behind
pub noted_before :
    (table new own : List ℕ) (i y m : ℕ) → i < length own → y ≡ get_or own (length own - 1 - i) 0 → y < length table → m ≡ length own - 1 - i
    → new ≡ set table y m → Tells table (λ x. (length own - i) + index (drop (length own - i) own) x)
    → Tells new (λ x. (length own - (i + 1)) + index (drop (length own - (i + 1)) own) x)
noted_before table new own i y m inside is within e set_is h x n found =
    let k = length own - 1 - i in
    let a : length own - i ≡ suc k = omega (arith, inside) in
    let b : length own - (i + 1) ≡ k = omega (arith, inside) in
    let d = drop-cons own k 0 (omega (arith, inside)) in
    let before : Tells table (λ z. suc k + index (drop (suc k) own) z) =
    λ z j g. h z j g ∙ ap (λ j. j + index (drop j own) z) a in
    let here : slice_get (set table y k) x ≡ Some n =
    subst (λ t. slice_get t x ≡ Some n) (set_is ∙ ap (set table y) e) found in
    one_noted table (drop (suc k) own) y k within before x n here
    ∙ ap (λ l. k + index l x) (ap (λ z. z ∷ drop (suc k) own) is ∙ sym d)
    ∙ ap (λ j. j + index (drop j own) x) (sym b)
