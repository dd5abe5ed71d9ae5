-- The numbers of names.
use Rattle.std.proofs.Common.{◌≡◌, refl, sym, ◌∙◌, ap, ℕ, suc, ◌+◌, Bool, true, false, not, ◌||◌, List, [], ◌∷◌, ◌++◌, length, map, nat_eq, nat_lt, Vec, Global, Option, Some, None, position, option_map, if◌then◌else◌, cond, arith}
use Rattle.std.proofs.lemmas.Bool.Decides.{nat_tests}
use Rattle.std.specs.List.{position_or_len, list_any}
use Rattle.std.specs.Cmp.Lexicographic.{pointwise, nat_list_eq_equiv}
use Rattle.ec_syntax.specs.Grammar.Words.{same}
use Rattle.ec_calls.specs.Prints.{number}

abbrev Bytes : Type 0
Bytes = Vec ℕ Global

abbrev items_of : List Bytes → List (List ℕ)
items_of ks = map (λ (k : Bytes). k.items) ks

-- the test of a look-up
abbrev looks : List ℕ → Bytes → Bool
looks w k = pointwise nat_eq w k.items

one_later : (k n : ℕ)
    → option_map suc (cond (nat_lt k n) (Some k) None) ≡ cond (nat_lt (1 + k) (suc n)) (Some (1 + k)) None
one_later k n = grind (arith, nat_tests)

first_or_later : (b : Bool) (k n : ℕ)
    → (if b then Some 0 else option_map suc (cond (nat_lt k n) (Some k) None))
    ≡ cond (nat_lt (cond (not b) (1 + k) 0) (suc n)) (Some (cond (not b) (1 + k) 0)) None
first_or_later true k n = grind (arith, nat_tests)
first_or_later false k n = one_later k n

placed : (w : List ℕ) (ks : List Bytes) → number (items_of ks) w ≡ position (looks w) ks
placed w [] = refl
placed w (k ∷ ks) =
    ap (λ b. if b then Some 0 else option_map suc (number (items_of ks) w)) (nat_list_eq_equiv.symm k.items w)
    ∙ ap (λ o. if looks w k then Some 0 else option_map suc o) (placed w ks)
    ∙ first_or_later (looks w k) (position_or_len (looks w) ks) (length ks)

-- a look-up tells the number
pub placed_at : (ks : List Bytes) (names : List (List ℕ)) (text w : List ℕ) (r : Option ℕ) → items_of ks ≡ names
    → text ≡ w → r ≡ position (looks text) ks → r ≡ number names w
placed_at ks names text w r view is found =
    found ∙ sym (placed text ks) ∙ ap (λ n. number n text) view ∙ ap (number names) is

later_none : (o : Option ℕ) → option_map suc o ≡ None → o ≡ None
later_none None h = refl
later_none (Some n) h = cc

unlike : (w : List ℕ) (k : Bytes) (o : Option ℕ) (any : Bool)
    → (if same k.items w then Some 0 else option_map suc o) ≡ None → (o ≡ None → any ≡ false)
    → (looks w k || any) ≡ false
unlike w k o any none rest = by (same k.items w) refl
  where
    by : (b : Bool) → same k.items w ≡ b → (looks w k || any) ≡ false
    by true e = let h : ◌≡◌ {A = Option ℕ} (Some 0) None = sym (ap (λ b. if b then Some 0 else option_map suc o) e)
        ∙ none in cc
    by false e = ap (λ b. b || any) (nat_list_eq_equiv.symm w k.items ∙ e)
        ∙ rest (later_none o (sym (ap (λ b. if b then Some 0 else option_map suc o) e) ∙ none))

-- a name that has no number is none of them
none_same : (w : List ℕ) (ks : List Bytes) → number (items_of ks) w ≡ None → list_any (looks w) ks ≡ false
none_same w [] none = refl
none_same w (k ∷ ks) none = unlike w k (number (items_of ks) w) (list_any (looks w) ks) none (λ h. none_same w ks h)

items_more : (ks : List Bytes) (k : Bytes) → items_of (ks ++ k ∷ []) ≡ items_of ks ++ k.items ∷ []
items_more [] k = refl
items_more (x ∷ ks) k = ap (λ l. x.items ∷ l) (items_more ks k)

-- a name with no number goes last
pub declared : (ks : List Bytes) (after : List Bytes) (k : Bytes) (names : List (List ℕ)) (w : List ℕ)
    → items_of ks ≡ names → k.items ≡ w → number names w ≡ None →
    after ≡ (if list_any (looks k.items) ks then ks else ks ++ k ∷ []) → items_of after ≡ names ++ w ∷ []
declared ks after k names w view is none after_is =
    let fresh : list_any (looks k.items) ks ≡ false =
    none_same k.items ks (ap (λ n. number n k.items) view ∙ ap (number names) is ∙ none) in
    ap items_of (after_is ∙ ap (λ b. if b then ks else ks ++ k ∷ []) fresh) ∙ items_more ks k
    ∙ ap (λ n. n ++ k.items ∷ []) view ∙ ap (λ x. names ++ x ∷ []) is
