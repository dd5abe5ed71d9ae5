-- The variables of a hand as a table.
use Rattle.std.proofs.Common.{◌≡◌, ◌∙◌, ℕ, zero, suc, ◌<◌, ◌==◌, if◌then◌else◌, List, [], ◌∷◌, ◌++◌, map, length, get_or, slice_set, pos, refl, ap, arith}
use Rattle.std.proofs.Math.Path.{fun_ext}
use Rattle.std.proofs.lemmas.Grind.{common_steps}
use Rattle.std.proofs.lemmas.List.{map-append, map-set, length-map}
use Rattle.ec_types.specs.Meaning.Values.{zero_value}
use Rattle.ec_types.specs.Meaning.State.{set}
use Rattle.ec_meaning.specs.declared.value.Value.{Value}
use Rattle.ec_meaning.specs.declared.value.Value.TheVariants.{Int}
use Rattle.ec_meaning.specs.Seen.{Untold, val, table}

-- ---- lists

padded : {A : Type 0} (xs : List A) (x : ℕ) (d : A) → get_or (xs ++ d ∷ []) x d ≡ get_or xs x d
padded [] zero d = refl
padded [] (suc x) d = refl
padded (v ∷ xs) zero d = refl
padded (v ∷ xs) (suc x) d = padded xs x d

pushed : {A : Type 0} (xs : List A) (n x : ℕ) (v d : A) → length xs ≡ n → get_or (xs ++ v ∷ []) x d ≡ (if x == n then v else get_or xs x d)
pushed xs n x v d h = grind (arith, common_steps)

put : {A : Type 0} (xs : List A) (n x : ℕ) (v d : A) → n < length xs → get_or (slice_set xs n v) x d ≡ (if x == n then v else get_or xs x d)
put xs n x v d h = grind (arith, common_steps)

-- ---- tables

pub table_padded : (u : Untold) (vs : List Value) → table u (vs ++ Int (pos 0) ∷ []) ≡ table u vs
table_padded u vs = fun_ext at
  where
    at : (x : ℕ) → table u (vs ++ Int (pos 0) ∷ []) x ≡ table u vs x
    at x =
        ap (λ l. get_or l x zero_value) (map-append (val u) vs (Int (pos 0) ∷ []))
        ∙ padded (map (val u) vs) x zero_value

pub table_put :
    (u : Untold) (vs : List Value) (n : ℕ) (v : Value) → n < length vs →
    table u (slice_set vs n v) ≡ set n (val u v) (table u vs)
table_put u vs n v h = fun_ext at
  where
    within : n < length (map (val u) vs)
    within = rw length-map h

    at : (x : ℕ) → table u (slice_set vs n v) x ≡ set n (val u v) (table u vs) x
    at x = ap (λ l. get_or l x zero_value) (map-set (val u) vs n v) ∙ put (map (val u) vs) n x (val u v) zero_value within

pub table_pushed :
    (u : Untold) (vs : List Value) (n : ℕ) (v : Value) → length vs ≡ n →
    table u (vs ++ v ∷ []) ≡ set n (val u v) (table u vs)
table_pushed u vs n v h = fun_ext at
  where
    behind : length (map (val u) vs) ≡ n
    behind = length-map vs (val u) ∙ h

    at : (x : ℕ) → table u (vs ++ v ∷ []) x ≡ set n (val u v) (table u vs) x
    at x =
        ap (λ l. get_or l x zero_value) (map-append (val u) vs (v ∷ []))
        ∙ pushed (map (val u) vs) n x (val u v) zero_value behind
