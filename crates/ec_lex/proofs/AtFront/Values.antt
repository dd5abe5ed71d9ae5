-- Where digits write no number.
use Rattle.std.proofs.Common.{◌≡◌, ℕ, suc, ◌+◌, ◌*◌, ◌^◌, ◌<◌, ◌≤◌, Bool, true, false, List, [], ◌∷◌, Some, None, length, drop, get_or, refl, arith, sym, ◌∙◌}
use Rattle.std.specs.Prelude.{if◌then◌else◌, ◌&&◌, ◌||◌, ◌==◌, nat_lt, nat_le, slice_index}
use Rattle.std.specs.Char.{digit_value, is_ascii_digit}
use Rattle.std.specs.List.{list_all}
use Rattle.std.specs.Str.Parse.{digits_value, digits_value_after}
use Rattle.std.proofs.Math.Seq.{drop-cons}
use Rattle.std.proofs.lemmas.Bool.{le-ltb}
use Rattle.ec_lex.specs.Numbers.{number_value}

-- a number never falls as digits follow
never_falls : (ds : List ℕ) (n : ℕ) → n ≤ digits_value_after 10 n ds
never_falls [] n = omega arith
never_falls (d ∷ ds) n = omega (arith, never_falls ds (n * 10 + digit_value d))

none_where : (all one : Bool) (v : ℕ) → (all ≡ true → 2 ^ 63 ≤ v) → (if (all && one) && nat_lt v (2 ^ 63) then Some v else None) ≡ None
none_where false one v h = refl
none_where true false v h = refl
none_where true true v h = rw (le-ltb v (2 ^ 63) (h refl)) refl

-- all that follow are digits, and the first of them makes the number too large
too_large : (d : ℕ) (rest : List ℕ) (n : ℕ) (is : Bool) → is ≡ is_ascii_digit d → (is_ascii_digit d ≡ true → 2 ^ 63 ≤ n * 10 + digit_value d) → (is && list_all is_ascii_digit rest) ≡ true → 2 ^ 63 ≤ digits_value_after 10 (n * 10 + digit_value d) rest
too_large d rest n false e h all = absurd (cc)
too_large d rest n true e h all = omega (arith, h (sym e), never_falls rest (n * 10 + digit_value d))

pub refused_digit : (ds : List ℕ) (i n : ℕ) → i < length ds → list_all is_ascii_digit ds ≡ list_all is_ascii_digit (drop i ds) → digits_value 10 ds ≡ digits_value_after 10 n (drop i ds) → (is_ascii_digit (get_or ds i 0) ≡ true → 2 ^ 63 ≤ n * 10 + digit_value (get_or ds i 0)) → number_value ds ≡ None
unfolding number_value
refused_digit ds i n below all value h =
    none_where (list_all is_ascii_digit ds) (nat_le 49 (slice_index ds 0) || length ds == 1) (digits_value 10 ds)
    (λ a. rw value (rw (drop-cons ds i 0 below) (too_large (get_or ds i 0) (drop (suc i) ds) n _ refl h (rw (drop-cons ds i 0 below) at (sym all ∙ a)))))
