-- Lists of phrases, part by part.
use Rattle.std.proofs.Common.{◌≡◌, refl, ap, ℕ, zero, suc, ◌+◌, ◌-◌, ◌<◌, List, ◌∷◌, add-one, arith}
use Rattle.ec_base.specs.declared.token.Mark.TheVariants as m
use Rattle.ec_print.specs.Phrase.{Phrase, ◌then◌}
use Rattle.ec_print.specs.Sentence.{mark, stars}
use Rattle.ec_print.specs.Writing.{Written, with, separator, listed_behind}

-- the stars that are left, where some are
pub stars_left : (n i : ℕ) → i < n → stars (n - i) ≡ mark m.Star then stars (n - (i + 1))
stars_left n i h = let e : n - i ≡ suc (n - (i + 1)) = omega arith in ap stars e

-- one phrase of a list with its comma
pub one_listed : (i : ℕ) (x : Phrase) (xs : List Phrase) (w : Written) →
    with (listed_behind i (x ∷ xs)) w ≡ with (listed_behind (i + 1) xs) (with x (with (separator i) w))
one_listed zero x xs w = refl
one_listed (suc i) x xs w = rw add-one refl
