-- What a read of a file tells of its text, whether it is told or not.
use Rattle.std.proofs.Common.{◌<◌, inl, ℕ, suc, List, length, replicate, refl, arith}
use Rattle.std.proofs.lemmas.List.{length-replicate}
use Rattle.ec_base.specs.declared.limits.TheConstants.{MAX_SOURCE}
use Rattle.ec_base.specs.declared.fail.Fail.{Fail}
use Rattle.ec_base.specs.declared.fail.Fail.TheVariants.{Memory, Refused}
use Rattle.ec_edge.specs.declared.ends.ReadEnd.TheVariants.{TooLong, Whole}
use Rattle.ec_edge.specs.Shelf.{Gives, Told, holds, missing, untold}
use Rattle.ec_driver.specs.declared.status.Refusal.{Refusal}
use Rattle.ec_driver.specs.Lines.{too_long}
use Rattle.ec_driver.specs.Load.{Fails, OfText, Unread, status_of}
use Rattle.ec_driver.specs.Source.{Misfits}
use Rattle.ec_driver.specs.Task.{IsText}

pub is_text : (told : Told) (most : ℕ) (text : List ℕ) → Gives told most (Whole text) → IsText told text
is_text untold most text given = tt
is_text missing most text given = absurd given
is_text (holds bytes) most text given = given.0

-- there is a longer text
longer : (n : ℕ) → (b : List ℕ) × (n < length b)
longer n = (replicate (suc n) 0, omega (arith, length-replicate {A = ℕ} n 0))

pub too_long_refused : (told : Told) → Gives told MAX_SOURCE TooLong → OfText told (λ text. Misfits text too_long)
too_long_refused untold given = let b = longer MAX_SOURCE in (b.0, tt, inl (b.1, refl))
too_long_refused missing given = absurd given
too_long_refused (holds bytes) given = (bytes, refl, inl (given, refl))

-- a file isn't read where its text isn't
pub unread_by :
    (rejects : List ℕ → Refusal → Type 0) (told : Told) (text : List ℕ) (fail : Fail Refusal)
    → IsText told text → Fails (rejects text) fail → Unread rejects told (status_of fail)
unread_by rejects told text (Refused r) is h = (text, is, h)
unread_by rejects told text Memory is h = tt
