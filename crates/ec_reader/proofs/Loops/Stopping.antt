-- Loops that read turns, where one of them stops.
use Rattle.std.proofs.Common.{◌≡◌, true, Bool, Err}
use Rattle.ec_base.specs.declared.fail.Fail.{Fail}
use Rattle.ec_base.specs.declared.fail.Fail.TheVariants.{Memory, Refused}
use Rattle.ec_base.specs.declared.token.Token.{Token}
use Rattle.ec_syntax.specs.declared.quantity.Fault.{Fault}
use Rattle.ec_syntax.specs.Grammar.State.{State}
use Rattle.ec_syntax.specs.Grammar.Language.{first_is}
use Rattle.ec_syntax.specs.Descent.Reader.{Reader, Outcome}
use Rattle.ec_reader.specs.Answers.{Told}
use Rattle.ec_reader.specs.Going.{Going}
use Rattle.ec_reader.proofs.Loops.Turns.{going_stops}

module _ {A : Type 0} (test : Token → Bool) (turn : A → Reader A) where
  -- the loop stops where its turn does, and as that
  pub told_stops : {o : Outcome A} {a : A} {s : State} (e : Fail Fault) (m : State) → Going test turn o a s → first_is test s.left ≡ true → Told (turn a s) (Err e) m → Told o (Err e) m
  told_stops Memory m g h told = tt
  told_stops (Refused fault) m g h told = going_stops test turn fault m.left g h told
