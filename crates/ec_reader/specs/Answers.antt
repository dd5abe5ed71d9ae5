-- What a reader's function answers, and where it leaves the cursor.
use Rattle.std.specs.Prelude.{◌≡◌, ◌≤◌, ◌<◌, ℕ, List, [], ◌∷◌, drop, Option, Some, None, Result, Ok, Err}
use Rattle.ec_base.specs.declared.fail.Fail.{Fail}
use Rattle.ec_base.specs.declared.fail.Fail.TheVariants.{Memory, Refused}
use Rattle.ec_base.specs.declared.token.Token.{Token}
use Rattle.ec_syntax.specs.declared.quantity.Fault.{Fault}
use Rattle.ec_syntax.specs.declared.quantity.Fault.TheVariants.{Expected, Passes}
use Rattle.ec_syntax.specs.declared.name.Name.{Name}
use Rattle.ec_syntax.specs.Grammar.Tokens.{name_of}
use Rattle.ec_syntax.specs.declared.quantity.Quantity.{Quantity}
use Rattle.ec_syntax.specs.Grammar.State.{State}
use Rattle.ec_syntax.specs.Descent.Reader.{Outcome}
use Rattle.ec_syntax.specs.Descent.Reader.Outcome.{Done, Stopped}

-- The reader's value, with the cursor behind it, or its fault, with the cursor where it stops; or memory was wanted.
abbrev pub Told : {A : Type 0} → Outcome A → Result A (Fail Fault) → State → Type 0
Told o (Ok a) new = o ≡ Done a new
Told o (Err (Refused fault)) new = o ≡ Stopped fault new.left
Told o (Err Memory) new = Unit {0}

-- the state behind the first token
abbrev pub past : State → State
past s = record s { left = drop 1 s.left; end = end_of s.left }
  where
    end_of : List Token → ℕ
    end_of [] = 0
    end_of (x ∷ rest) = x.at.to

-- One more is counted, up to a limit, or the quantity passes it and nothing changes.
abbrev pub Counted : Quantity → ℕ → ℕ → State → State → Result (Unit {0}) Fault → State → Type 0
Counted q most count counted old (Ok u) new = (count < most) × (new ≡ counted)
Counted q most count counted old (Err fault) new = (most ≤ count) × ((fault ≡ Passes q) × (new ≡ old))

-- the same as Told, where the reader's value is told by the code's
abbrev pub ToldBy : {A B : Type 0} → (A → B) → Outcome B → Result A (Fail Fault) → State → Type 0
ToldBy is o (Ok a) new = o ≡ Done (is a) new
ToldBy is o (Err (Refused fault)) new = o ≡ Stopped fault new.left
ToldBy is o (Err Memory) new = Unit {0}

-- what the first token gives, if there is one
abbrev pub first_of : {A : Type 0} → (Token → Option A) → List Token → Option A
first_of pick [] = None
first_of pick (x ∷ rest) = pick x

-- the name that is first, or the fault where none is
abbrev pub FoundName : List Token → Result Name (Fail Fault) → Type 0
FoundName left (Ok n) = first_of name_of left ≡ Some n
FoundName left (Err (Refused fault)) = (first_of name_of left ≡ None) × (fault ≡ Expected)
FoundName left (Err Memory) = Unit {0}
