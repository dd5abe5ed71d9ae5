-- Which refusal a program's reader answers, and what it owes.
use Rattle.std.specs.Prelude.{◌≡◌, ℕ, ◌-◌, Bool, true, false, if◌then◌else◌, List, [], ◌∷◌, ◌++◌, Option, Some, None, Result, Ok, Err}
use Rattle.std.specs.List.{slice_get}
use Rattle.ec_base.specs.declared.fail.Fail.{Fail}
use Rattle.ec_base.specs.declared.fail.Fail.TheVariants.{Memory, Refused}
use Rattle.ec_base.specs.declared.token.Span.{Span}
use Rattle.ec_base.specs.declared.token.Token.{Token}
use Rattle.ec_syntax.specs.declared.item.Program.{Program}
use Rattle.ec_syntax.specs.declared.quantity.Fault.{Fault}
use Rattle.ec_syntax.specs.declared.quantity.Fault.TheVariants.{Expected, Passes}
use Rattle.ec_syntax.specs.declared.quantity.Quantity.TheVariants.{Nesting, Structs}
use Rattle.ec_syntax.specs.Grammar.Language.{span}
use Rattle.ec_syntax.specs.Grammar.Reading.{Reads, IsRefused}
use Rattle.ec_reader.specs.declared.refusal.ReadRefusal.{ReadRefusal}

-- ---- the number

abbrev pub number_of : Fault → ℕ
number_of Expected = 10
number_of (Passes Nesting) = 11
number_of (Passes q) = 12

-- ---- the place

-- One struct too many is told at the name before its brace.
abbrev pub is_told_before : Fault → Bool
is_told_before (Passes Structs) = true
is_told_before fault = false

-- the place of the last of these tokens, or this one where there is none
abbrev pub last_at : List Token → Span → Span
last_at [] at = at
last_at (x ∷ rest) at = last_at rest x.at

-- the place that is told, of a token behind others
abbrev pub place_of : Fault → List Token → Token → Span
place_of fault before here = if is_told_before fault then last_at before here.at else here.at

abbrev pub named : Fault → List Token → Token → ReadRefusal
named fault before here = record { what = number_of fault; at = place_of fault before here }

-- ---- the answer

-- these tokens are refused, at one of them
pub record Refuses (tokens : List Token) (refusal : ReadRefusal) : Type 0 where
  pub before : List Token
  pub here : Token
  pub after : List Token
  pub fault : Fault
  pub splits : tokens ≡ before ++ here ∷ after
  pub refused : IsRefused fault before here
  pub is : refusal ≡ named fault before here

-- the tree of the tokens, or their refusal, or memory was wanted
abbrev pub ReadsInto : List Token → Result Program (Fail ReadRefusal) → Type 0
ReadsInto tokens (Ok p) = Reads tokens p
ReadsInto tokens (Err (Refused refusal)) = Refuses tokens refusal
ReadsInto tokens (Err Memory) = Unit {0}

-- ---- the same by numbers of tokens

abbrev pub place_at : List Token → ℕ → Span
place_at tokens k = of_token (slice_get tokens k)
  where
    of_token : Option Token → Span
    of_token None = span 0 0
    of_token (Some x) = x.at

abbrev pub told_number : Fault → ℕ → ℕ
told_number fault k = if is_told_before fault then k - 1 else k

abbrev pub refusal_at : Fault → List Token → ℕ → ReadRefusal
refusal_at fault tokens k = record { what = number_of fault; at = place_at tokens (told_number fault k) }
