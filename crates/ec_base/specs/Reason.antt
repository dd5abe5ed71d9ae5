-- Why sources are refused: numbers and names.
use Rattle.std.specs.Prelude.{ℕ, ◌==◌, List, [], ◌∷◌, codes, Option, find}
use Rattle.std.specs.Option.{option_map_or}
use Rattle.ec_base.specs.declared.reason.Reason.{Reason}
use Rattle.ec_base.specs.declared.reason.Reason.TheVariants.{BadByte, BadNumber, OpenComment, OpenString, BadEscape, HashLine, TooLong, NotYet, Expected, TooDeep, TooMany}
use Rattle.ec_base.specs.declared.reason.Reason.TheVariants.{Unknown, Twice, Mismatch, NotLocal, SharedEscapes, ReturnInside, PrintInside, NoMain, StructTooBig, HeaderForm}

-- the number that a reason has in refusals
abbrev pub number_of : Reason → ℕ
number_of BadByte = 1
number_of BadNumber = 2
number_of OpenComment = 3
number_of OpenString = 4
number_of BadEscape = 5
number_of HashLine = 6
number_of TooLong = 7
number_of NotYet = 9
number_of Expected = 10
number_of TooDeep = 11
number_of TooMany = 12
number_of Unknown = 20
number_of Twice = 21
number_of Mismatch = 22
number_of NotLocal = 23
number_of SharedEscapes = 24
number_of ReturnInside = 25
number_of PrintInside = 26
number_of NoMain = 27
number_of StructTooBig = 28
number_of HeaderForm = 29

-- its name in the line of a refusal
abbrev pub name_of : Reason → List ℕ
name_of BadByte = codes "BadByte"
name_of BadNumber = codes "BadNumber"
name_of OpenComment = codes "OpenComment"
name_of OpenString = codes "OpenString"
name_of BadEscape = codes "BadEscape"
name_of HashLine = codes "HashLine"
name_of TooLong = codes "TooLong"
name_of NotYet = codes "NotYet"
name_of Expected = codes "Expected"
name_of TooDeep = codes "TooDeep"
name_of TooMany = codes "TooMany"
name_of Unknown = codes "Unknown"
name_of Twice = codes "Twice"
name_of Mismatch = codes "Mismatch"
name_of NotLocal = codes "NotLocal"
name_of SharedEscapes = codes "SharedEscapes"
name_of ReturnInside = codes "ReturnInside"
name_of PrintInside = codes "PrintInside"
name_of NoMain = codes "NoMain"
name_of StructTooBig = codes "StructTooBig"
name_of HeaderForm = codes "HeaderForm"

-- all that there are
abbrev pub reasons : List Reason
reasons =
    BadByte ∷ BadNumber ∷ OpenComment ∷ OpenString ∷ BadEscape ∷ HashLine
    ∷ TooLong ∷ NotYet
    ∷ Expected ∷ TooDeep ∷ TooMany
    ∷ Unknown ∷ Twice ∷ Mismatch ∷ NotLocal ∷ SharedEscapes
    ∷ ReturnInside ∷ PrintInside ∷ NoMain ∷ StructTooBig ∷ HeaderForm
    ∷ []

-- the reason with this number, if there is one
abbrev pub reason_of : ℕ → Option Reason
reason_of n = find (λ r. number_of r == n) reasons

-- its name, and nothing where there is none
abbrev pub name_numbered : ℕ → List ℕ
name_numbered n = option_map_or name_of (reason_of n) []
