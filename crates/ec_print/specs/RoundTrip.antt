-- From a program's text the same program is read, and the same text is printed of it.
use Rattle.std.specs.Prelude.{◌≡◌, ◌≤◌, true, List, length, None}
use Rattle.ec_base.specs.Lexical.{AreTokens}
use Rattle.ec_base.specs.declared.limits.TheConstants.{MAX_SOURCE}
use Rattle.ec_base.specs.declared.token.Token.{Token}
use Rattle.ec_lex.specs.Tokens.{Cuts}
use Rattle.ec_syntax.specs.declared.item.Program.{Program}
use Rattle.ec_syntax.specs.Grammar.Reading.{Reads}
use Rattle.ec_print.specs.Canonical.{canonical}
use Rattle.ec_print.specs.Unplaced.{unplaced}

-- The canonical text of a program that was read from a text has no refusal, and its tokens are read as that program,
-- but for the places. They are the tokens of a whole text where it isn't too long for one.
abbrev pub PrintedIsReadAgain : Type 0
PrintedIsReadAgain =
    (tokens : List Token) (p : Program) → AreTokens tokens → Reads tokens p →
    (again : List Token) × (q : Program)
    × Cuts 0 true (canonical p) again None × (length (canonical p) ≤ MAX_SOURCE → AreTokens again)
    × Reads again q × (unplaced q ≡ unplaced p)

-- Whatever tokens that text is cut into, and whatever program they are read as, its canonical text is the same.
abbrev pub PrintedIsPrintedAgain : Type 0
PrintedIsPrintedAgain =
    (tokens again : List Token) (p q : Program) → AreTokens tokens → Reads tokens p →
    Cuts 0 true (canonical p) again None → Reads again q → canonical q ≡ canonical p
