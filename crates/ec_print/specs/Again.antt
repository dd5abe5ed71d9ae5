-- What is printed of a program is read as the same program.
use Rattle.std.specs.Prelude.{◌≡◌, List, [], ◌∷◌, ◌++◌, map}
use Rattle.ec_base.specs.declared.token.Token.{Token}
use Rattle.ec_base.specs.declared.token.TokenKind.TheVariants as t
use Rattle.ec_syntax.specs.declared.item.Program.{Program}
use Rattle.ec_syntax.specs.Grammar.Reading.{Reads}
use Rattle.ec_print.specs.Sentence.{sentence}
use Rattle.ec_print.specs.Unplaced.{unplaced}

-- Tokens of the kinds that a program's sentence has are read as that program, but for the places.
abbrev pub SentenceReadsAgain : Type 0
SentenceReadsAgain =
    (ts : List Token) (p : Program) → Reads ts p → (us : List Token) → map (λ x. x.kind) us ≡ sentence p ++ t.End ∷ [] →
    (q : Program) × Reads us q × (unplaced q ≡ unplaced p)
