-- What the reader of programs and the grammar have to do with each other.
use Rattle.std.specs.Prelude.{◌≡◌, ◌⊎◌, List, [], ◌∷◌, ◌++◌}
use Rattle.ec_base.specs.Lexical.{AreTokens}
use Rattle.ec_base.specs.declared.token.Token.{Token}
use Rattle.ec_syntax.specs.declared.item.Program.{Program}
use Rattle.ec_syntax.specs.declared.quantity.Fault.{Fault}
use Rattle.ec_syntax.specs.Grammar.State.{State}
use Rattle.ec_syntax.specs.Descent.Reader.Outcome.{Done, Stopped}
use Rattle.ec_syntax.specs.Descent.Items.{read}
use Rattle.ec_syntax.specs.Grammar.Reading.{IsRefused, Refusal, start, Reads}

-- tokens have at most one tree within the limits
abbrev pub OneTree : Type 0
OneTree = (tokens : List Token) (p q : Program) → Reads tokens p → Reads tokens q → p ≡ q

-- what is read up to the end is a program
abbrev pub ReadIsProgram : Type 0
ReadIsProgram = (tokens : List Token) (p : Program) (s : State) →
    read (start tokens) ≡ Done p s → s.left ≡ [] → Reads tokens p

-- a program within the limits is read
abbrev pub ProgramIsRead : Type 0
ProgramIsRead = (tokens : List Token) (p : Program) →
    Reads tokens p → (s : State) × (read (start tokens) ≡ Done p s) × (s.left ≡ [])

-- the token at which reading stops is refused
abbrev pub StoppedIsRefused : Type 0
StoppedIsRefused = (tokens : List Token) (fault : Fault) (here : Token) (after : List Token) →
    read (start tokens) ≡ Stopped fault (here ∷ after) →
    (before : List Token) × (tokens ≡ before ++ here ∷ after) × IsRefused fault before here

-- no program within the limits goes on with a token that is refused
abbrev pub RefusedIsNoProgram : Type 0
RefusedIsNoProgram = (fault : Fault) (before : List Token) (here : Token) → IsRefused fault before here →
    (others : List Token) (p : Program) → Reads (before ++ here ∷ others) p → ⊥

-- of the same tokens no other is refused
abbrev pub OneRefusal : Type 0
OneRefusal = (tokens : List Token) (one other : Refusal tokens) → one.before ≡ other.before

-- ---- the tokens of a text

-- they are read up to the end, or reading stops at one of them
abbrev pub ReadOrStopped : Type 0
ReadOrStopped = (tokens : List Token) → AreTokens tokens →
    ((p : Program) × (s : State) × (read (start tokens) ≡ Done p s) × (s.left ≡ []))
    ⊎ ((fault : Fault) × (here : Token) × (after : List Token) × (read (start tokens) ≡ Stopped fault (here ∷ after)))

-- they are a program within the limits, or one of them is refused
abbrev pub ProgramOrRefused : Type 0
ProgramOrRefused = (tokens : List Token) → AreTokens tokens → ((p : Program) × Reads tokens p) ⊎ Refusal tokens
