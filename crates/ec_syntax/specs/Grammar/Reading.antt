-- Which tokens are a program, and which token is the first that keeps them from being one.
use Rattle.std.specs.Prelude.{◌≡◌, ◌≤◌, ◌<◌, ℕ, List, [], ◌∷◌, ◌++◌, length, map}
use Rattle.ec_base.specs.Lexical.{AllLexical}
use Rattle.ec_base.specs.declared.token.Token.{Token}
use Rattle.ec_syntax.specs.declared.item.Program.{Program}
use Rattle.ec_syntax.specs.Grammar.State.{State, Asked, limit, limits, nothing}
use Rattle.ec_syntax.specs.declared.quantity.Quantity.TheVariants.{Nesting}
use Rattle.ec_syntax.specs.Grammar.Items.{program}
use Rattle.ec_syntax.specs.declared.quantity.Fault.{Fault}
use Rattle.ec_syntax.specs.declared.quantity.Fault.TheVariants.{Expected, Passes}
use Rattle.ec_syntax.specs.declared.quantity.Quantity.{Quantity}

-- nothing is read yet
abbrev pub start : List Token → State
start tokens = record { left = tokens; end = 0; marks = 0; variables = 0; functions = 0; structs = 0 }

-- The tokens are a program with this tree, of which this is asked; however deep it is nested.
abbrev pub IsProgram : Asked → List Token → Program → Type 0
IsProgram asked tokens p = (nested : ℕ) × (s : State) × program nested asked (start tokens) p s × (s.left ≡ [])

-- the tokens are a program within the limits
abbrev pub Reads : List Token → Program → Type 0
Reads tokens p = IsProgram limits tokens p

-- ---- what is asked at some tokens only

-- the limits, at the tokens before these
abbrev pub limits_before : List Token → Asked
limits_before these left q count = length these < length left → count ≤ limit q

-- the limit of one quantity, at the first of these tokens
abbrev pub limit_at : Quantity → List Token → Asked
limit_at q these left other count = length left ≡ length these → other ≡ q → count ≤ limit q

-- both
abbrev pub both : Asked → Asked → Asked
both one other left q count = one left q count × other left q count

-- ---- what goes on to a program

-- a program begins with these tokens, and goes on with those of which this is asked
abbrev pub Begins : (List Token → Asked) → List Token → Type 0
Begins asked tokens = (others : List Token) × (p : Program) × IsProgram (asked others) (tokens ++ others) p

-- the same, going on with tokens that a text can give
abbrev pub BeginsLexically : (List Token → Asked) → List Token → Type 0
BeginsLexically asked tokens =
    (others : List Token) × (p : Program)
    × IsProgram (asked others) (tokens ++ others) p × AllLexical (map (λ x. x.kind) others)

-- ---- refusals

-- No program's tokens continue those up to this one, while those before it begin one that keeps the limits before it.
pub record IsExpected (before : List Token) (here : Token) : Type 0 where
  pub begins : BeginsLexically limits_before before
  pub stops : Begins (λ others. nothing) (before ++ here ∷ []) → ⊥

-- what is asked before a limit is passed: the limits before this token, and at this token its depth unless that is too
-- great
abbrev pub asked_first : Quantity → List Token → Asked
asked_first Nesting here = limits_before here
asked_first q here = both (limits_before here) (limit_at Nesting here)

-- This token passes a limit in every program whose tokens continue those up to it. There is such a program, which keeps
-- the limits before this token, and its depth here unless that is what is passed.
pub record IsPassed (q : Quantity) (before : List Token) (here : Token) : Type 0 where
  pub begins : BeginsLexically (λ others. asked_first q (here ∷ others)) (before ++ here ∷ [])
  pub passes : Begins (λ others. limit_at q (here ∷ others)) (before ++ here ∷ []) → ⊥

-- this token is refused for this reason, behind those before it
abbrev pub IsRefused : Fault → List Token → Token → Type 0
IsRefused Expected before here = IsExpected before here
IsRefused (Passes q) before here = IsPassed q before here

-- these tokens are refused, at one of them
pub record Refusal (tokens : List Token) : Type 0 where
  pub fault : Fault
  pub before : List Token
  pub here : Token
  pub after : List Token
  pub splits : tokens ≡ before ++ here ∷ after
  pub refused : IsRefused fault before here
