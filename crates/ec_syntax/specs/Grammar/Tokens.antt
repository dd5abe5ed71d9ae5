-- Single tokens, at a depth.
use Rattle.std.specs.Prelude.{ℕ, ℤ, suc, ◌==◌, Bool, false, List, [], ◌∷◌, length, Option, Some, None, if◌then◌else◌}
use Rattle.ec_base.specs.Lexical as lexical
use Rattle.ec_base.specs.declared.token.Mark.{Mark}
use Rattle.ec_base.specs.declared.token.Mark.TheVariants as m
use Rattle.ec_base.specs.declared.token.Token.{Token}
use Rattle.ec_base.specs.declared.token.TokenKind.{TokenKind}
use Rattle.ec_base.specs.declared.token.TokenKind.TheVariants as t
use Rattle.ec_syntax.specs.declared.name.Name.{Name}
use Rattle.ec_syntax.specs.Grammar.State.{State, Counts}
use Rattle.ec_syntax.specs.declared.quantity.Quantity.TheVariants.{Marks, Variables, Parameters, Functions, NameBytes, StringBytes}
use Rattle.ec_syntax.specs.Grammar.Language.{Language, ◌>>◌, append, turns, one, plain}
use Rattle.ec_syntax.specs.Grammar.Words.{same, is_name}

-- ---- which token

-- the number of each mark
abbrev pub mark_number : Mark → ℕ
mark_number m.OpenPar = 0
mark_number m.ClosePar = 1
mark_number m.Arrow = 2
mark_number m.Increment = 3
mark_number m.Decrement = 4
mark_number m.ShiftLeft = 5
mark_number m.ShiftRight = 6
mark_number m.LessEqual = 7
mark_number m.GreaterEqual = 8
mark_number m.Equal = 9
mark_number m.NotEqual = 10
mark_number m.AndAnd = 11
mark_number m.OrOr = 12
mark_number m.OpenBrace = 13
mark_number m.CloseBrace = 14
mark_number m.OpenParen = 15
mark_number m.CloseParen = 16
mark_number m.OpenBracket = 17
mark_number m.CloseBracket = 18
mark_number m.Semicolon = 19
mark_number m.Comma = 20
mark_number m.Dot = 21
mark_number m.At = 22
mark_number m.Assign = 23
mark_number m.Plus = 24
mark_number m.Minus = 25
mark_number m.Star = 26
mark_number m.Slash = 27
mark_number m.Percent = 28
mark_number m.And = 29
mark_number m.Or = 30
mark_number m.Caret = 31
mark_number m.Tilde = 32
mark_number m.Bang = 33
mark_number m.Less = 34
mark_number m.Greater = 35

abbrev pub is_mark : Mark → Token → Bool
is_mark k x = is_kind x.kind
  where
    is_kind : TokenKind → Bool
    is_kind (t.Mark other) = mark_number other == mark_number k
    is_kind _ = false

abbrev pub is_word : List ℕ → Token → Bool
is_word w x = is_kind x.kind
  where
    is_kind : TokenKind → Bool
    is_kind (t.Word other) = same other w
    is_kind _ = false

-- nothing of a token but that it passes a test
abbrev pub only : (Token → Bool) → Token → Option (Unit {0})
only test x = if test x then Some tt else None

-- the name that a token is
abbrev pub name_of : Token → Option Name
name_of x = of_kind x.kind
  where
    of_kind : TokenKind → Option Name
    of_kind (t.Word w) = if is_name w then Some (record { text = w; at = x.at }) else None
    of_kind _ = None

abbrev pub number_of : Token → Option ℤ
number_of x = of_kind x.kind
  where
    of_kind : TokenKind → Option ℤ
    of_kind (t.Number n) = Some n
    of_kind _ = None

abbrev pub string_of : Token → Option (List ℕ)
string_of x = of_kind x.kind
  where
    of_kind : TokenKind → Option (List ℕ)
    of_kind (t.Str s) = Some s
    of_kind _ = None

abbrev pub is_end : Token → Bool
is_end x = lexical.is_end x.kind

-- ---- tokens of programs

abbrev pub word : ℕ → List ℕ → Language (Unit {0})
word d w = plain d (only (is_word w))

-- a mark that is no operator or bracket of a part
abbrev pub mark : ℕ → Mark → Language (Unit {0})
mark d k = plain d (only (is_mark k))

-- one more operator or bracket of a part
abbrev pub next_mark : {A : Type 0} → State → A → Counts
next_mark s a = (Marks, suc s.marks) ∷ []

abbrev pub with_mark : State → State
with_mark s = record s { marks = suc s.marks }

-- an operator or bracket of a part
abbrev pub operator : {A : Type 0} → ℕ → (Token → Option A) → Language A
operator d pick = one d pick next_mark with_mark

abbrev pub sign : ℕ → Mark → Language (Unit {0})
sign d k = operator d (only (is_mark k))

abbrev pub number : ℕ → Language ℤ
number d = plain d number_of

abbrev pub name_bytes : State → Name → Counts
name_bytes s n = (NameBytes, length n.text) ∷ []

abbrev pub name : ℕ → Language Name
name d = one d name_of name_bytes (λ s. s)

abbrev pub string_bytes : State → List ℕ → Counts
string_bytes s bytes = (StringBytes, length bytes) ∷ []

abbrev pub string : ℕ → Language (List ℕ)
string d = one d string_of string_bytes (λ s. s)

-- ("," item)* behind the items before, where an item may depend on those before it
abbrev pub listed : {A : Type 0} → ℕ → (List A → Language A) → List A → Language (List A)
listed d item = turns (λ before. mark d m.Comma >> append (item before) before)

-- ---- names that are declared

abbrev pub with_variable : State → State
with_variable s = record s { variables = suc s.variables }

abbrev pub variable_counts : State → Name → Counts
variable_counts s n = (Variables, suc s.variables) ∷ name_bytes s n

abbrev pub variable_name : ℕ → Language Name
variable_name d = one d name_of variable_counts with_variable

-- a parameter is a variable too; so many stand before it
abbrev pub parameter_counts : ℕ → State → Name → Counts
parameter_counts before s n = (Parameters, suc before) ∷ variable_counts s n

abbrev pub parameter_name : ℕ → ℕ → Language Name
parameter_name d before = one d name_of (parameter_counts before) with_variable

abbrev pub with_function : State → State
with_function s = record s { functions = suc s.functions }

abbrev pub function_counts : State → Name → Counts
function_counts s n = (Functions, suc s.functions) ∷ name_bytes s n

abbrev pub function_name : ℕ → Language Name
function_name d = one d name_of function_counts with_function
