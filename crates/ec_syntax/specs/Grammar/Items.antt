-- Structs, functions and programs. The braces of a struct open nothing.
use Rattle.std.specs.Prelude.{ℕ, suc, Bool, true, false, codes, List, [], ◌∷◌, ◌++◌, length, Option, Some, None}
use Rattle.ec_base.specs.declared.token.Mark.TheVariants as m
use Rattle.ec_base.specs.declared.token.Span.{Span}
use Rattle.ec_base.specs.declared.token.Token.{Token}
use Rattle.ec_syntax.specs.declared.item.Field.{Field}
use Rattle.ec_syntax.specs.declared.item.Item.{Item}
use Rattle.ec_syntax.specs.declared.item.Item.TheVariants.{Struct, Func as Function}
use Rattle.ec_syntax.specs.declared.item.Program.{Program}
use Rattle.ec_syntax.specs.declared.name.Base.{Base}
use Rattle.ec_syntax.specs.declared.statement.Decl.{Decl}
use Rattle.ec_syntax.specs.Grammar.State.{State, Counts}
use Rattle.ec_syntax.specs.declared.quantity.Quantity.TheVariants.{Structs}
use Rattle.ec_syntax.specs.Grammar.Language.{Language, append, give, ◌>>=◌, ◌>>◌, ◌or◌, turns, maybe, function, one, plain}
use Rattle.ec_syntax.specs.Grammar.Tokens.{listed, word, mark, number, name, parameter_name, function_name, only, is_mark, is_end}
use Rattle.ec_syntax.specs.Grammar.Types.{base, stars, typed, mode, type_with}
use Rattle.ec_syntax.specs.Grammar.Expressions.{expr}
use Rattle.ec_syntax.specs.Grammar.Statements.{braces, stmt}

-- ---- structs

-- "*"* id ("[" num "]")?
abbrev pub field_name : Base → Language Field
field_name b = do
  k ← stars (mark 0 m.Star) 0
  n ← name 0
  size ← maybe (mark 0 m.OpenBracket >> (number 1 >>= (λ n. mark 1 m.CloseBracket >> give n)))
  give (record { name = n; ty = typed b k; array = size })

-- base field ("," field)* ";", behind the fields before
abbrev pub fields : List Field → Language (List Field)
fields before = do
  b ← base 0
  first ← field_name b
  all ← listed 0 (λ fs. field_name b) (before ++ first ∷ [])
  mark 0 m.Semicolon
  give all

-- The opening brace of a struct, which tells that the name before it is a struct's and is counted.
abbrev pub struct_counts : {A : Type 0} → State → A → Counts
struct_counts s a = (Structs, suc s.structs) ∷ []

abbrev pub with_struct : State → State
with_struct s = record s { structs = suc s.structs }

abbrev pub struct_brace : Language (Unit {0})
struct_brace = one 0 (only (is_mark m.OpenBrace)) struct_counts with_struct

-- "struct" id "{" fields+ "}" ";"
abbrev pub structure : Language Item
structure = do
  word 0 (codes "struct")
  n ← name 0
  struct_brace
  first ← fields []
  all ← turns fields first
  mark 0 m.CloseBrace
  mark 0 m.Semicolon
  give (Struct (record { name = n; fields = all }))

-- ---- functions

-- mode base "*"* id, behind so many parameters
abbrev pub parameter : ℕ → Language Decl
parameter before = do
  how ← mode 1
  b ← base 1
  k ← stars (mark 1 m.Star) 0
  n ← parameter_name 1 before
  give (record { name = n; mode = how; ty = typed b k; init = None })

-- "" | "void" | param ("," param)*, inside brackets
abbrev pub parameters : Language (List Decl)
parameters = give [] or (word 1 (codes "void") >> give []) or some
  where
    some : Language (List Decl)
    some = parameter 0 >>= (λ p. listed 1 (λ ps. parameter (length ps)) (p ∷ []))

-- base "*"* id "(" params ")" block, nested at most so often
abbrev pub procedure : ℕ → Language Item
procedure nested = do
  result ← type_with 0 (mark 0 m.Star)
  n ← function_name 0
  mark 0 m.OpenParen
  ps ← parameters
  mark 1 m.CloseParen
  body ← braces 0 (expr nested 1) (stmt nested 1)
  give (Function (record { name = n; result = result; params = ps; body = body }))

-- ---- programs

-- the place of a token, where it is the end of the text
abbrev pub place_if : Bool → Token → Option Span
place_if true x = Some x.at
place_if false x = None

abbrev pub at_end : Token → Option Span
at_end x = place_if (is_end x) x

abbrev pub end : Language Span
end = plain 0 at_end

-- item* End
abbrev pub program : ℕ → Language Program
program nested = do
  items ← turns (append (function (structure or procedure nested))) []
  at ← end
  give (record { items = items; end = at })
