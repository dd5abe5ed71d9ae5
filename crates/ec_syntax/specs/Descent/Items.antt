-- Readers of structs, functions and programs.
use Rattle.std.specs.Prelude.{ℕ, ℤ, ◌&&◌, Bool, true, false, codes, List, [], ◌∷◌, ◌++◌, length, Option, Some, None}
use Rattle.ec_base.specs.declared.token.Mark.TheVariants as m
use Rattle.ec_base.specs.declared.limits.TheConstants.{MAX_NESTING}
use Rattle.ec_base.specs.declared.token.Span.{Span}
use Rattle.ec_base.specs.declared.token.Token.{Token}
use Rattle.ec_syntax.specs.declared.item.Field.{Field}
use Rattle.ec_syntax.specs.declared.item.Item.{Item}
use Rattle.ec_syntax.specs.declared.item.Item.TheVariants.{Struct, Func as Function}
use Rattle.ec_syntax.specs.declared.item.Program.{Program}
use Rattle.ec_syntax.specs.declared.name.Base.{Base}
use Rattle.ec_syntax.specs.declared.name.Base.TheVariants.{Void, Struct as StructBase}
use Rattle.ec_syntax.specs.declared.name.Mode.{Mode}
use Rattle.ec_syntax.specs.declared.name.Mode.TheVariants.{Plain}
use Rattle.ec_syntax.specs.declared.name.Name.{Name}
use Rattle.ec_syntax.specs.declared.statement.Decl.{Decl}
use Rattle.ec_syntax.specs.Grammar.Tokens.{only, is_word, is_mark}
use Rattle.ec_syntax.specs.Grammar.Types.{typed}
use Rattle.ec_syntax.specs.Grammar.Items.{struct_counts, with_struct, at_end}
use Rattle.ec_syntax.specs.Descent.Reader.{Reader, give, ◌>>=◌, ◌>>◌, when, turns, one, plain, function}
use Rattle.ec_syntax.specs.Descent.Tokens.{begins_base, word, mark, number, name, parameter_name, function_name, base, stars, mode}
use Rattle.ec_syntax.specs.Descent.Expressions.{expr}
use Rattle.ec_syntax.specs.Descent.Statements.{braces, stmt}

-- ---- structs

abbrev pub size : Reader (Option ℤ)
size =
    when (is_mark m.OpenBracket) (mark m.OpenBracket >> (number >>= (λ n. mark m.CloseBracket >> give (Some n))))
    (give None)

abbrev pub field_name : Base → Reader Field
field_name b = do
  k ← stars (mark m.Star) 0
  n ← name
  a ← size
  give (record { name = n; ty = typed b k; array = a })

abbrev pub field_names : Base → List Field → Reader (List Field)
field_names b = turns (is_mark m.Comma) (λ fs. mark m.Comma >> (field_name b >>= (λ f. give (fs ++ f ∷ []))))

abbrev pub fields : List Field → Reader (List Field)
fields before = do
  b ← base
  first ← field_name b
  all ← field_names b (before ++ first ∷ [])
  mark m.Semicolon
  give all

abbrev pub struct_brace : Reader (Unit {0})
struct_brace = one (only (is_mark m.OpenBrace)) struct_counts with_struct

-- a struct behind its name
abbrev pub structure : Name → Reader Item
structure n =
    struct_brace >> (fields [] >>= (λ first. turns begins_base fields first >>= (λ all.
    mark m.CloseBrace >> (mark m.Semicolon >> give (Struct (record { name = n; fields = all }))))))

-- ---- functions

-- a parameter behind its mode and base, and behind so many parameters
abbrev pub parameter_on : ℕ → Mode → Base → Reader Decl
parameter_on before how b = do
  k ← stars (mark m.Star) 0
  n ← parameter_name before
  give (record { name = n; mode = how; ty = typed b k; init = None })

abbrev pub parameter : ℕ → Reader Decl
parameter before = mode >>= (λ how. base >>= parameter_on before how)

abbrev pub further : List Decl → Reader (List Decl)
further = turns (is_mark m.Comma) (λ ps. mark m.Comma >> (parameter (length ps) >>= (λ p. give (ps ++ p ∷ []))))

-- whether `void` alone has been read
abbrev pub is_void : Mode → Base → Bool
is_void Plain Void = true
is_void _ _ = false

abbrev pub parameters_on : Mode → Base → Reader (List Decl)
parameters_on how b =
    when (λ x. is_void how b && is_mark m.CloseParen x) (give [])
    (parameter_on 0 how b >>= (λ p. further (p ∷ [])))

abbrev pub parameters : Reader (List Decl)
parameters = when (is_mark m.CloseParen) (give []) (mode >>= (λ how. base >>= parameters_on how))

-- a function behind the base of its result, with so much room at its braces
abbrev pub procedure : ℕ → Base → Reader Item
procedure room b = do
  k ← stars (mark m.Star) 0
  n ← function_name
  mark m.OpenParen
  ps ← parameters
  mark m.CloseParen
  body ← braces room (expr room) (stmt room)
  give (Function (record { name = n; result = typed b k; params = ps; body = body }))

-- ---- programs

-- an item that begins with a struct's name
abbrev pub structured : ℕ → Name → Reader Item
structured room n = when (is_mark m.OpenBrace) (structure n) (procedure room (StructBase n))

abbrev pub item : ℕ → Reader Item
item room = function (when (is_word (codes "struct")) (word (codes "struct") >> (name >>= structured room))
    (base >>= procedure room))

abbrev pub begins_item : Token → Bool
begins_item x = begins_base x

abbrev pub end : Reader Span
end = plain at_end

abbrev pub program : ℕ → Reader Program
program room =
    turns begins_item (λ is. item room >>= (λ i. give (is ++ i ∷ []))) [] >>= (λ items. end >>= (λ at.
    give (record { items = items; end = at })))

-- at depth 0 there is room for all the nesting
abbrev pub read : Reader Program
read = program MAX_NESTING
