-- Readers of single tokens and types, and tests of what may stand first.
use Rattle.std.specs.Prelude.{ℕ, ℤ, suc, Bool, ◌||◌, List, codes, Option, is_some}
use Rattle.ec_base.specs.declared.token.Mark.{Mark}
use Rattle.ec_base.specs.declared.token.Mark.TheVariants as m
use Rattle.ec_base.specs.declared.token.Token.{Token}
use Rattle.ec_syntax.specs.declared.name.Base.{Base}
use Rattle.ec_syntax.specs.declared.name.Base.TheVariants.{Void, Int, Struct}
use Rattle.ec_syntax.specs.declared.name.Mode.{Mode}
use Rattle.ec_syntax.specs.declared.name.Mode.TheVariants.{Plain, Local, Shared}
use Rattle.ec_syntax.specs.declared.name.Name.{Name}
use Rattle.ec_syntax.specs.declared.name.Ty.{Ty}
use Rattle.ec_syntax.specs.Grammar.Tokens.{only, is_word, is_mark, name_of, number_of, string_of, next_mark, with_mark, name_bytes, string_bytes, variable_counts, with_variable, parameter_counts, function_counts, with_function}
use Rattle.ec_syntax.specs.Grammar.Types.{typed}
use Rattle.ec_syntax.specs.Grammar.Expressions.{of_mark, prefix_of}
use Rattle.ec_syntax.specs.Descent.Reader.{Reader, give, ◌>>=◌, ◌>>◌, when, turns, one, plain}

-- ---- what a token begins

abbrev pub is_name : Token → Bool
is_name x = is_some (name_of x)

abbrev pub is_number : Token → Bool
is_number x = is_some (number_of x)

abbrev pub is_string : Token → Bool
is_string x = is_some (string_of x)

abbrev pub is_prefix : Token → Bool
is_prefix x = is_some (of_mark prefix_of x)

-- what begins an expression
abbrev pub begins_expr : Token → Bool
begins_expr x =
    is_number x || is_name x || is_prefix x || is_mark m.And x || is_mark m.OpenParen x
    || is_word (codes "NULL") x || is_word (codes "malloc") x || is_word (codes "valueof") x

-- what begins a type
abbrev pub begins_base : Token → Bool
begins_base x = is_word (codes "int") x || is_word (codes "void") x || is_word (codes "struct") x

-- what begins a declaration
abbrev pub begins_declaration : Token → Bool
begins_declaration x =
    is_word (codes "local") x || is_word (codes "shared") x || is_word (codes "int") x || is_word (codes "struct") x

-- what begins a statement
abbrev pub begins_stmt : Token → Bool
begins_stmt x =
    begins_expr x || is_mark m.Semicolon x || is_mark m.OpenBrace x || is_mark m.OpenPar x
    || is_word (codes "if") x || is_word (codes "while") x || is_word (codes "for") x || is_word (codes "forall") x
    || is_word (codes "writeto") x || is_word (codes "addto") x || is_word (codes "printf") x
    || is_word (codes "return") x

-- ---- tokens

abbrev pub word : List ℕ → Reader (Unit {0})
word w = plain (only (is_word w))

abbrev pub mark : Mark → Reader (Unit {0})
mark k = plain (only (is_mark k))

abbrev pub operator : {A : Type 0} → (Token → Option A) → Reader A
operator pick = one pick next_mark with_mark

abbrev pub sign : Mark → Reader (Unit {0})
sign k = operator (only (is_mark k))

abbrev pub number : Reader ℤ
number = plain number_of

abbrev pub name : Reader Name
name = one name_of name_bytes (λ s. s)

abbrev pub string : Reader (List ℕ)
string = one string_of string_bytes (λ s. s)

abbrev pub variable_name : Reader Name
variable_name = one name_of variable_counts with_variable

abbrev pub parameter_name : ℕ → Reader Name
parameter_name before = one name_of (parameter_counts before) with_variable

abbrev pub function_name : Reader Name
function_name = one name_of function_counts with_function

-- ---- types

abbrev pub struct_base : Reader Base
struct_base = word (codes "struct") >> (name >>= (λ n. give (Struct n)))

abbrev pub base : Reader Base
base =
    when (is_word (codes "int")) (word (codes "int") >> give Int)
    (when (is_word (codes "void")) (word (codes "void") >> give Void) struct_base)

-- the base of a variable
abbrev pub variable_base : Reader Base
variable_base = when (is_word (codes "int")) (word (codes "int") >> give Int) struct_base

abbrev pub stars : Reader (Unit {0}) → ℕ → Reader ℕ
stars star = turns (is_mark m.Star) (λ k. star >> give (suc k))

abbrev pub type_with : Reader (Unit {0}) → Reader Ty
type_with star = base >>= (λ b. stars star 0 >>= (λ k. give (typed b k)))

abbrev pub pointer_with : Reader (Unit {0}) → Reader Ty
pointer_with star = base >>= (λ b. star >> (stars star 1 >>= (λ k. give (typed b k))))

abbrev pub mode : Reader Mode
mode =
    when (is_word (codes "local")) (word (codes "local") >> give Local)
    (when (is_word (codes "shared")) (word (codes "shared") >> give Shared) (give Plain))
