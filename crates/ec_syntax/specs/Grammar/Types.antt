-- Types and how variables are declared.
use Rattle.std.specs.Prelude.{ℕ, suc, codes}
use Rattle.ec_syntax.specs.declared.name.Base.{Base}
use Rattle.ec_syntax.specs.declared.name.Base.TheVariants.{Void, Int, Struct}
use Rattle.ec_syntax.specs.declared.name.Mode.{Mode}
use Rattle.ec_syntax.specs.declared.name.Mode.TheVariants.{Plain, Local, Shared}
use Rattle.ec_syntax.specs.declared.name.Ty.{Ty}
use Rattle.ec_syntax.specs.Grammar.Language.{Language, give, ◌>>=◌, ◌>>◌, ◌or◌, turns}
use Rattle.ec_syntax.specs.Grammar.Tokens.{word, name}

-- "struct" id
abbrev pub struct_base : ℕ → Language Base
struct_base d = do
  word d (codes "struct")
  n ← name d
  give (Struct n)

-- "int"
abbrev pub int_base : ℕ → Language Base
int_base d = word d (codes "int") >> give Int

-- "int" | "void" | "struct" id
abbrev pub base : ℕ → Language Base
base d = int_base d or (word d (codes "void") >> give Void) or struct_base d

-- so many stars, each of which is this token
abbrev pub stars : Language (Unit {0}) → ℕ → Language ℕ
stars star = turns (λ k. star >> give (suc k))

abbrev pub typed : Base → ℕ → Ty
typed b k = record { base = b; stars = k }

-- base "*"*
abbrev pub type_with : ℕ → Language (Unit {0}) → Language Ty
type_with d star = do
  b ← base d
  k ← stars star 0
  give (typed b k)

-- base "*"+
abbrev pub pointer_with : ℕ → Language (Unit {0}) → Language Ty
pointer_with d star = do
  b ← base d
  star
  k ← stars star 1
  give (typed b k)

-- "" | "local" | "shared"
abbrev pub mode : ℕ → Language Mode
mode d = give Plain or (word d (codes "local") >> give Local) or (word d (codes "shared") >> give Shared)
