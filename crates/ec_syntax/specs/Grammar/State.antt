-- Where a reader of a program stands, and which quantities are limited.
use Rattle.std.specs.Prelude.{ℕ, List, [], ◌∷◌, ◌≤◌}
use Rattle.ec_base.specs.declared.limits.TheConstants.{MAX_BRANCHES, MAX_FUNCTIONS, MAX_MARKS, MAX_NAME, MAX_NESTING, MAX_PARAMETERS, MAX_PRINT_ARGUMENTS, MAX_STRING, MAX_STRUCTS, MAX_VARIABLES}
use Rattle.ec_base.specs.declared.token.Token.{Token}
use Rattle.ec_syntax.specs.declared.quantity.Quantity.{Quantity}
use Rattle.ec_syntax.specs.declared.quantity.Quantity.TheVariants.{Nesting, Marks, Variables, Parameters, Functions, Structs, Arguments, Branches, NameBytes, StringBytes}

-- The tokens that are left, where the last one that was read ends, and what has been counted so far: operators and
-- brackets of the part, variables of the function with its parameters, functions and structs.
pub record State : Type 0 where
  pub left : List Token
  pub end : ℕ
  pub marks : ℕ
  pub variables : ℕ
  pub functions : ℕ
  pub structs : ℕ

-- the most that there may be
abbrev pub limit : Quantity → ℕ
limit Nesting = MAX_NESTING
limit Marks = MAX_MARKS
limit Variables = MAX_VARIABLES
limit Parameters = MAX_PARAMETERS
limit Functions = MAX_FUNCTIONS
limit Structs = MAX_STRUCTS
limit Arguments = MAX_PRINT_ARGUMENTS
limit Branches = MAX_BRANCHES
limit NameBytes = MAX_NAME
limit StringBytes = MAX_STRING

-- What is asked of a quantity at a token, given the tokens from that one on. The limits are asked everywhere in a
-- program within the limits, and nowhere in a sentence of the bare grammar.
abbrev pub Asked : Type 1
Asked = List Token → Quantity → ℕ → Type 0

abbrev pub limits : Asked
limits left q count = count ≤ limit q

abbrev pub nothing : Asked
nothing left q count = Unit {0}

-- quantities and their counts
abbrev pub Counts : Type 0
Counts = List (Quantity × ℕ)

-- what is asked of each of these counts at a token
abbrev pub AskedAll : Asked → List Token → Counts → Type 0
AskedAll asked left [] = Unit {0}
AskedAll asked left (c ∷ cs) = asked left c.0 c.1 × AskedAll asked left cs
