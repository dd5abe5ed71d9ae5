-- The same, token by token: what is read and what is left, or what is left where no rule goes on.
use Rattle.std.specs.Prelude.{◌≡◌, ◌≤◌, ℕ, zero, suc, Bool, true, false, ◌&&◌, if◌then◌else◌, nat_le, List, [], ◌∷◌, ◌++◌, length, drop, codes, Option, Some, None, is_none, Result, Ok, Err}
use Rattle.ec_base.specs.Format.{conversions}
use Rattle.ec_base.specs.declared.fail.Fail.{Fail}
use Rattle.ec_base.specs.declared.fail.Fail.TheVariants.{Memory, Refused}
use Rattle.ec_base.specs.declared.token.Token.{Token}
use Rattle.ec_base.specs.declared.token.TokenKind.{TokenKind}
use Rattle.ec_base.specs.declared.token.TokenKind.TheVariants as t
use Rattle.ec_base.specs.declared.token.Mark.{Mark}
use Rattle.ec_base.specs.declared.token.Mark.TheVariants as m
use Rattle.ec_small.specs.declared.tree.Operator.{Operator}
use Rattle.ec_small.specs.declared.tree.Operator.TheVariants as operator
use Rattle.ec_small.specs.declared.tree.Expr.{Expr}
use Rattle.ec_small.specs.declared.tree.Expr.TheVariants.{Number, Var, Binary}
use Rattle.ec_small.specs.declared.tree.Stmt.{Stmt}
use Rattle.ec_small.specs.declared.tree.Stmt.TheVariants.{Set, Print}
use Rattle.ec_small.specs.declared.tree.Program.{Program}
use Rattle.ec_small.specs.declared.declaration.Declared.{Declared}
use Rattle.ec_small.specs.declared.statement.Format.{Format}
use Rattle.ec_small.specs.Words.{same, place, is_name}
use Rattle.ec_small.specs.Grammar.{Kinds, Names, kinds}

-- what is read before the rest, or where reading stops
abbrev pub Read : Type 0 → Type 0
Read A = Result (A × Kinds) Kinds

abbrev pub and_then : {A B : Type 0} → Read A → (A → Kinds → Read B) → Read B
and_then (Ok p) go = go p.0 p.1
and_then (Err r) go = Err r

-- an expression, and how many operators and brackets its statement may still have
abbrev pub Sized : Type 0
Sized = Expr × ℕ

-- ---- single tokens

-- whether a token is this mark
abbrev pub is_mark : Mark → TokenKind → Bool
is_mark m.CloseParen (t.Mark m.CloseParen) = true
is_mark m.OpenParen (t.Mark m.OpenParen) = true
is_mark m.OpenBrace (t.Mark m.OpenBrace) = true
is_mark m.CloseBrace (t.Mark m.CloseBrace) = true
is_mark m.Semicolon (t.Mark m.Semicolon) = true
is_mark m.Comma (t.Mark m.Comma) = true
is_mark m.Assign (t.Mark m.Assign) = true
is_mark m.Star (t.Mark m.Star) = true
is_mark m.Plus (t.Mark m.Plus) = true
is_mark m.Minus (t.Mark m.Minus) = true
is_mark _ _ = false

-- whether the first of these tokens is this mark
abbrev pub first_is : Mark → List Token → Bool
first_is mk [] = false
first_is mk (x ∷ rest) = is_mark mk x.kind

abbrev pub mark_if : {A : Type 0} → Bool → A → TokenKind → Kinds → Read A
mark_if true a x rest = Ok (a, rest)
mark_if false a x rest = Err (x ∷ rest)

-- this mark, behind what was read
abbrev pub mark : {A : Type 0} → Mark → A → Kinds → Read A
mark mk a [] = Err []
mark mk a (x ∷ rest) = mark_if (is_mark mk x) a x rest

abbrev pub is_word : List ℕ → TokenKind → Bool
is_word w (t.Word x) = same x w
is_word w _ = false

-- ---- expressions

abbrev pub variable : ℕ → List ℕ → Kinds → Option ℕ → Read Sized
variable i w rest None = Err (t.Word w ∷ rest)
variable i w rest (Some k) = Ok ((Var k, i), rest)

-- the operator of products or of sums that a token is
abbrev pub factor_operator : TokenKind → Option Operator
factor_operator (t.Mark m.Star) = Some operator.Mul
factor_operator _ = None

abbrev pub term_operator : TokenKind → Option Operator
term_operator (t.Mark m.Plus) = Some operator.Add
term_operator (t.Mark m.Minus) = Some operator.Sub
term_operator _ = None

-- the operator at the front, where there is room for it
abbrev pub operator_at : (TokenKind → Option Operator) → ℕ → Kinds → Option Operator
operator_at operator_of zero ts = None
operator_at operator_of (suc i) [] = None
operator_at operator_of (suc i) (x ∷ rest) = operator_of x

-- more factors, in at most so many turns
abbrev pub product_on : (ℕ → Kinds → Read Sized) → ℕ → Sized → Kinds → Read Sized
product_on item zero p rest = Ok (p, rest)
product_on item (suc k) (a, suc i) (t.Mark m.Star ∷ rest) =
    and_then (item i rest) (λ b. product_on item k (Binary operator.Mul a b.0, b.1))
product_on item (suc k) p rest = Ok (p, rest)

unfoldable pub product_by : (ℕ → Kinds → Read Sized) → ℕ → Kinds → Read Sized
product_by item i ts = and_then (item i ts) (λ p rest. product_on item (length rest) p rest)

-- more terms, in at most so many turns
abbrev pub sum_on : (ℕ → Kinds → Read Sized) → ℕ → Sized → Kinds → Read Sized
sum_on product zero p rest = Ok (p, rest)
sum_on product (suc k) (a, suc i) (t.Mark m.Plus ∷ rest) =
    and_then (product i rest) (λ b. sum_on product k (Binary operator.Add a b.0, b.1))
sum_on product (suc k) (a, suc i) (t.Mark m.Minus ∷ rest) =
    and_then (product i rest) (λ b. sum_on product k (Binary operator.Sub a b.0, b.1))
sum_on product (suc k) p rest = Ok (p, rest)

unfoldable pub sum_by : (ℕ → Kinds → Read Sized) → ℕ → Kinds → Read Sized
sum_by item i ts = and_then (product_by item i ts) (λ p rest. sum_on (product_by item) (length rest) p rest)

-- an item under at most n more parentheses, of a statement that may have i more operators and brackets
abbrev pub item : ℕ → Names → ℕ → Kinds → Read Sized
item n names i (t.Number v ∷ rest) = Ok ((Number v, i), rest)
item n names i (t.Word w ∷ rest) = variable i w rest (place names w)
item (suc n) names (suc (suc i)) (t.Mark m.OpenParen ∷ rest) = and_then (sum_by (item n names) i rest) (mark m.CloseParen)
item n names i rest = Err rest

abbrev pub sum : ℕ → Names → ℕ → Kinds → Read Sized
sum n names = sum_by (item n names)

-- ---- from token to token

-- whether a token that passes the test stands at the front
abbrev pub starts : (TokenKind → Bool) → Kinds → Bool
starts test [] = false
starts test (x ∷ rest) = test x

-- what the token at the front is, where it is something
abbrev pub first : {A : Type 0} → (TokenKind → Option A) → Kinds → Option A
first pick [] = None
first pick (x ∷ rest) = pick x

-- what is told where a test holds, and where not, that reading stops
abbrev pub only : {A : Type 0} → Bool → Read A → Kinds → Read A
only true told ts = told
only false told ts = Err ts

-- a token that passes the test, and what stands behind it
abbrev pub past : {A : Type 0} → (TokenKind → Bool) → (Kinds → Read A) → Kinds → Read A
past test go ts = only (starts test ts) (go (drop 1 ts)) ts

-- a token that passes the test and what stands behind it, or something else
abbrev pub past_or : {A : Type 0} → (TokenKind → Bool) → (Kinds → Read A) → (Kinds → Read A) → Kinds → Read A
past_or test go other ts = if starts test ts then go (drop 1 ts) else other ts

-- what is told of a value where there is one, and where not, that reading stops
abbrev pub only_some : {A B : Type 0} → Option A → (A → Read B) → Kinds → Read B
only_some None go ts = Err ts
only_some (Some a) go ts = go a

-- a token that is something, and what stands behind it
abbrev pub past_some : {A B : Type 0} → (TokenKind → Option A) → (A → Kinds → Read B) → Kinds → Read B
past_some pick go ts = only_some (first pick ts) (λ a. go a (drop 1 ts)) ts

-- ---- declarations

-- a name that may be declared
abbrev pub is_new : Names → List ℕ → Bool
is_new names w = is_name w && is_none (place names w)

-- the name that a token is, where it may be declared
abbrev pub new_word : Names → TokenKind → Option (List ℕ)
new_word names (t.Word w) = if is_new names w then Some w else None
new_word names _ = None

-- an initialiser behind its mark
abbrev pub initial : Names → Kinds → Read (Option Expr)
initial names ts = and_then (sum 63 names 256 ts) (λ p. mark m.Semicolon (Some p.0))

-- the rest of a declaration behind its name, with the name declared
unfoldable pub initialiser : Names → Kinds → Read (Option Expr)
initialiser names = past_or (is_mark m.Assign) (initial names) (mark m.Semicolon None)

-- the word that begins a declaration
abbrev pub is_int : TokenKind → Bool
is_int = is_word (codes "int")

-- one name more and its initialiser
abbrev pub with_init : Declared → List ℕ → Option Expr → Declared
with_init d w o = record { names = d.names ++ w ∷ []; inits = d.inits ++ o ∷ [] }

-- a declaration behind the word `int`, and those before it
unfoldable pub decl : Declared → Kinds → Read Declared
decl d = past_some (new_word d.names) (λ w us. and_then (initialiser (d.names ++ w ∷ []) us) (λ o rest. Ok (with_init d w o, rest)))

-- at most so many declarations, behind those that were read
abbrev pub decls_on : ℕ → Declared → Kinds → Read Declared
decls_on zero d ts = if starts is_int ts then Err ts else Ok (d, ts)
decls_on (suc k) d ts = past_or is_int (λ us. and_then (decl d us) (decls_on k)) (λ us. Ok (d, us)) ts

-- the declarations of a program
unfoldable pub decls : Kinds → Read Declared
decls = decls_on 256 (record { names = []; inits = [] })

-- ---- statements

-- so many arguments behind those that were read, then the closing bracket
abbrev pub args_on : ℕ → Names → ℕ → List Expr → Kinds → Read (List Expr)
args_on zero names i es = mark m.CloseParen es
args_on (suc k) names i es = past (is_mark m.Comma) (λ us. and_then (sum 62 names i us) (λ p. args_on k names p.1 (es ++ p.0 ∷ [])))

-- a count that `printf` takes
abbrev pub few : Option ℕ → Option ℕ
few None = None
few (Some n) = if nat_le n 8 then Some n else None

-- how many arguments `printf` prints with a string, where it takes it
abbrev pub format_count : List ℕ → Option ℕ
format_count s = if nat_le (length s) 255 then few (conversions s) else None

-- a string with its count
abbrev pub with_count : List ℕ → Option ℕ → Option Format
with_count s None = None
with_count s (Some n) = Some (record { string = s; count = n })

-- the string that a token is, where `printf` takes it
abbrev pub format_of : TokenKind → Option Format
format_of (t.Str s) = with_count s (format_count s)
format_of _ = None

-- a string that `printf` takes
unfoldable pub format : Kinds → Read Format
format = past_some format_of (λ f rest. Ok (f, rest))

-- the arguments of a string, and what ends the statement
unfoldable pub printed : Names → Format → Kinds → Read Stmt
printed names f ts = and_then (args_on f.count names 254 [] ts) (λ es. mark m.Semicolon (Print f.string es))

-- a statement behind the word `printf`
unfoldable pub print_stmt : Names → Kinds → Read Stmt
print_stmt names = past (is_mark m.OpenParen) (λ us. and_then (format us) (printed names))

-- a statement behind the variable that it sets
unfoldable pub set_stmt : Names → ℕ → Kinds → Read Stmt
set_stmt names k = past (is_mark m.Assign) (λ us. and_then (sum 63 names 255 us) (λ p. mark m.Semicolon (Set k p.0)))

-- the variable that a token names
abbrev pub variable_of : Names → TokenKind → Option ℕ
variable_of names (t.Word w) = place names w
variable_of names _ = None

-- a statement
unfoldable pub stmt : Names → Kinds → Read Stmt
stmt names = past_or (is_word (codes "printf")) (print_stmt names) (past_some (variable_of names) (set_stmt names))

-- the word behind the statements
abbrev pub is_return : TokenKind → Bool
is_return = is_word (codes "return")

-- statements up to the word `return`, which is read too, in at most so many turns
abbrev pub stmts_on : ℕ → Names → List Stmt → Kinds → Read (List Stmt)
stmts_on zero names ss ts = Err ts
stmts_on (suc k) names ss ts =
    past_or is_return (λ rest. Ok (ss, rest)) (λ us. and_then (stmt names us) (λ s. stmts_on k names (ss ++ s ∷ []))) ts

-- statements behind those that were read, with turns enough
unfoldable pub stmts : Names → List Stmt → Kinds → Read (List Stmt)
stmts names ss ts = stmts_on (suc (length ts)) names ss ts

-- ---- programs

-- the closing bracket of main, and the opening brace
unfoldable pub opened : Kinds → Read (Unit {0})
opened = past (is_mark m.CloseParen) (mark m.OpenBrace (tt {0}))

-- the brackets of main, with or without `void`, and the opening brace
abbrev pub no_params : Kinds → Read (Unit {0})
no_params = past_or (is_word (codes "void")) opened opened

-- main up to the opening brace
unfoldable pub head : Kinds → Read (Unit {0})
head = past is_int (past (is_word (codes "main")) (past (is_mark m.OpenParen) no_params))

-- what stands behind the word `return`
unfoldable pub returned : Names → Kinds → Read Expr
returned names ts = and_then (sum 63 names 256 ts) (λ p. past (is_mark m.Semicolon) (mark m.CloseBrace p.0))

-- the statements and the result, behind the declarations
unfoldable pub body : Declared → Kinds → Read Program
body d ts = and_then (stmts d.names [] ts) (λ ss us. and_then (returned d.names us) (λ e rest. Ok (record { inits = d.inits; stmts = ss; result = e }, rest)))

-- the tokens of a program before the end
unfoldable pub main : Kinds → Read Program
main ts = and_then (head ts) (λ u us. and_then (decls us) body)

-- the end, and nothing behind it
abbrev pub end : Program → Kinds → Read Program
end p [] = Err []
end p (t.End ∷ []) = Ok (p, [])
end p (t.End ∷ x ∷ rest) = Err (x ∷ rest)
end p ts = Err ts

-- a whole program
abbrev pub program : Kinds → Read Program
program ts = and_then (main ts) end

-- ---- what the code answers, by the index of the next token

abbrev pub AnswersAt : {A : Type 0} → List Token → Result (A × ℕ) (Fail ℕ) → Read A → Type 0
AnswersAt tokens (Ok p) told = (p.1 ≤ length tokens) × (told ≡ Ok (p.0, kinds (drop p.1 tokens)))
AnswersAt tokens (Err (Refused at)) told = (at ≤ length tokens) × (told ≡ Err (kinds (drop at tokens)))
AnswersAt tokens (Err Memory) told = Unit {0}
