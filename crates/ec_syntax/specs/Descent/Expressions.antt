-- Readers of expressions. Each is told how much room for nesting there is below it, or the reader of what stands one
-- deeper.
use Rattle.std.specs.Prelude.{ℕ, zero, suc, Bool, true, false, ◌||◌, codes, List, [], ◌∷◌, ◌++◌, length, Option, Some, None, is_some}
use Rattle.ec_base.specs.declared.token.Mark.TheVariants as m
use Rattle.ec_base.specs.declared.token.Span.{Span}
use Rattle.ec_base.specs.declared.token.Token.{Token}
use Rattle.ec_syntax.specs.declared.expression.Call.{Call, roll-Call}
use Rattle.ec_syntax.specs.declared.expression.Expr.{Expr}
use Rattle.ec_syntax.specs.declared.expression.ExprKind.{ExprKind}
use Rattle.ec_syntax.specs.declared.expression.ExprKind.TheVariants.{Number, Null, Var, Paren, Index, Arrow, Dot, Call as CallOf, New, ValueOf, Address, Here, OwnerOf, Home, Node, Anywhere}
use Rattle.ec_syntax.specs.declared.expression.Placement.{Placement}
use Rattle.ec_syntax.specs.declared.name.Name.{Name}
use Rattle.ec_syntax.specs.declared.name.Ty.{Ty}
use Rattle.ec_syntax.specs.declared.quantity.Quantity.TheVariants.{Nesting}
use Rattle.ec_syntax.specs.Grammar.Language.{begin, span}
use Rattle.ec_syntax.specs.Grammar.Tokens.{is_word, is_mark}
use Rattle.ec_syntax.specs.Grammar.Expressions.{expression, prefix_of, of_mark, at_level, joined}
use Rattle.ec_syntax.specs.Descent.Reader.{Reader, look, give, ◌>>=◌, ◌>>◌, when, stop, passed, turns, inside, placed}
use Rattle.ec_syntax.specs.declared.quantity.Fault.TheVariants.{Expected}
use Rattle.ec_syntax.specs.Descent.Tokens.{is_name, is_number, is_prefix, begins_expr, begins_base, word, mark, operator, sign, number, name, type_with, pointer_with}

-- ---- operators

abbrev pub is_at_level : ℕ → Token → Bool
is_at_level level x = is_some (of_mark (at_level level) x)

-- one operator more of a level, and its right operand
abbrev pub operation : ℕ → Reader Expr → Expr → Reader Expr
operation level operand a = operator (of_mark (at_level level)) >>= (λ make. operand >>= (λ b. give (joined make a b)))

abbrev pub levels : ℕ → Reader Expr → Reader Expr
levels zero operand = operand
levels (suc level) operand = levels level operand >>= turns (is_at_level level) (operation level (levels level operand))

abbrev pub expr_of : Reader Expr → Reader Expr
expr_of operand = levels 10 operand

-- ---- calls; `room` is that for what stands in brackets

abbrev pub bracketed : {A : Type 0} → ℕ → (Token → Bool) → Reader A → Reader A
bracketed room test p = sign m.OpenParen >> (inside room test p >>= (λ a. sign m.CloseParen >> give a))

-- the arguments behind the first one
abbrev pub further : Reader Expr → List Expr → Reader (List Expr)
further expr = turns (is_mark m.Comma) (λ es. mark m.Comma >> (expr >>= (λ e. give (es ++ e ∷ []))))

abbrev pub arguments : Reader Expr → Reader (List Expr)
arguments expr = when begins_expr (expr >>= (λ e. further expr (e ∷ []))) (give [])

abbrev pub begins_arguments : Token → Bool
begins_arguments x = begins_expr x || is_mark m.CloseParen x

-- behind `@`
abbrev pub placed_at : ℕ → Reader Expr → Reader Placement
placed_at room expr =
    when (is_word (codes "OWNER_OF")) (word (codes "OWNER_OF") >> (operand >>= (λ e. give (OwnerOf e))))
    (when (is_word (codes "HOME")) (word (codes "HOME") >> give Home)
    (when (is_word (codes "NODE")) (word (codes "NODE") >> (operand >>= (λ e. give (Node e))))
    (word (codes "ANYWHERE") >> give Anywhere)))
  where
    operand : Reader Expr
    operand = bracketed room begins_expr expr

abbrev pub place : ℕ → Reader Expr → Reader Placement
place room expr = when (is_mark m.At) (sign m.At >> placed_at room expr) (give Here)

abbrev pub call_at : Name → List Expr → Placement → Span → Call
call_at n args p at = roll-Call (record { name = n; args = args; place = p; at = at })

-- a call behind its name, which begins at this place
abbrev pub called : ℕ → Reader Expr → ℕ → Name → Reader Expr
called room expr from n =
    bracketed room begins_arguments (arguments expr) >>= (λ args. place room expr >>= (λ p.
    look (λ s. s.end) >>= (λ to. give (expression (CallOf (call_at n args p (span from to))) (span from to)))))

-- a variable, or a call of a function
abbrev pub named : ℕ → Reader Expr → Reader Expr
named room expr = look begin >>= (λ from. name >>= (λ n.
    when (is_mark m.OpenParen) (called room expr from n)
    (look (λ s. s.end) >>= (λ to. give (expression (Var n.text) (span from to))))))

-- ---- malloc

-- behind `sizeof`
abbrev pub element : ℕ → Reader Ty
element room = bracketed room begins_base (type_with (sign m.Star))

-- what an operator makes of its operands, and whether it is `*`
abbrev pub starred : Bool → Option (Expr → Expr → ExprKind) → Option (Bool × (Expr → Expr → ExprKind))
starred star None = None
starred star (Some make) = Some (star, make)

abbrev pub factor : Token → Option (Bool × (Expr → Expr → ExprKind))
factor x = starred (is_mark m.Star x) (of_mark (at_level 0) x)

-- another factor
abbrev pub multiplied : Reader Expr → (Expr → Reader Expr) → Expr → (Expr → Expr → ExprKind) → Reader Expr
multiplied operand next a make = operand >>= (λ b. next (joined make a b))

-- behind an operator: only a `*` may be the one before `sizeof`, and then the count ends before it
abbrev pub counted : Reader Expr → (Expr → Reader Expr) → Expr → Bool × (Expr → Expr → ExprKind) → Reader Expr
counted operand next a (true, make) =
    when (is_word (codes "sizeof")) (word (codes "sizeof") >> give a) (multiplied operand next a make)
counted operand next a (false, make) = multiplied operand next a make

-- the rest of a count up to `sizeof`, in at most so many turns
abbrev pub count_by : ℕ → Reader Expr → Expr → Reader Expr
count_by zero operand a = stop Expected
count_by (suc more) operand a = operator factor >>= counted operand (count_by more operand) a

-- a count, and the `*` and `sizeof` behind it; each turn takes a token
abbrev pub count : Reader Expr → Reader Expr
count operand = operand >>= (λ a s. count_by (suc (length s.left)) operand a s)

-- inside the brackets of a `malloc`, where there is so much room below
abbrev pub amount : ℕ → Reader Expr → Reader (Option Expr × Ty)
amount room operand =
    when (is_word (codes "sizeof")) (word (codes "sizeof") >> (element room >>= (λ t. give (None, t))))
    (count operand >>= (λ e. element room >>= (λ t. give (Some e, t))))

abbrev pub begins_amount : Token → Bool
begins_amount x = begins_expr x || is_word (codes "sizeof") x

abbrev pub below : ℕ → ℕ
below zero = zero
below (suc room) = room

-- from the word on, behind its cast
abbrev pub malloc : ℕ → Reader Expr → Option Ty → Reader ExprKind
malloc room operand cast = word (codes "malloc") >>
    (bracketed room begins_amount (amount (below room) operand) >>= (λ c. give (New cast c.0 c.1)))

-- ---- expressions

-- an expression in parentheses, or a cast and its `malloc`
abbrev pub parenthesised : ℕ → Reader Expr → Reader ExprKind
parenthesised room operand = sign m.OpenParen >> inside room begins_parenthesised (when begins_base
    (pointer_with (sign m.Star) >>= (λ t. sign m.CloseParen >> malloc room operand (Some t)))
    (expr_of operand >>= (λ e. sign m.CloseParen >> give (Paren e))))
  where
    begins_parenthesised : Token → Bool
    begins_parenthesised x = begins_expr x || begins_base x

abbrev pub primary : ℕ → Reader Expr → Reader Expr
primary room operand =
    when is_number (placed expression (number >>= (λ n. give (Number n))))
    (when is_name (named room (expr_of operand))
    (when (is_word (codes "NULL")) (placed expression (word (codes "NULL") >> give Null))
    (when (is_mark m.OpenParen) (placed expression (parenthesised room operand))
    (when (is_word (codes "valueof")) (placed expression valued)
    (placed expression (malloc room operand None))))))
  where
    valued : Reader ExprKind
    valued = word (codes "valueof") >> (bracketed room begins_expr (expr_of operand) >>= (λ e. give (ValueOf e)))

abbrev pub is_selector : Token → Bool
is_selector x = is_mark m.OpenBracket x || is_mark m.Arrow x || is_mark m.Dot x

abbrev pub field : Expr → (Expr → List ℕ → ExprKind) → Reader ExprKind
field e make = name >>= (λ f. give (make e f.text))

abbrev pub index : ℕ → Reader Expr → Expr → Reader ExprKind
index room operand e =
    sign m.OpenBracket >> (inside room begins_expr (expr_of operand) >>= (λ i. sign m.CloseBracket >> give (Index e i)))

abbrev pub selected : ℕ → Reader Expr → Expr → Reader Expr
selected room operand e =
    when (is_mark m.OpenBracket) (index room operand e)
    (when (is_mark m.Arrow) (sign m.Arrow >> field e Arrow) (sign m.Dot >> field e Dot))
    >>= (λ kind. look (λ s. s.end) >>= (λ to. give (expression kind (span e.at.from to))))

abbrev pub postfix : ℕ → Reader Expr → Reader Expr
postfix room operand = primary room operand >>= turns is_selector (selected room operand)

-- a name one deeper
abbrev pub address : ℕ → Reader ExprKind
address room = sign m.And >> (inside room is_name name >>= (λ n. give (Address n.text)))

-- an operand where so much room is
abbrev pub unary : ℕ → Reader Expr
unary zero = passed begins_expr Nesting
unary (suc room) =
    when is_prefix (placed expression (operator (of_mark prefix_of) >>= (λ make. unary room >>= (λ e. give (make e)))))
    (when (is_mark m.And) (placed expression (address room))
    (postfix room (unary room)))

abbrev pub expr : ℕ → Reader Expr
expr room = expr_of (unary room)
