-- Parts of readers, by names of their own.
use Rattle.std.specs.Prelude.{ℕ, Bool, true, false, ◌||◌, Option, Some, List, [], ◌∷◌, ◌++◌}
use Rattle.ec_base.specs.declared.token.Mark.TheVariants as m
use Rattle.ec_base.specs.declared.token.Token.{Token}
use Rattle.ec_syntax.specs.declared.expression.Expr.{Expr}
use Rattle.ec_syntax.specs.declared.expression.ExprKind.TheVariants.{Arrow, Dot, Paren}
use Rattle.ec_syntax.specs.declared.expression.ExprKind.{ExprKind}
use Rattle.ec_syntax.specs.declared.name.Ty.{Ty}
use Rattle.ec_reader.specs.declared.malloc.Amount.{Amount}
use Rattle.ec_syntax.specs.declared.quantity.Fault.{Fault}
use Rattle.ec_syntax.specs.declared.quantity.Fault.TheVariants.{Expected, Passes}
use Rattle.ec_syntax.specs.declared.quantity.Quantity.TheVariants.{Nesting}
use Rattle.ec_syntax.specs.Grammar.Language.{span}
use Rattle.ec_syntax.specs.Grammar.Tokens.{is_mark}
use Rattle.ec_syntax.specs.Grammar.Expressions.{expression, of_mark, prefix_of}
use Rattle.ec_syntax.specs.Descent.Reader.{Reader, look, give, ◌>>=◌, ◌>>◌, when, placed}
use Rattle.ec_syntax.specs.Descent.Tokens.{begins_expr, begins_base, operator, mark, sign, pointer_with}
use Rattle.ec_syntax.specs.Descent.Expressions.{bracketed, field, index, malloc, unary, expr_of}

-- what may stand in parentheses
abbrev pub begins_parenthesised : Token → Bool
begins_parenthesised x = begins_expr x || begins_base x

-- why reading stops at a token that stands too deep
abbrev pub too_deep : Bool → Fault
too_deep true = Passes Nesting
too_deep false = Expected

-- an operator before its operand, with the operand
abbrev pub prefixed : ℕ → Reader Expr
prefixed room = placed expression (operator (of_mark prefix_of) >>= (λ make. unary room >>= (λ e. give (make e))))

-- what selects a field of this operand
abbrev pub selected_field : Expr → Reader Expr
selected_field e =
    when (is_mark m.Arrow) (sign m.Arrow >> field e Arrow) (sign m.Dot >> field e Dot)
    >>= (λ kind. look (λ s. s.end) >>= (λ to. give (expression kind (span e.at.from to))))

-- an operand with an index
abbrev pub indexed : ℕ → Expr → Reader Expr
indexed room e = index room (unary room) e >>= (λ kind. look (λ s. s.end) >>= (λ to. give (expression kind (span e.at.from to))))

-- a value in brackets
abbrev pub value : ℕ → Reader Expr
value room = bracketed room begins_expr (expr_of (unary room))

-- what stands in parentheses, behind the first one
abbrev pub behind_parenthesis : ℕ → Reader ExprKind
behind_parenthesis room = when begins_base
    (pointer_with (sign m.Star) >>= (λ t. sign m.CloseParen >> malloc room (unary room) (Some t)))
    (expr_of (unary room) >>= (λ e. sign m.CloseParen >> give (Paren e)))

abbrev pub amount_of : Amount → Option Expr × Ty
amount_of a = (a.count, a.element)

-- one more argument behind these
abbrev pub another_argument : Reader Expr → List Expr → Reader (List Expr)
another_argument expr es = mark m.Comma >> (expr >>= (λ e. give (es ++ e ∷ [])))
