-- Expressions. A language of expressions is given the depth at which its tokens stand; what its tokens open stands one
-- deeper. `nested` bounds how often.
use Rattle.std.specs.Prelude.{ℕ, zero, suc, ◌==◌, if◌then◌else◌, codes, List, [], ◌∷◌, Option, Some, None}
use Rattle.ec_base.specs.declared.operator.BinOp.TheVariants as op
use Rattle.ec_base.specs.declared.operator.UnOp.TheVariants.{Neg, Inv, Not}
use Rattle.ec_base.specs.declared.token.Mark.{Mark}
use Rattle.ec_base.specs.declared.token.Mark.TheVariants as m
use Rattle.ec_base.specs.declared.token.Span.{Span}
use Rattle.ec_base.specs.declared.token.Token.{Token}
use Rattle.ec_base.specs.declared.token.TokenKind.{TokenKind}
use Rattle.ec_base.specs.declared.token.TokenKind.TheVariants as t
use Rattle.ec_syntax.specs.declared.expression.Call.{Call, roll-Call}
use Rattle.ec_syntax.specs.declared.expression.Expr.{Expr}
use Rattle.ec_syntax.specs.declared.expression.ExprKind.{ExprKind}
use Rattle.ec_syntax.specs.declared.expression.ExprKind.TheVariants.{Number, Null, Var, Paren, Unary, Binary, And, Or, Deref, Index, Arrow, Dot, Call as CallOf, New, ValueOf, Address, Here, OwnerOf, Home, Node, Anywhere}
use Rattle.ec_syntax.specs.declared.expression.Placement.{Placement}
use Rattle.ec_syntax.specs.declared.name.Ty.{Ty}
use Rattle.ec_syntax.specs.Grammar.Language.{Language, give, look, ◌>>=◌, ◌>>◌, ◌or◌, never, turns, maybe, span, placed}
use Rattle.ec_syntax.specs.Grammar.Tokens.{listed, word, operator, sign, number, name}
use Rattle.ec_syntax.specs.Grammar.Types.{type_with, pointer_with}

abbrev pub expression : ExprKind → Span → Expr
expression kind at = record { kind = kind; at = at }

-- ---- operators

-- what a prefix operator makes of its operand
abbrev pub prefix_of : Mark → Option (Expr → ExprKind)
prefix_of m.Minus = Some (Unary Neg)
prefix_of m.Bang = Some (Unary Not)
prefix_of m.Tilde = Some (Unary Inv)
prefix_of m.Star = Some Deref
prefix_of _ = None

-- an operator between two operands: how many of C's ten levels bind closer, and what it makes of them
abbrev pub Infix : Type 0
Infix = ℕ × (Expr → Expr → ExprKind)

abbrev pub infix_of : Mark → Option Infix
infix_of m.Star = Some (0, Binary op.Mul)
infix_of m.Slash = Some (0, Binary op.Div)
infix_of m.Percent = Some (0, Binary op.Rem)
infix_of m.Plus = Some (1, Binary op.Add)
infix_of m.Minus = Some (1, Binary op.Sub)
infix_of m.ShiftLeft = Some (2, Binary op.Shl)
infix_of m.ShiftRight = Some (2, Binary op.Shr)
infix_of m.Less = Some (3, Binary op.Lt)
infix_of m.LessEqual = Some (3, Binary op.Le)
infix_of m.Greater = Some (3, Binary op.Gt)
infix_of m.GreaterEqual = Some (3, Binary op.Ge)
infix_of m.Equal = Some (4, Binary op.Eq)
infix_of m.NotEqual = Some (4, Binary op.Ne)
infix_of m.And = Some (5, Binary op.And)
infix_of m.Caret = Some (6, Binary op.Xor)
infix_of m.Or = Some (7, Binary op.Or)
infix_of m.AndAnd = Some (8, And)
infix_of m.OrOr = Some (9, Or)
infix_of _ = None

-- what a token is, where it is a mark
abbrev pub of_mark : {A : Type 0} → (Mark → Option A) → Token → Option A
of_mark pick x = of_kind pick x.kind
  where
    of_kind : {A : Type 0} → (Mark → Option A) → TokenKind → Option A
    of_kind pick (t.Mark k) = pick k
    of_kind pick _ = None

-- what the operators of one level make of their operands
abbrev pub at_level : ℕ → Mark → Option (Expr → Expr → ExprKind)
at_level level k = chosen level (infix_of k)
  where
    chosen : ℕ → Option Infix → Option (Expr → Expr → ExprKind)
    chosen level None = None
    chosen level (Some i) = if i.0 == level then Some i.1 else None

abbrev pub joined : (Expr → Expr → ExprKind) → Expr → Expr → Expr
joined make a b = expression (make a b) (span a.at.from b.at.to)

-- one operator more of a level, and its right operand
abbrev pub operation : ℕ → ℕ → Language Expr → Expr → Language Expr
operation d level operand a = do
  make ← operator d (of_mark (at_level level))
  b ← operand
  give (joined make a b)

-- operands joined by operators of the levels below this one, each to the left
abbrev pub levels : ℕ → ℕ → Language Expr → Language Expr
levels d zero operand = operand
levels d (suc level) operand = levels d level operand >>= turns (operation d level (levels d level operand))

-- an expression whose operands are these
abbrev pub expr_of : ℕ → Language Expr → Language Expr
expr_of d operand = levels d 10 operand

-- ---- calls

-- "(" inside ")", as operators or brackets of a part
abbrev pub bracketed : {A : Type 0} → ℕ → Language A → Language A
bracketed d inside = do
  sign d m.OpenParen
  a ← inside
  sign (suc d) m.CloseParen
  give a

-- (expr ("," expr)*)?
abbrev pub arguments : ℕ → Language Expr → Language (List Expr)
arguments d expr = give [] or (expr >>= (λ e. listed d (λ es. expr) (e ∷ [])))

-- "@" ("OWNER_OF" "(" expr ")" | "HOME" | "NODE" "(" expr ")" | "ANYWHERE"), or nothing
abbrev pub place : ℕ → Language Expr → Language Placement
place d expr = give Here or (sign d m.At >> (owner or home or node or anywhere))
  where
    owner : Language Placement
    owner = word d (codes "OWNER_OF") >> (bracketed d expr >>= (λ e. give (OwnerOf e)))

    home : Language Placement
    home = word d (codes "HOME") >> give Home

    node : Language Placement
    node = word d (codes "NODE") >> (bracketed d expr >>= (λ e. give (Node e)))

    anywhere : Language Placement
    anywhere = word d (codes "ANYWHERE") >> give Anywhere

-- id "(" (expr ("," expr)*)? ")" place?
abbrev pub called : ℕ → Language Expr → Language (Span → Call)
called d expr = do
  n ← name d
  args ← bracketed d (arguments (suc d) expr)
  p ← place d expr
  give (λ at. roll-Call (record { name = n; args = args; place = p; at = at }))

abbrev pub call : ℕ → Language Expr → Language Call
call d expr = placed (λ make at. make at) (called d expr)

-- ---- malloc

-- "(" base "*"+ ")"
abbrev pub cast : ℕ → Language Ty
cast d = bracketed d (pointer_with (suc d) (sign (suc d) m.Star))

-- ("(" base "*"+ ")")? "malloc" "(" ((term "*")? "sizeof" "(" base "*"* ")") ")", where term has operands and the
-- operators that bind closest
abbrev pub malloc : ℕ → Language Expr → Language ExprKind
malloc d operand = do
  t ← maybe (cast d)
  word d (codes "malloc")
  c ← bracketed d (counted (suc d))
  give (New t c.0 c.1)
  where
    counted : ℕ → Language (Option Expr × Ty)
    counted d = do
      count ← maybe (levels d 1 operand >>= (λ e. sign d m.Star >> give e))
      word d (codes "sizeof")
      element ← bracketed d (type_with (suc d) (sign (suc d) m.Star))
      give (count, element)

-- ---- expressions

-- num | "NULL" | id | call | "(" expr ")" | new | "valueof" "(" expr ")"; the operands one deeper are given
abbrev pub primary : ℕ → Language Expr → Language Expr
primary d operand =
    placed expression (number d >>= (λ n. give (Number n)))
    or placed expression (word d (codes "NULL") >> give Null)
    or placed expression (name d >>= (λ n. give (Var n.text)))
    or placed (λ make at. expression (CallOf (make at)) at) (called d inner)
    or placed expression (bracketed d inner >>= (λ e. give (Paren e)))
    or placed expression (malloc d operand)
    or placed expression (word d (codes "valueof") >> (bracketed d inner >>= (λ e. give (ValueOf e))))
  where
    inner : Language Expr
    inner = expr_of (suc d) operand

-- "[" expr "]" | "->" id | "." id behind an expression
abbrev pub selected : ℕ → Language Expr → Expr → Language Expr
selected d operand e = (index or (sign d m.Arrow >> field Arrow) or (sign d m.Dot >> field Dot)) >>= ended
  where
    index : Language ExprKind
    index = do
      sign d m.OpenBracket
      i ← expr_of (suc d) operand
      sign (suc d) m.CloseBracket
      give (Index e i)

    field : (Expr → List ℕ → ExprKind) → Language ExprKind
    field make = name d >>= (λ f. give (make e f.text))

    ended : ExprKind → Language Expr
    ended kind = look (λ s. s.end) >>= (λ to. give (expression kind (span e.at.from to)))

-- primary ("[" expr "]" | "->" id | "." id)*
abbrev pub postfix : ℕ → Language Expr → Language Expr
postfix d operand = primary d operand >>= turns (selected d operand)

-- ("-" | "!" | "~" | "*") unary | "&" id | postfix, nested at most so often
abbrev pub unary : ℕ → ℕ → Language Expr
unary zero d = never
unary (suc nested) d =
    placed expression (operator d (of_mark prefix_of) >>= (λ make. unary nested (suc d) >>= (λ e. give (make e))))
    or placed expression (sign d m.And >> (name (suc d) >>= (λ n. give (Address n.text))))
    or postfix d (unary nested (suc d))

abbrev pub expr : ℕ → ℕ → Language Expr
expr nested d = expr_of d (unary nested d)
