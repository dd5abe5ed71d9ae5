-- What operators make of their operands.
use Rattle.std.specs.Prelude.{ℕ, Bool}
use Rattle.ec_reader.specs.declared.operators.Infix.{Infix}
use Rattle.ec_reader.specs.declared.operators.Infix.TheVariants.{Binary, And, Or}
use Rattle.ec_reader.specs.declared.operators.Prefix.{Prefix}
use Rattle.ec_reader.specs.declared.operators.Prefix.TheVariants.{Unary, Deref}
use Rattle.ec_syntax.specs.declared.expression.Expr.{Expr}
use Rattle.ec_syntax.specs.declared.expression.ExprKind.{ExprKind}
use Rattle.ec_syntax.specs.declared.expression.ExprKind.TheVariants.{Unary as UnaryOf, Deref as DerefOf, Binary as BinaryOf, And as Both, Or as Either}

abbrev pub prefixes : Prefix → Expr → ExprKind
prefixes (Unary op) e = UnaryOf op e
prefixes Deref e = DerefOf e

abbrev pub makes : Infix → Expr → Expr → ExprKind
makes (Binary op) a b = BinaryOf op a b
makes And a b = Both a b
makes Or a b = Either a b

abbrev pub of_pair : ℕ × Infix → ℕ × (Expr → Expr → ExprKind)
of_pair p = (p.0, makes p.1)

abbrev pub of_factor : Bool × Infix → Bool × (Expr → Expr → ExprKind)
of_factor p = (p.0, makes p.1)
