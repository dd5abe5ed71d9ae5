-- Operators and their operands stand where they are read.
use Rattle.std.proofs.Common.{◌≡◌, sym, ◌∙◌, ap, subst, ◌≤◌, ◌<◌, ℕ, zero, suc, Bool, true, false, ◌==◌, if◌then◌else◌, Some, None}
use Rattle.ec_base.specs.declared.operator.BinOp.{BinOp}
use Rattle.ec_base.specs.declared.operator.BinOp.TheVariants as op
use Rattle.ec_base.specs.declared.operator.UnOp.TheVariants.{Neg, Inv, Not}
use Rattle.ec_base.specs.declared.token.Mark.{Mark}
use Rattle.ec_base.specs.declared.token.Mark.TheVariants as m
use Rattle.ec_base.specs.declared.token.Span.{Span}
use Rattle.ec_syntax.specs.declared.expression.Expr.{Expr}
use Rattle.ec_syntax.specs.declared.expression.ExprKind.{ExprKind}
use Rattle.ec_syntax.specs.declared.expression.ExprKind.TheVariants as v
use Rattle.ec_syntax.specs.Grammar.Expressions as E
use Rattle.ec_syntax.specs.Grammar.Expressions.{at_level, prefix_of}
use Rattle.ec_syntax.specs.Grammar.Language as L
use Rattle.ec_syntax.specs.Grammar.Language.{Language, span}
use Rattle.ec_syntax.specs.Parts as P
use Rattle.ec_syntax.specs.Parts.{Role, Parts, one, ◌ahead_of◌, joined}
use Rattle.ec_syntax.specs.Places.{Stands}
use Rattle.ec_syntax.specs.Parts.Role.{Plain, Calling}
use Rattle.ec_syntax.proofs.Folds.Expressions as tree
use Rattle.ec_syntax.proofs.Places.Placing.{Enters, strictly, placed_lays}
use Rattle.ec_syntax.proofs.Places.Rules.{firstly, made, turned}
use Rattle.ec_syntax.proofs.Places.Standing.{ahead_of_assoc, Gives, gives_same, gives_on, gives_behind, paired}
use Rattle.ec_syntax.proofs.Places.Tokens.{operator_lays, gives_one, Adds}

-- ---- parts of expressions

-- what an expression is, and the parts within it
abbrev pub layer : ExprKind → P.Layer
layer = tree.kinds P.of_kind P.of_place P.of_call P.of_expression

pub stands_at : (x : ExprKind) (at : Span) → P.expression (E.expression x at) ≡ one (layer x).0 at (layer x).1
stands_at x at = tree.expr_fold P.of_kind P.of_place P.of_call P.of_expression x at

pub stands_there : (e : Expr) → P.expression e ≡ one (layer e.kind).0 e.at (layer e.kind).1
stands_there e = stands_at e.kind e.at

-- where an expression stands that stands between two places
pub record Held (e : Expr) (from to : ℕ) : Type 0 where
  pub begins : from ≤ e.at.from
  pub filled : e.at.from < e.at.to
  pub ends : e.at.to ≤ to

pub held : (e : Expr) (from to : ℕ) → Stands from to (P.expression e) → Held e from to
held e from to h = by (subst (λ z. Stands from to z) (stands_there e) h)
  where
    by : Stands from to (one (layer e.kind).0 e.at (layer e.kind).1) → Held e from to
    by (a, b, c, d) = record { begins = a; filled = b; ends = d }

-- a plain one
pub plain_at : (x : ExprKind) {within : Parts} → layer x ≡ P.plainly within → (at : Span) →
    P.expression (E.expression x at) ≡ one Plain at within
plain_at x e at = stands_at x at ∙ ap (λ z. one z.0 at z.1) e

pub inner : (x : ExprKind) {within : Parts} {role : Role} → layer x ≡ (role, within) → Gives within (layer x).1
inner x e = gives_same (ap (λ z. z.1) (sym e))

-- an expression at its place
pub expression_lays : {p : Language ExprKind} → Enters p (λ x. (layer x).1) →
    Adds true (L.placed E.expression p) P.expression
expression_lays h before = placed_lays (λ x. (layer x).0) E.expression (λ x at. gives_one before (stands_at x at)) (strictly (λ x. (layer x).0) h)

-- ---- operators

-- what is made of two operands has their parts
abbrev Splits : (Expr → Expr → ExprKind) → Type 0
Splits make = (a b : Expr) → layer (make a b) ≡ P.plainly (P.expression a ahead_of P.expression b)

binary : (o : BinOp) → Splits (v.Binary o)
binary o = tree.binary_fold P.of_kind P.of_place P.of_call P.of_expression o

pick : (b : Bool) (other make : Expr → Expr → ExprKind) → Splits other →
    (if b then Some other else None) ≡ Some make → Splits make
pick true other make f e = let same : other ≡ make = cc in subst (λ z. Splits z) same f
pick false other make f e = absurd (cc)

splits : (k : Mark) (level : ℕ) (make : Expr → Expr → ExprKind) → at_level level k ≡ Some make → Splits make
splits m.Star level make e = pick (0 == level) (v.Binary op.Mul) make (binary op.Mul) e
splits m.Slash level make e = pick (0 == level) (v.Binary op.Div) make (binary op.Div) e
splits m.Percent level make e = pick (0 == level) (v.Binary op.Rem) make (binary op.Rem) e
splits m.Plus level make e = pick (1 == level) (v.Binary op.Add) make (binary op.Add) e
splits m.Minus level make e = pick (1 == level) (v.Binary op.Sub) make (binary op.Sub) e
splits m.ShiftLeft level make e = pick (2 == level) (v.Binary op.Shl) make (binary op.Shl) e
splits m.ShiftRight level make e = pick (2 == level) (v.Binary op.Shr) make (binary op.Shr) e
splits m.Less level make e = pick (3 == level) (v.Binary op.Lt) make (binary op.Lt) e
splits m.LessEqual level make e = pick (3 == level) (v.Binary op.Le) make (binary op.Le) e
splits m.Greater level make e = pick (3 == level) (v.Binary op.Gt) make (binary op.Gt) e
splits m.GreaterEqual level make e = pick (3 == level) (v.Binary op.Ge) make (binary op.Ge) e
splits m.Equal level make e = pick (4 == level) (v.Binary op.Eq) make (binary op.Eq) e
splits m.NotEqual level make e = pick (4 == level) (v.Binary op.Ne) make (binary op.Ne) e
splits m.And level make e = pick (5 == level) (v.Binary op.And) make (binary op.And) e
splits m.Caret level make e = pick (6 == level) (v.Binary op.Xor) make (binary op.Xor) e
splits m.Or level make e = pick (7 == level) (v.Binary op.Or) make (binary op.Or) e
splits m.AndAnd level make e = pick (8 == level) v.And make (tree.and_fold P.of_kind P.of_place P.of_call P.of_expression) e
splits m.OrOr level make e = pick (9 == level) v.Or make (tree.or_fold P.of_kind P.of_place P.of_call P.of_expression) e
splits _ level make e = absurd (cc)

-- what is made of one operand has its parts
abbrev Holds : (Expr → ExprKind) → Type 0
Holds make = (a : Expr) → layer (make a) ≡ P.plainly (P.expression a)

held_by : (other make : Expr → ExprKind) → Holds other → Some other ≡ Some make → Holds make
held_by other make f e = let same : other ≡ make = cc in subst (λ z. Holds z) same f

pub holds : (k : Mark) (make : Expr → ExprKind) → prefix_of k ≡ Some make → Holds make
holds m.Minus make e = held_by (v.Unary Neg) make (tree.unary_fold P.of_kind P.of_place P.of_call P.of_expression Neg) e
holds m.Bang make e = held_by (v.Unary Not) make (tree.unary_fold P.of_kind P.of_place P.of_call P.of_expression Not) e
holds m.Tilde make e = held_by (v.Unary Inv) make (tree.unary_fold P.of_kind P.of_place P.of_call P.of_expression Inv) e
holds m.Star make e = held_by v.Deref make (tree.deref_fold P.of_kind P.of_place P.of_call P.of_expression) e
holds _ make e = absurd (cc)

-- two operands as one expression
pairing : (a b : Expr) → Gives (P.expression a ahead_of P.expression b)
    (one Plain (span a.at.from b.at.to) (P.expression a ahead_of P.expression b))
pairing a b =
    let at = span a.at.from b.at.to in
    let la = layer a.kind in
    let lb = layer b.kind in
    subst (λ z. Gives (z ahead_of P.expression b) (one Plain at (z ahead_of P.expression b))) (sym (stands_there a))
    (subst (λ z. Gives (Parts.part la.0 a.at la.1 z) (one Plain at (Parts.part la.0 a.at la.1 z))) (sym (stands_there b))
    (paired la.0 lb.0 a.at b.at la.1 lb.1))

joins : (before : Parts) (make : Expr → Expr → ExprKind) → Splits make → (a b : Expr) →
    Gives ((before ahead_of P.expression a) ahead_of P.expression b) (before ahead_of P.expression (E.joined make a b))
joins before make f a b =
    let at = span a.at.from b.at.to in
    gives_on (gives_same (ahead_of_assoc before (P.expression a) (P.expression b)))
    (gives_behind before _ _ (gives_on (pairing a b) (gives_same (sym (plain_at (make a b) (f a b) at)))))

module _ {l : Language Expr} (h : Adds true l P.expression) where
  pub levels_add : (d level : ℕ) → Adds true (E.levels d level l) P.expression
  levels_add d zero before = h before
  levels_add d (suc level) before =
      firstly (levels_add d level before) (λ first. turned {takes = true} {f = λ a. before ahead_of P.expression a} (λ a. operator_lays (at_level level) (λ make k.
      made (E.joined make a) (joins before make (splits k.0 level make k.1) a) (levels_add d level (before ahead_of P.expression a)))) first)
