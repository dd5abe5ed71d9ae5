-- Operators between operands, read again.
use Rattle.std.proofs.Common.{◌≡◌, refl, sym, ◌∙◌, ap, subst, ℕ, zero, suc, Bool, true, false, ◌==◌, ◌∷◌, Some, None, if◌then◌else◌}
use Rattle.ec_base.specs.declared.operator.BinOp.{BinOp}
use Rattle.ec_base.specs.declared.operator.BinOp.TheVariants as op
use Rattle.ec_base.specs.declared.token.Mark.{Mark}
use Rattle.ec_base.specs.declared.token.Mark.TheVariants as m
use Rattle.ec_base.specs.declared.token.TokenKind.TheVariants as t
use Rattle.ec_syntax.specs.Grammar.Expressions.{at_level, of_mark, levels, joined}
use Rattle.ec_syntax.specs.Grammar.Language as L
use Rattle.ec_syntax.specs.Grammar.Language.{Language}
use Rattle.ec_syntax.specs.Grammar.State.{State, limits}
use Rattle.ec_syntax.specs.Grammar.Tokens as T
use Rattle.ec_syntax.specs.declared.expression.Expr.{Expr}
use Rattle.ec_syntax.specs.declared.expression.ExprKind.{ExprKind}
use Rattle.ec_syntax.specs.declared.expression.ExprKind.TheVariants.{Binary, And, Or}
use Rattle.ec_syntax.proofs.Tokens.Classes.{chosen_kind}
use Rattle.ec_print.specs.Phrase.{tokens, ◌then◌}
use Rattle.ec_print.specs.Sentence as S
use Rattle.ec_print.specs.Unplaced as U
use Rattle.ec_print.proofs.Again.Readings.{Kinds, as_kinds, behind}
use Rattle.ec_print.proofs.Again.Marks.{operator_again}
use Rattle.ec_print.proofs.Again.Rules.{Repeats, Grows, settled, made, turns_again}
use Rattle.ec_print.proofs.Again.Folds.{phrase, said, seen, binary_alike, and_alike, or_alike}
use Rattle.ec_syntax.proofs.Folds.Expressions as tree

-- what is made of two operands is written with this mark between them
pub record Infixed (k : Mark) (make : Expr → Expr → ExprKind) : Type 0 where
  pub written : (a b : Expr) → phrase (make a b) ≡ (S.expression a then S.mark k then S.expression b)
  alike : (a' a : Expr) → U.expression a' ≡ U.expression a → (b' b : Expr) → U.expression b' ≡ U.expression b → U.kind (make a' b') ≡ U.kind (make a b)

binary : (o : BinOp) → Infixed (S.infix_mark o) (Binary o)
binary o = record { written = tree.binary_fold S.of_kind S.of_place S.of_call S.of_expression o; alike = λ a' a h b' b g. binary_alike a' a h b' b g o }

pick : (k : Mark) (b : Bool) (other make : Expr → Expr → ExprKind) → Infixed k other → (if b then Some other else None) ≡ Some make → Infixed k make
pick k true other make f e = let same : other ≡ make = cc in subst (λ z. Infixed k z) same f
pick k false other make f e = absurd (cc)

pub infixed : (k : Mark) (level : ℕ) (make : Expr → Expr → ExprKind) → at_level level k ≡ Some make → Infixed k make
infixed m.Star level make e = pick m.Star (0 == level) (Binary op.Mul) make (binary op.Mul) e
infixed m.Slash level make e = pick m.Slash (0 == level) (Binary op.Div) make (binary op.Div) e
infixed m.Percent level make e = pick m.Percent (0 == level) (Binary op.Rem) make (binary op.Rem) e
infixed m.Plus level make e = pick m.Plus (1 == level) (Binary op.Add) make (binary op.Add) e
infixed m.Minus level make e = pick m.Minus (1 == level) (Binary op.Sub) make (binary op.Sub) e
infixed m.ShiftLeft level make e = pick m.ShiftLeft (2 == level) (Binary op.Shl) make (binary op.Shl) e
infixed m.ShiftRight level make e = pick m.ShiftRight (2 == level) (Binary op.Shr) make (binary op.Shr) e
infixed m.Less level make e = pick m.Less (3 == level) (Binary op.Lt) make (binary op.Lt) e
infixed m.LessEqual level make e = pick m.LessEqual (3 == level) (Binary op.Le) make (binary op.Le) e
infixed m.Greater level make e = pick m.Greater (3 == level) (Binary op.Gt) make (binary op.Gt) e
infixed m.GreaterEqual level make e = pick m.GreaterEqual (3 == level) (Binary op.Ge) make (binary op.Ge) e
infixed m.Equal level make e = pick m.Equal (4 == level) (Binary op.Eq) make (binary op.Eq) e
infixed m.NotEqual level make e = pick m.NotEqual (4 == level) (Binary op.Ne) make (binary op.Ne) e
infixed m.And level make e = pick m.And (5 == level) (Binary op.And) make (binary op.And) e
infixed m.Caret level make e = pick m.Caret (6 == level) (Binary op.Xor) make (binary op.Xor) e
infixed m.Or level make e = pick m.Or (7 == level) (Binary op.Or) make (binary op.Or) e
infixed m.AndAnd level make e = pick m.AndAnd (8 == level) And make (record { written = tree.and_fold S.of_kind S.of_place S.of_call S.of_expression; alike = λ a' a h b' b g. and_alike a' a h b' b g }) e
infixed m.OrOr level make e = pick m.OrOr (9 == level) Or make (record { written = tree.or_fold S.of_kind S.of_place S.of_call S.of_expression; alike = λ a' a h b' b g. or_alike a' a h b' b g }) e
infixed _ level make e = absurd (cc)

-- ---- levels

abbrev pub spoken : Expr → Kinds
spoken a = tokens (S.expression a)

abbrev operation : ℕ → ℕ → Language Expr → Expr → Language Expr
operation d level operand a = L.◌>>=◌ (T.operator d (of_mark (at_level level))) (λ make. L.◌>>=◌ (levels d level operand) (λ b. L.give (joined make a b)))

abbrev pub Operands : Language Expr → Language Expr → Type 0
Operands l l' = (s : State) (a : Expr) (n : State) → l limits s a n → Repeats true S.expression U.expression l' s a n

operation_grows : (d level : ℕ) (l l' : Language Expr) → Operands (levels d level l) (levels d level l') →
    (s : State) (a c : Expr) (n : State) → operation d level l a limits s c n → Grows true spoken U.expression (operation d level l') s a c n
operation_grows d level l l' H s a c n (make, i, r, (b, j, q, (e, f))) =
    let k = chosen_kind (at_level level) r.token make r.picked in
    let fact = infixed k.0 level make k.2 in
    let at = L.span a.at.from b.at.to in (
      t.Mark k.0 ∷ spoken b,
      ap spoken e ∙ ap tokens (said (make a b) at ∙ fact.written a b),
      λ a' h. settled (λ _. S.mark k.0 then S.expression b) U.expression e f
          (behind make refl (operator_again (at_level level) make r k.0 k.1) (λ make' w.
          made (joined make' a') (λ b' g. seen (make' a' b') (make a b) (L.span a'.at.from b'.at.to) at (ap (λ z. U.kind (z a' b')) w ∙ fact.alike a' a h b' b g)) (H i b j q))),
    )

pub levels_again : (d level : ℕ) (l l' : Language Expr) → Operands l l' → Operands (levels d level l) (levels d level l')
levels_again d zero l l' H s a n r = H s a n r
levels_again d (suc level) l l' H s a n (first, i, r, rs) =
    let I = levels_again d level l l' H in
    let g = turns_again spoken U.expression (operation_grows d level l l' I) i first a n rs in
    as_kinds (sym g.1) (behind first refl (I s first i r) g.2)
