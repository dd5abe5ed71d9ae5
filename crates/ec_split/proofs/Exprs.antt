-- Expressions, case by case.
use Rattle.std.proofs.Common.{◌≡◌, sym, ◌∙◌, ap, subst, ℕ, ℤ, ◌+◌, ◌≤◌, List, [], ◌∷◌, ◌++◌, true, ◌&&◌, max, arith}
use Rattle.std.proofs.Math.Nat.{le-max_left}
use Rattle.ec_core.specs.declared.code.Instr.{Instr}
use Rattle.ec_core.specs.declared.code.Instr.TheVariants as i
use Rattle.ec_small.specs.declared.tree.Operator.{Operator}
use Rattle.ec_small.specs.declared.tree.Expr.{Expr, fold-Expr, fold-roll-Expr}
use Rattle.ec_small.specs.declared.tree.Expr.TheOpen.{Expr-F}
use Rattle.ec_small.specs.declared.tree.Expr.TheFolds.{ind-Expr, map-Expr}
use Rattle.ec_small.specs.declared.tree.Expr.TheViews.{roll-Expr}
use Rattle.ec_small.specs.declared.tree.Expr.TheVariants.{Number, Var, Binary, rolls-Number, rolls-Var, rolls-Binary}
use Rattle.ec_small.specs.Sound.{is_declared, declared_in, operators, operators_in}
use Rattle.ec_split.specs.Owes.{operation}
use Rattle.ec_split.specs.Cut.{Places, instrs, expr_instrs, width, expr_width}

-- ---- induction

module _ (P : Expr → Type 0) (number : (n : ℤ) → P (Number n)) (variable : (k : ℕ) → P (Var k))
    (binary : (op : Operator) (a b : Expr) → P a → P b → P (Binary op a b)) where
  layer : (x : Expr-F Expr) (y : Expr-F ((e : Expr) × P e)) → map-Expr ((e : Expr) × P e) Expr (λ e. e.0) y ≡ x → P (roll-Expr x)
  layer x (Expr-F.Number n) is = subst (λ z. P (roll-Expr z)) is (subst P (sym (rolls-Number n)) (number n))
  layer x (Expr-F.Var k) is = subst (λ z. P (roll-Expr z)) is (subst P (sym (rolls-Var k)) (variable k))
  layer x (Expr-F.Binary op a b) is =
      subst (λ z. P (roll-Expr z)) is (subst P (sym (rolls-Binary op a.0 b.0)) (binary op a.0 b.0 a.1 b.1))

  pub induction : (e : Expr) → P e
  induction = ind-Expr P layer

-- ---- folds

fold_number : {A : Type 0} (step : Expr-F A → A) (n : ℤ) → fold-Expr A step (Number n) ≡ step (Expr-F.Number n)
fold_number {A = A} step n = ap (fold-Expr A step) (sym (rolls-Number n)) ∙ fold-roll-Expr A step (Expr-F.Number n)

fold_var : {A : Type 0} (step : Expr-F A → A) (k : ℕ) → fold-Expr A step (Var k) ≡ step (Expr-F.Var k)
fold_var {A = A} step k = ap (fold-Expr A step) (sym (rolls-Var k)) ∙ fold-roll-Expr A step (Expr-F.Var k)

fold_binary : {A : Type 0} (step : Expr-F A → A) (op : Operator) (a b : Expr) →
    fold-Expr A step (Binary op a b) ≡ step (Expr-F.Binary op (fold-Expr A step a) (fold-Expr A step b))
fold_binary {A = A} step op a b = ap (fold-Expr A step) (sym (rolls-Binary op a b)) ∙ fold-roll-Expr A step (Expr-F.Binary op a b)

-- ---- instructions

abbrev placed : ℕ → ℕ → Places → List Instr
placed d base f = f d base

pub instrs_number : (d base : ℕ) (n : ℤ) → instrs d base (Number n) ≡ i.Const d n ∷ []
instrs_number d base n = ap (placed d base) (fold_number expr_instrs n)

pub instrs_var : (d base k : ℕ) → instrs d base (Var k) ≡ i.Copy d k ∷ []
instrs_var d base k = ap (placed d base) (fold_var expr_instrs k)

pub instrs_binary : (d base : ℕ) (op : Operator) (a b : Expr) →
    instrs d base (Binary op a b) ≡ instrs base base a ++ instrs (base + 1) (base + 1) b ++ operation op d base (base + 1) ∷ []
instrs_binary d base op a b = ap (placed d base) (fold_binary expr_instrs op a b)

-- ---- widths

pub width_number : (n : ℤ) → width (Number n) ≡ 1
width_number n = fold_number expr_width n

pub width_var : (k : ℕ) → width (Var k) ≡ 1
width_var k = fold_var expr_width k

pub width_binary : (op : Operator) (a b : Expr) → width (Binary op a b) ≡ max (width a) (width b + 1)
width_binary op a b = fold_binary expr_width op a b

-- an expression needs a cell
pub width_positive : (e : Expr) → 1 ≤ width e
width_positive = induction (λ e. 1 ≤ width e) (λ n. omega (arith, width_number n)) (λ k. omega (arith, width_var k))
    (λ op a b ha hb. omega (arith, width_binary op a b, le-max_left (width a) (width b + 1), ha))

-- ---- variables

pub declared_number : (count : ℕ) (n : ℤ) → is_declared count (Number n) ≡ true
declared_number count n = fold_number (declared_in count) n

pub declared_var : (count k : ℕ) → is_declared count (Var k) ≡ declared_in count (Expr-F.Var k)
declared_var count k = fold_var (declared_in count) k

pub declared_binary : (count : ℕ) (op : Operator) (a b : Expr) → is_declared count (Binary op a b) ≡ (is_declared count a && is_declared count b)
declared_binary count op a b = fold_binary (declared_in count) op a b

-- ---- operators

pub operators_number : (n : ℤ) → operators (Number n) ≡ 0
operators_number n = fold_number operators_in n

pub operators_var : (k : ℕ) → operators (Var k) ≡ 0
operators_var k = fold_var operators_in k

pub operators_binary : (op : Operator) (a b : Expr) → operators (Binary op a b) ≡ 1 + operators a + operators b
operators_binary op a b = fold_binary operators_in op a b

pub ruleset unrolled = (declared_number, declared_var, declared_binary, operators_number, operators_var, operators_binary)
