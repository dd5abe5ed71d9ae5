-- The value of an operator's node.
use Rattle.std.proofs.Common.{◌≡◌, sym, ◌∙◌, ap, List, ℤ}
use Rattle.ec_small.specs.declared.tree.Operator.{Operator}
use Rattle.ec_small.specs.declared.tree.Expr.{Expr, fold-roll-Expr}
use Rattle.ec_small.specs.declared.tree.Expr.TheOpen.{Expr-F}
use Rattle.ec_small.specs.declared.tree.Expr.TheVariants.{Binary, rolls-Binary}
use Rattle.ec_small.specs.Meaning.{combined, value, value_of}

binary_value : (vars : List ℤ) (op : Operator) (a b : Expr) → value vars (Binary op a b) ≡ combined op (value vars a) (value vars b)
binary_value vars op a b = ap (value vars) (sym (rolls-Binary op a b)) ∙ fold-roll-Expr ℤ (value_of vars) (Expr-F.Binary op a b)

-- the left operand leaves the variables as they were
pub binary_of : (vars middle : List ℤ) (op : Operator) (e a b : Expr) (x y : ℤ) →
    e ≡ Binary op a b → x ≡ value vars a → y ≡ value middle b → middle ≡ vars → combined op x y ≡ value vars e
binary_of vars middle op e a b x y is left right same =
    ap (λ z. combined op z y) left ∙ ap (combined op (value vars a)) (right ∙ ap (λ vs. value vs b) same) ∙
    sym (ap (value vars) is ∙ binary_value vars op a b)
