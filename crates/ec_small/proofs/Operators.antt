-- The two levels of operators, and the tokens that begin an item.
use Rattle.std.proofs.Common.{◌≡◌, refl, sym, ap, ℕ, zero, suc, Bool, true, false, true≢false, [], ◌∷◌}
use Rattle.std.specs.Prelude.{Ok, Err, Some, None}
use Rattle.ec_base.specs.declared.token.TokenKind.{TokenKind}
use Rattle.ec_base.specs.declared.token.TokenKind.TheVariants as t
use Rattle.ec_base.specs.declared.token.Mark.TheVariants as m
use Rattle.ec_small.specs.declared.tree.Operator.{Operator}
use Rattle.ec_small.specs.declared.tree.Operator.TheVariants as operator
use Rattle.ec_small.specs.declared.tree.Expr.{Expr}
use Rattle.ec_small.specs.declared.tree.Expr.TheVariants.{Binary}
use Rattle.ec_small.specs.Grammar.{Kinds, Names}
use Rattle.ec_small.specs.Descent.{and_then, is_mark, factor_operator, term_operator, item, product_on, product_by, sum_on, sum_by}
use Rattle.ec_small.proofs.Levels.{Halts, Reader, Level}

-- what is an operator of sums is none of products
pub no_factor : (x : TokenKind) (op : Operator) → term_operator x ≡ Some op → factor_operator x ≡ None
no_factor (t.Mark m.Star) op h = cc
no_factor _ op h = refl

-- ---- products

product_halts : (read : Reader) (k : ℕ) (a : Expr) (j : ℕ) (rest : Kinds) → Halts factor_operator j rest → product_on read k (a, j) rest ≡ Ok ((a, j), rest)
product_halts read zero a j rest h = refl
product_halts read (suc k) a zero rest h = refl
product_halts read (suc k) a (suc j) [] h = refl
product_halts read (suc k) a (suc j) (t.Mark m.Star ∷ rest) h = cc
product_halts read (suc k) a (suc j) (_ ∷ rest) h = refl

product_goes : (read : Reader) (k : ℕ) (a : Expr) (j : ℕ) (x : TokenKind) (rest : Kinds) (op : Operator) → factor_operator x ≡ Some op →
    product_on read (suc k) (a, suc j) (x ∷ rest) ≡ and_then (read j rest) (λ b. product_on read k (Binary op a b.0, b.1))
product_goes read k a j (t.Mark m.Star) rest op h =
    let is : operator.Mul ≡ op = cc in ap (λ o. and_then (read j rest) (λ b. product_on read k (Binary o a b.0, b.1))) is
product_goes read k a j _ rest op h = cc

pub products : (read : Reader) → Level factor_operator read (product_by read) (product_on read)
unfolding product_by
products read = record {
  starts = λ i ts. refl;
  halts = λ k p rest h. product_halts read k p.0 p.1 rest h;
  goes = λ k a j x rest op h. product_goes read k a j x rest op h;
}

-- ---- sums

sum_halts : (read : Reader) (k : ℕ) (a : Expr) (j : ℕ) (rest : Kinds) → Halts term_operator j rest → sum_on read k (a, j) rest ≡ Ok ((a, j), rest)
sum_halts read zero a j rest h = refl
sum_halts read (suc k) a zero rest h = refl
sum_halts read (suc k) a (suc j) [] h = refl
sum_halts read (suc k) a (suc j) (t.Mark m.Plus ∷ rest) h = cc
sum_halts read (suc k) a (suc j) (t.Mark m.Minus ∷ rest) h = cc
sum_halts read (suc k) a (suc j) (_ ∷ rest) h = refl

sum_goes : (read : Reader) (k : ℕ) (a : Expr) (j : ℕ) (x : TokenKind) (rest : Kinds) (op : Operator) → term_operator x ≡ Some op →
    sum_on read (suc k) (a, suc j) (x ∷ rest) ≡ and_then (read j rest) (λ b. sum_on read k (Binary op a b.0, b.1))
sum_goes read k a j (t.Mark m.Plus) rest op h =
    let is : operator.Add ≡ op = cc in ap (λ o. and_then (read j rest) (λ b. sum_on read k (Binary o a b.0, b.1))) is
sum_goes read k a j (t.Mark m.Minus) rest op h =
    let is : operator.Sub ≡ op = cc in ap (λ o. and_then (read j rest) (λ b. sum_on read k (Binary o a b.0, b.1))) is
sum_goes read k a j _ rest op h = cc

pub sums : (read : Reader) → Level term_operator (product_by read) (sum_by read) (sum_on (product_by read))
unfolding sum_by
sums read = record {
  starts = λ i ts. refl;
  halts = λ k p rest h. sum_halts (product_by read) k p.0 p.1 rest h;
  goes = λ k a j x rest op h. sum_goes (product_by read) k a j x rest op h;
}

-- ---- items

-- the tokens that may begin an item
abbrev pub begins : TokenKind → Bool
begins (t.Number v) = true
begins (t.Word w) = true
begins (t.Mark m.OpenParen) = true
begins _ = false

pub item_refused : (n : ℕ) (names : Names) (i : ℕ) (x : TokenKind) (rest : Kinds) → begins x ≡ false → item n names i (x ∷ rest) ≡ Err (x ∷ rest)
item_refused n names i (t.Number v) rest h = cc
item_refused n names i (t.Word w) rest h = cc
item_refused n names i (t.Mark m.OpenParen) rest h = cc
item_refused zero names i _ rest h = refl
item_refused (suc n) names zero _ rest h = refl
item_refused (suc n) names (suc zero) _ rest h = refl
item_refused (suc n) names (suc (suc i)) _ rest h = refl

pub close_is : (x : TokenKind) → is_mark m.CloseParen x ≡ true → x ≡ t.Mark m.CloseParen
close_is (t.Mark m.CloseParen) h = refl
close_is _ h = absurd (true≢false (sym h))
