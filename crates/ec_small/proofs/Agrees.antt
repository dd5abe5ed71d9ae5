-- What is a sum by the grammar is read as one, and its tokens are the same before anything else.
use Rattle.std.proofs.Common.{◌≡◌, refl, sym, ◌∙◌, ap, subst, ℕ, zero, suc, ◌<◌, [], ◌∷◌, ◌++◌, length, append_assoc, arith}
use Rattle.std.specs.Prelude.{Ok, None}
use Rattle.ec_base.specs.declared.token.TokenKind.{TokenKind}
use Rattle.ec_base.specs.declared.token.TokenKind.TheVariants as t
use Rattle.ec_base.specs.declared.token.Mark.TheVariants as m
use Rattle.ec_small.specs.declared.tree.Operator.TheVariants as operator
use Rattle.ec_small.specs.declared.tree.Expr.{Expr}
use Rattle.ec_small.specs.declared.tree.Expr.TheVariants.{Binary}
use Rattle.ec_small.specs.Grammar.{Kinds, Names, IsItem, number, variable, nested, IsProduct, single, times, IsSum, one, plus, minus}
use Rattle.ec_small.specs.Descent.{Read, Sized, and_then, mark, item, product_on, product_by, sum_on, sum_by, sum, factor_operator, term_operator}
use Rattle.ec_small.specs.Descent as descent
use Rattle.ec_small.proofs.Rules.{Rule, Local}
use Rattle.ec_small.proofs.Levels.{Operators, Halts, Reaches, reach_one, reach_more, settled, local_more}
use Rattle.ec_small.proofs.Operators.{products, sums}

abbrev pub ItemsOf : ℕ → Names → ℕ → Rule Sized
ItemsOf n names i ts p rest = IsItem n i names ts p.0 p.1 rest

abbrev pub ProductsOf : ℕ → Names → ℕ → Rule Sized
ProductsOf n names i ts p rest = IsProduct n i names ts p.0 p.1 rest

abbrev pub SumsOf : ℕ → Names → ℕ → Rule Sized
SumsOf n names i ts p rest = IsSum n i names ts p.0 p.1 rest

-- ---- fewer tokens

mutual
  pub shorter_item : {n i : ℕ} {names : Names} {ts : Kinds} {e : Expr} {j : ℕ} {rest : Kinds} → IsItem n i names ts e j rest → length rest < length ts
  shorter_item number = omega arith
  shorter_item (variable h) = omega arith
  shorter_item (nested s) = omega (arith, shorter_sum s)

  pub shorter_product : {n i : ℕ} {names : Names} {ts : Kinds} {e : Expr} {j : ℕ} {rest : Kinds} → IsProduct n i names ts e j rest → length rest < length ts
  shorter_product (single h) = shorter_item h
  shorter_product (times s h) = omega (arith, shorter_product s, shorter_item h)

  pub shorter_sum : {n i : ℕ} {names : Names} {ts : Kinds} {e : Expr} {j : ℕ} {rest : Kinds} → IsSum n i names ts e j rest → length rest < length ts
  shorter_sum (one h) = shorter_product h
  shorter_sum (plus s h) = omega (arith, shorter_sum s, shorter_product h)
  shorter_sum (minus s h) = omega (arith, shorter_sum s, shorter_product h)

-- ---- the same tokens before anything

mutual
  pub local_item : {n i : ℕ} {names : Names} {ts : Kinds} {e : Expr} {j : ℕ} {rest : Kinds} → IsItem n i names ts e j rest → Local (ItemsOf n names i) ts (e, j) rest
  local_item (number {v = v}) = (t.Number v ∷ [], refl, λ after. number)
  local_item (variable {w = w} h) = (t.Word w ∷ [], refl, λ after. variable h)
  local_item (nested {n = n} {i = i} {j = j} {names = names} {rest = rest} {e = e} s) =
      let r = local_sum s in (
        t.Mark m.OpenParen ∷ (r.0 ++ t.Mark m.CloseParen ∷ []),
        ap (λ l. t.Mark m.OpenParen ∷ l) (r.1 ∙ sym (append_assoc r.0 (t.Mark m.CloseParen ∷ []) rest)),
        λ after. subst (λ l. IsItem (suc n) (suc (suc i)) names (t.Mark m.OpenParen ∷ l) e j after) (sym (append_assoc r.0 (t.Mark m.CloseParen ∷ []) after)) (nested (r.2 (t.Mark m.CloseParen ∷ after))),
      )

  pub local_product : {n i : ℕ} {names : Names} {ts : Kinds} {e : Expr} {j : ℕ} {rest : Kinds} → IsProduct n i names ts e j rest → Local (ProductsOf n names i) ts (e, j) rest
  local_product (single h) = let r = local_item h in (r.0, r.1, λ after. single (r.2 after))
  local_product (times {n = n} {i = i} {j = j} {k = k} {names = names} {ts = ts} {us = us} {rest = rest} {a = a} {b = b} s h) =
      local_more (ProductsOf n names i) (ItemsOf n names j) (ProductsOf n names i) ts (a, suc j) (t.Mark m.Star) us (b, k) rest (Binary operator.Mul a b, k)
      (λ zs vs after q r. times q r) (local_product s) (local_item h)

  pub local_sum : {n i : ℕ} {names : Names} {ts : Kinds} {e : Expr} {j : ℕ} {rest : Kinds} → IsSum n i names ts e j rest → Local (SumsOf n names i) ts (e, j) rest
  local_sum (one h) = let r = local_product h in (r.0, r.1, λ after. one (r.2 after))
  local_sum (plus {n = n} {i = i} {j = j} {k = k} {names = names} {ts = ts} {us = us} {rest = rest} {a = a} {b = b} s h) =
      local_more (SumsOf n names i) (ProductsOf n names j) (SumsOf n names i) ts (a, suc j) (t.Mark m.Plus) us (b, k) rest (Binary operator.Add a b, k)
      (λ zs vs after q r. plus q r) (local_sum s) (local_product h)
  local_sum (minus {n = n} {i = i} {j = j} {k = k} {names = names} {ts = ts} {us = us} {rest = rest} {a = a} {b = b} s h) =
      local_more (SumsOf n names i) (ProductsOf n names j) (SumsOf n names i) ts (a, suc j) (t.Mark m.Minus) us (b, k) rest (Binary operator.Sub a b, k)
      (λ zs vs after q r. minus q r) (local_sum s) (local_product h)

-- ---- what is in the grammar is read

-- a token that is no operator of a level
pub no_operator : (ops : Operators) (j : ℕ) (x : TokenKind) (rest : Kinds) → ops x ≡ None → Halts ops j (x ∷ rest)
no_operator ops zero x rest h = refl
no_operator ops (suc j) x rest h = h

abbrev ReachesProduct : ℕ → Names → ℕ → Kinds → Sized → Kinds → Type 0
ReachesProduct n names i ts p rest = Reaches (product_by (item n names)) (product_on (item n names)) i ts p rest

abbrev ReachesSum : ℕ → Names → ℕ → Kinds → Sized → Kinds → Type 0
ReachesSum n names i ts p rest = Reaches (sum_by (item n names)) (sum_on (product_by (item n names))) i ts p rest

whole_product : (n i : ℕ) (names : Names) (ts : Kinds) (p : Sized) (rest : Kinds) → ReachesProduct n names i ts p rest → Halts factor_operator p.1 rest → product_by (item n names) i ts ≡ Ok (p, rest)
whole_product n i names ts p rest r h = settled (products (item n names)) i ts p rest r h

whole_sum : (n i : ℕ) (names : Names) (ts : Kinds) (p : Sized) (rest : Kinds) → ReachesSum n names i ts p rest → Halts term_operator p.1 rest → sum n names i ts ≡ Ok (p, rest)
whole_sum n i names ts p rest r h = settled (sums (item n names)) i ts p rest r h

mutual
  pub read_item : {n i : ℕ} {names : Names} {ts : Kinds} {e : Expr} {j : ℕ} {rest : Kinds} → IsItem n i names ts e j rest → item n names i ts ≡ Ok ((e, j), rest)
  read_item number = refl
  read_item (variable {i = i} {w = w} {rest = rest} h) = ap (descent.variable i w rest) h
  read_item (nested {n = n} {i = i} {j = j} {names = names} {ts = ts} {rest = rest} {e = e} s) =
      ap (λ p. and_then p (mark m.CloseParen)) (whole_sum n i names ts (e, j) (t.Mark m.CloseParen ∷ rest) (reach_sum s (no_operator factor_operator j (t.Mark m.CloseParen) rest refl)) (no_operator term_operator j (t.Mark m.CloseParen) rest refl))

  pub reach_product : {n i : ℕ} {names : Names} {ts : Kinds} {e : Expr} {j : ℕ} {rest : Kinds} → IsProduct n i names ts e j rest → ReachesProduct n names i ts (e, j) rest
  reach_product (single {n = n} {i = i} {j = j} {names = names} {ts = ts} {rest = rest} {e = e} h) =
      reach_one (products (item n names)) i ts (e, j) rest (read_item h)
  reach_product (times {n = n} {i = i} {j = j} {k = k} {names = names} {ts = ts} {us = us} {rest = rest} {a = a} {b = b} s h) =
      reach_more (products (item n names)) i ts a j (t.Mark m.Star) us (b, k) rest operator.Mul refl
      (reach_product s) (read_item h) (shorter_item h)

  pub reach_sum : {n i : ℕ} {names : Names} {ts : Kinds} {e : Expr} {j : ℕ} {rest : Kinds} → IsSum n i names ts e j rest → Halts factor_operator j rest → ReachesSum n names i ts (e, j) rest
  reach_sum (one {n = n} {i = i} {j = j} {names = names} {ts = ts} {rest = rest} {e = e} h) stops =
      reach_one (sums (item n names)) i ts (e, j) rest
      (whole_product n i names ts (e, j) rest (reach_product h) stops)
  reach_sum (plus {n = n} {i = i} {j = j} {k = k} {names = names} {ts = ts} {us = us} {rest = rest} {a = a} {b = b} s h) stops =
      reach_more (sums (item n names)) i ts a j (t.Mark m.Plus) us (b, k) rest operator.Add refl
      (reach_sum s refl) (whole_product n j names us (b, k) rest (reach_product h) stops) (shorter_product h)
  reach_sum (minus {n = n} {i = i} {j = j} {k = k} {names = names} {ts = ts} {us = us} {rest = rest} {a = a} {b = b} s h) stops =
      reach_more (sums (item n names)) i ts a j (t.Mark m.Minus) us (b, k) rest operator.Sub refl
      (reach_sum s refl) (whole_product n j names us (b, k) rest (reach_product h) stops) (shorter_product h)

pub read_sum : {n i : ℕ} {names : Names} {ts : Kinds} {e : Expr} {j : ℕ} {rest : Kinds} → IsSum n i names ts e j rest → Halts factor_operator j rest → Halts term_operator j rest → sum n names i ts ≡ Ok ((e, j), rest)
read_sum {n = n} {i = i} {names = names} {ts = ts} {e = e} {j = j} {rest = rest} h f g = whole_sum n i names ts (e, j) rest (reach_sum h f) g
