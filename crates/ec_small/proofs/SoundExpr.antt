-- The expressions of a sum have declared variables and few operators.
use Rattle.std.proofs.Common.{◌≡◌, ◌∙◌, subst, ℕ, suc, ◌+◌, ◌<◌, ◌≤◌, ℤ, Bool, true, false, ◌&&◌, cond, nat_lt, nat_le, List, [], ◌∷◌, length, Option, Some, None, IfSome, option_map, arith, lt-ltb, le-leb}
use Rattle.std.proofs.lemmas.Bool.{and_from}
use Rattle.ec_small.specs.declared.tree.Operator.{Operator}
use Rattle.ec_small.specs.declared.tree.Operator.TheVariants as operator
use Rattle.ec_small.specs.declared.tree.Expr.{Expr}
use Rattle.ec_small.specs.declared.tree.Expr.TheVariants.{Number, Var, Binary}
use Rattle.ec_small.specs.declared.tree.Expr.TheFolds.{the_lemmas as folds}
use Rattle.ec_small.specs.declared.tree.Expr.TheViews.{the_lemmas as views}
use Rattle.ec_small.specs.Words.{place, same}
use Rattle.ec_small.specs.Grammar as g
use Rattle.ec_small.specs.Grammar.{Kinds, Names, IsItem, IsProduct, IsSum}
use Rattle.ec_small.specs.Sound.{is_declared, operators, is_sound}

-- ---- places

first_or_later : (b : Bool) (o : Option ℕ) (n : ℕ) → IfSome o (λ k. k < n) → IfSome (cond b (Some 0) (option_map suc o)) (λ k. k < suc n)
first_or_later true o n h = omega arith
first_or_later false None n h = tt
first_or_later false (Some k) n h = omega arith

places_below : (names : Names) (w : List ℕ) → IfSome (place names w) (λ k. k < length names)
places_below [] w = tt
places_below (x ∷ xs) w = first_or_later (same x w) (place xs w) (length xs) (places_below xs w)

-- a declared variable's number is below the number of names
pub place_below : (names : Names) (w : List ℕ) (k : ℕ) → place names w ≡ Some k → k < length names
place_below names w k is = subst (λ o. IfSome o (λ k. k < length names)) is (places_below names w)

-- ---- a layer of a tree

declared_number : (n : ℕ) (v : ℤ) → is_declared n (Number v) ≡ true
declared_number n v = search (folds, views)

declared_var : (n k : ℕ) → is_declared n (Var k) ≡ nat_lt k n
declared_var n k = search (folds, views)

declared_binary : (n : ℕ) (op : Operator) (a b : Expr) → is_declared n (Binary op a b) ≡ (is_declared n a && is_declared n b)
declared_binary n op a b = search (folds, views)

operators_number : (v : ℤ) → operators (Number v) ≡ 0
operators_number v = search (folds, views)

operators_var : (k : ℕ) → operators (Var k) ≡ 0
operators_var k = search (folds, views)

operators_binary : (op : Operator) (a b : Expr) → operators (Binary op a b) ≡ 1 + operators a + operators b
operators_binary op a b = search (folds, views)

-- ---- the rules of expressions

-- declared among the names and any later ones, and of no more operators than the room that it takes
pub record Keeps (names : Names) (i : ℕ) (e : Expr) (j : ℕ) : Type 0 where
  pub declared : (n : ℕ) → length names ≤ n → is_declared n e ≡ true
  pub room : operators e + j ≤ i

keeps_number : (names : Names) (i : ℕ) (v : ℤ) → Keeps names i (Number v) i
keeps_number names i v = record {
  declared = λ n h. declared_number n v;
  room = let is : operators (Number v) ≡ 0 = operators_number v in omega arith;
}

keeps_var : (names : Names) (i : ℕ) (w : List ℕ) (k : ℕ) → place names w ≡ Some k → Keeps names i (Var k) i
keeps_var names i w k is =
    let below : k < length names = place_below names w k is in
    record {
      declared = λ n h. declared_var n k ∙ lt-ltb k n (omega arith);
      room = let is : operators (Var k) ≡ 0 = operators_var k in omega arith;
    }

keeps_binary : (names : Names) (i j k : ℕ) (op : Operator) (a b : Expr) → Keeps names i a (suc j) → Keeps names j b k → Keeps names i (Binary op a b) k
keeps_binary names i j k op a b x y =
    let x_room : operators a + suc j ≤ i = x.room in
    let y_room : operators b + k ≤ j = y.room in
    record {
      declared = λ n h. declared_binary n op a b ∙ and_from (is_declared n a) (is_declared n b) (x.declared n h) (y.declared n h);
      room = let is : operators (Binary op a b) ≡ 1 + operators a + operators b = operators_binary op a b in omega arith;
    }

keeps_less : (names : Names) (i : ℕ) (e : Expr) (j : ℕ) → Keeps names i e j → Keeps names (suc (suc i)) e j
keeps_less names i e j x =
    let room : operators e + j ≤ i = x.room in
    record { declared = x.declared; room = omega arith }

mutual
  item_keeps : {n i j : ℕ} {names : Names} {ts rest : Kinds} {e : Expr} → IsItem n i names ts e j rest → Keeps names i e j
  item_keeps (g.number {i = i} {names = names} {v = v}) = keeps_number names i v
  item_keeps (g.variable {i = i} {names = names} {w = w} {k = k} is) = keeps_var names i w k is
  item_keeps (g.nested {i = i} {j = j} {names = names} {e = e} h) = keeps_less names i e j (sum_keeps h)

  product_keeps : {n i j : ℕ} {names : Names} {ts rest : Kinds} {e : Expr} → IsProduct n i names ts e j rest → Keeps names i e j
  product_keeps (g.single h) = item_keeps h
  product_keeps (g.times {i = i} {j = j} {k = k} {names = names} {a = a} {b = b} x y) = keeps_binary names i j k operator.Mul a b (product_keeps x) (item_keeps y)

  pub sum_keeps : {n i j : ℕ} {names : Names} {ts rest : Kinds} {e : Expr} → IsSum n i names ts e j rest → Keeps names i e j
  sum_keeps (g.one h) = product_keeps h
  sum_keeps (g.plus {i = i} {j = j} {k = k} {names = names} {a = a} {b = b} x y) = keeps_binary names i j k operator.Add a b (sum_keeps x) (product_keeps y)
  sum_keeps (g.minus {i = i} {j = j} {k = k} {names = names} {a = a} {b = b} x y) = keeps_binary names i j k operator.Sub a b (sum_keeps x) (product_keeps y)

-- a sum is sound over its names and any later ones, where its room is at most 256
pub sound_sum : {n i j : ℕ} {names : Names} {ts rest : Kinds} {e : Expr} → IsSum n i names ts e j rest → i ≤ 256 → (count : ℕ) → length names ≤ count → is_sound count e ≡ true
sound_sum {i = i} {j = j} {names = names} {e = e} h small count all =
    let x : Keeps names i e j = sum_keeps h in
    let room : operators e + j ≤ i = x.room in
    and_from (is_declared count e) (nat_le (operators e) 256) (x.declared count all) (le-leb (operators e) 256 (omega arith))
