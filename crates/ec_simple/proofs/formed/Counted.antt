-- Headers marked as counting count.
use Rattle.std.proofs.Common.{◌≡◌, refl, sym, ap, ◌∙◌, subst, ℕ, ◌+◌, ◌<◌, ◌==◌, eq-eqb, ne_eqb, true-eqb, arith, Bool, true, false, not, ◌&&◌, ◌||◌, List, [], ◌∷◌, ◌++◌, map, length, pos, ℤ, ⊎_elim, true≢false}
use Rattle.std.proofs.lemmas.Bool.{and_parts}
use Rattle.ec_base.specs.Arithmetic.{same_number}
use Rattle.ec_base.specs.declared.operator.BinOp.TheVariants.{Add as Plus, Lt}
use Rattle.ec_base.specs.declared.token.Span.{Span}
use Rattle.ec_simple.specs.declared.form.SExpr.TheVariants as e
use Rattle.ec_simple.specs.declared.form.SStmt.TheVariants as s
use Rattle.ec_simple.specs.declared.form.SStmt.{SStmt}
use Rattle.ec_simple.specs.Counted.{any_sets, sets, tests_below, adds_one, header, counts, CountedHeadersCount}
use Rattle.ec_simple.specs.Expressions.{Code, Scope, Low, points, binary, constant, low}
use Rattle.ec_simple.specs.Sound.{IsIn}
use Rattle.ec_simple.specs.Statements.{low_assignment, copied_in}
use Rattle.ec_simple.specs.Uses.{Use, stmt_reads, stmt_writes, declares, outside}
use Rattle.ec_simple.proofs.formed.Apart.{Apart, apart, first_not, second_not}
use Rattle.ec_simple.proofs.formed.Tests.{three, four}
use Rattle.ec_simple.proofs.lockstep.Used.{nowhere, used_front, in_numbers}
use Rattle.ec_simple.proofs.lockstep.Variables.{in_head, in_tail, head_or_tail}
use Rattle.ec_types.specs.Meaning.Tree.{Expr, Number, Var, Binary, SetVar, Stmt}

same_itself : (x : ℕ) → (x == x) ≡ true
same_itself x = eq-eqb x x refl

-- ---- tests

-- more comes behind it
not_last : (x test : ℕ) (a b : SStmt) (ss : Code) →
    tests_below x test (a ∷ b ∷ ss) ≡ (not (sets x a) && tests_below x test (b ∷ ss))
not_last x test (s.Set y (e.Binary Lt i c at)) b ss = refl
not_last x test a b ss = refl

not_set : (b c : Bool) → b ≡ false → c ≡ true → (not b && c) ≡ true
not_set true c h i = absurd (true≢false h)
not_set false c h i = i

tested : (x test r : ℕ) (at : Span) (code : Code) → (test == x) ≡ false → Apart x code →
    tests_below x test (code ++ s.Set test (e.Binary Lt x r at) ∷ []) ≡ true
tested x test r at [] n h =
    three (test == test) (x == x) (not (test == x)) (same_itself test) (same_itself x) (ap not n)
tested x test r at (a ∷ []) n h =
    not_last x test a (s.Set test (e.Binary Lt x r at)) []
    ∙ not_set (sets x a) _ (first_not (sets x a) false h) (tested x test r at [] n refl)
tested x test r at (a ∷ b ∷ code) n h =
    not_last x test a b (code ++ s.Set test (e.Binary Lt x r at) ∷ [])
    ∙ not_set (sets x a) _ (first_not (sets x a) (any_sets (map (sets x) (b ∷ code))) h)
    (tested x test r at (b ∷ code) n (second_not (sets x a) (any_sets (map (sets x) (b ∷ code))) h))

-- ---- what is copied in

in_map : (f : ℕ → ℕ) (x : ℕ) (xs : List ℕ) → IsIn x xs → IsIn (f x) (map f xs)
in_map f x [] h = nowhere h
in_map f x (y ∷ xs) h =
    ⊎_elim (λ e. in_head (f x) (f y) (map f xs) (ap f e)) (λ i. in_tail (f x) (f y) (map f xs) (in_map f x xs i))
    (head_or_tail x y xs h)

-- ---- headers of one variable

module _ (c : Scope) (i : ℕ) where
  abbrev there : Low
  there = record { code = []; to = c.place i; vars = [] }

  apart_from : (v w : ℕ) → c.place i < v → (v + w == c.place i) ≡ false
  apart_from v w l = ne_eqb (v + w) (c.place i) (λ e. omega (arith, l, e))

  test_counts : (p : Bool) (u : ℕ) (at : Span) (r : Low) → c.place i < u → Apart (c.place i) r.code →
      tests_below (c.place i) (binary p u at Lt there r).to (binary p u at Lt there r).code ≡ true
  test_counts true u at r l h =
      tested (c.place i) (u + length r.vars) r.to at r.code (apart_from u (length r.vars) l) h
  test_counts false u at r l h =
      tested (c.place i) (u + length r.vars) r.to at r.code (apart_from u (length r.vars) l) h

  added : (d b : ℕ) (n : ℤ) → (b == c.place i) ≡ false → same_number n (pos 1) ≡ true →
      (same_number n (pos 1) && not (b == c.place i) && (c.place i == c.place i) && (b == b) && (c.place i == c.place i)
      && (d == d))
      ≡ true
  added d b n other h =
      three _ _ (d == d)
      (four (same_number n (pos 1)) (not (b == c.place i)) (c.place i == c.place i) (b == b) h (ap not other)
      (same_itself (c.place i)) (same_itself b))
      (same_itself (c.place i)) (same_itself d)

  -- a variable is set to the sum
  abbrev set_to : Low → Code
  set_to l = l.code ++ s.Set (c.place i) (e.Var l.to) ∷ []

  step_counts : (p : Bool) (v w : ℕ) (at one : Span) (n : ℤ) → c.place i < w → same_number n (pos 1) ≡ true →
      adds_one (c.place i) (set_to (binary p v at Plus there (constant one n w))) ≡ true
  step_counts true v w at one n l h = added (v + 1) (w + 0) n (apart_from w 0 l) h
  step_counts false v w at one n l h = added (v + 1) (w + 0) n (apart_from w 0 l) h

module _ (c : Scope) (at on to there behind by here one : Span) (i : ℕ) (a b : Expr) (n : ℤ) (x : Stmt) (t g : ℕ)
    (is : same_number n (pos 1) ≡ true) (below : i < length c.variables) (above : c.place i < t) where
  counts_up :
      counts (header c at (SetVar on i a) (Binary to Lt (Var there i) b)
      (SetVar behind i (Binary by Plus (Var here i) (Number one n))) x t g)
      ≡ true
  counts_up =
      let m : List Use = record { var = i; at = on } ∷ [] in
      let u = t + length (low_assignment c (SetVar on i a) t).vars in
      let v = u + length (low c (Binary to Lt (Var there i) b) u).vars in
      three _ _ _
      (test_counts c i (points c (Var there i) || points c b) u to (low c b (u + 0))
      (omega (arith, above)) (apart (c.place i) c b (u + 0) (omega (arith, above))))
      (step_counts c i (points c (Var here i) || points c (Number one n)) v (v + 0) by one n
      (omega (arith, above)) is)
      (in_map c.place i (copied_in c m x)
      (in_numbers (length c.variables) (m ++ outside (declares x) (stmt_reads x ++ stmt_writes x)) i below
      (used_front i m (outside (declares x) (stmt_reads x ++ stmt_writes x)) (in_head i i [] refl))))

pub counted_headers_count : CountedHeadersCount
counted_headers_count c at (SetVar on i a) (Binary to Lt (Var there j) b)
    (SetVar behind k (Binary by Plus (Var here l) (Number one n))) x t g h below above =
    let p = and_parts ((j == i) && (k == i) && (l == i)) (same_number n (pos 1)) h in
    let q = and_parts ((j == i) && (k == i)) (l == i) p.0 in
    let r = and_parts (j == i) (k == i) q.0 in
    subst (λ z. counts (header c at (SetVar on i a) (Binary to Lt (Var there z) b)
    (SetVar behind k (Binary by Plus (Var here l) (Number one n))) x t g) ≡ true) (sym (true-eqb j i (sym r.0)))
    (subst (λ z. counts (header c at (SetVar on i a) (Binary to Lt (Var there i) b)
    (SetVar behind z (Binary by Plus (Var here l) (Number one n))) x t g) ≡ true) (sym (true-eqb k i (sym r.1)))
    (subst (λ z. counts (header c at (SetVar on i a) (Binary to Lt (Var there i) b)
    (SetVar behind i (Binary by Plus (Var here z) (Number one n))) x t g) ≡ true) (sym (true-eqb l i (sym q.1)))
    (counts_up c at on to there behind by here one i a b n x t g p.1 below above)))
counted_headers_count c at a test b x t g h below above = nowhere h
