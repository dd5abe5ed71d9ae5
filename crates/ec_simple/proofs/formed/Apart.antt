-- The code of an expression sets only its temporaries.
use Rattle.std.proofs.Common.{◌≡◌, refl, ◌∙◌, ℕ, ◌+◌, ◌<◌, ◌==◌, ne_eqb, arith, Bool, true, false, not, ◌&&◌, ◌||◌, if◌then◌else◌, [], ◌∷◌, ◌++◌, map, length, Some, ℤ, pos, true≢false}
use Rattle.ec_base.specs.declared.operator.BinOp.{BinOp}
use Rattle.ec_base.specs.declared.operator.BinOp.TheVariants.{Eq, Ne}
use Rattle.ec_base.specs.declared.token.Span.{Span}
use Rattle.ec_simple.specs.declared.form.SCall.{SCall}
use Rattle.ec_simple.specs.declared.form.SExpr.TheVariants as e
use Rattle.ec_simple.specs.declared.form.SExpr.{SExpr}
use Rattle.ec_simple.specs.declared.form.SPlaceOf.{SPlaceOf}
use Rattle.ec_simple.specs.declared.form.SStmt.TheFolds.{the_lemmas as folds}
use Rattle.ec_simple.specs.declared.form.SStmt.TheOpen.{SStmt-F}
use Rattle.ec_simple.specs.declared.form.SStmt.TheVariants as s
use Rattle.ec_simple.specs.declared.form.SStmt.{SStmt}
use Rattle.ec_simple.specs.Counted.{any_sets, sets_in, sets}
use Rattle.ec_simple.specs.Expressions.{Code, Scope, Low, variable_at, points, temporary, ends, truth, decided, binary, passed, low, low_part, low_place, low_call, low_list}
use Rattle.ec_simple.specs.Uses.{member}
use Rattle.ec_types.specs.Meaning.Tree.{Expr, Number, Nil, Var, Unary, Binary, And, Or, Load, Called, New, ValueOf, Part, Missing, Given, Place, Element, Behind, Field, Item, Invocation, Invoke, Exprs, Last, Arg, OnThis, OnOwner, OnHome, OnNode, OnAny}

pub neither : (a b : Bool) → a ≡ false → b ≡ false → (a || b) ≡ false
neither true b h i = absurd (true≢false h)
neither false b h i = i

pub first_not : (a b : Bool) → (a || b) ≡ false → a ≡ false
first_not true b h = h
first_not false b h = refl

pub second_not : (a b : Bool) → (a || b) ≡ false → b ≡ false
second_not true b h = absurd (true≢false h)
second_not false b h = h

-- ---- which variables statements set

module _ (x : ℕ) where
  -- no statement of the code sets the variable
  abbrev pub Apart : Code → Type 0
  Apart code = any_sets (map (sets x) code) ≡ false

  abbrev Is : SStmt → SStmt-F Bool Bool Bool → Type 0
  Is a b = sets x a ≡ sets_in x b

  set_sets : (y : ℕ) (v : SExpr) → Is (s.Set y v) (SStmt-F.Set y v)
  set_sets y v = search folds

  load_sets : (y : ℕ) (a : SPlaceOf) → Is (s.Load y a) (SStmt-F.Load y a)
  load_sets y a = search folds

  new_sets : (y shape count : ℕ) (at : Span) → Is (s.New y shape count at) (SStmt-F.New y shape count at)
  new_sets y shape count at = search folds

  read_sets : (q y : ℕ) (at : Span) → Is (s.Read q y at) (SStmt-F.Read q y at)
  read_sets q y at = search folds

  call_sets : (c : SCall) → Is (s.Call c) (SStmt-F.Call c)
  call_sets c = search folds

  if_sets : (y : ℕ) (a b : Code) → Is (s.If y a b) (SStmt-F.If y (map (sets x) a) (map (sets x) b))
  if_sets y a b = search folds

  -- ---- code, one after another

  pub apart_both : (a b : Code) → Apart a → Apart b → Apart (a ++ b)
  apart_both [] b h i = i
  apart_both (y ∷ a) b h i =
      neither (sets x y) (any_sets (map (sets x) (a ++ b))) (first_not (sets x y) (any_sets (map (sets x) a)) h)
      (apart_both a b (second_not (sets x y) (any_sets (map (sets x) a)) h) i)

  apart_one : (y : SStmt) → sets x y ≡ false → Apart (y ∷ [])
  apart_one y h = neither (sets x y) false h refl

  apart_last : (a : Code) (y : SStmt) → Apart a → sets x y ≡ false → Apart (a ++ y ∷ [])
  apart_last a y h i = apart_both a (y ∷ []) h (apart_one y i)

  -- ---- a temporary isn't the variable

  module _ (t : ℕ) (above : x < t) where
    other : (n : ℕ) → (t + n == x) ≡ false
    other n = ne_eqb (t + n) x (λ e. omega (arith, e, above))

    set_other : (n : ℕ) (v : SExpr) → sets x (s.Set (t + n) v) ≡ false
    set_other n v = set_sets (t + n) v ∙ other n

    truth_other : (n : ℕ) (i : ℤ) → Apart (truth (t + n) i)
    truth_other n i = apart_one (s.Set (t + n) (e.Number i)) (set_other n (e.Number i))

    decided_other : (n : ℕ) (b : Low) → Apart b.code → Apart (decided (t + n) b)
    decided_other n b h =
        apart_last b.code (s.If b.to (truth (t + n) (pos 1)) (truth (t + n) (pos 0))) h
        (if_sets b.to (truth (t + n) (pos 1)) (truth (t + n) (pos 0))
        ∙ neither _ _ (truth_other n (pos 1)) (truth_other n (pos 0)))

    binary_apart : (p : Bool) (at : Span) (op : BinOp) (a b : Low) → Apart a.code → Apart b.code →
        Apart (binary p t at op a b).code
    binary_apart true at Eq a b h i = apart_last (a.code ++ b.code) _ (apart_both a.code b.code h i) (set_other _ _)
    binary_apart true at Ne a b h i =
        apart_last ((a.code ++ b.code) ++ _ ∷ []) _
        (apart_last (a.code ++ b.code) _ (apart_both a.code b.code h i) (set_other _ _)) (set_other _ _)
    binary_apart true at op a b h i = apart_last (a.code ++ b.code) _ (apart_both a.code b.code h i) (set_other _ _)
    binary_apart false at op a b h i = apart_last (a.code ++ b.code) _ (apart_both a.code b.code h i) (set_other _ _)

  -- ---- expressions

  module _ (c : Scope) where
    passed_apart : (a : Expr) (t : ℕ) (l : Low) → x < t → Apart l.code → Apart (passed c a t l).code
    passed_apart (Var at y) t l above h = go ((variable_at c y).shared && not (member y c.params))
      where
        go : (b : Bool) →
            Apart (if b then ends t l.code l.vars (temporary at (Some 0)) (λ z. s.Set z (e.Var l.to)) else l).code
        go true = apart_last l.code _ h (set_other t above (length l.vars) (e.Var l.to))
        go false = h
    passed_apart a t l above h = h

    mutual
      pub apart : (a : Expr) (t : ℕ) → x < t → Apart (low c a t).code
      apart (Number at n) t h = apart_one _ (set_other t h 0 (e.Number n))
      apart (Nil at) t h = apart_one _ (set_other t h 0 e.Null)
      apart (Var at y) t h = refl
      apart (Unary at op a) t h =
          let l = low c a t in apart_last l.code _ (apart a t h) (set_other t h (length l.vars) _)
      apart (Binary at op a b) t h =
          let la = low c a t in let u = t + length la.vars in
          binary_apart t h (points c a || points c b) at op la (low c b u) (apart a t h) (apart b u (omega (arith, h)))
      apart (And at a b) t h =
          let la = low c a t in let u = t + length la.vars in let lb = low c b u in
          let n = length (la.vars ++ lb.vars) in
          apart_last la.code (s.If la.to (decided (t + n) lb) (truth (t + n) (pos 0))) (apart a t h)
          (if_sets la.to (decided (t + n) lb) (truth (t + n) (pos 0))
          ∙ neither _ _ (decided_other t h n lb (apart b u (omega (arith, h)))) (truth_other t h n (pos 0)))
      apart (Or at a b) t h =
          let la = low c a t in let u = t + length la.vars in let lb = low c b u in
          let n = length (la.vars ++ lb.vars) in
          apart_last la.code (s.If la.to (truth (t + n) (pos 1)) (decided (t + n) lb)) (apart a t h)
          (if_sets la.to (truth (t + n) (pos 1)) (decided (t + n) lb)
          ∙ neither _ _ (truth_other t h n (pos 1)) (decided_other t h n lb (apart b u (omega (arith, h)))))
      apart (Load q p) t h =
          let l = low_place c p t in
          apart_last l.code _ (place_apart p t h) (load_sets (t + length l.vars) l.place ∙ other t h (length l.vars))
      apart (Called (Invoke at f es q)) t h =
          let l = low_call c (Invoke at f es q) t in
          apart_last l.code _ (call_apart (Invoke at f es q) t h)
          (call_sets _ ∙ neither (t + length l.vars == x) false (other t h (length l.vars)) refl)
      apart (New at shape element count) t h =
          let l = low_part c at (pos 1) count t in
          apart_last l.code _ (part_apart at (pos 1) count t h)
          (new_sets (t + length l.vars) shape l.to at ∙ other t h (length l.vars))
      apart (ValueOf at a) t h =
          let l = low c a t in
          apart_last l.code _ (apart a t h) (read_sets l.to (t + length l.vars) at ∙ other t h (length l.vars))

      part_apart : (at : Span) (n : ℤ) (a : Part) (t : ℕ) → x < t → Apart (low_part c at n a t).code
      part_apart at n Missing t h = apart_one _ (set_other t h 0 (e.Number n))
      part_apart at n (Given a) t h = apart a t h

      place_apart : (p : Place) (t : ℕ) → x < t → Apart (low_place c p t).code
      place_apart (Element at size base index) t h =
          let l = low c base t in let u = t + length l.vars in
          apart_both l.code (low_part c at (pos 0) index u).code (apart base t h)
          (part_apart at (pos 0) index u (omega (arith, h)))
      place_apart (Behind at size f base) t h =
          let l = low c base t in let u = t + length l.vars in
          apart_both l.code _ (apart base t h) (apart_one _ (set_other u (omega (arith, h)) 0 (e.Number (pos 0))))
      place_apart (Field at f p) t h = place_apart p t h
      place_apart (Item at p index) t h =
          let l = low_place c p t in let u = t + length l.vars in
          apart_both l.code (low c index u).code (place_apart p t h) (apart index u (omega (arith, h)))

      call_apart : (i : Invocation) (t : ℕ) → x < t → Apart (low_call c i t).code
      call_apart (Invoke at f es OnThis) t h = list_apart es t h
      call_apart (Invoke at f es (OnOwner a)) t h =
          let l = low_list c es t in let u = t + length l.vars in
          apart_both l.code (low c a u).code (list_apart es t h) (apart a u (omega (arith, h)))
      call_apart (Invoke at f es OnHome) t h = list_apart es t h
      call_apart (Invoke at f es (OnNode a)) t h =
          let l = low_list c es t in let u = t + length l.vars in
          apart_both l.code (low c a u).code (list_apart es t h) (apart a u (omega (arith, h)))
      call_apart (Invoke at f es OnAny) t h = list_apart es t h

      list_apart : (es : Exprs) (t : ℕ) → x < t → Apart (low_list c es t).code
      list_apart Last t h = refl
      list_apart (Arg a es) t h =
          let l = passed c a t (low c a t) in let u = t + length l.vars in
          apart_both l.code (low_list c es u).code (passed_apart a t (low c a t) h (apart a t h))
          (list_apart es u (omega (arith, h)))
