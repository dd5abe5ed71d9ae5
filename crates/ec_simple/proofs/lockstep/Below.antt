-- Values and operands stand in variables below the next temporary.
use Rattle.std.proofs.Common.{sym, ℕ, ◌+◌, ◌≤◌, ◌<◌, ⊎_elim, Bool, true, false, not, ◌&&◌, ◌||◌, if◌then◌else◌, List, [], ◌∷◌, ◌++◌, length, arith, length-append, ℤ, pos, true≢false, Some, None}
use Rattle.ec_base.specs.declared.operator.BinOp.TheVariants.{Eq, Ne}
use Rattle.ec_base.specs.declared.operator.BinOp.{BinOp}
use Rattle.ec_base.specs.declared.token.Span.{Span}
use Rattle.ec_simple.specs.declared.form.SVar.{SVar}
use Rattle.ec_simple.specs.declared.form.Shape.{Shape}
use Rattle.ec_simple.specs.Expressions.{Scope, Low, variable_at, temporary, ends, passed, binary, points, low, low_part, low_place, low_list}
use Rattle.ec_simple.specs.Uses.{member}
use Rattle.ec_simple.specs.declared.form.SExpr.TheVariants as e
use Rattle.ec_simple.specs.declared.form.SStmt.TheVariants as s
use Rattle.ec_simple.specs.Sound.{IsIn, Sound, SoundPart, SoundPlace, SoundList}
use Rattle.ec_simple.proofs.lockstep.Accesses.{PlaceBelow, below_more}
use Rattle.ec_simple.proofs.lockstep.Variables.{Numbers, head_or_tail}
use Rattle.ec_types.specs.Meaning.Tree.{Expr, Number, Nil, Var, Unary, Binary, And, Or, Load, Called, New, ValueOf, Part, Missing, Given, Place, Element, Behind, Field, Item, Exprs, Last, Arg}

last_below : (t : ℕ) (vars : List SVar) (w : SVar) → t + length vars < t + length (vars ++ w ∷ [])
last_below t vars w = let l = length-append vars (w ∷ []) in omega (arith, l)

pub passed_below : (c : Scope) (a : Expr) (t : ℕ) (l : Low) → l.to < t + length l.vars →
    (passed c a t l).to < t + length (passed c a t l).vars
passed_below c (Var at x) t l h = by ((variable_at c x).shared && not (member x c.params))
  where
    by : (b : Bool) →
        (if b then ends t l.code l.vars (temporary at (Some 0)) (λ y. s.Set y (e.Var l.to)) else l).to
        < t + length (if b then ends t l.code l.vars (temporary at (Some 0)) (λ y. s.Set y (e.Var l.to)) else l).vars
    by true = last_below t l.vars (temporary at (Some 0))
    by false = h
passed_below c a t l h = h

binary_below : (b : Bool) (t : ℕ) (at : Span) (op : BinOp) (l m : Low) →
    (binary b t at op l m).to < t + length (binary b t at op l m).vars
binary_below false t at op l m = last_below t (l.vars ++ m.vars) _
binary_below true t at Eq l m = last_below t (l.vars ++ m.vars) _
binary_below true t at Ne l m = last_below t _ _
binary_below true t at op l m = last_below t (l.vars ++ m.vars) _

module _ (shapes : List Shape) (c : Scope) (sc : List ℕ) (v : ℕ) (numbers : Numbers c.place sc v) where
  pub value_below : (e : Expr) → Sound shapes c sc e → (t : ℕ) → v ≤ t → (low c e t).to < t + length (low c e t).vars
  value_below (Number at n) s t h = last_below t [] (temporary at None)
  value_below (Nil at) s t h = last_below t [] (temporary at (Some 0))
  value_below (Var at x) s t h = let b = numbers.below x s in omega (arith, b, h)
  value_below (Unary at op a) s t h = last_below t _ _
  value_below (Binary at op a b) s t h = binary_below (points c a || points c b) t at op (low c a t) (low c b (t + length (low c a t).vars))
  value_below (And at a b) s t h = last_below t _ _
  value_below (Or at a b) s t h = last_below t _ _
  value_below (Load q p) s t h = last_below t _ _
  value_below (Called i) s t h = last_below t _ _
  value_below (New at shape element count) s t h = last_below t _ _
  value_below (ValueOf at a) s t h = last_below t _ _

  pub part_below : (p : Part) (at : Span) (i : ℤ) → SoundPart shapes c sc p → (t : ℕ) → v ≤ t →
      (low_part c at i p t).to < t + length (low_part c at i p t).vars
  part_below Missing at i s t h = last_below t [] (temporary at None)
  part_below (Given a) at i s t h = value_below a s t h

  pub place_below : (p : Place) → SoundPlace shapes c sc p → (t : ℕ) → v ≤ t →
      PlaceBelow (t + length (low_place c p t).vars) (low_place c p t).place
  place_below (Element at size base index) s t h =
      let lb = low c base t in
      let li = low_part c at (pos 0) index (t + length lb.vars) in
      let l = length-append lb.vars li.vars in
      let b = value_below base s.0 t h in
      let i = part_below index at (pos 0) s.1 (t + length lb.vars) (omega (arith, h)) in
      record { base = omega (arith, l, b); index = omega (arith, l, i); sub = tt }
  place_below (Behind at size f base) s t h =
      let lb = low c base t in
      let li = low_part c at (pos 0) Missing (t + length lb.vars) in
      let l = length-append lb.vars li.vars in
      let b = value_below base s.0 t h in
      let i = part_below Missing at (pos 0) tt (t + length lb.vars) (omega (arith, h)) in
      record { base = omega (arith, l, b); index = omega (arith, l, i); sub = tt }
  place_below (Field at f p) s t h =
      let b = place_below p s.0 t h in record { base = b.base; index = b.index; sub = b.sub }
  place_below (Item at p index) s t h =
      let lp = low_place c p t in
      let li = low c index (t + length lp.vars) in
      let l = length-append lp.vars li.vars in
      let i = value_below index s.1 (t + length lp.vars) (omega (arith, h)) in
      let b = below_more (t + length lp.vars) (t + length (lp.vars ++ li.vars)) lp.place (omega (arith, l)) (place_below p s.0 t h) in
      record { base = b.base; index = b.index; sub = omega (arith, l, i) }

  pub list_below : (es : Exprs) → SoundList shapes c sc es → (t : ℕ) → v ≤ t → (x : ℕ) → IsIn x (low_list c es t).to →
      x < t + length (low_list c es t).vars
  list_below Last s t h x i = absurd (true≢false (sym i))
  list_below (Arg a es) s t h x i =
      let la = passed c a t (low c a t) in
      let ls = low_list c es (t + length la.vars) in
      let l = length-append la.vars ls.vars in
      let b = passed_below c a t (low c a t) (value_below a s.0 t h) in
      ⊎_elim (λ e. omega (arith, l, b, e))
      (λ j. let m = list_below es s.1 (t + length la.vars) (omega (arith, h)) x j in omega (arith, l, m))
      (head_or_tail x la.to ls.to i)
