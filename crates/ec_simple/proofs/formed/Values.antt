-- The code of an expression is formed, and its variable is what the expression is; so are places, arguments and calls.
use Rattle.std.proofs.Common.{◌≡◌, refl, sym, ap, ◌∙◌, ℕ, ◌+◌, ◌<◌, Bool, true, false, ◌&&◌, ◌||◌, nat_lt, slice_get, if◌then◌else◌, List, [], ◌∷◌, ◌++◌, length, arith, ℤ, pos, Some, None, is_some}
use Rattle.std.proofs.lemmas.Bool.{lt-ltb}
use Rattle.ec_base.specs.declared.token.Span.{Span}
use Rattle.ec_simple.specs.declared.form.SExpr.TheVariants as e
use Rattle.ec_simple.specs.declared.form.SFunc.{SFunc}
use Rattle.ec_simple.specs.declared.form.SPlace.TheVariants as p
use Rattle.ec_simple.specs.declared.form.SStmt.TheVariants as stmt
use Rattle.ec_simple.specs.declared.form.Form.{Form}
use Rattle.ec_simple.specs.Expressions.{Scope, LowCall, variable_at, function_at, gives, of_variable, temporary, pointer, points, constant, plain_call, result, passed, low, low_part, low_place, low_list, low_call, low_placing}
use Rattle.ec_simple.specs.Formed.{is_int, is_pointer, kind_of, exists, points_at, is_written, is_formed, all_formed}
use Rattle.ec_simple.specs.Kinds.{given, Kinds, KindsInt, KindsTest, KindsPlace, KindsElement, KindsCall, KindsList, KindsPlacing, arguments_point, parameters_point}
use Rattle.ec_simple.specs.Sound.{Sound, SoundPart, SoundPlace, SoundCall, SoundList, SoundPlacing}
use Rattle.ec_simple.proofs.formed.Accesses.{FormedInt, FormedPlace, FormedElement, place_element, element_alone, cell_formed, element_formed, behind_formed, field_formed, item_formed}
use Rattle.ec_simple.proofs.formed.Arguments.{called, FormedList, FormedCall, passed_left, passed_formed, argument_formed, unplaced_formed, placed_formed, placing_left, call_fits}
use Rattle.ec_simple.proofs.formed.Code.{both_true, set_formed, load_formed, new_formed, read_formed, call_formed, formed_both}
use Rattle.ec_simple.proofs.formed.Kinds.{kind_there, points_at_there, value_int, value_pointer, value_exists, value_at}
use Rattle.ec_simple.proofs.formed.Operators.{ends_formed, int_formed, constant_formed, constant_int, unary_formed, binary_left, binary_formed, and_formed, or_formed}
use Rattle.ec_simple.proofs.formed.Standing.{At, at_left, at_right, Placed, Stands, Value, FormedLow, given_kinds}
use Rattle.ec_types.specs.Meaning.Layout.{or_zero}
use Rattle.ec_types.specs.Meaning.Tree.{Function, Expr, Number, Nil, Var, Unary, Binary, And, Or, Load, Called, New, ValueOf, Part, Missing, Given, Place, Element, Behind, Field, Item, Invocation, Invoke, Exprs, Last, Arg, Placing, OnThis, OnOwner, OnHome, OnNode, OnAny}

-- the result of a function that gives one
pub gives_kind : (g : Function) → g.void ≡ false → Some (is_some (gives g)) ∷ [] ≡ given_kinds (given g)
gives_kind g h = ap (λ z. Some z ∷ []) (of_pointer g.pointer) ∙ sym (ap (λ z. given_kinds (if z then None else Some g.pointer)) h)
  where
    of_pointer : (z : Bool) → is_some (if z then Some g.shape else None) ≡ z
    of_pointer true = refl
    of_pointer false = refl

module _ (s : Form) (f : SFunc) (c : Scope) (sc : List ℕ) (stands : Stands s c) (here : Placed c f.vars sc) where
  -- ---- shapes

  some_shape : 0 < length s.shapes
  some_shape = let h = stands.shapes in omega (arith, h)

  pub shape_there : (a : Expr) → Kinds s.shapes c a → or_zero (pointer c a) < length s.shapes
  shape_there (Nil at) k = some_shape
  shape_there (Var at x) k = stands.variables x
  shape_there (Load q p) k = k.3
  shape_there (Called (Invoke at g es q)) k = of_pointer (function_at c g).pointer
    where
      of_pointer : (z : Bool) → or_zero (if z then Some (function_at c g).shape else None) < length s.shapes
      of_pointer true = stands.results g
      of_pointer false = some_shape
  shape_there (New at shape element count) k = k.0
  shape_there a k = some_shape

  -- ---- variables set by other code

  variable_value : (at : Span) (x : ℕ) → Sound s.shapes c sc (Var at x) → Value c f.vars (Var at x) (c.place x)
  variable_value at x i = record { variable = of_variable (variable_at c x); there = here x i; points = refl; shape = refl }

  nil_formed : (at : Span) (t : ℕ) → At f.vars t (low c (Nil at) t).vars → FormedLow s f c (Nil at) (low c (Nil at) t)
  nil_formed at t h =
      ends_formed s f t [] [] refl c (Nil at) (temporary at (Some 0)) (λ x. stmt.Set x e.Null) h
      (λ m there. set_formed s f m e.Null ∙ ap is_pointer (kind_there f.vars m (temporary at (Some 0)) there)) refl refl

  result_formed : (at : Span) (g : ℕ) (es : Exprs) (q : Placing) (l : LowCall) →
      SoundCall s.shapes c sc (Invoke at g es q) → (function_at c g).void ≡ false → FormedCall s f c g l → (t : ℕ) →
      At f.vars t (result (gives (function_at c g)) t l).vars →
      FormedLow s f c (Called (Invoke at g es q)) (result (gives (function_at c g)) t l)
  result_formed at g es q l y v h t i =
      let r = temporary l.at (gives (function_at c g)) in
      ends_formed s f t l.code l.vars h.code c (Called (Invoke at g es q)) r (λ x. stmt.Call (plain_call l (x ∷ []))) i
      (λ m there.
      call_formed s f (plain_call l (m ∷ []))
      ∙ call_fits s f c stands g l h y.0 (is_written s f) refl (m ∷ [])
      (ap (λ k. k ∷ []) (kind_there f.vars m r there) ∙ gives_kind (function_at c g) v) [] [] refl refl) refl refl

  new_is : (at : Span) (shape : ℕ) (m count : ℕ) → shape < length s.shapes → is_int (kind_of s f count) ≡ true →
      slice_get f.vars m ≡ Some (temporary at (Some shape)) → is_formed s f (stmt.New m shape count at) ≡ true
  new_is at shape m count h i there =
      let p = points_at s f shape m in
      let n = is_int (kind_of s f count) in
      new_formed s f m shape count at
      ∙ both_true (p && n) (nat_lt shape (length s.shapes))
      (both_true p n (points_at_there s f shape m (temporary at (Some shape)) there refl refl) i)
      (lt-ltb shape (length s.shapes) h)

  -- ---- each part

  mutual
    pub value_formed : (a : Expr) → Sound s.shapes c sc a → Kinds s.shapes c a → (t : ℕ) → At f.vars t (low c a t).vars →
        FormedLow s f c a (low c a t)
    value_formed (Number at n) y k t h = constant_formed s f c (Number at n) at n t h refl
    value_formed (Nil at) y k t h = nil_formed at t h
    value_formed (Var at x) y k t h = (refl, variable_value at x y)
    value_formed (Unary at op a) y k t h =
        let la = low c a t in
        unary_formed s f c at op a la t (value_formed a y k.0 t (at_left f.vars t la.vars (temporary at None ∷ []) h)) k.1 h
    value_formed (Binary at op a b) y k t h =
        let la = low c a t in
        let u = t + length la.vars in
        let lb = low c b u in
        let i = binary_left s f c t at op la lb (points c a || points c b) h in
        binary_formed s f c t at a b la lb (value_formed a y.0 k.0 t (at_left f.vars t la.vars lb.vars i))
        (value_formed b y.1 k.1 u (at_right f.vars t la.vars lb.vars i)) op k.2 h
    value_formed (And at a b) y k t h =
        let la = low c a t in
        let u = t + length la.vars in
        let lb = low c b u in
        let i = at_left f.vars t (la.vars ++ lb.vars) (temporary at None ∷ []) h in
        and_formed s f c t at a b la lb (value_formed a y.0 k.0 t (at_left f.vars t la.vars lb.vars i))
        (value_formed b y.1 k.1 u (at_right f.vars t la.vars lb.vars i)) h
    value_formed (Or at a b) y k t h =
        let la = low c a t in
        let u = t + length la.vars in
        let lb = low c b u in
        let i = at_left f.vars t (la.vars ++ lb.vars) (temporary at None ∷ []) h in
        or_formed s f c t at a b la lb (value_formed a y.0 k.0 t (at_left f.vars t la.vars lb.vars i))
        (value_formed b y.1 k.1 u (at_right f.vars t la.vars lb.vars i)) h
    value_formed (Load q p) y k t h =
        let l = low_place c p t in
        let v = temporary l.place.at q in
        let r = place_formed p y.0 k.0 t (at_left f.vars t l.vars (v ∷ []) h) in
        ends_formed s f t l.code l.vars r.code c (Load q p) v (λ x. stmt.Load x l.place) h
        (λ m there.
        load_formed s f m l.place
        ∙ cell_formed s f c p l r k.1 (kind_of s f m) (is_some q) (kind_there f.vars m v there) k.2) refl refl
    value_formed (Called (Invoke at g es q)) y k t h =
        let l = low_call c (Invoke at g es q) t in
        let r = temporary l.at (gives (function_at c g)) in
        result_formed at g es q l y.0 y.1
        (invocation_formed (Invoke at g es q) y.0 k t (at_left f.vars t l.vars (r ∷ []) h)) t h
    value_formed (New at shape element count) y k t h =
        let l = low_part c at (pos 1) count t in
        let v = temporary at (Some shape) in
        let r = part_formed count at (pos 1) y.1 k.1 t (at_left f.vars t l.vars (v ∷ []) h) in
        ends_formed s f t l.code l.vars r.0 c (New at shape element count) v (λ x. stmt.New x shape l.to at) h
        (λ m there. new_is at shape m l.to k.0 r.1 there) refl refl
    value_formed (ValueOf at a) y k t h =
        let l = low c a t in
        let r = value_formed a y k.0 t (at_left f.vars t l.vars (temporary at None ∷ []) h) in
        int_formed s f t l.code l.vars r.0 c (ValueOf at a) at (λ x. stmt.Read l.to x at) h
        (λ m p.
        read_formed s f l.to m at
        ∙ both_true (points_at s f 0 l.to) (is_int (kind_of s f m)) (value_at s f c a l.to r.1 0 k.1) (ap is_int p)) refl

    -- an index or a count
    pub part_formed : (p : Part) (at : Span) (i : ℤ) → SoundPart s.shapes c sc p → KindsInt s.shapes c p → (t : ℕ) →
        At f.vars t (low_part c at i p t).vars → FormedInt s f (low_part c at i p t)
    part_formed Missing at i y k t h = constant_int s f at i t h
    part_formed (Given a) at i y k t h =
        let r = value_formed a y k.0 t h in (r.0, value_int s f c a (low c a t).to r.1 k.1)

    pub place_formed : (p : Place) → SoundPlace s.shapes c sc p → KindsPlace s.shapes c p → (t : ℕ) →
        At f.vars t (low_place c p t).vars → FormedPlace s f c p (low_place c p t)
    place_formed (Element at size base index) y k t h =
        let lb = low c base t in
        let u = t + length lb.vars in
        let li = low_part c at (pos 0) index u in
        element_formed s f c at size base lb li (value_formed base y.0 k.0 t (at_left f.vars t lb.vars li.vars h)) k.1
        (part_formed index at (pos 0) y.1 k.2 u (at_right f.vars t lb.vars li.vars h)) (shape_there base k.0) index k.3
    place_formed (Behind at size g base) y k t h =
        let lb = low c base t in
        let u = t + length lb.vars in
        let li = constant at (pos 0) u in
        behind_formed s f c at size base lb li (value_formed base y.0 k.0 t (at_left f.vars t lb.vars li.vars h)) k.1
        (constant_int s f at (pos 0) u (at_right f.vars t lb.vars li.vars h)) (shape_there base k.0) g k.2
    place_formed (Field at g p) y k t h = field_formed s f c at g p (low_place c p t) (place_formed p y.0 k.0 t h) k.1
    place_formed (Item at p index) y k t h =
        let l = low_place c p t in
        let u = t + length l.vars in
        let li = low c index u in
        item_formed s f c at p index l li (place_formed p y.0 k.0 t (at_left f.vars t l.vars li.vars h))
        (value_formed index y.1 k.1 u (at_right f.vars t l.vars li.vars h)) k.2

    pub list_formed : (es : Exprs) → SoundList s.shapes c sc es → KindsList s.shapes c es → (t : ℕ) →
        At f.vars t (low_list c es t).vars → FormedList s f c es (low_list c es t)
    list_formed Last y k t h = (refl, refl)
    list_formed (Arg a es) y k t h =
        let la = passed c a t (low c a t) in
        let u = t + length la.vars in
        let ls = low_list c es u in
        let i = at_left f.vars t la.vars ls.vars h in
        let r = value_formed a y.0 k.0 t (passed_left s f c a t (low c a t) i) in
        argument_formed s f c a es la ls (passed_formed s f c stands a t (low c a t) r i)
        (list_formed es y.1 k.1 u (at_right f.vars t la.vars ls.vars h))

    -- the call, without its results
    pub invocation_formed : (i : Invocation) → SoundCall s.shapes c sc i → KindsCall s.shapes c i → (t : ℕ) →
        At f.vars t (low_call c i t).vars → FormedCall s f c (called i) (low_call c i t)
    invocation_formed (Invoke at g es q) y k t h =
        let l = low_list c es t in
        placing_formed at g es t q y.3 k.2 k.1 h
        (list_formed es y.2 k.0 t (placing_left s f c at g t (t + length l.vars) l q h))

    -- behind the arguments, where the call is placed
    placing_formed : (at : Span) (g : ℕ) (es : Exprs) (t : ℕ) (q : Placing) → SoundPlacing s.shapes c sc q →
        KindsPlacing s.shapes c q → arguments_point c es ≡ parameters_point (function_at c g) →
        let l = low_list c es t in
        let lc = low_placing c at g l q (t + length l.vars) in
        At f.vars t lc.vars → FormedList s f c es l → FormedCall s f c g lc
    placing_formed at g es t OnThis y k e h r = unplaced_formed s f c at g es (low_list c es t) p.Here r e refl
    placing_formed at g es t (OnOwner a) y k e h r =
        let l = low_list c es t in
        let u = t + length l.vars in
        let la = low c a u in
        let o = value_formed a y k.0 u (at_right f.vars t l.vars la.vars h) in
        placed_formed s f c at g es l p.Owner la r e o.0 (value_pointer s f c a la.to o.1 k.1)
    placing_formed at g es t OnHome y k e h r = unplaced_formed s f c at g es (low_list c es t) p.Home r e refl
    placing_formed at g es t (OnNode a) y k e h r =
        let l = low_list c es t in
        let u = t + length l.vars in
        let la = low c a u in
        let o = value_formed a y k.0 u (at_right f.vars t l.vars la.vars h) in
        placed_formed s f c at g es l p.Node la r e o.0 (value_int s f c a la.to o.1 k.1)
    placing_formed at g es t OnAny y k e h r = unplaced_formed s f c at g es (low_list c es t) p.Anywhere r e refl

  -- an element that is copied
  pub copied_formed : (p : Place) → SoundPlace s.shapes c sc p → KindsElement s.shapes c p → (t : ℕ) →
      At f.vars t (low_place c p t).vars → FormedElement s f c p (low_place c p t)
  copied_formed (Element at size base index) y k t h =
      let lb = low c base t in
      let u = t + length lb.vars in
      let li = low_part c at (pos 0) index u in
      element_alone s f c at size base lb li (value_formed base y.0 k.0 t (at_left f.vars t lb.vars li.vars h)) k.1
      (part_formed index at (pos 0) y.1 k.2 u (at_right f.vars t lb.vars li.vars h)) (shape_there base k.0) index
  copied_formed (Behind at size g base) y k t h =
      let p = Behind at size g base in place_element s f c p (low_place c p t) (place_formed p y k t h)
  copied_formed (Field at g q) y k t h =
      let p = Field at g q in place_element s f c p (low_place c p t) (place_formed p y k t h)
  copied_formed (Item at q index) y k t h =
      let p = Item at q index in place_element s f c p (low_place c p t) (place_formed p y k t h)

  -- a condition, or none
  pub test_formed : (p : Part) (at : Span) (i : ℤ) → SoundPart s.shapes c sc p → KindsTest s.shapes c p → (t : ℕ) →
      At f.vars t (low_part c at i p t).vars →
      let l = low_part c at i p t in (all_formed s f l.code ≡ true) × (exists s f l.to ≡ true)
  test_formed Missing at i y k t h =
      let r = constant_formed s f c (Number at i) at i t h refl in
      (r.0, value_exists s f c (Number at i) (constant at i t).to r.1)
  test_formed (Given a) at i y k t h =
      let r = value_formed a y k t h in (r.0, value_exists s f c a (low c a t).to r.1)

  -- two operands, one behind the other
  pub two_formed : (a b : Expr) → Sound s.shapes c sc a → Sound s.shapes c sc b → Kinds s.shapes c a →
      Kinds s.shapes c b → (t : ℕ) →
      let la = low c a t in
      let lb = low c b (t + length la.vars) in
      At f.vars t (la.vars ++ lb.vars) →
      (all_formed s f (la.code ++ lb.code) ≡ true) × Value c f.vars a la.to × Value c f.vars b lb.to
  two_formed a b y z j k t h =
      let la = low c a t in
      let u = t + length la.vars in
      let lb = low c b u in
      let p = value_formed a y j t (at_left f.vars t la.vars lb.vars h) in
      let q = value_formed b z k u (at_right f.vars t la.vars lb.vars h) in
      (formed_both s f la.code lb.code p.0 q.0, p.1, q.1)
