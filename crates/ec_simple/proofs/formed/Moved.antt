-- Ints and pointers stand where they are asked for, however variables are numbered.
use Rattle.std.proofs.Common.{◌≡◌, refl, sym, ap, ◌∙◌, subst, ℕ, inl, inr, Bool, List, [], ◌∷◌, Option, Some, None, is_some}
use Rattle.ec_base.specs.declared.operator.BinOp.{BinOp}
use Rattle.ec_base.specs.declared.operator.UnOp.{UnOp}
use Rattle.ec_base.specs.declared.operator.UnOp.TheVariants.{Not}
use Rattle.ec_simple.specs.declared.form.Shape.{Shape}
use Rattle.ec_simple.specs.Expressions.{Scope, points}
use Rattle.ec_simple.specs.Kinds.{IsInt, IsPointer, IsShared, AreInts, arguments_point, ForUnary, ForBinary, HasNumber, element_shape, field_number, cell_points, IsOne, Kinds, KindsInt, KindsTest, KindsPlace, KindsCall, KindsList, KindsPlacing, Gets, KindsElement, KindsAssignment, KindsOptional, KindsFirst, KindsDecl, KindsDecls, KindsReturn, KindsStmt, KindsElse, KindsStmts}
use Rattle.ec_simple.specs.Meaning.{field_of}
use Rattle.ec_simple.specs.Sound.{behind, reached}
use Rattle.ec_simple.proofs.lockstep.Narrow.{pointer_same, behind_same, reached_same}
use Rattle.ec_types.specs.Meaning.Layout.{or_zero}
use Rattle.ec_types.specs.Meaning.Tree.{Expr, Number, Nil, Var, Unary, Binary, And, Or, Load, Called, New, ValueOf, Part, Missing, Given, Place, Element, Behind, Field, Item, Invocation, Invoke, Exprs, Last, Arg, Placing, OnThis, OnOwner, OnHome, OnNode, OnAny, Assignment, SetVar, Store, Copy, Decl, Plain, Shared, Stmt, Skip, Block, Par, If, While, For, Forall, Set, Eval, WriteTo, AddTo, Print, Return, Else, NoElse, Otherwise, Stmts, End, Then}

module _ (shapes : List Shape) (c : Scope) (place : ℕ → ℕ) where
  abbrev moved : Scope
  moved = record c { place = place }

  -- ---- what values are

  points_same : (a : Expr) → points moved a ≡ points c a
  points_same a = ap is_some (pointer_same shapes c place a)

  int : (a : Expr) → IsInt c a → IsInt moved a
  int a h = points_same a ∙ h

  points_still : (a : Expr) → IsPointer c a → IsPointer moved a
  points_still a h = points_same a ∙ h

  shared : (a : Expr) → IsShared c a → IsShared moved a
  shared a h = pointer_same shapes c place a ∙ h

  ints : (es : Exprs) → AreInts c es → AreInts moved es
  ints Last h = tt
  ints (Arg a es) h = (int a h.0, ints es h.1)

  arguments_same : (es : Exprs) → arguments_point moved es ≡ arguments_point c es
  arguments_same Last = refl
  arguments_same (Arg a es) = ap (λ b. b ∷ arguments_point moved es) (points_same a)
      ∙ ap (λ bs. points c a ∷ bs) (arguments_same es)

  unary : (op : UnOp) (a : Expr) → ForUnary c op a → ForUnary moved op a
  unary Not a h = h
  unary op a h = int a h

  binary : (op : BinOp) (a b : Expr) → ForBinary c op a b → ForBinary moved op a b
  binary op a b (inl h) = inl (int a h.0, int b h.1)
  binary op a b (inr h) = inr (h.0, points_still a h.1, points_still b h.2)

  -- ---- accesses

  element_same : (p : Place) → element_shape moved p ≡ element_shape c p
  element_same (Element at size base index) = ap or_zero (pointer_same shapes c place base)
  element_same (Behind at size f base) = ap or_zero (pointer_same shapes c place base)
  element_same (Field at f p) = element_same p
  element_same (Item at p index) = element_same p

  cell_same : (p : Place) → cell_points shapes moved p ≡ cell_points shapes c p
  cell_same p = ap (λ b. (field_of b (field_number p)).pointer) (reached_same shapes c place p)

  cells_same : (p : Place) →
      (field_of (reached shapes moved p) (field_number p)).cells
      ≡ (field_of (reached shapes c p) (field_number p)).cells
  cells_same p = ap (λ b. (field_of b (field_number p)).cells) (reached_same shapes c place p)

  one : (p : Place) → IsOne shapes c p → IsOne shapes moved p
  one (Element at size base index) h = cells_same (Element at size base index) ∙ h
  one (Behind at size f base) h = cells_same (Behind at size f base) ∙ h
  one (Field at f p) h = cells_same (Field at f p) ∙ h
  one (Item at p index) h = tt

  numbered_behind : (a : Expr) (f : ℕ) → HasNumber (behind shapes c a) f → HasNumber (behind shapes moved a) f
  numbered_behind a f h = subst (λ b. HasNumber b f) (sym (behind_same shapes c place a)) h

  -- ---- expressions

  mutual
    pub kinds : (e : Expr) → Kinds shapes c e → Kinds shapes moved e
    kinds (Number at n) h = tt
    kinds (Nil at) h = tt
    kinds (Var at x) h = tt
    kinds (Unary at op a) h = (kinds a h.0, unary op a h.1)
    kinds (Binary at op a b) h = (kinds a h.0, kinds b h.1, binary op a b h.2)
    kinds (And at a b) h = (kinds a h.0, kinds b h.1)
    kinds (Or at a b) h = (kinds a h.0, kinds b h.1)
    kinds (Load q p) h = (kinds_place p h.0, one p h.1, cell_same p ∙ h.2, h.3)
    kinds (Called i) h = kinds_call i h
    kinds (New at shape element count) h = (h.0, kinds_int count h.1)
    kinds (ValueOf at a) h = (kinds a h.0, shared a h.1)

    kinds_int : (a : Part) → KindsInt shapes c a → KindsInt shapes moved a
    kinds_int Missing h = tt
    kinds_int (Given a) h = (kinds a h.0, int a h.1)

    kinds_place : (p : Place) → KindsPlace shapes c p → KindsPlace shapes moved p
    kinds_place (Element at size base index) h =
        (kinds base h.0, points_still base h.1, kinds_int index h.2, numbered_behind base 0 h.3)
    kinds_place (Behind at size f base) h =
        (kinds base h.0, points_still base h.1, numbered_behind base f.number h.2)
    kinds_place (Field at f p) h =
        (kinds_place p h.0, subst (λ b. HasNumber b f.number) (sym (reached_same shapes c place p)) h.1)
    kinds_place (Item at p index) h = (kinds_place p h.0, kinds index h.1, int index h.2)

    kinds_call : (i : Invocation) → KindsCall shapes c i → KindsCall shapes moved i
    kinds_call (Invoke at f es q) h = (kinds_list es h.0, arguments_same es ∙ h.1, kinds_placing q h.2)

    kinds_list : (es : Exprs) → KindsList shapes c es → KindsList shapes moved es
    kinds_list Last h = tt
    kinds_list (Arg a es) h = (kinds a h.0, kinds_list es h.1)

    kinds_placing : (q : Placing) → KindsPlacing shapes c q → KindsPlacing shapes moved q
    kinds_placing OnThis h = tt
    kinds_placing (OnOwner a) h = (kinds a h.0, points_still a h.1)
    kinds_placing OnHome h = tt
    kinds_placing (OnNode a) h = (kinds a h.0, int a h.1)
    kinds_placing OnAny h = tt

  kinds_test : (a : Part) → KindsTest shapes c a → KindsTest shapes moved a
  kinds_test Missing h = tt
  kinds_test (Given a) h = kinds a h

  -- ---- assignments and declarations

  gets : (x : ℕ) (a : Expr) → Gets shapes c x a → Gets shapes moved x a
  gets x a h = (points_same a ∙ h.0, h.1)

  kinds_element : (p : Place) → KindsElement shapes c p → KindsElement shapes moved p
  kinds_element (Element at size base index) h = (kinds base h.0, points_still base h.1, kinds_int index h.2)
  kinds_element (Behind at size f base) h = kinds_place (Behind at size f base) h
  kinds_element (Field at f p) h = kinds_place (Field at f p) h
  kinds_element (Item at p index) h = kinds_place (Item at p index) h

  kinds_assignment : (a : Assignment) → KindsAssignment shapes c a → KindsAssignment shapes moved a
  kinds_assignment (SetVar at x a) h = (kinds a h.0, gets x a h.1)
  kinds_assignment (Store p a) h =
      (kinds_place p h.0, one p h.1, kinds a h.2, cell_same p ∙ (h.3 ∙ sym (points_same a)))
  kinds_assignment (Copy p q) h =
      (kinds_element p h.0, kinds_element q h.1, element_same p ∙ (h.2 ∙ sym (element_same q)))

  kinds_optional : (a : Option Assignment) → KindsOptional shapes c a → KindsOptional shapes moved a
  kinds_optional None h = tt
  kinds_optional (Some a) h = kinds_assignment a h

  kinds_first : (x : ℕ) (a : Part) → KindsFirst shapes c x a → KindsFirst shapes moved x a
  kinds_first x Missing h = tt
  kinds_first x (Given a) h = (kinds a h.0, gets x a h.1)

  kinds_decls : (ds : List Decl) → KindsDecls shapes c ds → KindsDecls shapes moved ds
  kinds_decls [] h = tt
  kinds_decls (d ∷ ds) h = (kinds_decl d h.0, kinds_decls ds h.1)
    where
      kinds_decl : (d : Decl) → KindsDecl shapes c d → KindsDecl shapes moved d
      kinds_decl (Plain x v init) h = (h.0, kinds_first x init h.1)
      kinds_decl (Shared x) h = h

  -- ---- statements

  module _ (gives : Option Bool) where
    kinds_return : (a : Part) → KindsReturn shapes c gives a → KindsReturn shapes moved gives a
    kinds_return Missing h = h
    kinds_return (Given a) h = (kinds a h.0, h.1 ∙ ap Some (sym (points_same a)))

    mutual
      pub kinds_moved : (x : Stmt) → KindsStmt shapes c gives x → KindsStmt shapes moved gives x
      kinds_moved Skip h = tt
      kinds_moved (Block ds ss) h = (kinds_decls ds h.0, kinds_stmts ss h.1)
      kinds_moved (Par at ss) h = kinds_stmts ss h
      kinds_moved (If a x z) h = (kinds a h.0, kinds_moved x h.1, kinds_else z h.2)
      kinds_moved (While a x) h = (kinds a h.0, kinds_moved x h.1)
      kinds_moved (For at a e b x) h =
          (kinds_optional a h.0, kinds_test e h.1, kinds_optional b h.2, kinds_moved x h.3)
      kinds_moved (Forall at a e b x) h =
          (kinds_assignment a h.0, kinds e h.1, kinds_assignment b h.2, kinds_moved x h.3, h.4)
      kinds_moved (Set a) h = kinds_assignment a h
      kinds_moved (Eval i) h = kinds_call i h
      kinds_moved (WriteTo at p a) h = (kinds p h.0, shared p h.1, kinds a h.2, int a h.3)
      kinds_moved (AddTo at p a) h = (kinds p h.0, shared p h.1, kinds a h.2, int a h.3)
      kinds_moved (Print string es) h = (kinds_list es h.0, ints es h.1)
      kinds_moved (Return e) h = kinds_return e h

      kinds_else : (z : Else) → KindsElse shapes c gives z → KindsElse shapes moved gives z
      kinds_else NoElse h = tt
      kinds_else (Otherwise x) h = kinds_moved x h

      kinds_stmts : (ss : Stmts) → KindsStmts shapes c gives ss → KindsStmts shapes moved gives ss
      kinds_stmts End h = tt
      kinds_stmts (Then x ss) h = (kinds_moved x h.0, kinds_stmts ss h.1)
