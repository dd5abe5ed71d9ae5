-- The shapes of temporaries are there.
use Rattle.std.proofs.Common.{◌≡◌, refl, ℕ, ◌+◌, ◌<◌, Bool, true, false, not, ◌&&◌, ◌||◌, if◌then◌else◌, List, [], ◌∷◌, ◌++◌, length, nat_lt, lt-ltb, arith, Option, Some, None, pos, ℤ}
use Rattle.std.specs.List.{list_all}
use Rattle.ec_base.specs.declared.operator.BinOp.{BinOp}
use Rattle.ec_base.specs.declared.operator.BinOp.TheVariants.{Eq, Ne}
use Rattle.ec_base.specs.declared.token.Span.{Span}
use Rattle.ec_simple.specs.declared.form.SExpr.TheVariants as e
use Rattle.ec_simple.specs.declared.form.SStmt.TheVariants as stmt
use Rattle.ec_simple.specs.declared.form.Form.{Form}
use Rattle.ec_simple.specs.declared.form.SVar.{SVar}
use Rattle.ec_simple.specs.Expressions.{Scope, Low, variable_at, function_at, temporary, gives, points, ends, binary, passed, low, low_part, low_place, low_call, low_list}
use Rattle.ec_simple.specs.Kinds.{Kinds, KindsInt, KindsTest, KindsPlace, KindsCall, KindsList, KindsElement, KindsAssignment, KindsOptional, KindsDecl, KindsDecls, KindsStmt, KindsElse, KindsStmts}
use Rattle.ec_simple.specs.Statements.{unused, low_assignment, low_optional, low_declaration, low_declarations, low_evaluated, result_variables, low_call_branch, low_stmt, low_else, low_stmts, low_branches}
use Rattle.ec_simple.specs.Uses.{member}
use Rattle.ec_simple.proofs.lockstep.Branches.{chosen}
use Rattle.ec_simple.proofs.formed.Standing.{Stands}
use Rattle.ec_simple.proofs.formed.Tests.{all_both, all_one}
use Rattle.ec_types.specs.Meaning.Branches.{is_call_branch}
use Rattle.ec_types.specs.Meaning.Layout.{or_zero}
use Rattle.ec_types.specs.Meaning.Tree.{Pointer, Expr, Number, Nil, Var, Unary, Binary, And, Or, Load, Called, New, ValueOf, Part, Missing, Given, Place, Element, Behind, Field, Item, Invocation, Invoke, Exprs, Last, Arg, OnThis, OnOwner, OnHome, OnNode, OnAny, Assignment, SetVar, Store, Copy, Decl, Plain, Shared, Stmt, Skip, Block, Par, If, While, For, Forall, Set, Eval, WriteTo, AddTo, Print, Return, Else, NoElse, Otherwise, Stmts, End, Then}

abbrev pub fits_in : Form → SVar → Bool
fits_in s v = nat_lt v.shape (length s.shapes)

abbrev pub Fitting : Form → List SVar → Type 0
Fitting s vars = list_all (fits_in s) vars ≡ true

module _ (s : Form) where
  pub fitting_both : (a b : List SVar) → Fitting s a → Fitting s b → Fitting s (a ++ b)
  fitting_both a b h i = all_both (fits_in s) a b h i

  fitting_three : (a b d : List SVar) → Fitting s a → Fitting s b → Fitting s d → Fitting s (a ++ b ++ d)
  fitting_three a b d h i j = fitting_both (a ++ b) d (fitting_both a b h i) j

  module _ (c : Scope) (stands : Stands s c) where
    one : (at : Span) (q : Pointer) → or_zero q < length s.shapes → Fitting s (temporary at q ∷ [])
    one at q h = all_one (fits_in s) (temporary at q) (lt-ltb (or_zero q) (length s.shapes) h)

    none : (at : Span) → Fitting s (temporary at None ∷ [])
    none at = one at None (let h = stands.shapes in omega (arith, h))

    zero_shape : (at : Span) → Fitting s (temporary at (Some 0) ∷ [])
    zero_shape at = one at (Some 0) (let h = stands.shapes in omega (arith, h))

    -- what a call gives
    given_below : (f : ℕ) → or_zero (gives (function_at c f)) < length s.shapes
    given_below f = go (function_at c f).pointer
      where
        go : (b : Bool) → or_zero (if b then Some (function_at c f).shape else None) < length s.shapes
        go true = stands.results f
        go false = let h = stands.shapes in omega (arith, h)

    given_fits : (at : Span) (f : ℕ) → Fitting s (temporary at (gives (function_at c f)) ∷ [])
    given_fits at f = one at (gives (function_at c f)) (given_below f)

    -- ---- expressions

    binary_fits : (b : Bool) (t : ℕ) (at : Span) (op : BinOp) (x y : Low) → Fitting s x.vars → Fitting s y.vars →
        Fitting s (binary b t at op x y).vars
    binary_fits true t at Eq x y h i = fitting_both (x.vars ++ y.vars) _ (fitting_both x.vars y.vars h i) (none at)
    binary_fits true t at Ne x y h i =
        fitting_both ((x.vars ++ y.vars) ++ temporary at None ∷ []) _
        (fitting_both (x.vars ++ y.vars) _ (fitting_both x.vars y.vars h i) (none at)) (none at)
    binary_fits true t at op x y h i = fitting_both (x.vars ++ y.vars) _ (fitting_both x.vars y.vars h i) (none at)
    binary_fits false t at op x y h i = fitting_both (x.vars ++ y.vars) _ (fitting_both x.vars y.vars h i) (none at)

    passed_fits : (a : Expr) (t : ℕ) (l : Low) → Fitting s l.vars → Fitting s (passed c a t l).vars
    passed_fits (Var at x) t l h = go ((variable_at c x).shared && not (member x c.params))
      where
        go : (b : Bool) →
            Fitting s
            (if b then ends t l.code l.vars (temporary at (Some 0)) (λ y. stmt.Set y (e.Var l.to)) else l).vars
        go true = fitting_both l.vars _ h (zero_shape at)
        go false = h
    passed_fits a t l h = h

    mutual
      pub fitting : (a : Expr) → Kinds s.shapes c a → (t : ℕ) → Fitting s (low c a t).vars
      fitting (Number at n) k t = none at
      fitting (Nil at) k t = zero_shape at
      fitting (Var at x) k t = refl
      fitting (Unary at op a) k t = fitting_both (low c a t).vars _ (fitting a k.0 t) (none at)
      fitting (Binary at op a b) k t =
          let la = low c a t in let u = t + length la.vars in
          binary_fits (points c a || points c b) t at op la (low c b u) (fitting a k.0 t) (fitting b k.1 u)
      fitting (And at a b) k t =
          let la = low c a t in let u = t + length la.vars in
          fitting_both (la.vars ++ (low c b u).vars) _
          (fitting_both la.vars (low c b u).vars (fitting a k.0 t) (fitting b k.1 u)) (none at)
      fitting (Or at a b) k t =
          let la = low c a t in let u = t + length la.vars in
          fitting_both (la.vars ++ (low c b u).vars) _
          (fitting_both la.vars (low c b u).vars (fitting a k.0 t) (fitting b k.1 u)) (none at)
      fitting (Load q p) k t =
          let l = low_place c p t in fitting_both l.vars _ (fitting_place p k.0 t) (one l.place.at q k.3)
      fitting (Called (Invoke at f es q)) k t =
          let l = low_call c (Invoke at f es q) t in
          fitting_both l.vars _ (fitting_call (Invoke at f es q) k t) (given_fits l.at f)
      fitting (New at shape element count) k t =
          fitting_both (low_part c at (pos 1) count t).vars _ (fitting_int count k.1 at (pos 1) t)
          (one at (Some shape) k.0)
      fitting (ValueOf at a) k t = fitting_both (low c a t).vars _ (fitting a k.0 t) (none at)

      fitting_int : (a : Part) → KindsInt s.shapes c a → (at : Span) (n : ℤ) (t : ℕ) →
          Fitting s (low_part c at n a t).vars
      fitting_int Missing k at n t = none at
      fitting_int (Given a) k at n t = fitting a k.0 t

      fitting_place : (p : Place) → KindsPlace s.shapes c p → (t : ℕ) → Fitting s (low_place c p t).vars
      fitting_place (Element at size base index) k t =
          let l = low c base t in let u = t + length l.vars in
          fitting_both l.vars (low_part c at (pos 0) index u).vars (fitting base k.0 t)
          (fitting_int index k.2 at (pos 0) u)
      fitting_place (Behind at size f base) k t = fitting_both (low c base t).vars _ (fitting base k.0 t) (none at)
      fitting_place (Field at f p) k t = fitting_place p k.0 t
      fitting_place (Item at p index) k t =
          let l = low_place c p t in let u = t + length l.vars in
          fitting_both l.vars (low c index u).vars (fitting_place p k.0 t) (fitting index k.1 u)

      pub fitting_call : (i : Invocation) → KindsCall s.shapes c i → (t : ℕ) → Fitting s (low_call c i t).vars
      fitting_call (Invoke at f es OnThis) k t = fitting_list es k.0 t
      fitting_call (Invoke at f es (OnOwner a)) k t =
          let l = low_list c es t in let u = t + length l.vars in
          fitting_both l.vars (low c a u).vars (fitting_list es k.0 t) (fitting a k.2.0 u)
      fitting_call (Invoke at f es OnHome) k t = fitting_list es k.0 t
      fitting_call (Invoke at f es (OnNode a)) k t =
          let l = low_list c es t in let u = t + length l.vars in
          fitting_both l.vars (low c a u).vars (fitting_list es k.0 t) (fitting a k.2.0 u)
      fitting_call (Invoke at f es OnAny) k t = fitting_list es k.0 t

      fitting_list : (es : Exprs) → KindsList s.shapes c es → (t : ℕ) → Fitting s (low_list c es t).vars
      fitting_list Last k t = refl
      fitting_list (Arg a es) k t =
          let l = passed c a t (low c a t) in let u = t + length l.vars in
          fitting_both l.vars (low_list c es u).vars (passed_fits a t (low c a t) (fitting a k.0 t))
          (fitting_list es k.1 u)

    fitting_test : (a : Part) → KindsTest s.shapes c a → (at : Span) (n : ℤ) (t : ℕ) →
        Fitting s (low_part c at n a t).vars
    fitting_test Missing k at n t = none at
    fitting_test (Given a) k at n t = fitting a k t

    -- ---- assignments and declarations

    fitting_element : (p : Place) → KindsElement s.shapes c p → (t : ℕ) → Fitting s (low_place c p t).vars
    fitting_element (Element at size base index) k t =
        let l = low c base t in let u = t + length l.vars in
        fitting_both l.vars (low_part c at (pos 0) index u).vars (fitting base k.0 t)
        (fitting_int index k.2 at (pos 0) u)
    fitting_element (Behind at size f base) k t = fitting_place (Behind at size f base) k t
    fitting_element (Field at f p) k t = fitting_place (Field at f p) k t
    fitting_element (Item at p index) k t = fitting_place (Item at p index) k t

    fitting_assignment : (a : Assignment) → KindsAssignment s.shapes c a → (t : ℕ) →
        Fitting s (low_assignment c a t).vars
    fitting_assignment (SetVar at x a) k t = fitting a k.0 t
    fitting_assignment (Store p a) k t =
        let l = low_place c p t in let u = t + length l.vars in
        fitting_both l.vars (low c a u).vars (fitting_place p k.0 t) (fitting a k.2 u)
    fitting_assignment (Copy p q) k t =
        let l = low_place c p t in let u = t + length l.vars in
        fitting_both l.vars (low_place c q u).vars (fitting_element p k.0 t) (fitting_element q k.1 u)

    fitting_optional : (a : Option Assignment) → KindsOptional s.shapes c a → (t : ℕ) →
        Fitting s (low_optional c a t).vars
    fitting_optional None k t = refl
    fitting_optional (Some a) k t = fitting_assignment a k t

    fitting_declaration : (d : Decl) → KindsDecl s.shapes c d → (t : ℕ) → Fitting s (low_declaration c d t).vars
    fitting_declaration (Plain x v Missing) k t = refl
    fitting_declaration (Plain x v (Given a)) k t = fitting a k.1.0 t
    fitting_declaration (Shared x) k t = refl

    pub fitting_declarations : (ds : List Decl) → KindsDecls s.shapes c ds → (t : ℕ) →
        Fitting s (low_declarations c ds t).vars
    fitting_declarations [] k t = refl
    fitting_declarations (d ∷ ds) k t =
        let l = low_declaration c d t in let u = t + length l.vars in
        fitting_both l.vars (low_declarations c ds u).vars (fitting_declaration d k.0 t) (fitting_declarations ds k.1 u)

    fitting_evaluated : (i : Invocation) → KindsCall s.shapes c i → (t : ℕ) → Fitting s (low_evaluated c i t).vars
    fitting_evaluated (Invoke at f es q) k t = go (function_at c f).void
      where
        go : (b : Bool) → Fitting s (unused c (low_call c (Invoke at f es q) t) t b (Called (Invoke at f es q))).vars
        go true = fitting_call (Invoke at f es q) k t
        go false = fitting (Called (Invoke at f es q)) k t

    -- ---- statements

    result_fits : (at : Span) (f t : ℕ) → Fitting s (result_variables c at f t)
    result_fits at f t = go (function_at c f).void
      where
        go : (b : Bool) → Fitting s (if b then [] else temporary at (gives (function_at c f)) ∷ [])
        go true = refl
        go false = given_fits at f

    call_branch_fits : (gives : Option Bool) (x : Stmt) → KindsStmt s.shapes c gives x → (t : ℕ) →
        Fitting s (low_call_branch c x t).vars
    call_branch_fits gives (Set (SetVar at x (Called i))) k t = fitting_call i k.0 t
    call_branch_fits gives (Eval (Invoke at f es q)) k t =
        let l = low_call c (Invoke at f es q) t in
        fitting_both l.vars (result_variables c at f (t + length l.vars)) (fitting_call (Invoke at f es q) k t)
        (result_fits at f (t + length l.vars))
    call_branch_fits gives x k t = refl

    module _ (gives : Option Bool) where
      mutual
        pub fitting_stmt : (x : Stmt) → KindsStmt s.shapes c gives x → (t g : ℕ) → Fitting s (low_stmt c x t g).vars
        fitting_stmt Skip k t g = refl
        fitting_stmt (Block ds ss) k t g =
            let l = low_declarations c ds t in let u = t + length l.vars in
            fitting_both l.vars (low_stmts c ss u g).vars (fitting_declarations ds k.0 t) (fitting_stmts ss k.1 u g)
        fitting_stmt (Par at ss) k t g = fitting_branches at ss k t g
        fitting_stmt (If a x z) k t g =
            let l = low c a t in let u = t + length l.vars in
            let m = low_stmt c x u g in
            fitting_three l.vars m.vars (low_else c z (u + length m.vars) (g + length m.funcs)).vars (fitting a k.0 t)
            (fitting_stmt x k.1 u g) (fitting_else z k.2 (u + length m.vars) (g + length m.funcs))
        fitting_stmt (While a x) k t g =
            let l = low c a t in let u = t + length l.vars in
            fitting_both l.vars (low_stmt c x u g).vars (fitting a k.0 t) (fitting_stmt x k.1 u g)
        fitting_stmt (For at a e b x) k t g =
            let la = low_optional c a t in let u = t + length la.vars in
            let lt = low_part c at (pos 1) e u in let v = u + length lt.vars in
            let lx = low_stmt c x v g in let w = v + length lx.vars in
            fitting_both (la.vars ++ lt.vars ++ lx.vars) (low_optional c b w).vars
            (fitting_three la.vars lt.vars lx.vars (fitting_optional a k.0 t) (fitting_test e k.1 at (pos 1) u)
            (fitting_stmt x k.3 v g)) (fitting_optional b k.2 w)
        fitting_stmt (Forall at a e b x) k t g =
            let la = low_assignment c a t in let u = t + length la.vars in
            let lt = low c e u in let v = u + length lt.vars in
            fitting_three la.vars lt.vars (low_assignment c b v).vars (fitting_assignment a k.0 t) (fitting e k.1 u)
            (fitting_assignment b k.2 v)
        fitting_stmt (Set a) k t g = fitting_assignment a k t
        fitting_stmt (Eval i) k t g = fitting_evaluated i k t
        fitting_stmt (WriteTo at p a) k t g =
            let l = low c p t in let u = t + length l.vars in
            fitting_both l.vars (low c a u).vars (fitting p k.0 t) (fitting a k.2 u)
        fitting_stmt (AddTo at p a) k t g =
            let l = low c p t in let u = t + length l.vars in
            fitting_both l.vars (low c a u).vars (fitting p k.0 t) (fitting a k.2 u)
        fitting_stmt (Print string es) k t g = fitting_list es k.0 t
        fitting_stmt (Return Missing) k t g = refl
        fitting_stmt (Return (Given a)) k t g = fitting a k.0 t

        fitting_else : (z : Else) → KindsElse s.shapes c gives z → (t g : ℕ) → Fitting s (low_else c z t g).vars
        fitting_else NoElse k t g = refl
        fitting_else (Otherwise x) k t g = fitting_stmt x k t g

        pub fitting_stmts : (ss : Stmts) → KindsStmts s.shapes c gives ss → (t g : ℕ) →
            Fitting s (low_stmts c ss t g).vars
        fitting_stmts End k t g = refl
        fitting_stmts (Then x ss) k t g =
            let l = low_stmt c x t g in let u = t + length l.vars in let h = g + length l.funcs in
            fitting_both l.vars (low_stmts c ss u h).vars (fitting_stmt x k.0 t g) (fitting_stmts ss k.1 u h)

        fitting_branches : (at : Span) (ss : Stmts) → KindsStmts s.shapes c gives ss → (t g : ℕ) →
            Fitting s (low_branches c at ss t g).vars
        fitting_branches at End k t g = refl
        fitting_branches at (Then x ss) k t g =
            let l = chosen c at x t g (is_call_branch x) in let u = t + length l.vars in let h = g + length l.funcs in
            fitting_both l.vars (low_branches c at ss u h).vars (go (is_call_branch x)) (fitting_branches at ss k.1 u h)
          where
            go : (b : Bool) → Fitting s (chosen c at x t g b).vars
            go true = call_branch_fits gives x k.0 t
            go false = refl
