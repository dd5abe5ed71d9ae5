-- What is sound is so within those of the variables in scope that it uses, however they are numbered.
use Rattle.std.proofs.Common.{◌≡◌, refl, sym, ap, ◌∙◌, subst, ℕ, ⊎_elim, Bool, false, List, [], ◌∷◌, ◌++◌, Option, Some, None}
use Rattle.ec_simple.specs.declared.form.Shape.{Shape}
use Rattle.ec_simple.specs.Expressions.{Scope, pointer}
use Rattle.ec_simple.specs.Sound.{IsIn, IsNew, HasField, IsCell, behind, reached, whole, Gives, Sound, SoundPart, SoundPlace, SoundCall, SoundList, SoundPlacing, SoundAssignment, SoundOptional, SoundDecl, SoundDecls, with_declared, SoundStmt, SoundElse, SoundStmts}
use Rattle.ec_simple.specs.Meaning.{shape_at}
use Rattle.ec_simple.specs.Uses.{Use, reads, part_reads, place_reads, call_reads, list_reads, placing_reads, assignment_reads, assignment_writes, of_all, of_some, decl_reads, declared, stmt_reads, else_reads, stmts_reads, stmt_writes, else_writes, stmts_writes}
use Rattle.ec_simple.proofs.lockstep.Scopes.{declared_or_not, still_in, declared_in}
use Rattle.ec_simple.proofs.lockstep.Used.{IsUsed, used_front, used_back}
use Rattle.ec_simple.proofs.lockstep.Variables.{Within, in_head, in_tail, head_or_tail, not_both, new_of}
use Rattle.ec_types.specs.Meaning.Layout.{or_zero}
use Rattle.ec_types.specs.Meaning.Tree.{Expr, Number, Nil, Var, Unary, Binary, And, Or, Load, Called, New, ValueOf, Part, Missing, Given, Place, Element, Behind, Field, Item, Invocation, Invoke, Exprs, Last, Arg, Placing, OnThis, OnOwner, OnHome, OnNode, OnAny, Assignment, SetVar, Store, Copy, Decl, Plain, Shared, Stmt, Skip, Block, Par, If, While, For, Forall, Set, Eval, WriteTo, AddTo, Print, Return, Else, NoElse, Otherwise, Stmts, End, Then}

-- those of a scope that are used are in the other one too
abbrev pub Keep : List ℕ → List ℕ → List Use → Type 0
Keep sc sd us = (x : ℕ) → IsUsed x us → IsIn x sc → IsIn x sd

keep_front : (sc sd : List ℕ) (us ws : List Use) → Keep sc sd (us ++ ws) → Keep sc sd us
keep_front sc sd us ws k x i = k x (used_front x us ws i)

keep_back : (sc sd : List ℕ) (us ws : List Use) → Keep sc sd (us ++ ws) → Keep sc sd ws
keep_back sc sd us ws k x i = k x (used_back x us ws i)

module _ (shapes : List Shape) (c : Scope) (place : ℕ → ℕ) where
  abbrev moved : Scope
  moved = record c { place = place }

  -- ---- what doesn't speak of numbers

  pub pointer_same : (e : Expr) → pointer moved e ≡ pointer c e
  pointer_same (Number at n) = refl
  pointer_same (Nil at) = refl
  pointer_same (Var at x) = refl
  pointer_same (Unary at op a) = refl
  pointer_same (Binary at op a b) = refl
  pointer_same (And at a b) = refl
  pointer_same (Or at a b) = refl
  pointer_same (Load q a) = refl
  pointer_same (Called (Invoke at f es q)) = refl
  pointer_same (New at shape element count) = refl
  pointer_same (ValueOf at a) = refl

  pub behind_same : (e : Expr) → behind shapes moved e ≡ behind shapes c e
  behind_same e = ap (λ q. behind_pointer q) (pointer_same e)
    where
      behind_pointer : Option ℕ → Shape
      behind_pointer q = shape_at shapes (or_zero q)

  pub reached_same : (p : Place) → reached shapes moved p ≡ reached shapes c p
  reached_same (Element at size base index) = behind_same base
  reached_same (Behind at size f base) = behind_same base
  reached_same (Field at f p) = reached_same p
  reached_same (Item at p index) = reached_same p

  is_cell_same : (p : Place) → IsCell shapes c p → IsCell shapes moved p
  is_cell_same (Element at size base index) h = subst (λ s. HasField s whole) (sym (behind_same base)) h
  is_cell_same (Behind at size f base) h = h
  is_cell_same (Field at f p) h = h
  is_cell_same (Item at p index) h = is_cell_same p h

  gives_same : (i : Invocation) → Gives shapes c i → Gives shapes moved i
  gives_same (Invoke at f es q) h = h

  -- ---- expressions

  mutual
    pub narrow : (sc sd : List ℕ) (e : Expr) → Keep sc sd (reads e) → Sound shapes c sc e → Sound shapes moved sd e
    narrow sc sd (Number at n) k s = tt
    narrow sc sd (Nil at) k s = tt
    narrow sc sd (Var at x) k s = k x (in_head x x [] refl) s
    narrow sc sd (Unary at op a) k s = narrow sc sd a k s
    narrow sc sd (Binary at op a b) k s = (
      narrow sc sd a (keep_front sc sd (reads a) (reads b) k) s.0,
      narrow sc sd b
          (keep_back sc sd (reads a) (reads b) k) s.1,
    )
    narrow sc sd (And at a b) k s = (
      narrow sc sd a (keep_front sc sd (reads a) (reads b) k) s.0,
      narrow sc sd b
          (keep_back sc sd (reads a) (reads b) k) s.1,
    )
    narrow sc sd (Or at a b) k s = (
      narrow sc sd a (keep_front sc sd (reads a) (reads b) k) s.0,
      narrow sc sd b
          (keep_back sc sd (reads a) (reads b) k) s.1,
    )
    narrow sc sd (Load q p) k s = (narrow_place sc sd p k s.0, is_cell_same p s.1)
    narrow sc sd (Called i) k s = (narrow_call sc sd i k s.0, gives_same i s.1)
    narrow sc sd (New at shape element count) k s = (s.0, narrow_part sc sd count k s.1)
    narrow sc sd (ValueOf at a) k s = narrow sc sd a k s

    pub narrow_part : (sc sd : List ℕ) (a : Part) → Keep sc sd (part_reads a) → SoundPart shapes c sc a →
        SoundPart shapes moved sd a
    narrow_part sc sd Missing k s = tt
    narrow_part sc sd (Given a) k s = narrow sc sd a k s

    pub narrow_place : (sc sd : List ℕ) (p : Place) → Keep sc sd (place_reads p) → SoundPlace shapes c sc p →
        SoundPlace shapes moved sd p
    narrow_place sc sd (Element at size base index) k s = (
      narrow sc sd base (keep_front sc sd (reads base) (part_reads index) k) s.0,
      narrow_part sc sd index (keep_back sc sd (reads base) (part_reads index) k) s.1,
      ap (λ b. b.cells) (behind_same base) ∙ s.2,
    )
    narrow_place sc sd (Behind at size f base) k s = (
      narrow sc sd base k s.0,
      ap (λ b. b.cells) (behind_same base)
          ∙ s.1,
      subst (λ b. HasField b f) (sym (behind_same base)) s.2,
    )
    narrow_place sc sd (Field at f p) k s =
        (narrow_place sc sd p k s.0, subst (λ b. HasField b f) (sym (reached_same p)) s.1)
    narrow_place sc sd (Item at p index) k s = (
      narrow_place sc sd p (keep_front sc sd (place_reads p) (reads index) k) s.0,
      narrow sc sd index
          (keep_back sc sd (place_reads p) (reads index) k) s.1,
    )

    pub narrow_call : (sc sd : List ℕ) (i : Invocation) → Keep sc sd (call_reads i) → SoundCall shapes c sc i →
        SoundCall shapes moved sd i
    narrow_call sc sd (Invoke at f es q) k s = (
      s.0,
      s.1,
      narrow_list sc sd es (keep_front sc sd (list_reads es) (placing_reads q) k) s.2,
      narrow_placing sc sd q (keep_back sc sd (list_reads es) (placing_reads q) k) s.3,
    )

    pub narrow_list : (sc sd : List ℕ) (es : Exprs) → Keep sc sd (list_reads es) → SoundList shapes c sc es →
        SoundList shapes moved sd es
    narrow_list sc sd Last k s = tt
    narrow_list sc sd (Arg a es) k s = (
      narrow sc sd a (keep_front sc sd (reads a) (list_reads es) k) s.0,
      narrow_list sc sd es
          (keep_back sc sd (reads a) (list_reads es) k) s.1,
    )

    pub narrow_placing : (sc sd : List ℕ) (q : Placing) → Keep sc sd (placing_reads q) → SoundPlacing shapes c sc q →
        SoundPlacing shapes moved sd q
    narrow_placing sc sd OnThis k s = tt
    narrow_placing sc sd (OnOwner a) k s = narrow sc sd a k s
    narrow_placing sc sd OnHome k s = tt
    narrow_placing sc sd (OnNode a) k s = narrow sc sd a k s
    narrow_placing sc sd OnAny k s = tt

  -- ---- assignments and declarations

  narrow_assignment : (sc sd : List ℕ) (a : Assignment) → Keep sc sd (assignment_reads a) →
      Keep sc sd (assignment_writes a) → SoundAssignment shapes c sc a → SoundAssignment shapes moved sd a
  narrow_assignment sc sd (SetVar at x a) k w s = (w x (in_head x x [] refl) s.0, narrow sc sd a k s.1)
  narrow_assignment sc sd (Store p a) k w s = (
    narrow_place sc sd p (keep_front sc sd (place_reads p) (reads a) k) s.0,
    is_cell_same p s.1,
    narrow sc sd a (keep_back sc sd (place_reads p) (reads a) k) s.2,
  )
  narrow_assignment sc sd (Copy p q) k w s = (
    narrow_place sc sd p (keep_front sc sd (place_reads p) (place_reads q) k) s.0,
    narrow_place sc sd q (keep_back sc sd (place_reads p) (place_reads q) k) s.1,
  )

  narrow_optional : (sc sd : List ℕ) (a : Option Assignment) → Keep sc sd (of_some assignment_reads a) →
      Keep sc sd (of_some assignment_writes a) → SoundOptional shapes c sc a → SoundOptional shapes moved sd a
  narrow_optional sc sd None k w s = tt
  narrow_optional sc sd (Some a) k w s = narrow_assignment sc sd a k w s

  -- one more in scope
  keep_more : (sc sd : List ℕ) (x : ℕ) (us : List Use) → Keep sc sd us → Keep (x ∷ sc) (x ∷ sd) us
  keep_more sc sd x us k y i h = ⊎_elim (λ e. in_head y x sd e) (λ j. in_tail y x sd (k y i j)) (head_or_tail y x sc h)

  within_more : (sc sd : List ℕ) (x : ℕ) → Within sd sc → Within (x ∷ sd) (x ∷ sc)
  within_more sc sd x w y h = ⊎_elim (λ e. in_head y x sc e) (λ j. in_tail y x sc (w y j)) (head_or_tail y x sd h)

  new_still : (sc sd : List ℕ) (x : ℕ) → Within sd sc → IsNew x sc → IsNew x sd
  new_still sc sd x w n = new_of x sd (λ i. not_both x sc (w x i) n)

  narrow_decl : (sc sd : List ℕ) (d : Decl) → Within sd sc → Keep sc sd (decl_reads d) → SoundDecl shapes c sc d →
      SoundDecl shapes moved sd d
  narrow_decl sc sd (Plain x v init) w k s =
      (new_still sc sd x w s.0, s.1, narrow_part (x ∷ sc) (x ∷ sd) init (keep_more sc sd x (part_reads init) k) s.2)
  narrow_decl sc sd (Shared x) w k s = new_still sc sd x w s

  narrow_decls : (sc sd : List ℕ) (ds : List Decl) → Within sd sc → Keep sc sd (of_all decl_reads ds) →
      SoundDecls shapes c sc ds → SoundDecls shapes moved sd ds
  narrow_decls sc sd [] w k s = tt
  narrow_decls sc sd (d ∷ ds) w k s = (
    narrow_decl sc sd d w (keep_front sc sd (decl_reads d) (of_all decl_reads ds) k) s.0,
    narrow_decls (declared d ∷ sc) (declared d ∷ sd) ds (within_more sc sd (declared d) w)
        (keep_more sc sd (declared d) (of_all decl_reads ds)
        (keep_back sc sd (decl_reads d) (of_all decl_reads ds) k)) s.1,
  )

  -- behind declarations
  keep_declared : (sc sd : List ℕ) (ds : List Decl) (us : List Use) → Keep sc sd us →
      Keep (with_declared shapes c ds sc) (with_declared shapes moved ds sd) us
  keep_declared sc sd ds us k x i h =
      ⊎_elim (λ j. declared_in shapes moved ds sd x j) (λ j. still_in shapes moved ds sd x (k x i j))
      (declared_or_not shapes c ds sc x h)

  within_declared : (sc sd : List ℕ) (ds : List Decl) → Within sd sc →
      Within (with_declared shapes moved ds sd) (with_declared shapes c ds sc)
  within_declared sc sd ds w x h =
      ⊎_elim (λ j. declared_in shapes c ds sc x j) (λ j. still_in shapes c ds sc x (w x j))
      (declared_or_not shapes moved ds sd x h)

  -- ---- statements

  mutual
    pub narrow_stmt : (may : Bool) (sc sd : List ℕ) (s : Stmt) → Within sd sc → Keep sc sd (stmt_reads s) →
        Keep sc sd (stmt_writes s) → SoundStmt shapes c may sc s → SoundStmt shapes moved may sd s
    narrow_stmt may sc sd Skip h k w s = tt
    narrow_stmt may sc sd (Block ds ss) h k w s = (
      narrow_decls sc sd ds h (keep_front sc sd (of_all decl_reads ds) (stmts_reads ss) k) s.0,
      narrow_stmts may (with_declared shapes c ds sc) (with_declared shapes moved ds sd) ss
          (within_declared sc sd ds h)
          (keep_declared sc sd ds (stmts_reads ss) (keep_back sc sd (of_all decl_reads ds) (stmts_reads ss) k))
          (keep_declared sc sd ds (stmts_writes ss) w) s.1,
    )
    narrow_stmt may sc sd (Par at ss) h k w s = narrow_stmts false sc sd ss h k w s
    narrow_stmt may sc sd (If a x z) h k w s =
        let k' = keep_back sc sd (reads a) (stmt_reads x ++ else_reads z) k in (
          narrow sc sd a (keep_front sc sd (reads a) (stmt_reads x ++ else_reads z) k) s.0,
          narrow_stmt may sc sd x h (keep_front sc sd (stmt_reads x) (else_reads z) k')
              (keep_front sc sd (stmt_writes x) (else_writes z) w) s.1,
          narrow_else may sc sd z h (keep_back sc sd (stmt_reads x) (else_reads z) k')
              (keep_back sc sd (stmt_writes x) (else_writes z) w) s.2,
        )
    narrow_stmt may sc sd (While a x) h k w s = (
      narrow sc sd a (keep_front sc sd (reads a) (stmt_reads x) k) s.0,
      narrow_stmt may sc sd x h (keep_back sc sd (reads a) (stmt_reads x) k) w s.1,
    )
    narrow_stmt may sc sd (For at a e b x) h k w s =
        let ra = of_some assignment_reads a in let rb = of_some assignment_reads b in
        let wa = of_some assignment_writes a in let wb = of_some assignment_writes b in
        let k' = keep_back sc sd ra (part_reads e ++ (rb ++ stmt_reads x)) k in
        let k'' = keep_back sc sd (part_reads e) (rb ++ stmt_reads x) k' in
        let w' = keep_back sc sd wa (wb ++ stmt_writes x) w in (
          narrow_optional sc sd a (keep_front sc sd ra (part_reads e ++ (rb ++ stmt_reads x)) k)
              (keep_front sc sd wa (wb ++ stmt_writes x) w) s.0,
          narrow_part sc sd e (keep_front sc sd (part_reads e) (rb ++ stmt_reads x) k') s.1,
          narrow_optional sc sd b (keep_front sc sd rb (stmt_reads x) k'') (keep_front sc sd wb (stmt_writes x) w') s.2,
          narrow_stmt may sc sd x h (keep_back sc sd rb (stmt_reads x) k'') (keep_back sc sd wb (stmt_writes x) w') s.3,
        )
    narrow_stmt may sc sd (Forall at a e b x) h k w s =
        let ra = assignment_reads a in let rb = assignment_reads b in
        let wa = assignment_writes a in let wb = assignment_writes b in
        let k' = keep_back sc sd ra (reads e ++ (rb ++ stmt_reads x)) k in
        let k'' = keep_back sc sd (reads e) (rb ++ stmt_reads x) k' in
        let w' = keep_back sc sd wa (wb ++ stmt_writes x) w in (
          narrow_assignment sc sd a (keep_front sc sd ra (reads e ++ (rb ++ stmt_reads x)) k)
              (keep_front sc sd wa (wb ++ stmt_writes x) w) s.0,
          narrow sc sd e (keep_front sc sd (reads e) (rb ++ stmt_reads x) k') s.1,
          narrow_assignment sc sd b (keep_front sc sd rb (stmt_reads x) k'')
              (keep_front sc sd wb (stmt_writes x) w') s.2,
          narrow_stmt false sc sd x h (keep_back sc sd rb (stmt_reads x) k'')
              (keep_back sc sd wb (stmt_writes x) w') s.3,
        )
    narrow_stmt may sc sd (Set a) h k w s = narrow_assignment sc sd a k w s
    narrow_stmt may sc sd (Eval i) h k w s = narrow_call sc sd i k s
    narrow_stmt may sc sd (WriteTo at p a) h k w s = (
      narrow sc sd p (keep_front sc sd (reads p) (reads a) k) s.0,
      narrow sc sd a
          (keep_back sc sd (reads p) (reads a) k) s.1,
    )
    narrow_stmt may sc sd (AddTo at p a) h k w s = (
      narrow sc sd p (keep_front sc sd (reads p) (reads a) k) s.0,
      narrow sc sd a
          (keep_back sc sd (reads p) (reads a) k) s.1,
    )
    narrow_stmt may sc sd (Print string es) h k w s = narrow_list sc sd es k s
    narrow_stmt may sc sd (Return e) h k w s = (s.0, narrow_part sc sd e k s.1)

    narrow_else : (may : Bool) (sc sd : List ℕ) (z : Else) → Within sd sc → Keep sc sd (else_reads z) →
        Keep sc sd (else_writes z) → SoundElse shapes c may sc z → SoundElse shapes moved may sd z
    narrow_else may sc sd NoElse h k w s = tt
    narrow_else may sc sd (Otherwise x) h k w s = narrow_stmt may sc sd x h k w s

    narrow_stmts : (may : Bool) (sc sd : List ℕ) (ss : Stmts) → Within sd sc → Keep sc sd (stmts_reads ss) →
        Keep sc sd (stmts_writes ss) → SoundStmts shapes c may sc ss → SoundStmts shapes moved may sd ss
    narrow_stmts may sc sd End h k w s = tt
    narrow_stmts may sc sd (Then x ss) h k w s = (
      narrow_stmt may sc sd x h (keep_front sc sd (stmt_reads x) (stmts_reads ss) k)
          (keep_front sc sd (stmt_writes x) (stmts_writes ss) w) s.0,
      narrow_stmts may sc sd ss h (keep_back sc sd (stmt_reads x) (stmts_reads ss) k)
          (keep_back sc sd (stmt_writes x) (stmts_writes ss) w) s.1,
    )
