-- What a sound statement uses is in scope or declared in it, and what it declares is new.
use Rattle.std.proofs.Common.{sym, subst, ℕ, ◌⊎◌, inl, inr, ⊎_elim, Bool, false, List, [], ◌∷◌, ◌++◌, map, Option, Some, None}
use Rattle.ec_simple.specs.declared.form.Shape.{Shape}
use Rattle.ec_simple.specs.Expressions.{Scope}
use Rattle.ec_simple.specs.Sound.{IsIn, IsNew, Sound, SoundPart, SoundPlace, SoundCall, SoundList, SoundPlacing, SoundAssignment, SoundOptional, SoundDecl, SoundDecls, with_declared, SoundStmt, SoundElse, SoundStmts}
use Rattle.ec_simple.specs.Uses.{reads, part_reads, place_reads, call_reads, list_reads, placing_reads, assignment_reads, assignment_writes, of_all, of_some, decl_reads, declared, stmt_reads, else_reads, stmts_reads, stmt_writes, else_writes, stmts_writes, declares, else_declares, all_declare}
use Rattle.ec_simple.proofs.lockstep.Used.{IsUsed, nowhere, used_either}
use Rattle.ec_simple.proofs.lockstep.Variables.{in_head, in_tail, head_or_tail, in_front, in_back, in_either, not_both}
use Rattle.ec_types.specs.Meaning.Tree.{Expr, Number, Nil, Var, Unary, Binary, And, Or, Load, Called, New, ValueOf, Part, Missing, Given, Place, Element, Behind, Field, Item, Invocation, Invoke, Exprs, Last, Arg, Placing, OnThis, OnOwner, OnHome, OnNode, OnAny, Assignment, SetVar, Store, Copy, Decl, Plain, Shared, Stmt, Skip, Block, Par, If, While, For, Forall, Set, Eval, WriteTo, AddTo, Print, Return, Else, NoElse, Otherwise, Stmts, End, Then}

module _ (shapes : List Shape) (c : Scope) where
  -- ---- expressions

  mutual
    pub reads_in : (sc : List ℕ) (e : Expr) → Sound shapes c sc e → (x : ℕ) → IsUsed x (reads e) → IsIn x sc
    reads_in sc (Number at n) s x h = nowhere h
    reads_in sc (Nil at) s x h = nowhere h
    reads_in sc (Var at y) s x h = ⊎_elim (λ e. subst (λ z. IsIn z sc) e s) (λ i. nowhere i) (head_or_tail x y [] h)
    reads_in sc (Unary at op a) s x h = reads_in sc a s x h
    reads_in sc (Binary at op a b) s x h =
        ⊎_elim (λ i. reads_in sc a s.0 x i) (λ i. reads_in sc b s.1 x i) (used_either x (reads a) (reads b) h)
    reads_in sc (And at a b) s x h =
        ⊎_elim (λ i. reads_in sc a s.0 x i) (λ i. reads_in sc b s.1 x i) (used_either x (reads a) (reads b) h)
    reads_in sc (Or at a b) s x h =
        ⊎_elim (λ i. reads_in sc a s.0 x i) (λ i. reads_in sc b s.1 x i) (used_either x (reads a) (reads b) h)
    reads_in sc (Load q p) s x h = place_reads_in sc p s.0 x h
    reads_in sc (Called i) s x h = call_reads_in sc i s.0 x h
    reads_in sc (New at shape element count) s x h = part_reads_in sc count s.1 x h
    reads_in sc (ValueOf at a) s x h = reads_in sc a s x h

    pub part_reads_in : (sc : List ℕ) (a : Part) → SoundPart shapes c sc a → (x : ℕ) → IsUsed x (part_reads a) →
        IsIn x sc
    part_reads_in sc Missing s x h = nowhere h
    part_reads_in sc (Given a) s x h = reads_in sc a s x h

    pub place_reads_in : (sc : List ℕ) (p : Place) → SoundPlace shapes c sc p → (x : ℕ) → IsUsed x (place_reads p) →
        IsIn x sc
    place_reads_in sc (Element at size base index) s x h =
        ⊎_elim (λ i. reads_in sc base s.0 x i) (λ i. part_reads_in sc index s.1 x i)
        (used_either x (reads base) (part_reads index) h)
    place_reads_in sc (Behind at size f base) s x h = reads_in sc base s.0 x h
    place_reads_in sc (Field at f p) s x h = place_reads_in sc p s.0 x h
    place_reads_in sc (Item at p index) s x h =
        ⊎_elim (λ i. place_reads_in sc p s.0 x i) (λ i. reads_in sc index s.1 x i)
        (used_either x (place_reads p) (reads index) h)

    pub call_reads_in : (sc : List ℕ) (i : Invocation) → SoundCall shapes c sc i → (x : ℕ) → IsUsed x (call_reads i) →
        IsIn x sc
    call_reads_in sc (Invoke at f es q) s x h =
        ⊎_elim (λ i. list_reads_in sc es s.2 x i) (λ i. placing_reads_in sc q s.3 x i)
        (used_either x (list_reads es) (placing_reads q) h)

    pub list_reads_in : (sc : List ℕ) (es : Exprs) → SoundList shapes c sc es → (x : ℕ) → IsUsed x (list_reads es) →
        IsIn x sc
    list_reads_in sc Last s x h = nowhere h
    list_reads_in sc (Arg a es) s x h =
        ⊎_elim (λ i. reads_in sc a s.0 x i) (λ i. list_reads_in sc es s.1 x i)
        (used_either x (reads a) (list_reads es) h)

    pub placing_reads_in : (sc : List ℕ) (q : Placing) → SoundPlacing shapes c sc q → (x : ℕ) →
        IsUsed x (placing_reads q) → IsIn x sc
    placing_reads_in sc OnThis s x h = nowhere h
    placing_reads_in sc (OnOwner a) s x h = reads_in sc a s x h
    placing_reads_in sc OnHome s x h = nowhere h
    placing_reads_in sc (OnNode a) s x h = reads_in sc a s x h
    placing_reads_in sc OnAny s x h = nowhere h

  -- ---- assignments

  pub assignment_reads_in : (sc : List ℕ) (a : Assignment) → SoundAssignment shapes c sc a → (x : ℕ) →
      IsUsed x (assignment_reads a) → IsIn x sc
  assignment_reads_in sc (SetVar at y a) s x h = reads_in sc a s.1 x h
  assignment_reads_in sc (Store p a) s x h =
      ⊎_elim (λ i. place_reads_in sc p s.0 x i) (λ i. reads_in sc a s.2 x i) (used_either x (place_reads p) (reads a) h)
  assignment_reads_in sc (Copy p q) s x h =
      ⊎_elim (λ i. place_reads_in sc p s.0 x i) (λ i. place_reads_in sc q s.1 x i)
      (used_either x (place_reads p) (place_reads q) h)

  pub assignment_writes_in : (sc : List ℕ) (a : Assignment) → SoundAssignment shapes c sc a → (x : ℕ) →
      IsUsed x (assignment_writes a) → IsIn x sc
  assignment_writes_in sc (SetVar at y a) s x h =
      ⊎_elim (λ e. subst (λ z. IsIn z sc) e s.0) (λ i. nowhere i) (head_or_tail x y [] h)
  assignment_writes_in sc (Store p a) s x h = nowhere h
  assignment_writes_in sc (Copy p q) s x h = nowhere h

  pub optional_reads_in : (sc : List ℕ) (a : Option Assignment) → SoundOptional shapes c sc a → (x : ℕ) →
      IsUsed x (of_some assignment_reads a) → IsIn x sc
  optional_reads_in sc None s x h = nowhere h
  optional_reads_in sc (Some a) s x h = assignment_reads_in sc a s x h

  pub optional_writes_in : (sc : List ℕ) (a : Option Assignment) → SoundOptional shapes c sc a → (x : ℕ) →
      IsUsed x (of_some assignment_writes a) → IsIn x sc
  optional_writes_in sc None s x h = nowhere h
  optional_writes_in sc (Some a) s x h = assignment_writes_in sc a s x h

  -- ---- declarations

  pub declared_or_not : (ds : List Decl) (sc : List ℕ) (x : ℕ) → IsIn x (with_declared shapes c ds sc) →
      IsIn x (map declared ds) ⊎ IsIn x sc
  declared_or_not [] sc x h = inr h
  declared_or_not (d ∷ ds) sc x h =
      ⊎_elim (λ i. inl (in_tail x (declared d) (map declared ds) i))
      (λ i. ⊎_elim (λ e. inl (in_head x (declared d) (map declared ds) e)) (λ j. inr j)
      (head_or_tail x (declared d) sc i))
      (declared_or_not ds (declared d ∷ sc) x h)

  pub still_in : (ds : List Decl) (sc : List ℕ) (x : ℕ) → IsIn x sc → IsIn x (with_declared shapes c ds sc)
  still_in [] sc x h = h
  still_in (d ∷ ds) sc x h = still_in ds (declared d ∷ sc) x (in_tail x (declared d) sc h)

  pub declared_in : (ds : List Decl) (sc : List ℕ) (x : ℕ) → IsIn x (map declared ds) →
      IsIn x (with_declared shapes c ds sc)
  declared_in [] sc x h = nowhere h
  declared_in (d ∷ ds) sc x h =
      ⊎_elim (λ e. still_in ds (declared d ∷ sc) x (in_head x (declared d) sc e))
      (λ i. declared_in ds (declared d ∷ sc) x i)
      (head_or_tail x (declared d) (map declared ds) h)

  decl_reads_in : (sc : List ℕ) (d : Decl) → SoundDecl shapes c sc d → (x : ℕ) → IsUsed x (decl_reads d) →
      IsIn x (declared d ∷ sc)
  decl_reads_in sc (Plain y v init) s x h = part_reads_in (y ∷ sc) init s.2 x h
  decl_reads_in sc (Shared y) s x h = nowhere h

  decls_reads_in : (sc : List ℕ) (ds : List Decl) → SoundDecls shapes c sc ds → (x : ℕ) →
      IsUsed x (of_all decl_reads ds) → IsIn x (with_declared shapes c ds sc)
  decls_reads_in sc [] s x h = nowhere h
  decls_reads_in sc (d ∷ ds) s x h =
      ⊎_elim (λ i. still_in ds (declared d ∷ sc) x (decl_reads_in sc d s.0 x i))
      (λ i. decls_reads_in (declared d ∷ sc) ds s.1 x i)
      (used_either x (decl_reads d) (of_all decl_reads ds) h)

  decl_new : (sc : List ℕ) (d : Decl) → SoundDecl shapes c sc d → IsNew (declared d) sc
  decl_new sc (Plain y v init) s = s.0
  decl_new sc (Shared y) s = s

  decls_new : (sc : List ℕ) (ds : List Decl) → SoundDecls shapes c sc ds → (x : ℕ) → IsIn x (map declared ds) →
      IsIn x sc → ⊥
  decls_new sc [] s x h i = nowhere h
  decls_new sc (d ∷ ds) s x h i =
      ⊎_elim (λ e. not_both (declared d) sc (subst (λ z. IsIn z sc) (sym e) i) (decl_new sc d s.0))
      (λ j. decls_new (declared d ∷ sc) ds s.1 x j (in_tail x (declared d) sc i))
      (head_or_tail x (declared d) (map declared ds) h)

  -- ---- statements: what is read

  abbrev Known : List ℕ → List ℕ → ℕ → Type 0
  Known sc own x = IsIn x sc ⊎ IsIn x own

  known_front : (sc a b : List ℕ) (x : ℕ) → Known sc a x → Known sc (a ++ b) x
  known_front sc a b x (inl i) = inl i
  known_front sc a b x (inr i) = inr (in_front x a b i)

  known_back : (sc a b : List ℕ) (x : ℕ) → Known sc b x → Known sc (a ++ b) x
  known_back sc a b x (inl i) = inl i
  known_back sc a b x (inr i) = inr (in_back x a b i)

  -- behind declarations
  known_declared : (ds : List Decl) (sc b : List ℕ) (x : ℕ) → Known (with_declared shapes c ds sc) b x →
      Known sc (map declared ds ++ b) x
  known_declared ds sc b x (inl i) =
      ⊎_elim (λ j. inr (in_front x (map declared ds) b j)) (λ j. inl j) (declared_or_not ds sc x i)
  known_declared ds sc b x (inr i) = inr (in_back x (map declared ds) b i)

  mutual
    pub stmt_reads_known : (may : Bool) (sc : List ℕ) (s : Stmt) → SoundStmt shapes c may sc s → (x : ℕ) →
        IsUsed x (stmt_reads s) → IsIn x sc ⊎ IsIn x (declares s)
    stmt_reads_known may sc Skip f x h = nowhere h
    stmt_reads_known may sc (Block ds ss) f x h =
        known_declared ds sc (all_declare ss) x
        (⊎_elim (λ i. inl (decls_reads_in sc ds f.0 x i))
        (λ i. stmts_reads_known may (with_declared shapes c ds sc) ss f.1 x i)
        (used_either x (of_all decl_reads ds) (stmts_reads ss) h))
    stmt_reads_known may sc (Par at ss) f x h = stmts_reads_known false sc ss f x h
    stmt_reads_known may sc (If a s z) f x h =
        ⊎_elim (λ i. inl (reads_in sc a f.0 x i))
        (λ i. ⊎_elim (λ j. known_front sc (declares s) (else_declares z) x (stmt_reads_known may sc s f.1 x j))
        (λ j. known_back sc (declares s) (else_declares z) x (else_reads_known may sc z f.2 x j))
        (used_either x (stmt_reads s) (else_reads z) i))
        (used_either x (reads a) (stmt_reads s ++ else_reads z) h)
    stmt_reads_known may sc (While a s) f x h =
        ⊎_elim (λ i. inl (reads_in sc a f.0 x i)) (λ i. stmt_reads_known may sc s f.1 x i)
        (used_either x (reads a) (stmt_reads s) h)
    stmt_reads_known may sc (For at a e b s) f x h =
        ⊎_elim (λ i. inl (optional_reads_in sc a f.0 x i))
        (λ i. ⊎_elim (λ j. inl (part_reads_in sc e f.1 x j))
        (λ j. ⊎_elim (λ k. inl (optional_reads_in sc b f.2 x k)) (λ k. stmt_reads_known may sc s f.3 x k)
        (used_either x (of_some assignment_reads b) (stmt_reads s) j))
        (used_either x (part_reads e) (of_some assignment_reads b ++ stmt_reads s) i))
        (used_either x (of_some assignment_reads a) (part_reads e ++ (of_some assignment_reads b ++ stmt_reads s)) h)
    stmt_reads_known may sc (Forall at a e b s) f x h =
        ⊎_elim (λ i. inl (assignment_reads_in sc a f.0 x i))
        (λ i. ⊎_elim (λ j. inl (reads_in sc e f.1 x j))
        (λ j. ⊎_elim (λ k. inl (assignment_reads_in sc b f.2 x k)) (λ k. stmt_reads_known false sc s f.3 x k)
        (used_either x (assignment_reads b) (stmt_reads s) j))
        (used_either x (reads e) (assignment_reads b ++ stmt_reads s) i))
        (used_either x (assignment_reads a) (reads e ++ (assignment_reads b ++ stmt_reads s)) h)
    stmt_reads_known may sc (Set a) f x h = inl (assignment_reads_in sc a f x h)
    stmt_reads_known may sc (Eval i) f x h = inl (call_reads_in sc i f x h)
    stmt_reads_known may sc (WriteTo at p a) f x h =
        ⊎_elim (λ i. inl (reads_in sc p f.0 x i)) (λ i. inl (reads_in sc a f.1 x i))
        (used_either x (reads p) (reads a) h)
    stmt_reads_known may sc (AddTo at p a) f x h =
        ⊎_elim (λ i. inl (reads_in sc p f.0 x i)) (λ i. inl (reads_in sc a f.1 x i))
        (used_either x (reads p) (reads a) h)
    stmt_reads_known may sc (Print string es) f x h = inl (list_reads_in sc es f x h)
    stmt_reads_known may sc (Return e) f x h = inl (part_reads_in sc e f.1 x h)

    else_reads_known : (may : Bool) (sc : List ℕ) (z : Else) → SoundElse shapes c may sc z → (x : ℕ) →
        IsUsed x (else_reads z) → IsIn x sc ⊎ IsIn x (else_declares z)
    else_reads_known may sc NoElse f x h = nowhere h
    else_reads_known may sc (Otherwise s) f x h = stmt_reads_known may sc s f x h

    stmts_reads_known : (may : Bool) (sc : List ℕ) (ss : Stmts) → SoundStmts shapes c may sc ss → (x : ℕ) →
        IsUsed x (stmts_reads ss) → IsIn x sc ⊎ IsIn x (all_declare ss)
    stmts_reads_known may sc End f x h = nowhere h
    stmts_reads_known may sc (Then s ss) f x h =
        ⊎_elim (λ j. known_front sc (declares s) (all_declare ss) x (stmt_reads_known may sc s f.0 x j))
        (λ j. known_back sc (declares s) (all_declare ss) x (stmts_reads_known may sc ss f.1 x j))
        (used_either x (stmt_reads s) (stmts_reads ss) h)

  -- ---- what is written

  mutual
    pub stmt_writes_known : (may : Bool) (sc : List ℕ) (s : Stmt) → SoundStmt shapes c may sc s → (x : ℕ) →
        IsUsed x (stmt_writes s) → IsIn x sc ⊎ IsIn x (declares s)
    stmt_writes_known may sc Skip f x h = nowhere h
    stmt_writes_known may sc (Block ds ss) f x h =
        known_declared ds sc (all_declare ss) x (stmts_writes_known may (with_declared shapes c ds sc) ss f.1 x h)
    stmt_writes_known may sc (Par at ss) f x h = stmts_writes_known false sc ss f x h
    stmt_writes_known may sc (If a s z) f x h =
        ⊎_elim (λ j. known_front sc (declares s) (else_declares z) x (stmt_writes_known may sc s f.1 x j))
        (λ j. known_back sc (declares s) (else_declares z) x (else_writes_known may sc z f.2 x j))
        (used_either x (stmt_writes s) (else_writes z) h)
    stmt_writes_known may sc (While a s) f x h = stmt_writes_known may sc s f.1 x h
    stmt_writes_known may sc (For at a e b s) f x h =
        ⊎_elim (λ i. inl (optional_writes_in sc a f.0 x i))
        (λ i. ⊎_elim (λ k. inl (optional_writes_in sc b f.2 x k)) (λ k. stmt_writes_known may sc s f.3 x k)
        (used_either x (of_some assignment_writes b) (stmt_writes s) i))
        (used_either x (of_some assignment_writes a) (of_some assignment_writes b ++ stmt_writes s) h)
    stmt_writes_known may sc (Forall at a e b s) f x h =
        ⊎_elim (λ i. inl (assignment_writes_in sc a f.0 x i))
        (λ i. ⊎_elim (λ k. inl (assignment_writes_in sc b f.2 x k)) (λ k. stmt_writes_known false sc s f.3 x k)
        (used_either x (assignment_writes b) (stmt_writes s) i))
        (used_either x (assignment_writes a) (assignment_writes b ++ stmt_writes s) h)
    stmt_writes_known may sc (Set a) f x h = inl (assignment_writes_in sc a f x h)
    stmt_writes_known may sc (Eval i) f x h = nowhere h
    stmt_writes_known may sc (WriteTo at p a) f x h = nowhere h
    stmt_writes_known may sc (AddTo at p a) f x h = nowhere h
    stmt_writes_known may sc (Print string es) f x h = nowhere h
    stmt_writes_known may sc (Return e) f x h = nowhere h

    else_writes_known : (may : Bool) (sc : List ℕ) (z : Else) → SoundElse shapes c may sc z → (x : ℕ) →
        IsUsed x (else_writes z) → IsIn x sc ⊎ IsIn x (else_declares z)
    else_writes_known may sc NoElse f x h = nowhere h
    else_writes_known may sc (Otherwise s) f x h = stmt_writes_known may sc s f x h

    stmts_writes_known : (may : Bool) (sc : List ℕ) (ss : Stmts) → SoundStmts shapes c may sc ss → (x : ℕ) →
        IsUsed x (stmts_writes ss) → IsIn x sc ⊎ IsIn x (all_declare ss)
    stmts_writes_known may sc End f x h = nowhere h
    stmts_writes_known may sc (Then s ss) f x h =
        ⊎_elim (λ j. known_front sc (declares s) (all_declare ss) x (stmt_writes_known may sc s f.0 x j))
        (λ j. known_back sc (declares s) (all_declare ss) x (stmts_writes_known may sc ss f.1 x j))
        (used_either x (stmt_writes s) (stmts_writes ss) h)

  -- ---- what is declared is new

  mutual
    pub declares_new : (may : Bool) (sc : List ℕ) (s : Stmt) → SoundStmt shapes c may sc s → (x : ℕ) →
        IsIn x (declares s) → IsIn x sc → ⊥
    declares_new may sc Skip f x h i = nowhere h
    declares_new may sc (Block ds ss) f x h i =
        ⊎_elim (λ j. decls_new sc ds f.0 x j i)
        (λ j. all_declare_new may (with_declared shapes c ds sc) ss f.1 x j (still_in ds sc x i))
        (in_either x (map declared ds) (all_declare ss) h)
    declares_new may sc (Par at ss) f x h i = all_declare_new false sc ss f x h i
    declares_new may sc (If a s z) f x h i =
        ⊎_elim (λ j. declares_new may sc s f.1 x j i) (λ j. else_declares_new may sc z f.2 x j i)
        (in_either x (declares s) (else_declares z) h)
    declares_new may sc (While a s) f x h i = declares_new may sc s f.1 x h i
    declares_new may sc (For at a e b s) f x h i = declares_new may sc s f.3 x h i
    declares_new may sc (Forall at a e b s) f x h i = declares_new false sc s f.3 x h i
    declares_new may sc (Set a) f x h i = nowhere h
    declares_new may sc (Eval j) f x h i = nowhere h
    declares_new may sc (WriteTo at p a) f x h i = nowhere h
    declares_new may sc (AddTo at p a) f x h i = nowhere h
    declares_new may sc (Print string es) f x h i = nowhere h
    declares_new may sc (Return e) f x h i = nowhere h

    else_declares_new : (may : Bool) (sc : List ℕ) (z : Else) → SoundElse shapes c may sc z → (x : ℕ) →
        IsIn x (else_declares z) → IsIn x sc → ⊥
    else_declares_new may sc NoElse f x h i = nowhere h
    else_declares_new may sc (Otherwise s) f x h i = declares_new may sc s f x h i

    all_declare_new : (may : Bool) (sc : List ℕ) (ss : Stmts) → SoundStmts shapes c may sc ss → (x : ℕ) →
        IsIn x (all_declare ss) → IsIn x sc → ⊥
    all_declare_new may sc End f x h i = nowhere h
    all_declare_new may sc (Then s ss) f x h i =
        ⊎_elim (λ j. declares_new may sc s f.0 x j i) (λ j. all_declare_new may sc ss f.1 x j i)
        (in_either x (declares s) (all_declare ss) h)
