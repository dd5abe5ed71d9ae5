-- One induction over the tree for every relation of meanings that is closed under the words of meanings.
use Rattle.std.proofs.Common.{ℕ, Bool, true, false, if◌then◌else◌, List, [], ◌∷◌, map, Option, Some, None, pos}
use Rattle.ec_base.specs.Format.{formatted}
use Rattle.ec_base.specs.declared.token.Span.{Span}
use Rattle.ec_types.specs.Meaning.Values.{Val, Num, Null, zero_value, number, holds, truth, unary_value, binary_value}
use Rattle.ec_types.specs.Meaning.State.{Site, Here, OwnerOf, Home, Node, Anywhere, Core, Does, ◌>>=◌, pure, tick, Vars, set, set_all, unset}
use Rattle.ec_types.specs.Meaning.Memory.{Access, save, shared, add}
use Rattle.ec_types.specs.Meaning.Tree.{Expr, Number, Nil, Var, Unary, Binary, And, Or, Load, Called, New, ValueOf, Part, Missing, Given, Place, Element, Behind, Field, Item, Invocation, Invoke, Exprs, Last, Arg, Placing, OnThis, OnOwner, OnHome, OnNode, OnAny, Assignment, SetVar, Store, Copy, Decl, Plain, Shared, Stmt, Skip, Block, Par, If, While, For, Forall, Set, Eval, WriteTo, AddTo, Print, Return, Else, NoElse, Otherwise, Stmts, End, Then, Function}
use Rattle.ec_types.specs.Meaning.Branches.{is_call_branch}
use Rattle.ec_types.specs.Meaning.Evaluation.{Caller, element_of, field_of, item_of, value, given, place, invoked, values, site, assigned, optional, declared, all_declared, turns, fork, branch, does, otherwise, all, branches, body}
use Rattle.ec_types.proofs.meaning.Steps.{Step, pure_step, give_back_step, divided_step, print_step, born_step, allocate_step, load_step, save_step, copy_step}
use Rattle.ec_types.proofs.meaning.Relations.{Relation, Each, EachCall, turned, Steps, Binds, Catches, Ticks, Enters, Forks, Loops}

module _ (R : Relation) (steps : Steps R) (binds : Binds R) where
  pub stepped : {A : Type 0} {d : Does A} → ((c : Core) → Step d c) → R A d d
  stepped {A = A} {d = d} s = steps A d s

  pub pures : {A : Type 0} (a : A) → R A (pure a) (pure a)
  pures a = stepped (pure_step a)

  pub followed : {A B : Type 0} {d e : Does A} {f g : A → Does B} → R A d e → Each R A B f g → R B (d >>= f) (e >>= g)
  followed {A = A} {B = B} {d = d} {e = e} {f = f} {g = g} h k = binds A B d e f g h k

  pub either :
      {A : Type 0} {d e d' e' : Does A} (b : Bool) → R A d d' → R A e e' →
      R A (if b then d else e) (if b then d' else e')
  either true h k = h
  either false h k = k

  pub turned_both :
      (test test' : Vars → Does Val) (body body' rest rest' : Vars → Does Vars) →
      Each R Vars Val test test' → Each R Vars Vars body body' → Each R Vars Vars rest rest' →
      Each R Vars Vars (turned test body rest) (turned test' body' rest')
  turned_both test test' body body' rest rest' tests bodies rests vs =
      followed (tests vs) (λ v. either (holds v) (followed (bodies vs) rests) (pures vs))

  saved_both : (a : Access) (v : Val) (vs : Vars) → R Vars (save a v >>= (λ u. pure vs)) (save a v >>= (λ u. pure vs))
  saved_both a v vs = followed (stepped (save_step a v)) (λ u. pures vs)

  added_both : (at : Span) (to v : Val) → R (Unit {0}) (add at to v) (add at to v)
  added_both at to v = followed (stepped (load_step (shared at to))) (λ u. stepped (save_step (shared at to) _))

  module _ (small small' : Bool) (ticks : Ticks R small small')
      (call call' : Caller) (called : EachCall R call call') where
    spends : {A : Type 0} {d e : Does A} → R A d e → R A (tick small d) (tick small' e)
    spends {A = A} {d = d} {e = e} h = ticks A d e h

    -- ---- expressions

    mutual
      pub valued : (e : Expr) (vs : Vars) → R Val (value small call e vs) (value small' call' e vs)
      valued (Number at n) vs = spends (pures (Num n))
      valued (Nil at) vs = spends (pures Null)
      valued (Var at x) vs = spends (pures (vs x))
      valued (Unary at op a) vs = spends (followed (valued a vs) (λ v. pures (unary_value op v)))
      valued (Binary at op a b) vs =
          spends (followed (valued a vs) (λ v. followed (valued b vs) (λ w.
          stepped (divided_step at (binary_value op v w)))))
      valued (And at a b) vs =
          spends (followed (valued a vs) (λ v. either (holds v)
          (followed (valued b vs) (λ w. pures (truth (holds w)))) (pures (Num (pos 0)))))
      valued (Or at a b) vs =
          spends (followed (valued a vs) (λ v. either (holds v)
          (pures (Num (pos 1))) (followed (valued b vs) (λ w. pures (truth (holds w))))))
      valued (Load pointer p) vs = followed (placed p vs) (λ a. stepped (load_step a))
      valued (Called i) vs = spends (invoked_both i vs)
      valued (New at shape element count) vs =
          spends (followed (given_both (Num (pos 1)) count vs) (λ n. stepped (allocate_step at element n)))
      valued (ValueOf at a) vs = spends (followed (valued a vs) (λ v. stepped (load_step (shared at v))))

      pub given_both : (v : Val) (e : Part) (vs : Vars) → R Val (given small call v e vs) (given small' call' v e vs)
      given_both v Missing vs = pures v
      given_both v (Given e) vs = valued e vs

      pub placed : (p : Place) (vs : Vars) → R Access (place small call p vs) (place small' call' p vs)
      placed (Element at size base index) vs =
          spends (followed (valued base vs) (λ b. followed (given_both zero_value index vs) (λ i.
          pures (element_of at size b i))))
      placed (Behind at size f base) vs =
          spends (followed (valued base vs) (λ b. pures (field_of at f (element_of at size b zero_value))))
      placed (Field at f p) vs = spends (followed (placed p vs) (λ a. pures (field_of at f a)))
      placed (Item at p index) vs =
          spends (followed (placed p vs) (λ a. followed (valued index vs) (λ i. pures (item_of at a i))))

      pub invoked_both : (i : Invocation) (vs : Vars) → R Val (invoked small call i vs) (invoked small' call' i vs)
      invoked_both (Invoke at f es p) vs = followed (all_valued es vs) (λ us. followed (sited p vs) (λ s. called f us s))

      pub all_valued : (es : Exprs) (vs : Vars) → R (List Val) (values small call es vs) (values small' call' es vs)
      all_valued Last vs = pures []
      all_valued (Arg e es) vs = followed (valued e vs) (λ v. followed (all_valued es vs) (λ us. pures (v ∷ us)))

      pub sited : (p : Placing) (vs : Vars) → R Site (site small call p vs) (site small' call' p vs)
      sited OnThis vs = pures Here
      sited (OnOwner e) vs = followed (valued e vs) (λ v. pures (OwnerOf v))
      sited OnHome vs = pures Home
      sited (OnNode e) vs = followed (valued e vs) (λ v. pures (Node v))
      sited OnAny vs = pures Anywhere

    -- ---- assignments and declarations

    pub assigned_both : (a : Assignment) (vs : Vars) → R Vars (assigned small call a vs) (assigned small' call' a vs)
    assigned_both (SetVar at x e) vs = followed (valued e vs) (λ v. pures (set x v vs))
    assigned_both (Store p e) vs = followed (placed p vs) (λ a. followed (valued e vs) (λ v. saved_both a v vs))
    assigned_both (Copy p q) vs =
        followed (placed p vs) (λ a. followed (placed q vs) (λ b. followed (stepped (copy_step a b)) (λ u. pures vs)))

    pub optional_both :
        (a : Option Assignment) (vs : Vars) → R Vars (optional small call a vs) (optional small' call' a vs)
    optional_both None vs = pures vs
    optional_both (Some a) vs = assigned_both a vs

    pub declared_both : (d : Decl) (vs : Vars) → R Vars (declared small call d vs) (declared small' call' d vs)
    declared_both (Plain x v init) vs = followed (given_both v init (set x v vs)) (λ w. pures (set x w vs))
    declared_both (Shared x) vs = followed (stepped (born_step (zero_value ∷ []))) (λ p. pures (set x p vs))

    pub all_declared_both :
        (ds : List Decl) (vs : Vars) → R Vars (all_declared small call ds vs) (all_declared small' call' ds vs)
    all_declared_both [] vs = pures vs
    all_declared_both (d ∷ ds) vs = followed (declared_both d vs) (all_declared_both ds)

    -- ---- statements

    module _ (big big' : Bool) (n n' : ℕ) (catches : Catches R) (enters : Enters R big big')
        (forks : Forks R small small' call call' big big' n n')
        (loops : Loops R small small' call call' big big' n n') where
      branch_both :
          {d e : Does Vars} → R Vars d e → (vs : Vars) →
          R Vars (branch small call big n d vs) (branch small' call' big' n' e vs)
      branch_both {d = d} {e = e} h vs = enters Here Vars _ _ (catches Vars Vars (λ ws. ws) (λ v. vs) d e h)

      forked_both : {d e : Does Vars} → R Vars d e → R Vars (fork small call big n d) (fork small' call' big' n' e)
      forked_both {d = d} {e = e} h = forks d e h

      looped :
          {test test' : Vars → Does Val} {body body' : Vars → Does Vars} →
          Each R Vars Val test test' → Each R Vars Vars body body' →
          Each R Vars Vars (turns small call big n n test body) (turns small' call' big' n' n' test' body')
      looped {test = test} {test' = test'} {body = body} {body' = body'} h k vs = loops test test' body body' h k vs

      mutual
        pub done : (s : Stmt) (vs : Vars) → R Vars (does small call big n s vs) (does small' call' big' n' s vs)
        done Skip vs = spends (pures vs)
        done (Block ds ss) vs = spends (followed (all_declared_both ds vs) (all_done ss))
        done (Par at bs) vs = spends (forked_both (all_branches bs vs))
        done (If e s z) vs =
            spends (followed (valued e vs) (λ v. either (holds v) (done s vs) (otherwise_done z vs)))
        done (While e s) vs = spends (looped (valued e) (done s) vs)
        done (For at a e b s) vs =
            spends (followed (optional_both a vs)
            (looped (given_both (Num (pos 1)) e) (λ ws. followed (done s ws) (optional_both b))))
        done (Forall at a e b s) vs =
            spends (forked_both (followed (assigned_both a vs)
            (looped (valued e) (λ ws. followed (branch_both (done s ws) ws) (assigned_both b)))))
        done (Set a) vs = spends (assigned_both a vs)
        done (Eval i) vs = spends (followed (invoked_both i vs) (λ v. pures vs))
        done (WriteTo at p e) vs =
            spends (followed (valued p vs) (λ a. followed (valued e vs) (λ v. saved_both (shared at a) v vs)))
        done (AddTo at p e) vs =
            spends (followed (valued p vs) (λ a. followed (valued e vs) (λ v.
            followed (added_both at a v) (λ u. pures vs))))
        done (Print string es) vs =
            spends (followed (all_valued es vs) (λ us.
            followed (stepped (print_step (formatted string (map number us)))) (λ u. pures vs)))
        done (Return e) vs = spends (followed (given_both zero_value e vs) (λ v. stepped (give_back_step v)))

        pub otherwise_done :
            (z : Else) (vs : Vars) → R Vars (otherwise small call big n z vs) (otherwise small' call' big' n' z vs)
        otherwise_done NoElse vs = pures vs
        otherwise_done (Otherwise s) vs = done s vs

        pub all_done : (ss : Stmts) (vs : Vars) → R Vars (all small call big n ss vs) (all small' call' big' n' ss vs)
        all_done End vs = pures vs
        all_done (Then s ss) vs = followed (done s vs) (all_done ss)

        pub all_branches :
            (bs : Stmts) (vs : Vars) → R Vars (branches small call big n bs vs) (branches small' call' big' n' bs vs)
        all_branches End vs = pures vs
        all_branches (Then s ss) vs =
            followed (either (is_call_branch s) (done s vs) (branch_both (done s vs) vs)) (all_branches ss)

      -- ---- activations

      pub body_done :
          (f : Function) (us : List Val) → R Val (body small big call n f us) (body small' big' call' n' f us)
      body_done f us =
          catches Vars Val (λ vs. if f.pointer then Null else zero_value) (λ v. v) _ _
          (followed (all_declared_both f.decls (set_all f.params us unset)) (all_done f.body))
