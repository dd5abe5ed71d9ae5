-- The code of statements without statements in them, and of declarations, does what they mean.
use Rattle.std.proofs.Common.{◌≡◌, refl, sym, ap, ◌∙◌, subst, ℕ, ◌+◌, ◌≤◌, ◌⊎◌, inl, inr, ⊎_elim, Bool, true, false, if◌then◌else◌, List, [], ◌∷◌, ◌++◌, append_assoc, map, length, arith, Option, Some, None}
use Rattle.ec_base.specs.declared.token.Span.{Span}
use Rattle.ec_base.specs.Format.{formatted}
use Rattle.ec_simple.specs.declared.form.SExpr.TheVariants as e
use Rattle.ec_simple.specs.declared.form.SStmt.TheOpen.{SStmt-F}
use Rattle.ec_simple.specs.declared.form.SStmt.TheVariants as s
use Rattle.ec_simple.specs.declared.form.SStmt.{SStmt}
use Rattle.ec_simple.specs.Expressions.{Scope, function_at, variable_at, plain_call, low, low_place, low_list, low_call}
use Rattle.ec_simple.specs.Meaning.{Runs, access, expression, set_to, unchanged}
use Rattle.ec_simple.specs.Sound.{IsIn, Sound, SoundPart, SoundList, SoundCall, SoundAssignment, SoundOptional, SoundDecl, SoundDecls, with_declared}
use Rattle.ec_simple.specs.Statements.{first, with_two, low_assignment, low_optional, low_declaration, low_declarations, low_evaluated, result_numbers, unused, low_stmt}
use Rattle.ec_simple.specs.Uses.{declared}
use Rattle.ec_simple.proofs.lockstep.Accesses.{element_in, copy_same, access_kept}
use Rattle.ec_simple.proofs.lockstep.Alike.{same_state, set_other}
use Rattle.ec_simple.proofs.lockstep.Below.{value_below, place_below}
use Rattle.ec_simple.proofs.lockstep.Code.{set_does, store_does, copy_does, share_does, write_does, add_does, call_does, print_does, return_does}
use Rattle.ec_simple.proofs.lockstep.Scopes.{declared_or_not}
use Rattle.ec_simple.proofs.lockstep.Stages.{Setting, Stage, did_kept, did_behind, did_set, did_new, agrees_apart, agrees_new, scope, code_runs, Leaves, numbers_of, value_on, place_on, list_on, call_on, calls_on, Follows, Calls_as, append_on, one_on, last_on, One_does, Doing}
use Rattle.ec_simple.proofs.lockstep.Steps.{save_steady, copy_steady, add_steady, print_steady, born_steady}
use Rattle.ec_simple.proofs.lockstep.Together.{Together, IsSteady, together_map, together_then, together_left, together_pure, together_same, together_is, together_step}
use Rattle.ec_simple.proofs.lockstep.Variables.{Keeps, Within, agrees_kept, keeps_both, keeps_less, keeps_set, in_head, in_tail, head_or_tail}
use Rattle.ec_types.specs.Meaning.Evaluation.{Caller, value, given, values, invoked, assigned, optional, declared as declaring, all_declared, print}
use Rattle.ec_types.specs.Meaning.Memory.{save, copy, shared, add, born}
use Rattle.ec_types.specs.Meaning.State.{Core, Does, Vars, and_then, set, set_all, pure, give_back, ◌>>=◌}
use Rattle.ec_types.specs.Meaning.Tree.{Expr, Called, Part, Missing, Given, Exprs, Placing, Invoke, Assignment, SetVar, Store, Copy, Decl, Plain, Shared, Return}
use Rattle.ec_types.specs.Meaning.Values.{Val, Null, number, zero_value}

numbers_twice : (ws : Vars) (xs : List ℕ) → map number (map ws xs) ≡ map (λ x. number (ws x)) xs
numbers_twice ws [] = refl
numbers_twice ws (x ∷ xs) = ap (λ r. number (ws x) ∷ r) (numbers_twice ws xs)

-- what a variable is at first
first_is : (v : Val) → (v ≡ Null) ⊎ (v ≡ zero_value) → (us : Vars) → expression (first v) us ≡ pure v
first_is v (inl i) us = subst (λ w. expression (first w) us ≡ pure w) (sym i) refl
first_is v (inr i) us = subst (λ w. expression (first w) us ≡ pure w) (sym i) refl

-- where the results go nothing else stands
gave_kept : (b : Bool) (t u : ℕ) (val : Val) (us ws xs : Vars) (vals : List Val) → t ≤ u →
    vals ≡ (if b then [] else val ∷ []) → Keeps t us ws → xs ≡ set_all (if b then [] else u ∷ []) vals ws →
    Keeps t us xs
gave_kept true t u val us ws xs vals h e k is = λ y l. ap (λ f. f y) is ∙ k y l
gave_kept false t u val us ws xs vals h e k is = λ y l.
    ap (λ f. f y) (is ∙ ap (λ a. set_all (u ∷ []) a ws) e) ∙ (keeps_set t u val ws h y l ∙ k y l)

-- a call whose result is left has no results, or a temporary for its one
evaluated_code : (c : Scope) (at : Span) (f : ℕ) (es : Exprs) (q : Placing) (t : ℕ) →
    let l = low_call c (Invoke at f es q) t in
    (low_evaluated c (Invoke at f es q) t).code
    ≡ l.code ++ s.Call (plain_call l (result_numbers c f (t + length l.vars))) ∷ []
evaluated_code c at f es q t = go (function_at c f).void
  where
    go : (b : Bool) → let l = low_call c (Invoke at f es q) t in
        (unused c l t b (Called (Invoke at f es q))).code
        ≡ l.code ++ s.Call (plain_call l (if b then [] else (t + length l.vars) ∷ [])) ∷ []
    go true = refl
    go false = refl

-- two values, and then a step that acts on the core alone
abbrev pub with_both : Caller → Expr → Expr → (Val → Val → Does (Unit {0})) → Vars → Does Vars
with_both call p a f vs = value false call p vs >>= (λ v. value false call a vs >>= (λ w. f v w >>= (λ u. pure vs)))

module _ {here : Setting} where
  -- code in three parts
  grouped : {A : Type 0} (z : Stage here) (P : A → Vars → Type 0) (d : Does A) (a b c : List SStmt) (us : Vars) →
      Together z.may z.k P d (code_runs z (a ++ (b ++ c)) us) → Together z.may z.k P d (code_runs z ((a ++ b) ++ c) us)
  grouped z P d a b c us h = subst (λ code. Together z.may z.k P d (code_runs z code us)) (sym (append_assoc a b c)) h

  -- a step that acts on the core alone
  pub acts : (z : Stage here) (t : ℕ) (vs us ws : Vars) (d d' : Does (Unit {0})) → d' ≡ d → IsSteady d' →
      Leaves z t us vs ws →
      Together z.may z.k (Leaves z t us) (d >>= (λ u. pure vs)) (d' >>= unchanged ws)
  acts z t vs us ws d d' e h l =
      subst (λ m. Together z.may z.k (Leaves z t us) (m >>= (λ u. pure vs)) (d' >>= unchanged ws)) e
      (together_then (together_same d' h) (λ a b i. together_pure l))

  -- ---- assignments

  pub assignment_runs : (z : Stage here) (a : Assignment) → SoundAssignment here.form.shapes (scope z) z.sc a →
      (t : ℕ) → z.v ≤ t →
      Follows z (Leaves z t) (assigned false here.call a) (low_assignment (scope z) a t).code
  assignment_runs z (SetVar at x a) f t h vs us g =
      let la = low (scope z) a t in
      last_on z la.code (s.Set (z.place x) (e.Var la.to)) (SStmt-F.Set (z.place x) (e.Var la.to)) us
      (set_does here.form.shapes true (calls_on z) z.sn (z.place x) (e.Var la.to))
      (value_on z a f.1 t h vs us g)
      (λ w ws p. together_pure (did_set z.place z.v z.sc t x w (ws la.to) vs us ws (numbers_of z) f.0 h g p.1 p.0))
  assignment_runs z (Store p a) f t h vs us g =
      let l = low_place (scope z) p t in
      let la = low (scope z) a (t + length l.vars) in
      let numbers = numbers_of z in
      let below = place_below here.form.shapes (scope z) z.sc z.v numbers p f.0 t h in
      grouped z (Leaves z t us) (assigned false here.call (Store p a) vs) l.code la.code (s.Store l.place la.to ∷ []) us
      (append_on z l.code (la.code ++ s.Store l.place la.to ∷ []) us
      (place_on z p f.0 t h vs us g)
      (λ x ws i. last_on z la.code (s.Store l.place la.to) (SStmt-F.Store l.place la.to) ws
      (store_does here.form.shapes true (calls_on z) z.sn l.place la.to)
      (value_on z a f.2 (t + length l.vars) (omega (arith, h)) vs ws
      (agrees_kept z.place z.sc z.v t vs us ws numbers h g i.2))
      (λ w xs j. acts z t vs us xs (save x w) (save (access here.form.shapes l.place xs) (xs la.to))
      (ap (λ b. save b (xs la.to)) (access_kept here.form.shapes (t + length l.vars) l.place ws xs below j.1
      ∙ sym (i.1 f.1)) ∙ ap (save x) j.0)
      (save_steady (access here.form.shapes l.place xs) (xs la.to))
      (did_kept z.place z.v z.sc t vs us xs numbers h g
      (keeps_both t us ws xs i.2 (keeps_less t (t + length l.vars) ws xs (omega arith) j.1))))))
  assignment_runs z (Copy p q) f t h vs us g =
      let l = low_place (scope z) p t in
      let m = low_place (scope z) q (t + length l.vars) in
      let numbers = numbers_of z in
      let below = place_below here.form.shapes (scope z) z.sc z.v numbers p f.0 t h in
      grouped z (Leaves z t us) (assigned false here.call (Copy p q) vs) l.code m.code (s.Copy l.place m.place ∷ []) us
      (append_on z l.code (m.code ++ s.Copy l.place m.place ∷ []) us
      (place_on z p f.0 t h vs us g)
      (λ x ws i. last_on z m.code (s.Copy l.place m.place) (SStmt-F.Copy l.place m.place) ws
      (copy_does here.form.shapes true (calls_on z) z.sn l.place m.place)
      (place_on z q f.1 (t + length l.vars) (omega (arith, h)) vs ws
      (agrees_kept z.place z.sc z.v t vs us ws numbers h g i.2))
      (λ y xs j. acts z t vs us xs (copy x y)
      (copy (access here.form.shapes l.place xs) (access here.form.shapes m.place xs))
      (copy_same (access here.form.shapes l.place xs) (access here.form.shapes m.place xs) x y
      (ap element_in (access_kept here.form.shapes (t + length l.vars) l.place ws xs below j.2) ∙ sym i.0)
      (sym j.0))
      (copy_steady (access here.form.shapes l.place xs) (access here.form.shapes m.place xs))
      (did_kept z.place z.v z.sc t vs us xs numbers h g
      (keeps_both t us ws xs i.2 (keeps_less t (t + length l.vars) ws xs (omega arith) j.2))))))

  pub optional_runs : (z : Stage here) (a : Option Assignment) → SoundOptional here.form.shapes (scope z) z.sc a →
      (t : ℕ) → z.v ≤ t →
      Follows z (Leaves z t) (optional false here.call a) (low_optional (scope z) a t).code
  optional_runs z None f t h vs us g =
      together_pure (did_kept z.place z.v z.sc t vs us us (numbers_of z) h g (λ y i. refl))
  optional_runs z (Some a) f t h vs us g = assignment_runs z a f t h vs us g

  -- ---- writes and adds to shared variables

  two_run : (z : Stage here) (p a : Expr) → Sound here.form.shapes (scope z) z.sc p →
      Sound here.form.shapes (scope z) z.sc a → (t : ℕ) → z.v ≤ t →
      (f : Val → Val → Does (Unit {0})) → ((v w : Val) → IsSteady (f v w)) →
      (x : ℕ → ℕ → SStmt) (y : ℕ → ℕ → SStmt-F Runs Runs Runs) →
      ((i j : ℕ) → One_does z (x i j) ≡ Doing z (y i j)) →
      ((i j : ℕ) (ws : Vars) → Doing z (y i j) ws ≡ (f (ws i) (ws j) >>= unchanged ws)) →
      let lp = low (scope z) p t in
      let la = low (scope z) a (t + length lp.vars) in
      Follows z (Leaves z t) (with_both here.call p a f) (with_two lp la x).code
  two_run z p a sp sa t h f steady x y is acting vs us g =
      let lp = low (scope z) p t in
      let la = low (scope z) a (t + length lp.vars) in
      let numbers = numbers_of z in
      let below = value_below here.form.shapes (scope z) z.sc z.v numbers p sp t h in
      grouped z (Leaves z t us) (with_both here.call p a f vs) lp.code la.code (x lp.to la.to ∷ []) us
      (append_on z lp.code (la.code ++ x lp.to la.to ∷ []) us
      (value_on z p sp t h vs us g)
      (λ v ws i. last_on z la.code (x lp.to la.to) (y lp.to la.to) ws (is lp.to la.to)
      (value_on z a sa (t + length lp.vars) (omega (arith, h)) vs ws
      (agrees_kept z.place z.sc z.v t vs us ws numbers h g i.1))
      (λ w xs j. subst (Together z.may z.k (Leaves z t us) (f v w >>= (λ u. pure vs))) (sym (acting lp.to la.to xs))
      (acts z t vs us xs (f v w) (f (xs lp.to) (xs la.to))
      (ap (λ b. f b (xs la.to)) (j.1 lp.to below ∙ i.0) ∙ ap (f v) j.0)
      (steady (xs lp.to) (xs la.to))
      (did_kept z.place z.v z.sc t vs us xs numbers h g
      (keeps_both t us ws xs i.1 (keeps_less t (t + length lp.vars) ws xs (omega arith) j.1)))))))

  pub write_runs : (z : Stage here) (at : Span) (p a : Expr) → Sound here.form.shapes (scope z) z.sc p →
      Sound here.form.shapes (scope z) z.sc a → (t : ℕ) → z.v ≤ t →
      let lp = low (scope z) p t in
      Follows z (Leaves z t) (with_both here.call p a (λ v w. save (shared at v) w))
      (with_two lp (low (scope z) a (t + length lp.vars)) (λ x y. s.Write x y at)).code
  write_runs z at p a sp sa t h =
      two_run z p a sp sa t h (λ v w. save (shared at v) w) (λ v w. save_steady (shared at v) w)
      (λ x y. s.Write x y at) (λ x y. SStmt-F.Write x y at)
      (λ i j. write_does here.form.shapes true (calls_on z) z.sn i j at) (λ i j ws. refl)

  pub add_runs : (z : Stage here) (at : Span) (p a : Expr) → Sound here.form.shapes (scope z) z.sc p →
      Sound here.form.shapes (scope z) z.sc a → (t : ℕ) → z.v ≤ t →
      let lp = low (scope z) p t in
      Follows z (Leaves z t) (with_both here.call p a (λ v w. add at v w))
      (with_two lp (low (scope z) a (t + length lp.vars)) (λ x y. s.Add x y at)).code
  add_runs z at p a sp sa t h =
      two_run z p a sp sa t h (λ v w. add at v w) (λ v w. add_steady at v w) (λ x y. s.Add x y at)
      (λ x y. SStmt-F.Add x y at)
      (λ i j. add_does here.form.shapes true (calls_on z) z.sn i j at) (λ i j ws. refl)

  -- ---- prints and returns

  pub print_runs : (z : Stage here) (string : List ℕ) (es : Exprs) → SoundList here.form.shapes (scope z) z.sc es →
      (t : ℕ) → z.v ≤ t →
      let l = low_list (scope z) es t in
      Follows z (Leaves z t)
      (λ vs. values false here.call es vs >>= (λ ws. print (formatted string (map number ws)) >>= (λ u. pure vs)))
      (l.code ++ s.Print string l.to ∷ [])
  print_runs z string es f t h vs us g =
      let l = low_list (scope z) es t in
      last_on z l.code (s.Print string l.to) (SStmt-F.Print string l.to) us
      (print_does here.form.shapes true (calls_on z) z.sn string l.to)
      (list_on z es f t h vs us g)
      (λ vals ws p. acts z t vs us ws (print (formatted string (map number vals)))
      (print (formatted string (map (λ x. number (ws x)) l.to)))
      (ap (λ ns. print (formatted string ns)) (sym (numbers_twice ws l.to) ∙ ap (map number) p.0))
      (print_steady (formatted string (map (λ x. number (ws x)) l.to)))
      (did_kept z.place z.v z.sc t vs us ws (numbers_of z) h g p.1))

  given_back : (z : Stage here) (t : ℕ) (us : Vars) (v : Val) → z.may ≡ true →
      Together z.may z.k (Leaves z t us) (give_back v) (give_back v)
  given_back z t us v h = record { is = λ c r l. (same_state r c r (omega arith), refl, h) }

  pub return_runs : (z : Stage here) (p : Part) → z.may ≡ true → SoundPart here.form.shapes (scope z) z.sc p →
      (t g : ℕ) → z.v ≤ t →
      Follows z (Leaves z t) (λ vs. given false here.call zero_value p vs >>= give_back)
      (low_stmt (scope z) (Return p) t g).code
  return_runs z Missing m f t g h vs us a =
      one_on z (s.Return None) (SStmt-F.Return None) us
      (return_does here.form.shapes true (calls_on z) z.sn None) (given_back z t us zero_value m)
  return_runs z (Given x) m f t g h vs us a =
      let la = low (scope z) x t in
      last_on z la.code (s.Return (Some la.to)) (SStmt-F.Return (Some la.to)) us
      (return_does here.form.shapes true (calls_on z) z.sn (Some la.to))
      (value_on z x f t h vs us a)
      (λ w ws p. subst (λ v. Together z.may z.k (Leaves z t us) (give_back v) (give_back (ws la.to))) p.0
      (given_back z t us (ws la.to) m))

  -- ---- calls whose results are left

  pub left_runs : (z : Stage here) (at : Span) (f : ℕ) (es : Exprs) (q : Placing) →
      SoundCall here.form.shapes (scope z) z.sc (Invoke at f es q) →
      (t : ℕ) → z.v ≤ t →
      let l = low_call (scope z) (Invoke at f es q) t in
      Calls_as z (Leaves z t) (λ vs. invoked false here.call (Invoke at f es q) vs >>= (λ v. pure vs)) l
      (result_numbers (scope z) f (t + length l.vars))
  left_runs z at f es q sound t h vs us g =
      let l = low_call (scope z) (Invoke at f es q) t in
      let u = t + length l.vars in
      together_left (call_on z at f es q sound t h (result_numbers (scope z) f u) vs us g)
      (λ val xs p. together_pure
      (did_kept z.place z.v z.sc t vs us xs (numbers_of z) h g
      (gave_kept (function_at (scope z) f).void t u val us p.before xs p.results
      (omega arith) p.gives p.kept p.set)))

  pub evaluated_runs : (z : Stage here) (at : Span) (f : ℕ) (es : Exprs) (q : Placing) →
      SoundCall here.form.shapes (scope z) z.sc (Invoke at f es q) →
      (t : ℕ) → z.v ≤ t →
      Follows z (Leaves z t) (λ vs. invoked false here.call (Invoke at f es q) vs >>= (λ v. pure vs))
      (low_evaluated (scope z) (Invoke at f es q) t).code
  evaluated_runs z at f es q sound t h vs us g =
      let l = low_call (scope z) (Invoke at f es q) t in
      let c = plain_call l (result_numbers (scope z) f (t + length l.vars)) in
      subst (λ code. Together z.may z.k (Leaves z t us)
      (invoked false here.call (Invoke at f es q) vs >>= (λ v. pure vs)) (code_runs z code us))
      (sym (evaluated_code (scope z) at f es q t))
      (together_step here.form.shapes (calls_on z) z.sn l.code (s.Call c) (SStmt-F.Call c) us
      (call_does here.form.shapes true (calls_on z) z.sn c)
      (left_runs z at f es q sound t h vs us g))

  -- ---- declarations

  abbrev more : (z : Stage here) (x : ℕ) → IsIn x z.ns → Stage here
  more z x i = record z {
    sc = x ∷ z.sc;
    inside = λ y j. ⊎_elim (λ e. subst (λ w. IsIn w z.ns) e i) (λ k. z.inside y k)
        (head_or_tail y x z.sc j);
  }

  -- what is behind the first value
  first_runs : (z : Stage here) (x : ℕ) (v : Val) → (v ≡ Null) ⊎ (v ≡ zero_value) →
      (rest : List SStmt) (us : Vars) (c : Core) (r : ℕ) →
      code_runs z (s.Set x (first v) ∷ rest) us c r ≡ code_runs z rest (set x v us) c r
  first_runs z x v h rest us c r =
      ap (λ f. and_then (f us c r) (code_runs z rest)) (set_does here.form.shapes true (calls_on z) z.sn x (first v))
      ∙ ap (λ d. and_then (and_then (d c r) (set_to x us)) (code_runs z rest)) (first_is v h us)

  pub declaration_runs : (z : Stage here) (d : Decl) (i : IsIn (declared d) z.ns) →
      SoundDecl here.form.shapes (scope z) z.sc d → (t : ℕ) → z.v ≤ t →
      Follows z (Leaves (more z (declared d) i) t) (declaring false here.call d) (low_declaration (scope z) d t).code
  declaration_runs z (Plain x v Missing) i f t h vs us g =
      let z' = more z x i in
      let numbers = numbers_of z' in
      together_is (λ c r. refl) (first_runs z (z.place x) v f.1 [] us)
      (together_pure (did_new z.place z.v x z.sc numbers t v v vs us us h g (λ y a b. refl) refl))
  declaration_runs z (Plain x v (Given a)) i f t h vs us g =
      let z' = more z x i in
      let numbers = numbers_of z' in
      let la = low (scope z) a t in
      let us' = set (z.place x) v us in
      together_is (λ c r. refl) (first_runs z (z.place x) v f.1 (la.code ++ s.Set (z.place x) (e.Var la.to) ∷ []) us)
      (last_on z la.code (s.Set (z.place x) (e.Var la.to)) (SStmt-F.Set (z.place x) (e.Var la.to)) us'
      (set_does here.form.shapes true (calls_on z) z.sn (z.place x) (e.Var la.to))
      (value_on z' a f.2 t h (set x v vs) us' (agrees_new z.place z.v x z.sc numbers v vs us g))
      (λ w ws p. together_pure (did_new z.place z.v x z.sc numbers t w (ws la.to) vs us ws h
      (agrees_kept z.place z.sc z.v t vs us' ws (numbers_of z) h
      (agrees_apart z.place z.v x z.sc numbers v vs us f.0 g) p.1)
      (λ y l b. p.1 y b ∙ set_other (z.place x) y v us
      (λ d. let c = numbers.below x (in_head x x z.sc refl) in omega (arith, c, l, d)))
      p.0)))
  declaration_runs z (Shared x) i f t h vs us g =
      let z' = more z x i in
      let numbers = numbers_of z' in
      let at = (variable_at (scope z) x).at in
      one_on z (s.Share (z.place x) at) (SStmt-F.Share (z.place x) at) us
      (share_does here.form.shapes true (calls_on z) z.sn (z.place x) at)
      (together_then (together_same (born (zero_value ∷ [])) (born_steady (zero_value ∷ [])))
      (λ a b p. together_pure (did_new z.place z.v x z.sc numbers t a b vs us us h g (λ y l m. refl) (sym p))))

  -- the stage behind declarations
  abbrev pub after : (z : Stage here) (ds : List Decl) → Within (map declared ds) z.ns → Stage here
  after z ds w = record z {
    sc = with_declared here.form.shapes (scope z) ds z.sc;
    inside = λ y i. ⊎_elim (λ j. w y j) (λ j. z.inside y j) (declared_or_not here.form.shapes (scope z) ds z.sc y i);
  }

  pub declarations_run : (z : Stage here) (ds : List Decl) (w : Within (map declared ds) z.ns) →
      SoundDecls here.form.shapes (scope z) z.sc ds → (t : ℕ) → z.v ≤ t →
      Follows z (Leaves (after z ds w) t) (all_declared false here.call ds) (low_declarations (scope z) ds t).code
  declarations_run z [] w f t h vs us g =
      together_pure (did_kept z.place z.v z.sc t vs us us (numbers_of z) h g (λ y i. refl))
  declarations_run z (d ∷ ds) w f t h vs us g =
      let i = w (declared d) (in_head (declared d) (declared d) (map declared ds) refl) in
      let w' : Within (map declared ds) z.ns = λ y j. w y (in_tail y (declared d) (map declared ds) j) in
      let z' = more z (declared d) i in
      let ld = low_declaration (scope z) d t in
      let u = t + length ld.vars in
      append_on z ld.code (low_declarations (scope z) ds u).code us
      (declaration_runs z d i f.0 t h vs us g)
      (λ ws xs did. together_map
      (λ ys zs e. did_behind z.place z.v (with_declared here.form.shapes (scope z) ds (declared d ∷ z.sc))
      (declared d ∷ z.sc) t u us ws xs ys zs (omega arith) did e)
      (declarations_run z' ds w' f.1 u (omega (arith, h)) ws xs did.agrees))

-- they have no functions
declaration_none : (c : Scope) (d : Decl) (t : ℕ) → (low_declaration c d t).funcs ≡ []
declaration_none c (Plain x v Missing) t = refl
declaration_none c (Plain x v (Given a)) t = refl
declaration_none c (Shared x) t = refl

pub declarations_none : (c : Scope) (ds : List Decl) (t : ℕ) → (low_declarations c ds t).funcs ≡ []
declarations_none c [] t = refl
declarations_none c (d ∷ ds) t =
    let ld = low_declaration c d t in
    let rest = low_declarations c ds (t + length ld.vars) in
    ap (λ l. l ++ rest.funcs) (declaration_none c d t) ∙ declarations_none c ds (t + length ld.vars)
