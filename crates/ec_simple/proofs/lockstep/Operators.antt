-- Code that sets the next variable: to what both sides compute, to an operator's value, or by a test.
use Rattle.std.proofs.Common.{◌≡◌, refl, sym, ap, ◌∙◌, subst, ℕ, ◌+◌, ◌≤◌, ◌<◌, Bool, true, false, not, if◌then◌else◌, List, [], ◌∷◌, ◌++◌, length, map, arith, ℤ, pos, None, ◌&&◌, Some}
use Rattle.ec_base.specs.declared.operator.BinOp.TheVariants.{Eq, Ne}
use Rattle.ec_base.specs.declared.operator.BinOp.{BinOp}
use Rattle.ec_base.specs.declared.operator.UnOp.TheVariants.{Not}
use Rattle.ec_base.specs.declared.operator.UnOp.{UnOp}
use Rattle.ec_base.specs.declared.token.Span.{Span}
use Rattle.ec_simple.specs.declared.form.SExpr.TheVariants as e
use Rattle.ec_simple.specs.declared.form.SExpr.{SExpr}
use Rattle.ec_simple.specs.declared.form.SStmt.TheOpen.{SStmt-F}
use Rattle.ec_simple.specs.declared.form.SStmt.TheVariants as s
use Rattle.ec_simple.specs.declared.form.SStmt.{SStmt}
use Rattle.ec_simple.specs.declared.form.Shape.{Shape}
use Rattle.ec_simple.specs.Expressions.{Scope, Low, variable_at, ends, passed, constant, temporary, unary, binary, truth as truth_code, decided}
use Rattle.ec_simple.specs.Uses.{member}
use Rattle.ec_simple.specs.Meaning.{SCaller, run, does, expression, set_to}
use Rattle.ec_simple.proofs.lockstep.Alike.{and_then_same, and_then_then, set_here}
use Rattle.ec_simple.proofs.lockstep.Code.{set_does, if_does}
use Rattle.ec_simple.proofs.lockstep.Steps.{pure_steady, divided_steady}
use Rattle.ec_simple.proofs.lockstep.Together.{Together, IsSteady, together_is, together_left, together_right, together_pure, together_same, together_if, together_append, together_one, together_last, both, of_pair, of_both}
use Rattle.ec_simple.proofs.lockstep.Variables.{Keeps, keeps_less, keeps_both, keeps_set}
use Rattle.ec_types.specs.Meaning.Evaluation.{divided}
use Rattle.ec_types.specs.Meaning.Tree.{Expr, Var}
use Rattle.ec_types.specs.Meaning.State.{Core, Out, Does, With, Returns, Traps, Going, and_then, ◌>>=◌, pure, Vars, set}
use Rattle.ec_types.specs.Meaning.Values.{Val, Num, holds, truth, same_value, unary_value, binary_value}

-- the value stands in a variable, and those below t are as they were
abbrev pub Valued : ℕ → ℕ → Vars → Val → Vars → Type 0
Valued t to us v ws = (ws to ≡ v) × Keeps t us ws

-- and so for the values of two operands
abbrev pub Two : ℕ → ℕ → ℕ → Vars → Val × Val → Vars → Type 0
Two t i j us p ws = (ws i ≡ p.0) × (ws j ≡ p.1) × Keeps t us ws

pub set_valued : (t m : ℕ) (us ws : Vars) (v : Val) → t ≤ m → Keeps t us ws → Valued t m us v (set m v ws)
set_valued t m us ws v h k = (set_here m v ws, keeps_both t us ws (set m v ws) k (keeps_set t m v ws h))

-- both sides compute it, and a variable that is not below t is set to it
pub set_together : {may : Bool} {k : ℕ} (t m : ℕ) (us ws : Vars) (d d' : Does Val) → t ≤ m → Keeps t us ws → d ≡ d' →
    IsSteady d → Together may k (Valued t m us) d (d' >>= set_to m ws)
set_together {may} {k} t m us ws d d' h l e st =
    subst (λ x. Together may k (Valued t m us) d (x >>= set_to m ws)) e
    (together_right (together_same d st)
    (λ a b p. together_pure (subst (λ z. Valued t m us z (set m b ws)) (sym p) (set_valued t m us ws b h l))))

-- ---- what operators give

unary_is : (op : UnOp) (b : Bool) (x : ℕ) (ws : Vars) → expression (unary op b x) ws ≡ pure (unary_value op (ws x))
unary_is Not true x ws = refl
unary_is op b x ws = refl

-- of two values
abbrev quotient : Span → BinOp → Val → Val → Does Val
quotient at op v w = divided at (binary_value op v w)

abbrev same : Val × Val → Does Val
same p = pure (truth (same_value p.0 p.1))

abbrev negated : Val → Does Val
negated v = pure (truth (not (holds v)))

not_truth : (b : Bool) → not (holds (truth b)) ≡ not b
not_truth true = refl
not_truth false = refl

abbrev decides : Val → Does Val
decides v = pure (truth (holds v))

-- a temporary more that has the value, where one is due
abbrev given_on : Bool → Span → ℕ → Low → Low
given_on b at t l = if b then ends t l.code l.vars (temporary at (Some 0)) (λ y. s.Set y (e.Var l.to)) else l

-- ---- code

module _ (may : Bool) (k : ℕ) (shapes : List Shape) (scall : SCaller) (n : ℕ) where
  abbrev runs : List SStmt → Vars → Does Vars
  runs = run shapes true scall n

  abbrev Code_does : {A : Type 0} → (A → Vars → Type 0) → Does A → List SStmt → Vars → Type 0
  Code_does P d code us = Together may k P d (runs code us)

  -- a variable is set behind other code
  pub ends_together : {A : Type 0} {P : A → Vars → Type 0} {d : Does A} (f : A → Does Val) (t m : ℕ) (us : Vars)
      (code : List SStmt) (x : SExpr) → t ≤ m → Code_does P d code us →
      ((a : A) → IsSteady (f a)) → ((a : A) (ws : Vars) → P a ws → Keeps t us ws) →
      ((a : A) (ws : Vars) → P a ws → f a ≡ expression x ws) →
      Code_does (Valued t m us) (d >>= f) (code ++ s.Set m x ∷ []) us
  ends_together f t m us code x h c st l e =
      together_last shapes scall n code (s.Set m x) (SStmt-F.Set m x) us (set_does shapes true scall n m x) c
      (λ a ws p. set_together t m us ws (f a) (expression x ws) h (l a ws p) (e a ws p) (st a))

  -- a number, or NULL
  pub first_together : (v : Val) (t m : ℕ) (us ws : Vars) (x : SExpr) → t ≤ m → Keeps t us ws →
      pure v ≡ expression x ws → Code_does (Valued t m us) (pure v) (s.Set m x ∷ []) ws
  first_together v t m us ws x h l e =
      together_one shapes scall n (s.Set m x) (SStmt-F.Set m x) ws (set_does shapes true scall n m x)
      (set_together t m us ws (pure v) (expression x ws) h l e (pure_steady v))

  pub constant_together : (at : Span) (i : ℤ) (t : ℕ) (us : Vars) →
      Code_does (Valued t (constant at i t).to us) (pure (Num i)) (constant at i t).code us
  constant_together at i t us = first_together (Num i) t (t + 0) us us (e.Number i) (omega arith) (λ y l. refl) refl

  -- ---- arguments

  -- a part that gives its value on
  and_then_pure : {A : Type 0} (x : Out A) → x ≡ and_then x pure
  and_then_pure (With a, c, r) = refl
  and_then_pure (Returns v, c, r) = refl
  and_then_pure (Traps t, c, r) = refl
  and_then_pure (Going, c, r) = refl

  again_together : (t m : ℕ) (la : Low) (us : Vars) (d : Does Val) → t ≤ m → Code_does (Valued t la.to us) d la.code us →
      Code_does (Valued t m us) d (la.code ++ s.Set m (e.Var la.to) ∷ []) us
  again_together t m la us d h ha =
      together_is (λ c r. and_then_pure (d c r)) (λ c r. refl)
      (ends_together pure t m us la.code (e.Var la.to) h ha (λ v. pure_steady v) (λ v ws p. p.1)
      (λ v ws p. ap pure (sym p.0)))

  by_passing : (b : Bool) (at : Span) (t : ℕ) (la : Low) (us : Vars) (d : Does Val) →
      Code_does (Valued t la.to us) d la.code us →
      Code_does (Valued t (given_on b at t la).to us) d (given_on b at t la).code us
  by_passing true at t la us d ha = again_together t (t + length la.vars) la us d (omega arith) ha
  by_passing false at t la us d ha = ha

  pub passed_together : (c : Scope) (a : Expr) (t : ℕ) (la : Low) (us : Vars) (d : Does Val) →
      Code_does (Valued t la.to us) d la.code us →
      Code_does (Valued t (passed c a t la).to us) d (passed c a t la).code us
  passed_together c (Var at x) t la us d ha =
      by_passing ((variable_at c x).shared && not (member x c.params)) at t la us d ha
  passed_together c a t la us d ha = ha

  -- ---- operators

  pub unary_together : (op : UnOp) (b : Bool) (t m : ℕ) (la : Low) (us : Vars) (d : Does Val) → t ≤ m →
      Code_does (Valued t la.to us) d la.code us →
      Code_does (Valued t m us) (d >>= (λ v. pure (unary_value op v))) (la.code ++ s.Set m (unary op b la.to) ∷ []) us
  unary_together op b t m la us d h ha =
      ends_together (λ v. pure (unary_value op v)) t m us la.code (unary op b la.to) h ha
      (λ v. pure_steady (unary_value op v)) (λ v ws p. p.1)
      (λ v ws p. ap (λ w. pure (unary_value op w)) (sym p.0) ∙ sym (unary_is op b la.to ws))

  -- of two values that stand in variables
  module _ (t m i j : ℕ) (us : Vars) (d o : Does Val) (code : List SStmt) (h : t ≤ m)
      (two : Code_does (Two t i j us) (both d o) code us) where
    by_operator : (at : Span) (op : BinOp) →
        Code_does (Valued t m us) (d >>= (λ v. o >>= quotient at op v)) (code ++ s.Set m (e.Binary op i j at) ∷ []) us
    by_operator at op =
        together_is (of_both d o (quotient at op)) (λ c r. refl)
        (ends_together (of_pair (quotient at op)) t m us code (e.Binary op i j at) h two
        (λ p. divided_steady at (binary_value op p.0 p.1)) (λ p ws q. q.2)
        (λ p ws q. ap (λ x. quotient at op x p.1) (sym q.0) ∙ ap (quotient at op (ws i)) (sym q.1)))

    abbrev same_code : List SStmt
    same_code = code ++ s.Set m (e.SameBlock i j) ∷ []

    same_set : Code_does (Valued t m us) (both d o >>= same) same_code us
    same_set =
        ends_together same t m us code (e.SameBlock i j) h two
        (λ p. pure_steady (truth (same_value p.0 p.1))) (λ p ws q. q.2)
        (λ p ws q. ap (λ x. same (x, p.1)) (sym q.0) ∙ ap (λ x. same (ws i, x)) (sym q.1))

    by_same : (at : Span) → Code_does (Valued t m us) (d >>= (λ v. o >>= quotient at Eq v)) same_code us
    by_same at = together_is (of_both d o (quotient at Eq)) (λ c r. refl) same_set

    by_other : (at : Span) (z : ℕ) → t ≤ z →
        Code_does (Valued t z us) (d >>= (λ v. o >>= quotient at Ne v)) (same_code ++ s.Set z (e.Unary Not m) ∷ []) us
    by_other at z l =
        together_is (λ c r. of_both d o (quotient at Ne) c r ∙ in_turn (both d o c r)) (λ c r. refl)
        (ends_together negated t z us same_code (e.Unary Not m) l same_set
        (λ v. pure_steady (truth (not (holds v)))) (λ v ws q. q.1) (λ v ws q. ap negated (sym q.0)))
      where
        one : (p : Val × Val) (c : Core) (r : ℕ) → of_pair (quotient at Ne) p c r ≡ (same p >>= negated) c r
        one p c r = ap (λ b. pure (truth b) c r) (sym (not_truth (same_value p.0 p.1)))

        in_turn : (x : Out (Val × Val)) → and_then x (of_pair (quotient at Ne)) ≡ and_then (and_then x same) negated
        in_turn x =
            and_then_same x (of_pair (quotient at Ne)) (λ p. same p >>= negated) one ∙ and_then_then x same negated

  -- ---- two operands, one after the other; the second one's temporaries are behind u

  module _ (t u : ℕ) (la lb : Low) (us : Vars) (d o : Does Val) (h : t ≤ u) (l : la.to < u)
      (ha : Code_does (Valued t la.to us) d la.code us)
      (hb : (ws : Vars) → Keeps t us ws → Code_does (Valued u lb.to ws) o lb.code ws) where
    abbrev code : List SStmt
    code = la.code ++ lb.code

    pub two_together : Code_does (Two t la.to lb.to us) (both d o) code us
    two_together =
        together_append shapes scall n la.code lb.code us ha (λ v ws p. together_left (hb ws p.1)
        (λ w xs q. together_pure {P = Two t la.to lb.to us} {a = (v, w)} {b = xs}
        (q.1 la.to l ∙ p.0, q.0, keeps_both t us ws xs p.1 (keeps_less t u ws xs h q.1))))

    abbrev next : ℕ
    next = t + length (la.vars ++ lb.vars)

    abbrev Binary_does : Bool → Span → BinOp → Type 0
    Binary_does b at op =
        let l = binary b t at op la lb in Code_does (Valued t l.to us) (d >>= (λ v. o >>= quotient at op v)) l.code us

    pub binary_together : (b : Bool) (at : Span) (op : BinOp) → Binary_does b at op
    binary_together false at op = by_operator t next la.to lb.to us d o code (omega arith) two_together at op
    binary_together true at Eq = by_same t next la.to lb.to us d o code (omega arith) two_together at
    binary_together true at Ne =
        by_other t next la.to lb.to us d o code (omega arith) two_together at
        (t + length ((la.vars ++ lb.vars) ++ temporary at None ∷ [])) (omega arith)
    binary_together true at op = by_operator t next la.to lb.to us d o code (omega arith) two_together at op

  -- ---- tests

  -- one of two codes
  abbrev pub one_of : Bool → List SStmt → List SStmt → Vars → Does Vars
  one_of b yea nay ws = if b then runs yea ws else runs nay ws

  pub tested : {A C : Type 0} {P : A → Vars → Type 0} {Q : C → Vars → Type 0} {d : Does A} {f : A → Does C}
      (code : List SStmt) (x : ℕ) (yea nay : List SStmt) (us : Vars) → Code_does P d code us →
      ((v : A) (ws : Vars) → P v ws → Together may k Q (f v) (one_of (holds (ws x)) yea nay ws)) →
      Code_does Q (d >>= f) (code ++ s.If x yea nay ∷ []) us
  tested code x yea nay us h t =
      let all = map (does shapes true scall n) in
      together_last shapes scall n code (s.If x yea nay) (SStmt-F.If x (all yea) (all nay)) us
      (if_does shapes true scall n x yea nay) h t

  -- 1 or 0
  abbrev set_true : ℕ → List SStmt
  set_true m = truth_code m (pos 1)

  abbrev set_false : ℕ → List SStmt
  set_false m = truth_code m (pos 0)

  truth_set : (b : Bool) (t m : ℕ) (us ws : Vars) → t ≤ m → Keeps t us ws →
      Together may k (Valued t m us) (pure (truth b)) (one_of b (set_true m) (set_false m) ws)
  truth_set true t m us ws h l = first_together (truth true) t m us ws (e.Number (pos 1)) h l refl
  truth_set false t m us ws h l = first_together (truth false) t m us ws (e.Number (pos 0)) h l refl

  module _ (t u m : ℕ) (la lb : Low) (us : Vars) (d o : Does Val) (h : t ≤ u) (l : t ≤ m)
      (ha : Code_does (Valued t la.to us) d la.code us)
      (hb : (ws : Vars) → Keeps t us ws → Code_does (Valued u lb.to ws) o lb.code ws) where
    abbrev Sets : Does Val → Does Vars → Type 0
    Sets d e = Together may k (Valued t m us) d e

    second : (ws : Vars) → Keeps t us ws → Sets (o >>= decides) (runs (decided m lb) ws)
    second ws g =
        tested lb.code lb.to (set_true m) (set_false m) ws (hb ws g)
        (λ v xs p. subst (λ w. Sets (decides w) (one_of (holds (xs lb.to)) (set_true m) (set_false m) xs)) p.0
        (truth_set (holds (xs lb.to)) t m us xs l (keeps_both t us ws xs g (keeps_less t u ws xs h p.1))))

    abbrev both_hold : Val → Does Val
    both_hold v = if holds v then (o >>= decides) else pure (Num (pos 0))

    abbrev either_holds : Val → Does Val
    either_holds v = if holds v then pure (Num (pos 1)) else (o >>= decides)

    pub and_together : Sets (d >>= both_hold) (runs (la.code ++ s.If la.to (decided m lb) (set_false m) ∷ []) us)
    and_together =
        tested la.code la.to (decided m lb) (set_false m) us ha
        (λ v ws p. subst (λ w. Sets (both_hold w) (one_of (holds (ws la.to)) (decided m lb) (set_false m) ws)) p.0
        (together_if (holds (ws la.to)) (λ y. second ws p.1) (λ y. truth_set false t m us ws l p.1)))

    pub or_together : Sets (d >>= either_holds) (runs (la.code ++ s.If la.to (set_true m) (decided m lb) ∷ []) us)
    or_together =
        tested la.code la.to (set_true m) (decided m lb) us ha
        (λ v ws p. subst (λ w. Sets (either_holds w) (one_of (holds (ws la.to)) (set_true m) (decided m lb) ws)) p.0
        (together_if (holds (ws la.to)) (λ y. truth_set true t m us ws l p.1) (λ y. second ws p.1)))
