-- Arguments and calls that are formed, and that calls fit the functions that they call.
use Rattle.std.proofs.Common.{◌≡◌, refl, sym, ap, ◌∙◌, ℕ, ◌+◌, ◌<◌, Bool, true, false, not, ◌&&◌, if◌then◌else◌, List, [], ◌∷◌, length, map, slice_get, Some, is_some}
use Rattle.std.proofs.lemmas.Bool.{and_parts}
use Rattle.std.specs.List.{list_all}
use Rattle.ec_base.specs.declared.token.Span.{Span}
use Rattle.ec_simple.specs.declared.form.FuncKind.{FuncKind}
use Rattle.ec_simple.specs.declared.form.FuncKind.TheVariants.{Written}
use Rattle.ec_simple.specs.declared.form.SCall.{SCall}
use Rattle.ec_simple.specs.declared.form.SExpr.TheVariants as e
use Rattle.ec_simple.specs.declared.form.SFunc.{SFunc}
use Rattle.ec_simple.specs.declared.form.SPlace.{SPlace}
use Rattle.ec_simple.specs.declared.form.SStmt.TheVariants as stmt
use Rattle.ec_simple.specs.declared.form.Form.{Form}
use Rattle.ec_simple.specs.declared.form.VarUse.{VarUse}
use Rattle.ec_simple.specs.Expressions.{Scope, Low, Lows, LowCall, variable_at, function_at, points, temporary, ends, passed, arg, low, low_placing, unplaced, placed}
use Rattle.ec_simple.specs.Formed.{Kind, is_int, all_alike, kind_among, kind_of, is_place, all_exist, fits, is_call, all_formed}
use Rattle.ec_simple.specs.Kinds.{AreInts, arguments_point, parameters_point, given}
use Rattle.ec_simple.specs.Uses.{member}
use Rattle.ec_simple.proofs.formed.Code.{both_true, set_formed, formed_both, formed_last}
use Rattle.ec_simple.proofs.formed.Kinds.{alike_are, all_alike_are, given_alike, kind_there, value_kind}
use Rattle.ec_simple.proofs.formed.Standing.{At, at_left, at_last, Callable, Stands, FormedLow, given_kinds}
use Rattle.ec_types.specs.Meaning.Layout.{or_zero}
use Rattle.ec_types.specs.Meaning.Tree.{Expr, Var, Invocation, Invoke, Exprs, Last, Arg, Placing, OnThis, OnOwner, OnHome, OnNode, OnAny}

-- the function that is called
abbrev pub called : Invocation → ℕ
called (Invoke at f es q) = f

module _ (s : Form) (f : SFunc) (c : Scope) where
  -- ---- arguments

  -- the code of arguments, and what they are
  abbrev pub FormedList : Exprs → Lows → Type 0
  FormedList es l = (all_formed s f l.code ≡ true) × (map (kind_of s f) l.to ≡ map Some (arguments_point c es))

  abbrev ints : List Kind → Bool
  ints ks = list_all is_int ks

  ints_of : (k : ℕ → Kind) (xs : List ℕ) → ints (map k xs) ≡ list_all (λ x. is_int (k x)) xs
  ints_of k [] = refl
  ints_of k (x ∷ xs) = ap (λ b. is_int (k x) && b) (ints_of k xs)

  are_ints : (es : Exprs) → AreInts c es → ints (map Some (arguments_point c es)) ≡ true
  are_ints Last i = refl
  are_ints (Arg a es) i =
      both_true (is_int (Some (points c a))) (ints (map Some (arguments_point c es)))
      (ap (λ b. is_int (Some b)) i.0) (are_ints es i.1)

  pub ints_print : (es : Exprs) (xs : List ℕ) → AreInts c es →
      map (kind_of s f) xs ≡ map Some (arguments_point c es) → list_all (λ x. is_int (kind_of s f x)) xs ≡ true
  ints_print es xs i h = sym (ints_of (kind_of s f) xs) ∙ (ap ints h ∙ are_ints es i)

  -- ---- a shared variable has a temporary as an argument

  module _ (at : Span) (x t : ℕ) (l : Low) where
    abbrev copied : Bool → Low
    copied b = if b then ends t l.code l.vars (temporary at (Some 0)) (λ y. stmt.Set y (e.Var l.to)) else l

    copied_left : (b : Bool) → At f.vars t (copied b).vars → At f.vars t l.vars
    copied_left true h = at_left f.vars t l.vars (temporary at (Some 0) ∷ []) h
    copied_left false h = h

    copied_formed : (b : Bool) → (b ≡ true → (variable_at c x).pointer ≡ Some 0) → FormedLow s f c (Var at x) l →
        At f.vars t (copied b).vars → FormedLow s f c (Var at x) (copied b)
    copied_formed false points h i = h
    copied_formed true points h i =
        let m = t + length l.vars in
        let there = at_last f.vars t l.vars (temporary at (Some 0)) i in
        let is = points refl in
        let kind = value_kind s f c (Var at x) l.to h.1 ∙ ap Some (ap is_some is) in (
          formed_last s f l.code (stmt.Set m (e.Var l.to)) h.0
              (set_formed s f m (e.Var l.to)
              ∙ alike_are (kind_of s f m) (kind_of s f l.to) true (kind_there f.vars m (temporary at (Some 0)) there) kind),
          record { variable = temporary at (Some 0); there = there; points = sym (ap is_some is); shape = sym (ap or_zero is) },
        )

  abbrev is_copied : ℕ → Bool
  is_copied x = (variable_at c x).shared && not (member x c.params)

  pub passed_left : (a : Expr) (t : ℕ) (l : Low) → At f.vars t (passed c a t l).vars → At f.vars t l.vars
  passed_left (Var at x) t l h = copied_left at x t l (is_copied x) h
  passed_left a t l h = h

  pub passed_formed : Stands s c → (a : Expr) (t : ℕ) (l : Low) → FormedLow s f c a l →
      At f.vars t (passed c a t l).vars → FormedLow s f c a (passed c a t l)
  passed_formed stands (Var at x) t l h i =
      copied_formed at x t l (is_copied x)
      (λ e. stands.shared x (and_parts (variable_at c x).shared (not (member x c.params)) e).0) h i
  passed_formed stands a t l h i = h

  pub argument_formed : (a : Expr) (es : Exprs) (la : Low) (l : Lows) → FormedLow s f c a la → FormedList es l →
      FormedList (Arg a es) (arg la l)
  argument_formed a es la l h i =
      let kind = value_kind s f c a la.to h.1 in
      (formed_both s f la.code l.code h.0 i.0, ap (λ k. k ∷ map (kind_of s f) l.to) kind ∙ ap (λ ks. Some (points c a) ∷ ks) i.1)

  -- ---- calls

  -- the code of a call of the g-th function, its arguments, and where it is placed
  pub record FormedCall (g : ℕ) (l : LowCall) : Type 0 where
    pub code : all_formed s f l.code ≡ true
    pub func : l.func ≡ g
    pub args : map (kind_of s f) l.args ≡ map Some (parameters_point (function_at c g))
    pub place : is_place s f l.place ≡ true

  pub unplaced_formed : (at : Span) (g : ℕ) (es : Exprs) (l : Lows) (q : SPlace) → FormedList es l →
      arguments_point c es ≡ parameters_point (function_at c g) → is_place s f q ≡ true →
      FormedCall g (unplaced at g l q)
  unplaced_formed at g es l q h e i =
      record { code = h.0; func = refl; args = h.1 ∙ ap (map Some) e; place = i }

  pub placed_formed : (at : Span) (g : ℕ) (es : Exprs) (l : Lows) (q : ℕ → SPlace) (la : Low) → FormedList es l →
      arguments_point c es ≡ parameters_point (function_at c g) → all_formed s f la.code ≡ true →
      is_place s f (q la.to) ≡ true → FormedCall g (placed at g l q la)
  placed_formed at g es l q la h e k i = record {
    code = formed_both s f l.code la.code h.0 k;
    func = refl;
    args = h.1 ∙ ap (map Some) e;
    place = i;
  }

  -- the arguments stand in front
  pub placing_left : (at : Span) (g t u : ℕ) (l : Lows) (q : Placing) → At f.vars t (low_placing c at g l q u).vars →
      At f.vars t l.vars
  placing_left at g t u l OnThis h = h
  placing_left at g t u l (OnOwner a) h = at_left f.vars t l.vars (low c a u).vars h
  placing_left at g t u l OnHome h = h
  placing_left at g t u l (OnNode a) h = at_left f.vars t l.vars (low c a u).vars h
  placing_left at g t u l OnAny h = h

  -- ---- a written function may be called

  module _ (stands : Stands s c) (g : ℕ) (l : LowCall) (h : FormedCall g l) (i : g < length c.functions)
      (test : FuncKind → Bool)
      (w : test Written ≡ true) where
    abbrev callable : Callable s g (function_at c g)
    callable = stands.functions g i

    abbrev call_to : List ℕ → List VarUse → List VarUse → SCall
    call_to to reads writes =
        record { func = l.func; args = l.args; to = to; place = l.place; at = l.at; reads = reads; writes = writes }

    pub call_fits : (to : List ℕ) → map (kind_of s f) to ≡ given_kinds (given (function_at c g)) →
        (reads writes : List VarUse) → all_exist s f reads ≡ true → all_exist s f writes ≡ true →
        is_call s f test (call_to to reads writes) ≡ true
    call_fits to e reads writes r v =
        rw (ap (slice_get s.funcs) h.func ∙ callable.there)
        (both_true (fit && is_place s f l.place && all_exist s f reads) (all_exist s f writes)
        (both_true (fit && is_place s f l.place) (all_exist s f reads)
        (both_true fit (is_place s f l.place) fitting h.place) r) v)
      where
        k : SFunc
        k = callable.function

        fit : Bool
        fit = test k.kind && fits s f (call_to to reads writes) k

        arguments : Bool
        arguments = all_alike (map (kind_among k.vars) k.params) (map (kind_of s f) l.args)

        results : Bool
        results = all_alike (map (kind_among k.vars) k.results) (map (kind_of s f) to)

        fitting : fit ≡ true
        fitting =
            both_true (test k.kind) (arguments && results) (ap test callable.written ∙ w)
            (both_true arguments results
            (all_alike_are (map (kind_among k.vars) k.params) (map (kind_of s f) l.args)
            (parameters_point (function_at c g)) callable.params h.args)
            (given_alike (map (kind_among k.vars) k.results) (map (kind_of s f) to) (given (function_at c g))
            callable.results e))
