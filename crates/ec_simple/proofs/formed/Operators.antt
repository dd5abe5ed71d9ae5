-- Code that sets the next variable is formed: to a constant, to an operator's value, or by a test.
use Rattle.std.proofs.Common.{◌≡◌, refl, sym, ap, ◌∙◌, subst, ℕ, ◌+◌, inl, inr, Bool, true, false, ◌&&◌, ◌||◌, List, [], ◌∷◌, ◌++◌, length, slice_get, Some, None, is_some, ℤ, pos, true≢false}
use Rattle.ec_base.specs.declared.operator.BinOp.TheVariants.{Eq, Ne}
use Rattle.ec_base.specs.declared.operator.BinOp.{BinOp}
use Rattle.ec_base.specs.declared.operator.UnOp.TheVariants.{Not}
use Rattle.ec_base.specs.declared.operator.UnOp.{UnOp}
use Rattle.ec_base.specs.declared.token.Span.{Span}
use Rattle.ec_simple.specs.declared.form.SExpr.TheVariants as e
use Rattle.ec_simple.specs.declared.form.SFunc.{SFunc}
use Rattle.ec_simple.specs.declared.form.SStmt.TheVariants as stmt
use Rattle.ec_simple.specs.declared.form.SStmt.{SStmt}
use Rattle.ec_simple.specs.declared.form.SVar.{SVar}
use Rattle.ec_simple.specs.declared.form.Form.{Form}
use Rattle.ec_simple.specs.Expressions.{Code, Scope, Low, pointer, points, temporary, ends, constant, unary, binary, truth, decided, both, either}
use Rattle.ec_simple.specs.Formed.{is_int, is_pointer, kind_of, is_formed, all_formed}
use Rattle.ec_simple.specs.Kinds.{IsInt, IsPointer, ForUnary, ForBinary, is_equality}
use Rattle.ec_simple.proofs.formed.Accesses.{FormedInt}
use Rattle.ec_simple.proofs.formed.Code.{both_true, set_formed, if_holds, formed_both, formed_one, formed_last}
use Rattle.ec_simple.proofs.formed.Kinds.{kind_there, value_kind, value_exists, value_int, value_pointer}
use Rattle.ec_simple.proofs.formed.Standing.{At, at_left, at_last, FormedLow}
use Rattle.ec_types.specs.Meaning.Layout.{or_zero}
use Rattle.ec_types.specs.Meaning.Tree.{Expr, Unary, Binary, And, Or}

module _ (s : Form) (f : SFunc) where
  -- ---- one variable more

  module _ (t : ℕ) (code : Code) (vars : List SVar) (h : all_formed s f code ≡ true) where
    pub ends_formed : (c : Scope) (a : Expr) (v : SVar) (x : ℕ → SStmt) → At f.vars t (vars ++ v ∷ []) →
        ((m : ℕ) → slice_get f.vars m ≡ Some v → is_formed s f (x m) ≡ true) →
        v.pointer ≡ points c a → v.shape ≡ or_zero (pointer c a) → FormedLow s f c a (ends t code vars v x)
    ends_formed c a v x i g p q =
        let there = at_last f.vars t vars v i in
        let m = t + length vars in
        (formed_last s f code (x m) h (g m there), record { variable = v; there = there; points = p; shape = q })

    -- an int
    pub int_formed : (c : Scope) (a : Expr) (at : Span) (x : ℕ → SStmt) → At f.vars t (vars ++ temporary at None ∷ []) →
        ((m : ℕ) → kind_of s f m ≡ Some false → is_formed s f (x m) ≡ true) →
        pointer c a ≡ None → FormedLow s f c a (ends t code vars (temporary at None) x)
    int_formed c a at x i g e =
        ends_formed c a (temporary at None) x i (λ m there. g m (kind_there f.vars m (temporary at None) there))
        (sym (ap is_some e)) (sym (ap or_zero e))

  number_formed : (n : ℤ) (m : ℕ) → kind_of s f m ≡ Some false → is_formed s f (stmt.Set m (e.Number n)) ≡ true
  number_formed n m k = set_formed s f m (e.Number n) ∙ ap is_int k

  pub constant_formed : (c : Scope) (a : Expr) (at : Span) (n : ℤ) (t : ℕ) → At f.vars t (constant at n t).vars →
      pointer c a ≡ None → FormedLow s f c a (constant at n t)
  constant_formed c a at n t h none =
      int_formed t [] [] refl c a at (λ x. stmt.Set x (e.Number n)) h (λ m k. number_formed n m k) none

  pub constant_int : (at : Span) (n : ℤ) (t : ℕ) → At f.vars t (constant at n t).vars → FormedInt s f (constant at n t)
  constant_int at n t h =
      let there = at_last f.vars t [] (temporary at None) h in
      let m = t + length {A = SVar} [] in
      let k = kind_there f.vars m (temporary at None) there in
      (formed_one s f (stmt.Set m (e.Number n)) (number_formed n m k), ap is_int k)

  module _ (c : Scope) where
    -- ---- unary operators

    unary_set : (op : UnOp) (a : Expr) → ForUnary c op a → (b : Bool) → points c a ≡ b → (y : ℕ) →
        kind_of s f y ≡ Some b → (m : ℕ) → kind_of s f m ≡ Some false →
        is_formed s f (stmt.Set m (unary op b y)) ≡ true
    unary_set Not a k true i y q m p =
        set_formed s f m (e.IsNull y)
        ∙ both_true (is_int (kind_of s f m)) (is_pointer (kind_of s f y)) (ap is_int p) (ap is_pointer q)
    unary_set Not a k false i y q m p =
        set_formed s f m (e.Unary Not y)
        ∙ both_true (is_int (kind_of s f m)) (is_int (kind_of s f y)) (ap is_int p) (ap is_int q)
    unary_set op a k b i y q m p =
        set_formed s f m (e.Unary op y)
        ∙ both_true (is_int (kind_of s f m)) (is_int (kind_of s f y)) (ap is_int p)
        (ap is_int (q ∙ ap Some (sym i ∙ k)))

    pub unary_formed : (at : Span) (op : UnOp) (a : Expr) (la : Low) (t : ℕ) → FormedLow s f c a la → ForUnary c op a →
        At f.vars t (la.vars ++ temporary at None ∷ []) →
        FormedLow s f c (Unary at op a) (ends t la.code la.vars (temporary at None) (λ x. stmt.Set x (unary op (points c a) la.to)))
    unary_formed at op a la t h k i =
        int_formed t la.code la.vars h.0 c (Unary at op a) at (λ x. stmt.Set x (unary op (points c a) la.to)) i
        (λ m p. unary_set op a k (points c a) refl la.to (value_kind s f c a la.to h.1) m p) refl

    -- ---- binary operators

    module _ (t : ℕ) (at : Span) (a b : Expr) (la lb : Low) (fa : FormedLow s f c a la) (fb : FormedLow s f c b lb) where
      abbrev code : Code
      code = la.code ++ lb.code

      abbrev vars : List SVar
      vars = la.vars ++ lb.vars

      abbrev more : List SVar
      more = temporary at None ∷ []

      codes_formed : all_formed s f code ≡ true
      codes_formed = formed_both s f la.code lb.code fa.0 fb.0

      -- ints
      ints_set : (op : BinOp) → IsInt c a → IsInt c b → (m : ℕ) → kind_of s f m ≡ Some false →
          is_formed s f (stmt.Set m (e.Binary op la.to lb.to at)) ≡ true
      ints_set op i j m p =
          let k = is_int (kind_of s f m) in
          let x = is_int (kind_of s f la.to) in
          let y = is_int (kind_of s f lb.to) in
          set_formed s f m (e.Binary op la.to lb.to at)
          ∙ both_true (k && x) y (both_true k x (ap is_int p) (value_int s f c a la.to fa.1 i)) (value_int s f c b lb.to fb.1 j)

      ints_formed : (op : BinOp) → IsInt c a → IsInt c b → At f.vars t (vars ++ more) →
          FormedLow s f c (Binary at op a b) (binary false t at op la lb)
      ints_formed op i j h =
          int_formed t code vars codes_formed c (Binary at op a b) at (λ x. stmt.Set x (e.Binary op la.to lb.to at)) h
          (λ m p. ints_set op i j m p) refl

      -- pointers
      module _ (i : IsPointer c a) (j : IsPointer c b) where
        same_set : (m : ℕ) → kind_of s f m ≡ Some false →
            is_formed s f (stmt.Set m (e.SameBlock la.to lb.to)) ≡ true
        same_set m p =
            let k = is_int (kind_of s f m) in
            let x = is_pointer (kind_of s f la.to) in
            let y = is_pointer (kind_of s f lb.to) in
            set_formed s f m (e.SameBlock la.to lb.to)
            ∙ both_true (k && x) y (both_true k x (ap is_int p) (value_pointer s f c a la.to fa.1 i)) (value_pointer s f c b lb.to fb.1 j)

        same_formed : (op : BinOp) → At f.vars t (vars ++ more) →
            FormedLow s f c (Binary at op a b) (ends t code vars (temporary at None) (λ x. stmt.Set x (e.SameBlock la.to lb.to)))
        same_formed op h =
            int_formed t code vars codes_formed c (Binary at op a b) at (λ x. stmt.Set x (e.SameBlock la.to lb.to)) h
            (λ m p. same_set m p) refl

        not_set : (y : ℕ) → kind_of s f y ≡ Some false → (m : ℕ) → kind_of s f m ≡ Some false →
            is_formed s f (stmt.Set m (e.Unary Not y)) ≡ true
        not_set y q m p =
            set_formed s f m (e.Unary Not y)
            ∙ both_true (is_int (kind_of s f m)) (is_int (kind_of s f y)) (ap is_int p) (ap is_int q)

        not_formed : At f.vars t ((vars ++ more) ++ more) → FormedLow s f c (Binary at Ne a b) (binary true t at Ne la lb)
        not_formed h =
            let first = same_formed Ne (at_left f.vars t (vars ++ more) more h) in
            let m = t + length vars in
            int_formed t (code ++ stmt.Set m (e.SameBlock la.to lb.to) ∷ []) (vars ++ more) first.0 c (Binary at Ne a b) at
            (λ x. stmt.Set x (e.Unary Not m)) h (λ n p. not_set m (value_kind s f c (Binary at Ne a b) m first.1) n p) refl

        pointers_formed : (op : BinOp) → is_equality op ≡ true → At f.vars t (binary true t at op la lb).vars →
            FormedLow s f c (Binary at op a b) (binary true t at op la lb)
        pointers_formed Eq e h = same_formed Eq h
        pointers_formed Ne e h = not_formed h
        pointers_formed op e h = absurd (true≢false (sym e))

      abbrev Is_binary : BinOp → Bool → Type 0
      Is_binary op z = At f.vars t (binary z t at op la lb).vars → FormedLow s f c (Binary at op a b) (binary z t at op la lb)

      pub binary_formed : (op : BinOp) → ForBinary c op a b → Is_binary op (points c a || points c b)
      binary_formed op (inl k) =
          let is = ap (λ z. z || points c b) k.0 ∙ k.1 in
          subst (Is_binary op) (sym is) (ints_formed op k.0 k.1)
      binary_formed op (inr k) =
          let is = ap (λ z. z || points c b) k.1 in
          subst (Is_binary op) (sym is) (pointers_formed k.1 k.2 op k.0)

      -- ---- tests

      truth_formed : (n : ℤ) (m : ℕ) → kind_of s f m ≡ Some false → all_formed s f (truth m n) ≡ true
      truth_formed n m p = formed_one s f (stmt.Set m (e.Number n)) (number_formed n m p)

      decided_formed : (m : ℕ) → kind_of s f m ≡ Some false → all_formed s f (decided m lb) ≡ true
      decided_formed m p =
          formed_last s f lb.code (stmt.If lb.to (truth m (pos 1)) (truth m (pos 0))) fb.0
          (if_holds s f lb.to (truth m (pos 1)) (truth m (pos 0)) (value_exists s f c b lb.to fb.1) (truth_formed (pos 1) m p)
          (truth_formed (pos 0) m p))

      pub and_formed : At f.vars t (vars ++ more) → FormedLow s f c (And at a b) (both t at la lb)
      and_formed h =
          int_formed t la.code vars fa.0 c (And at a b) at (λ x. stmt.If la.to (decided x lb) (truth x (pos 0))) h
          (λ m p. if_holds s f la.to (decided m lb) (truth m (pos 0)) (value_exists s f c a la.to fa.1) (decided_formed m p)
          (truth_formed (pos 0) m p)) refl

      pub or_formed : At f.vars t (vars ++ more) → FormedLow s f c (Or at a b) (either t at la lb)
      or_formed h =
          int_formed t la.code vars fa.0 c (Or at a b) at (λ x. stmt.If la.to (truth x (pos 1)) (decided x lb)) h
          (λ m p. if_holds s f la.to (truth m (pos 1)) (decided m lb) (value_exists s f c a la.to fa.1) (truth_formed (pos 1) m p)
          (decided_formed m p)) refl

    -- the operands stand in front
    pub binary_left : (t : ℕ) (at : Span) (op : BinOp) (la lb : Low) (z : Bool) →
        At f.vars t (binary z t at op la lb).vars → At f.vars t (la.vars ++ lb.vars)
    binary_left t at op la lb false h = at_left f.vars t (la.vars ++ lb.vars) (temporary at None ∷ []) h
    binary_left t at Eq la lb true h = at_left f.vars t (la.vars ++ lb.vars) (temporary at None ∷ []) h
    binary_left t at Ne la lb true h =
        at_left f.vars t (la.vars ++ lb.vars) (temporary at None ∷ [])
        (at_left f.vars t ((la.vars ++ lb.vars) ++ temporary at None ∷ []) (temporary at None ∷ []) h)
    binary_left t at op la lb true h = at_left f.vars t (la.vars ++ lb.vars) (temporary at None ∷ []) h
