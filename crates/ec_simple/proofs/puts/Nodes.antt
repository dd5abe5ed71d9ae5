-- What the lowering of each node puts, by what was put for its parts.
use Rattle.std.proofs.Common.{◌≡◌, sym, ap, ◌∙◌, subst, ℕ, ◌+◌, Bool, ◌||◌, List, [], ◌∷◌, ◌++◌, length, IfOk, Result, Some, None, pos}
use Rattle.ec_base.specs.declared.operator.BinOp.{BinOp}
use Rattle.ec_base.specs.declared.token.Span.{Span}
use Rattle.ec_simple.specs.declared.call.Callee.{Callee}
use Rattle.ec_simple.specs.declared.form.SPlaceOf.{SPlaceOf}
use Rattle.ec_simple.specs.declared.form.SStmt.TheVariants as s
use Rattle.ec_simple.specs.Expressions.{Code, Scope, temporary, truth, binary, points, gives_of, low, low_part, low_place, low_call}
use Rattle.ec_simple.specs.Puts.{Vars, Sets, Puts, PutsCall, PutsPlace, Decides, callee, call_of, value}
use Rattle.ec_simple.proofs.puts.Operators.{binary_puts}
use Rattle.ec_simple.proofs.puts.Values.{one_operand, both_puts, either_puts}
use Rattle.ec_types.specs.Meaning.Tree.{Pointer, Expr, Binary, And, Or, Load, Called, New, ValueOf, Part, Place, Invocation}
use Rattle.ec_types.specs.Meaning.Values.{Val}

-- an expression under another name
renamed :
    {E : Type 0} (r : Result ℕ E) (c : Scope) (whole a : Expr) (old new : Code) (vold vnew : Vars) → whole ≡ a →
    IfOk r (λ z. Puts (low c a vold.next) old new vold vnew z) → IfOk r (λ z. Puts (low c whole vold.next) old new vold vnew z)
renamed r c whole a old new vold vnew q h =
    subst (λ w. IfOk r (λ z. Puts (low c w vold.next) old new vold vnew z)) (sym q) h

-- ---- nodes with one part

module _ {E : Type 0} (r : Result ℕ E) (c : Scope) (whole : Expr) (old mid new : Code) (vold vmid vnew : Vars) where
  pub load_puts :
      (q : Pointer) (a : Place) (x : SPlaceOf) → whole ≡ Load q a → PutsPlace (low_place c a vold.next) old mid vold vmid x →
      IfOk r (λ z. Sets (temporary x.at q) (λ y. s.Load y x) mid new vmid vnew z) →
      IfOk r (λ z. Puts (low c whole vold.next) old new vold vnew z)
  load_puts q a x is h k =
      let l = low_place c a vold.next in
      renamed r c whole (Load q a) old new vold vnew is
      (one_operand r (λ (w : SPlaceOf). temporary w.at q) (λ w y. s.Load y w) l.code l.vars x l.place old mid new vold vmid vnew h k)

  pub called_puts :
      (i : Invocation) (q : Pointer) (x : Callee) → whole ≡ Called i → PutsCall (low_call c i vold.next) old mid vold vmid x →
      q ≡ gives_of c i →
      IfOk r (λ z. Sets (temporary x.at q) (λ y. s.Call (call_of x (y ∷ []) [] [])) mid new vmid vnew z) →
      IfOk r (λ z. Puts (low c whole vold.next) old new vold vnew z)
  called_puts i q x is h gives k =
      let l = low_call c i vold.next in
      let told = subst (λ g. IfOk r (λ z. Sets (temporary x.at g) (λ y. s.Call (call_of x (y ∷ []) [] [])) mid new vmid vnew z)) gives k in
      renamed r c whole (Called i) old new vold vnew is
      (one_operand r (λ (w : Callee). temporary w.at (gives_of c i)) (λ w y. s.Call (call_of w (y ∷ []) [] []))
      l.code l.vars x (callee l) old mid new vold vmid vnew h told)

  pub new_puts :
      (at : Span) (shape : ℕ) (element : List Val) (count : Part) (x : ℕ) → whole ≡ New at shape element count →
      Puts (low_part c at (pos 1) count vold.next) old mid vold vmid x →
      IfOk r (λ z. Sets (temporary at (Some shape)) (λ y. s.New y shape x at) mid new vmid vnew z) →
      IfOk r (λ z. Puts (low c whole vold.next) old new vold vnew z)
  new_puts at shape element count x is h k =
      let l = low_part c at (pos 1) count vold.next in
      renamed r c whole (New at shape element count) old new vold vnew is
      (one_operand r (λ (w : ℕ). temporary at (Some shape)) (λ w y. s.New y shape w at) l.code l.vars x l.to old mid new vold vmid vnew h k)

  pub value_of_puts :
      (at : Span) (a : Expr) (x : ℕ) → whole ≡ ValueOf at a → Puts (low c a vold.next) old mid vold vmid x →
      IfOk r (λ z. Sets (temporary at None) (λ y. s.Read x y at) mid new vmid vnew z) →
      IfOk r (λ z. Puts (low c whole vold.next) old new vold vnew z)
  value_of_puts at a x is h k =
      let l = low c a vold.next in
      renamed r c whole (ValueOf at a) old new vold vnew is
      (one_operand r (λ (w : ℕ). temporary at None) (λ w y. s.Read w y at) l.code l.vars x l.to old mid new vold vmid vnew h k)

-- ---- two operands

pub operator_puts :
    {E : Type 0} (r : Result ℕ E) (c : Scope) (whole : Expr) (old mid last new : Code) (vold vmid vlast vnew : Vars)
    (at : Span) (op : BinOp) (a b : Expr) (x y : ℕ) (p : Bool) → whole ≡ Binary at op a b →
    Puts (low c a vold.next) old mid vold vmid x → Puts (low c b vmid.next) mid last vmid vlast y →
    p ≡ (points c a || points c b) → IfOk r (λ z. Puts (binary p vlast.next at op (value x) (value y)) last new vlast vnew z) →
    IfOk r (λ z. Puts (low c whole vold.next) old new vold vnew z)
operator_puts r c whole old mid last new vold vmid vlast vnew at op a b x y p is h k pointers m =
    let la = low c a vold.next in
    let lb = low c b (vold.next + length la.vars) in
    let k' : Puts lb mid last vmid vlast y = subst (λ t. Puts (low c b t) mid last vmid vlast y) (ap (λ v. v.next) h.1) k in
    renamed r c whole (Binary at op a b) old new vold vnew is
    (binary_puts r (points c a || points c b) at op la lb old mid last new vold vmid vlast vnew x y h k'
    (subst (λ w. IfOk r (λ z. Puts (binary w vlast.next at op (value x) (value y)) last new vlast vnew z)) pointers m))

-- ---- a test of one operand, and the other apart

module _
    (c : Scope) (whole a b : Expr) (at : Span) (old mid new : Code) (vold vmid vnew : Vars) (test x : ℕ) (inside other : Code)
    (h : Puts (low c a vold.next) old mid vold vmid test) (d : Decides (low c b vmid.next) at inside vmid vnew x) where
  apart : Decides (low c b (vold.next + length (low c a vold.next).vars)) at inside vmid vnew x
  apart = subst (λ t. Decides (low c b t) at inside vmid vnew x) (ap (λ v. v.next) h.1) d

  pub and_puts :
      whole ≡ And at a b → other ≡ truth x (pos 0) → new ≡ mid ++ s.If test inside other ∷ [] →
      Puts (low c whole vold.next) old new vold vnew x
  and_puts is none n =
      let la = low c a vold.next in
      subst (λ w. Puts (low c w vold.next) old new vold vnew x) (sym is)
      (both_puts at la (low c b (vold.next + length la.vars)) old mid new vold vmid vnew test x inside h apart
      (n ∙ ap (λ z. mid ++ s.If test inside z ∷ []) none))

  pub or_puts :
      whole ≡ Or at a b → other ≡ truth x (pos 1) → new ≡ mid ++ s.If test other inside ∷ [] →
      Puts (low c whole vold.next) old new vold vnew x
  or_puts is one n =
      let la = low c a vold.next in
      subst (λ w. Puts (low c w vold.next) old new vold vnew x) (sym is)
      (either_puts at la (low c b (vold.next + length la.vars)) old mid new vold vmid vnew test x inside h apart
      (n ∙ ap (λ z. mid ++ s.If test z inside ∷ []) one))
