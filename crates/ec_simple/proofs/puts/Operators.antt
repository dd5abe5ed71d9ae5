-- What the lowering of binary operators puts behind their operands.
use Rattle.std.proofs.Common.{◌≡◌, sym, ap, ◌∙◌, subst, ℕ, ◌+◌, Bool, true, false, List, [], ◌∷◌, ◌++◌, length, append_assoc, IfOk, Result, Ok, Err, None, arith}
use Rattle.std.proofs.lemmas.List.{length-append}
use Rattle.ec_base.specs.declared.operator.BinOp.{BinOp}
use Rattle.ec_base.specs.declared.operator.BinOp.TheVariants as o
use Rattle.ec_base.specs.declared.operator.UnOp.TheVariants.{Not}
use Rattle.ec_base.specs.declared.token.Span.{Span}
use Rattle.ec_simple.specs.declared.form.SExpr.TheVariants as e
use Rattle.ec_simple.specs.declared.form.SStmt.{SStmt}
use Rattle.ec_simple.specs.declared.form.SStmt.TheVariants as s
use Rattle.ec_simple.specs.declared.form.SVar.{SVar}
use Rattle.ec_simple.specs.Expressions.{Code, Low, ends, temporary, binary}
use Rattle.ec_simple.specs.Puts.{Vars, Puts, value}
use Rattle.ec_simple.proofs.puts.Behind.{code_behind, vars_behind}

abbrev low_of : Code → ℕ → List SVar → Low
low_of code to vars = record { code = code; to = to; vars = vars }

-- behind other code and temporaries
abbrev behind : Code → List SVar → Low → Low
behind code vars l = low_of (code ++ l.code) l.to (vars ++ l.vars)

-- ---- one temporary more, and two

one_more :
    (t : ℕ) (code : Code) (vars : List SVar) (v : SVar) (x : ℕ → SStmt) →
    ends t code vars v x ≡ behind code vars (ends (t + length vars) [] [] v x)
one_more t code vars v x =
    let n : t + length vars ≡ (t + length vars) + 0 = omega arith in
    ap (λ k. low_of (code ++ x k ∷ []) k (vars ++ v ∷ [])) n

-- the second looks at the first
abbrev two : ℕ → SVar → (ℕ → SStmt) → (ℕ → ℕ → SStmt) → Low → Low
two t v x y l = ends t l.code l.vars v (y l.to)

two_more :
    (t : ℕ) (code : Code) (vars : List SVar) (v : SVar) (x : ℕ → SStmt) (y : ℕ → ℕ → SStmt) →
    two t v x y (ends t code vars v x) ≡ behind code vars (two (t + length vars) v x y (ends (t + length vars) [] [] v x))
two_more t code vars v x y =
    let k = t + length vars in
    let first : k ≡ k + 0 = omega arith in
    let second : t + length (vars ++ v ∷ []) ≡ k + 1 = omega (arith, length-append vars (v ∷ [])) in
    ap (λ c. low_of c (t + length (vars ++ v ∷ [])) ((vars ++ v ∷ []) ++ v ∷ []))
    (append_assoc code (x k ∷ []) (y k (t + length (vars ++ v ∷ [])) ∷ []))
    ∙ ap (low_of (code ++ (x k ∷ y k (t + length (vars ++ v ∷ [])) ∷ [])) (t + length (vars ++ v ∷ [])))
    (append_assoc vars (v ∷ []) (v ∷ []))
    ∙ ap (λ n. low_of (code ++ (x k ∷ y k n ∷ [])) n (vars ++ (v ∷ v ∷ []))) second
    ∙ ap (λ m. low_of (code ++ (x m ∷ y m (k + 1) ∷ [])) (k + 1) (vars ++ (v ∷ v ∷ []))) first

-- ---- what a binary operator puts behind its operands

module _ (t : ℕ) (at : Span) (a b : Low) where
  abbrev Parts : (BinOp → Low → Low → Low) → (BinOp → Low → Low → Low) → BinOp → Type 0
  Parts f g op = f op a b ≡ behind (a.code ++ b.code) (a.vars ++ b.vars) (g op (value a.to) (value b.to))

  plain_parts : (op : BinOp) → Parts (binary false t at) (binary false (t + length (a.vars ++ b.vars)) at) op
  plain_parts op =
      one_more t (a.code ++ b.code) (a.vars ++ b.vars) (temporary at None) (λ x. s.Set x (e.Binary op a.to b.to at))

  compared_parts : (op : BinOp) → Parts (binary true t at) (binary true (t + length (a.vars ++ b.vars)) at) op
  compared_parts o.Eq =
      one_more t (a.code ++ b.code) (a.vars ++ b.vars) (temporary at None) (λ x. s.Set x (e.SameBlock a.to b.to))
  compared_parts o.Ne =
      two_more t (a.code ++ b.code) (a.vars ++ b.vars) (temporary at None) (λ x. s.Set x (e.SameBlock a.to b.to))
      (λ y x. s.Set x (e.Unary Not y))
  compared_parts o.Add = plain_parts o.Add
  compared_parts o.Sub = plain_parts o.Sub
  compared_parts o.Mul = plain_parts o.Mul
  compared_parts o.Div = plain_parts o.Div
  compared_parts o.Rem = plain_parts o.Rem
  compared_parts o.And = plain_parts o.And
  compared_parts o.Or = plain_parts o.Or
  compared_parts o.Xor = plain_parts o.Xor
  compared_parts o.Shl = plain_parts o.Shl
  compared_parts o.Shr = plain_parts o.Shr
  compared_parts o.Lt = plain_parts o.Lt
  compared_parts o.Le = plain_parts o.Le
  compared_parts o.Gt = plain_parts o.Gt
  compared_parts o.Ge = plain_parts o.Ge

  parts : (p : Bool) (op : BinOp) → Parts (binary p t at) (binary p (t + length (a.vars ++ b.vars)) at) op
  parts true op = compared_parts op
  parts false op = plain_parts op

-- two operands, and then the operator
pub binary_puts :
    {E : Type 0} (r : Result ℕ E) (p : Bool) (at : Span) (op : BinOp) (a b : Low) (old mid last new : Code) (vold vmid vlast vnew : Vars) (x y : ℕ) →
    Puts a old mid vold vmid x → Puts b mid last vmid vlast y →
    IfOk r (λ z. Puts (binary p vlast.next at op (value x) (value y)) last new vlast vnew z) →
    IfOk r (λ z. Puts (binary p vold.next at op a b) old new vold vnew z)
binary_puts (Err n) p at op a b old mid last new vold vmid vlast vnew x y h k m = tt
binary_puts (Ok z) p at op a b old mid last new vold vmid vlast vnew x y h k m =
    let code = code_behind old mid last vold vmid vlast a.code b.code a.vars b.vars h.0 k.0 in
    let vars = vars_behind old mid last vold vmid vlast a.code b.code a.vars b.vars h.1 k.1 in
    let t = vold.next + length (a.vars ++ b.vars) in
    let l = binary p t at op (value a.to) (value b.to) in
    let at_next : Puts (binary p t at op (value x) (value y)) last new vlast vnew z =
    subst (λ n. Puts (binary p n at op (value x) (value y)) last new vlast vnew z) (ap (λ v. v.next) vars) m in
    let at_x = subst (λ n. Puts (binary p t at op (value n) (value y)) last new vlast vnew z) h.2 at_next in
    let at_y : Puts l last new vlast vnew z =
    subst (λ n. Puts (binary p t at op (value a.to) (value n)) last new vlast vnew z) k.2 at_x in
    subst (λ q. Puts q old new vold vnew z) (sym (parts vold.next at a b p op)) (
      code_behind old last new vold vlast vnew (a.code ++ b.code) l.code (a.vars ++ b.vars) l.vars code at_y.0,
      vars_behind old last new vold vlast vnew (a.code ++ b.code) l.code (a.vars ++ b.vars) l.vars vars at_y.1,
      at_y.2,
    )
