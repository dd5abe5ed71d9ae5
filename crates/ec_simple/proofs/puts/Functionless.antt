-- Statements in which no branch or body stands become no functions.
use Rattle.std.proofs.Common.{◌≡◌, refl, ap, ◌∙◌, subst, sym, ℕ, ◌+◌, Bool, true, false, Option, Some, None, List, [], ◌∷◌, ◌++◌, length, Result, OnOk}
use Rattle.std.proofs.lemmas.Result.{on_ok_weaker}
use Rattle.ec_simple.specs.Expressions.{Code, Scope, LowCall, function_at, low_call}
use Rattle.ec_simple.specs.Puts.{Vars, Funcs, more, PutsPlain, PutsStmt}
use Rattle.ec_simple.specs.Statements.{LowStmt, low_assignment, low_optional, low_declaration, low_declarations, low_evaluated, low_stmt, unused}
use Rattle.ec_simple.proofs.puts.Behind.{more_none}
use Rattle.ec_types.specs.Meaning.Tree.{Expr, Called, Part, Missing, Given, Invocation, Invoke, Assignment, SetVar, Store, Copy, Decl, Plain, Shared, Stmt, Return}

pub of_assignment : (c : Scope) (a : Assignment) (t : ℕ) → (low_assignment c a t).funcs ≡ []
of_assignment c (SetVar at x a) t = refl
of_assignment c (Store q a) t = refl
of_assignment c (Copy q r) t = refl

pub of_optional : (c : Scope) (a : Option Assignment) (t : ℕ) → (low_optional c a t).funcs ≡ []
of_optional c None t = refl
of_optional c (Some a) t = of_assignment c a t

of_declaration : (c : Scope) (d : Decl) (t : ℕ) → (low_declaration c d t).funcs ≡ []
of_declaration c (Plain x v Missing) t = refl
of_declaration c (Plain x v (Given a)) t = refl
of_declaration c (Shared x) t = refl

pub of_declarations : (c : Scope) (ds : List Decl) (t : ℕ) → (low_declarations c ds t).funcs ≡ []
of_declarations c [] t = refl
of_declarations c (d ∷ ds) t =
    let next = t + length (low_declaration c d t).vars in
    ap (λ z. z ++ (low_declarations c ds next).funcs) (of_declaration c d t) ∙ of_declarations c ds next

of_unused : (c : Scope) (l : LowCall) (t : ℕ) (void : Bool) (a : Expr) → (unused c l t void a).funcs ≡ []
of_unused c l t true a = refl
of_unused c l t false a = refl

pub of_evaluated : (c : Scope) (i : Invocation) (t : ℕ) → (low_evaluated c i t).funcs ≡ []
of_evaluated c (Invoke at f es q) t =
    of_unused c (low_call c (Invoke at f es q) t) t (function_at c f).void (Called (Invoke at f es q))

-- a `return` becomes the same whatever the number of the next function is
pub of_return : (c : Scope) (e : Part) (t g : ℕ) → (low_stmt c (Return e) t g).funcs ≡ []
of_return c Missing t g = refl
of_return c (Given a) t g = refl

pub same_return : (c : Scope) (e : Part) (t g h : ℕ) → low_stmt c (Return e) t g ≡ low_stmt c (Return e) t h
same_return c Missing t g h = refl
same_return c (Given a) t g h = refl

-- so the functions stay
module _ {E : Type 0} (r : Result (Unit {0}) E) (old new : Code) (vold vnew : Vars) (funcs : Funcs) where
  pub plain_puts : (l : LowStmt) → l.funcs ≡ [] → OnOk r (PutsPlain l old new vold vnew) → OnOk r (PutsStmt l old new vold vnew funcs funcs)
  plain_puts l e h = on_ok_weaker r (λ p. (p.0, p.1, more_none funcs ∙ ap (more funcs) (sym e))) h

  -- where the statement stands for this
  pub as_plain :
      (c : Scope) (s x : Stmt) (l : LowStmt) → s ≡ x → low_stmt c x vold.next funcs.next ≡ l → l.funcs ≡ [] →
      OnOk r (PutsPlain l old new vold vnew) → OnOk r (PutsStmt (low_stmt c s vold.next funcs.next) old new vold vnew funcs funcs)
  as_plain c s x l e is f h =
      subst (λ z. OnOk r (PutsStmt z old new vold vnew funcs funcs))
      (sym (ap (λ z. low_stmt c z vold.next funcs.next) e ∙ is)) (plain_puts l f h)
