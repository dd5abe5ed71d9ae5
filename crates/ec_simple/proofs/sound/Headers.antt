-- Headers of right `forall`s set a variable.
use Rattle.std.proofs.Common.{◌≡◌, refl, ℕ, Bool, true, List, Option, Some, None, is_some, Ok}
use Rattle.std.proofs.lemmas.Bool.{false≢true}
use Rattle.ec_base.specs.declared.reason.Reason.TheVariants.{HeaderForm}
use Rattle.ec_base.specs.declared.text.Text.{Text}
use Rattle.ec_base.specs.declared.token.Span.{Span}
use Rattle.ec_simple.specs.Expressions.{Scope}
use Rattle.ec_simple.specs.Kinds.{SetsVariable}
use Rattle.ec_syntax.specs.declared.expression.Expr.{Expr}
use Rattle.ec_syntax.specs.declared.item.Func.{Func}
use Rattle.ec_syntax.specs.declared.item.StructDef.{StructDef}
use Rattle.ec_syntax.specs.declared.statement.Assign.{Assign}
use Rattle.ec_syntax.specs.declared.statement.Decl.{Decl}
use Rattle.ec_types.specs.Assignments.{sides, fits_into, assigned}
use Rattle.ec_types.specs.Context.{Context, is_local_variable}
use Rattle.ec_types.specs.declared.value_type.ValueType.{ValueType}
use Rattle.ec_types.specs.Expressions.{judged}
use Rattle.ec_types.specs.Headers.{header, sets_variable, sets_the_same, still}
use Rattle.ec_types.specs.Judged.{◌also◌}
use Rattle.ec_types.specs.Meaning.Resolution as resolution
use Rattle.ec_types.specs.Meaning.Resolution.{Resolved, variable_in}
use Rattle.ec_types.specs.Parts.{is_variable}
use Rattle.ec_simple.proofs.sound.Assignments.{sides_are}
use Rattle.ec_simple.proofs.sound.Each.{Each}
use Rattle.ec_simple.proofs.sound.Expressions.{Program, there, resolving, becomes}
use Rattle.ec_simple.proofs.sound.Right.{then_right, fine_left, must_hold}
use Rattle.ec_simple.proofs.sound.Variables.{InScope}

sets : (l r : Resolved) (o : Option (Span × ℕ)) → variable_in l.form ≡ o → is_some o ≡ true →
    SetsVariable (resolution.assigned l r)
sets l r (Some x) e h = rw e tt
sets l r None e h = absurd (false≢true h)

module _ (ss : List StructDef) (fs : List Func) (vs : List Decl) (c : Scope) (program : Program ss fs vs c)
    (prints : Text → Option Span) (result : ValueType) (inside : Bool) (scope : List Decl) (sc : List ℕ)
    (in_scope : Each (InScope ss vs sc) scope) where
  abbrev x : Context
  x = there ss fs prints result inside scope

  abbrev s : resolution.Scope
  s = resolving ss fs vs

  pub header_sets : (at : Span) (i : Assign) (e : Expr) (n : Assign) → assigned x at i ≡ Ok tt →
      header x i e n ≡ Ok tt → SetsVariable (resolution.assignment s i)
  header_sets at i e n h k =
      let l = judged x i.left in
      let r = judged x i.right in
      let local = is_local_variable x l.form in
      let is = then_right (sides l r) (λ p. fits_into x at p.0 local r p.1) tt h in
      let both = sides_are l r is.a is.first in
      let left = becomes ss fs vs c program prints result inside scope sc in_scope i.left is.a.0 both.left in
      let rest = sets_variable (judged x n.left) also sets_the_same l (judged x n.left) also still i e n in
      let named = must_hold (is_variable l.form) HeaderForm l.at (fine_left (sets_variable l) rest k) in
      let to = resolution.resolved s i.left in
      sets to (resolution.resolved s i.right) (variable_in to.form) refl (left.left both.is_place (left.variable named))
