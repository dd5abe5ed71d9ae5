-- What written functions put.
use Rattle.std.proofs.Common.{◌≡◌, ap, ◌∙◌, subst, ℕ, List, [], ◌++◌, length}
use Rattle.ec_base.specs.declared.text.Text.{Text}
use Rattle.ec_simple.specs.declared.form.FuncKind.TheVariants as kind
use Rattle.ec_simple.specs.declared.form.SFunc.{SFunc}
use Rattle.ec_simple.specs.declared.form.SVar.{SVar}
use Rattle.ec_simple.specs.Expressions.{Code, Scope}
use Rattle.ec_simple.specs.Lower.{own_variables, low_body}
use Rattle.ec_simple.specs.Puts.{Vars, Funcs, PutsStmt}
use Rattle.ec_simple.specs.Statements.{low_stmt}
use Rattle.ec_simple.specs.Written.{PutsWritten, results}
use Rattle.ec_types.specs.Meaning.Tree.{Function, Variable, Block}

abbrev pub known : List Function → Text → List ℕ → List Variable → ℕ → Scope
known all name params variables first =
    record { functions = all; name = name; params = params; variables = variables; first = first; place = λ x. x }

abbrev pub numbered : List SVar → ℕ → Vars
numbered all next = record { all = all; next = next }

abbrev pub made : Text → List SVar → List ℕ → List ℕ → Code → SFunc
made name vars params results body = record {
  name = name;
  kind = kind.Written;
  vars = vars;
  params = params;
  results = results;
  body = body;
}

module _ (all : List Function) (name : Text) (f : Function) (body : Code) (vnew : Vars) (old new : Funcs) where
  -- its body behind its own variables
  abbrev pub BodyPut : Type 0
  BodyPut =
      PutsStmt (low_body all name f old.next) [] body (numbered (own_variables f) (length (own_variables f))) vnew old new

  abbrev pub Put : List ℕ → List Variable → Code → List SVar → ℕ → Type 0
  Put params variables none own next =
      PutsStmt (low_stmt (known all name params variables old.next) (Block f.decls f.body) next old.next) none body (numbered own next) vnew old new

  pub body_put :
      (params : List ℕ) (variables : List Variable) (none : Code) (own : List SVar) (next : ℕ) →
      params ≡ f.params → variables ≡ f.variables → none ≡ [] → own ≡ own_variables f → next ≡ length own →
      Put params variables none own next → BodyPut
  body_put params variables none own next p v e o n h =
      let a : Put f.params variables none own next = subst (λ z. Put z variables none own next) p h in
      let b : Put f.params f.variables none own next = subst (λ z. Put f.params z none own next) v a in
      let d : Put f.params f.variables [] own next = subst (λ z. Put f.params f.variables z own next) e b in
      let g : Put f.params f.variables [] (own_variables f) next = subst (λ z. Put f.params f.variables [] z next) o d in
      subst (Put f.params f.variables [] (own_variables f)) (n ∙ ap length o) g

  pub written_puts :
      (copied : Text) (params to : List ℕ) → BodyPut → copied ≡ name → params ≡ f.params → to ≡ results f →
      PutsWritten all name f (made copied vnew.all params to body) old new
  written_puts copied params to h c p t =
      let l = low_body all name f old.next in
      let vars : vnew.all ≡ own_variables f ++ l.vars = ap (λ v. v.all) h.1 in (
        ap (λ z. made z vnew.all params to body) c
            ∙ ap (λ z. made name z params to body) vars
            ∙ ap (λ z. made name (own_variables f ++ l.vars) z to body) p
            ∙ ap (λ z. made name (own_variables f ++ l.vars) f.params z body) t
            ∙ ap (made name (own_variables f ++ l.vars) f.params (results f)) h.0,
        h.2,
      )
