-- Where the code of a statement stands, and that it is formed there.
use Rattle.std.proofs.Common.{◌≡◌, ⊎_elim, ℕ, ◌<◌, Bool, true, false, List, length, map, Option}
use Rattle.std.specs.List.{list_all}
use Rattle.ec_base.specs.declared.token.Span.{Span}
use Rattle.ec_simple.specs.declared.form.FuncKind.TheVariants.{Written}
use Rattle.ec_simple.specs.declared.form.SFunc.{SFunc}
use Rattle.ec_simple.specs.declared.form.Form.{Form}
use Rattle.ec_simple.specs.Expressions.{Scope}
use Rattle.ec_simple.specs.Formed.{kind_among, all_formed, is_formed_function}
use Rattle.ec_simple.specs.Kinds.{KindsStmt, KindsElse, KindsStmts}
use Rattle.ec_simple.specs.Sound.{IsIn, SoundStmt, SoundElse, SoundStmts, with_declared}
use Rattle.ec_simple.specs.Statements.{LowStmt, LowBranches, low_stmt, low_else, low_stmts, low_branches}
use Rattle.ec_simple.specs.Uses.{declared, declares, else_declares, all_declare}
use Rattle.ec_simple.proofs.formed.Code.{branch_formed}
use Rattle.ec_simple.proofs.formed.Standing.{At, Placed, Stands, given_kinds}
use Rattle.ec_simple.proofs.lockstep.Scopes.{declared_or_not}
use Rattle.ec_simple.proofs.lockstep.Variables.{Within}
use Rattle.ec_types.specs.Meaning.Tree.{Decl, Stmt, Else, Stmts}

-- a written function gives what its results are
abbrev pub Returns : SFunc → Option Bool → Type 0
Returns f gives = (f.kind ≡ Written) × (map (kind_among f.vars) f.results ≡ given_kinds gives)

-- A place in a function: the variables that have numbers in it, those of them that are in scope, whether a part may return, and
-- what it then gives.
pub record Spot (s : Form) : Type 0 where
  pub function : SFunc
  pub scope : Scope
  pub stands : Stands s scope
  pub ns : List ℕ
  pub placed : Placed scope function.vars ns
  pub below : (x : ℕ) → IsIn x ns → x < length scope.variables
  pub sc : List ℕ
  pub inside : Within sc ns
  pub may : Bool
  pub gives : Option Bool
  pub returns : may ≡ true → Returns function gives

-- the functions that branches and bodies become are formed too
abbrev pub FormedStmt : Form → SFunc → LowStmt → Type 0
FormedStmt s f l = (all_formed s f l.code ≡ true) × (list_all (is_formed_function s) l.funcs ≡ true)

abbrev pub FormedBranches : Form → SFunc → LowBranches → Type 0
FormedBranches s f l = (list_all (branch_formed s f) l.branches ≡ true) × (list_all (is_formed_function s) l.funcs ≡ true)

module _ {s : Form} where
  -- what is in scope is placed, and below how many variables there are
  pub in_scope : (z : Spot s) → Placed z.scope z.function.vars z.sc
  in_scope z x i = z.placed x (z.inside x i)

  pub below_scope : (z : Spot s) → (x : ℕ) → IsIn x z.sc → x < length z.scope.variables
  below_scope z x i = z.below x (z.inside x i)

  -- behind declarations
  abbrev pub after : (z : Spot s) (ds : List Decl) → Within (map declared ds) z.ns → Spot s
  after z ds w = record z {
    sc = with_declared s.shapes z.scope ds z.sc;
    inside = λ y i. ⊎_elim (λ j. w y j) (λ j. z.inside y j) (declared_or_not s.shapes z.scope ds z.sc y i);
  }

module _ (s : Form) where
  -- the code of a statement is formed wherever it stands
  abbrev pub Forms : Stmt → Type 0
  Forms x = (z : Spot s) → SoundStmt s.shapes z.scope z.may z.sc x → KindsStmt s.shapes z.scope z.gives x →
      Within (declares x) z.ns → (t g : ℕ) → At z.function.vars t (low_stmt z.scope x t g).vars →
      At s.funcs g (low_stmt z.scope x t g).funcs → FormedStmt s z.function (low_stmt z.scope x t g)

  -- of a statement without statements in it, which no functions come of
  abbrev pub Leaf_forms : Stmt → Type 0
  Leaf_forms x = (z : Spot s) → SoundStmt s.shapes z.scope z.may z.sc x → KindsStmt s.shapes z.scope z.gives x →
      (t g : ℕ) → At z.function.vars t (low_stmt z.scope x t g).vars →
      FormedStmt s z.function (low_stmt z.scope x t g)

  abbrev pub Else_forms : Else → Type 0
  Else_forms x = (z : Spot s) → SoundElse s.shapes z.scope z.may z.sc x → KindsElse s.shapes z.scope z.gives x →
      Within (else_declares x) z.ns → (t g : ℕ) → At z.function.vars t (low_else z.scope x t g).vars →
      At s.funcs g (low_else z.scope x t g).funcs → FormedStmt s z.function (low_else z.scope x t g)

  abbrev pub All_form : Stmts → Type 0
  All_form xs = (z : Spot s) → SoundStmts s.shapes z.scope z.may z.sc xs → KindsStmts s.shapes z.scope z.gives xs →
      Within (all_declare xs) z.ns → (t g : ℕ) → At z.function.vars t (low_stmts z.scope xs t g).vars →
      At s.funcs g (low_stmts z.scope xs t g).funcs → FormedStmt s z.function (low_stmts z.scope xs t g)

  abbrev pub Branches_form : Stmts → Type 0
  Branches_form xs = (z : Spot s) (at : Span) → SoundStmts s.shapes z.scope false z.sc xs →
      KindsStmts s.shapes z.scope z.gives xs → Within (all_declare xs) z.ns → (t g : ℕ) →
      At z.function.vars t (low_branches z.scope at xs t g).vars →
      At s.funcs g (low_branches z.scope at xs t g).funcs →
      FormedBranches s z.function (low_branches z.scope at xs t g)
