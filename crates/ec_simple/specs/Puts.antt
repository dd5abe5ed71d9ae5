-- What the functions that lower promise: which code, temporaries and functions they put behind those that were there.
use Rattle.std.specs.Prelude.{◌≡◌, ℕ, ◌+◌, List, [], ◌∷◌, ◌++◌, length, None}
use Rattle.ec_base.specs.declared.token.Span.{Span}
use Rattle.ec_simple.specs.declared.call.Callee.{Callee}
use Rattle.ec_simple.specs.declared.form.SBranch.{SBranch}
use Rattle.ec_simple.specs.declared.form.SCall.{SCall}
use Rattle.ec_simple.specs.declared.form.SFunc.{SFunc}
use Rattle.ec_simple.specs.declared.form.SPlace.{SPlace}
use Rattle.ec_simple.specs.declared.form.SPlace.TheVariants as p
use Rattle.ec_simple.specs.declared.form.SPlaceOf.{SPlaceOf}
use Rattle.ec_simple.specs.declared.form.SStmt.{SStmt}
use Rattle.ec_simple.specs.declared.form.SVar.{SVar}
use Rattle.ec_simple.specs.declared.form.VarUse.{VarUse}
use Rattle.ec_simple.specs.declared.numbered.Numbered.{Numbered}
use Rattle.ec_simple.specs.Expressions.{Code, Scope, Low, Lows, LowPlace, LowCall, temporary, decided, low, passed}
use Rattle.ec_simple.specs.Statements.{LowStmt, LowBranches}
use Rattle.ec_types.specs.Meaning.Tree.{Expr, Placing, OnThis, OnOwner, OnHome, OnNode, OnAny}

-- these, behind those that were there
abbrev pub more : {A : Type 0} → Numbered A → List A → Numbered A
more old items = record { all = old.all ++ items; next = old.next + length items }

abbrev pub Vars : Type 0
Vars = Numbered SVar

-- ---- one temporary more, which a statement sets

abbrev pub Sets : SVar → (ℕ → SStmt) → Code → Code → Vars → Vars → ℕ → Type 0
Sets v x old new vold vnew to = (new ≡ old ++ x vold.next ∷ []) × (vnew ≡ more vold (v ∷ [])) × (to ≡ vold.next)

-- ---- what an expression, several, an access, and a call put

abbrev pub Puts : Low → Code → Code → Vars → Vars → ℕ → Type 0
Puts l old new vold vnew to = (new ≡ old ++ l.code) × (vnew ≡ more vold l.vars) × (to ≡ l.to)

abbrev pub PutsAll : Lows → Code → Code → Vars → Vars → List ℕ → Type 0
PutsAll l old new vold vnew to = (new ≡ old ++ l.code) × (vnew ≡ more vold l.vars) × (to ≡ l.to)

abbrev pub PutsPlace : LowPlace → Code → Code → Vars → Vars → SPlaceOf → Type 0
PutsPlace l old new vold vnew place = (new ≡ old ++ l.code) × (vnew ≡ more vold l.vars) × (place ≡ l.place)

-- a call that is about to be made
abbrev pub callee : LowCall → Callee
callee l = record { func = l.func; args = l.args; place = l.place; at = l.at }

abbrev pub call_of : Callee → List ℕ → List VarUse → List VarUse → SCall
call_of c to reads writes =
    record { func = c.func; args = c.args; to = to; place = c.place; at = c.at; reads = reads; writes = writes }

abbrev pub PutsCall : LowCall → Code → Code → Vars → Vars → Callee → Type 0
PutsCall l old new vold vnew c = (new ≡ old ++ l.code) × (vnew ≡ more vold l.vars) × (c ≡ callee l)

-- ---- parts of expressions

-- a variable that has the value
abbrev pub value : ℕ → Low
value x = record { code = []; to = x; vars = [] }

-- code apart, which sets one more temporary to 1 or 0
abbrev pub Decides : Low → Span → Code → Vars → Vars → ℕ → Type 0
Decides l at code vold vnew x =
    (code ≡ decided x l) × (vnew ≡ more vold (l.vars ++ temporary at None ∷ [])) × (x ≡ vold.next + length l.vars)

-- an argument, as it is passed
abbrev pub argument : Scope → Expr → ℕ → Low
argument c a t = passed c a t (low c a t)

-- the operand of a placement
pub record LowPlacing : Type 0 where
  pub code : Code
  pub place : SPlace
  pub vars : List SVar

abbrev pub placing_of : Low → (ℕ → SPlace) → LowPlacing
placing_of l q = record { code = l.code; place = q l.to; vars = l.vars }

abbrev pub without : SPlace → LowPlacing
without q = record { code = []; place = q; vars = [] }

abbrev pub operand : Scope → Placing → ℕ → LowPlacing
operand c OnThis t = without p.Here
operand c (OnOwner a) t = placing_of (low c a t) p.Owner
operand c OnHome t = without p.Home
operand c (OnNode a) t = placing_of (low c a t) p.Node
operand c OnAny t = without p.Anywhere

abbrev pub PutsPlacing : LowPlacing → Code → Code → Vars → Vars → SPlace → Type 0
PutsPlacing l old new vold vnew q = (new ≡ old ++ l.code) × (vnew ≡ more vold l.vars) × (q ≡ l.place)

-- ---- what statements put

abbrev pub Funcs : Type 0
Funcs = Numbered SFunc

-- those that no branch or body stands in
abbrev pub PutsPlain : LowStmt → Code → Code → Vars → Vars → Type 0
PutsPlain l old new vold vnew = (new ≡ old ++ l.code) × (vnew ≡ more vold l.vars)

abbrev pub PutsStmt : LowStmt → Code → Code → Vars → Vars → Funcs → Funcs → Type 0
PutsStmt l old new vold vnew fold fnew =
    (new ≡ old ++ l.code) × (vnew ≡ more vold l.vars) × (fnew ≡ more fold l.funcs)

-- code apart
abbrev pub PutsApart : LowStmt → Code → Vars → Vars → Funcs → Funcs → Type 0
PutsApart l code vold vnew fold fnew = (code ≡ l.code) × (vnew ≡ more vold l.vars) × (fnew ≡ more fold l.funcs)

abbrev pub PutsBranches : LowBranches → List SBranch → Vars → Vars → Funcs → Funcs → Type 0
PutsBranches l branches vold vnew fold fnew =
    (branches ≡ l.branches) × (vnew ≡ more vold l.vars) × (fnew ≡ more fold l.funcs)

-- one branch, which is a call
abbrev pub PutsDirect : LowBranches → SBranch → Vars → Vars → Type 0
PutsDirect l b vold vnew = (b ∷ [] ≡ l.branches) × (vnew ≡ more vold l.vars)
