-- What the lowering of statements puts, by their parts.
use Rattle.std.proofs.Common.{◌≡◌, sym, ap, ◌∙◌, subst, ℕ, suc, ◌+◌, ◌<◌, List, [], ◌∷◌, ◌++◌, length, get_or, drop, drop-cons, append-nil, append_assoc, Option, Some, None, Result, Ok, Err, IfOk, OnOk}
use Rattle.ec_base.specs.declared.token.Span.{Span}
use Rattle.ec_simple.specs.declared.form.SBranch.{SBranch}
use Rattle.ec_simple.specs.declared.form.SStmt.{SStmt}
use Rattle.ec_simple.specs.declared.form.SStmt.TheVariants as s
use Rattle.ec_simple.specs.Expressions.{Code, Scope, Low}
use Rattle.ec_simple.specs.Statements.{LowStmt, LowBranches, nothing, joined, more_branches, with_value, with_two, for_loop, low_stmt, low_else}
use Rattle.ec_simple.specs.Puts.{Vars, Funcs, more, Puts, PutsPlain, PutsStmt, PutsApart, PutsBranches}
use Rattle.ec_simple.proofs.puts.Behind.{more_more, more_none, more_then, code_behind}
use Rattle.ec_types.specs.Meaning.Tree.{Stmt, otherwise}

-- ---- one statement behind other code

-- code and temporaries of one part, and a statement
pub one_behind :
    (old mid new code : Code) (x y : SStmt) → mid ≡ old ++ code → x ≡ y → new ≡ mid ++ x ∷ [] → new ≡ old ++ (code ++ y ∷ [])
one_behind old mid new code x y m e n =
    n ∙ ap (λ z. z ++ x ∷ []) m ∙ append_assoc old code (x ∷ []) ∙ ap (λ z. old ++ (code ++ z ∷ [])) e

pub value_puts :
    (a : Low) (x : ℕ → SStmt) (stmt : SStmt) (old mid new : Code) (vold vnew : Vars) (y : ℕ) →
    Puts a old mid vold vnew y → stmt ≡ x a.to → new ≡ mid ++ stmt ∷ [] → PutsPlain (with_value a x) old new vold vnew
value_puts a x stmt old mid new vold vnew y h e n = (one_behind old mid new a.code stmt (x a.to) h.0 e n, h.1)

-- two parts, and a statement
pub two_behind :
    (old mid last new a b : Code) (x y : SStmt) → mid ≡ old ++ a → last ≡ mid ++ b → x ≡ y → new ≡ last ++ x ∷ [] → new ≡ old ++ ((a ++ b) ++ y ∷ [])
two_behind old mid last new a b x y m l e n =
    one_behind mid last new b x y l e n ∙ ap (λ z. z ++ (b ++ y ∷ [])) m ∙ append_assoc old a (b ++ y ∷ [])
    ∙ ap (λ z. old ++ z) (sym (append_assoc a b (y ∷ [])))

pub two_put :
    (a : Low) (low : ℕ → Low) (x : ℕ → ℕ → SStmt) (old mid last new : Code) (vold vmid vnew : Vars) (y z : ℕ) →
    Puts a old mid vold vmid y → Puts (low vmid.next) mid last vmid vnew z → new ≡ last ++ x y z ∷ [] →
    PutsPlain (with_two a (low (vold.next + length a.vars)) x) old new vold vnew
two_put a low x old mid last new vold vmid vnew y z h k n =
    let next : vmid.next ≡ vold.next + length a.vars = ap (λ v. v.next) h.1 in
    let b = low (vold.next + length a.vars) in
    let m : Puts b mid last vmid vnew z = subst (λ t. Puts (low t) mid last vmid vnew z) next k in (
      two_behind old mid last new a.code b.code (x y z) (x a.to b.to) h.0 m.0
          (ap (λ w. x w z) h.2 ∙ ap (x a.to) m.2) n,
      more_then vold vmid vnew a.vars b.vars h.1 m.1,
    )

-- ---- what a statement puts that stands for another

pub stands_for :
    {E : Type 0} (r : Result (Unit {0}) E) (c : Scope) (x y : Stmt) (old new : Code) (vold vnew : Vars) (fold fnew : Funcs) → x ≡ y →
    OnOk r (PutsStmt (low_stmt c y vold.next fold.next) old new vold vnew fold fnew) →
    OnOk r (PutsStmt (low_stmt c x vold.next fold.next) old new vold vnew fold fnew)
stands_for r c x y old new vold vnew fold fnew e h =
    subst (λ z. OnOk r (PutsStmt (low_stmt c z vold.next fold.next) old new vold vnew fold fnew)) (sym e) h

-- ---- one after the other

-- nothing
pub nothing_puts : (old : Code) (vold : Vars) (fold : Funcs) → PutsStmt nothing old old vold vold fold fold
nothing_puts old vold fold = (sym (append-nil old), more_none vold, more_none fold)

-- declarations, which become no functions, and then statements
pub block_puts :
    {E : Type 0} (r : Result (Unit {0}) E) (a : LowStmt) (low : ℕ → LowStmt) (old mid new : Code) (vold vmid vnew : Vars) (fold fnew : Funcs) →
    a.funcs ≡ [] → PutsPlain a old mid vold vmid → OnOk r (PutsStmt (low vmid.next) mid new vmid vnew fold fnew) →
    OnOk r (PutsStmt (joined a (low (vold.next + length a.vars))) old new vold vnew fold fnew)
block_puts (Ok u) a low old mid new vold vmid vnew fold fnew e h k =
    let b = low (vold.next + length a.vars) in
    let next : vmid.next ≡ vold.next + length a.vars = ap (λ v. v.next) h.1 in
    let m : PutsStmt b mid new vmid vnew fold fnew = subst (λ t. PutsStmt (low t) mid new vmid vnew fold fnew) next k in (
      code_behind old mid new vold vmid vnew a.code b.code [] [] h.0 m.0,
      more_then vold vmid vnew a.vars b.vars h.1 m.1,
      m.2 ∙ ap (λ z. more fold (z ++ b.funcs)) (sym e),
    )
block_puts (Err u) a low old mid new vold vmid vnew fold fnew e h k = tt

-- what has been put and what the rest puts, together, are what all of them put
abbrev pub Goes : LowStmt → Code → Vars → Funcs → LowStmt → Code → Vars → Funcs → Type 0
Goes rest code vars funcs whole old vold fold =
    (code ++ rest.code ≡ old ++ whole.code) × (more vars rest.vars ≡ more vold whole.vars) × (more funcs rest.funcs ≡ more fold whole.funcs)

pub goes_on :
    (x : LowStmt) (low : ℕ → ℕ → LowStmt) (rest whole : LowStmt) (old code new : Code) (vold vars vnew : Vars) (fold funcs fnew : Funcs) →
    rest ≡ joined x (low (vars.next + length x.vars) (funcs.next + length x.funcs)) → PutsStmt x code new vars vnew funcs fnew →
    Goes rest code vars funcs whole old vold fold → Goes (low vnew.next fnew.next) new vnew fnew whole old vold fold
goes_on x low rest whole old code new vold vars vnew fold funcs fnew e h g =
    let b = low (vars.next + length x.vars) (funcs.next + length x.funcs) in
    let next : vnew.next ≡ vars.next + length x.vars = ap (λ v. v.next) h.1 in
    let number : fnew.next ≡ funcs.next + length x.funcs = ap (λ v. v.next) h.2 in
    let same : low vnew.next fnew.next ≡ b =
    ap (λ t. low t fnew.next) next ∙ ap (low (vars.next + length x.vars)) number in (
      ap (λ l. new ++ l.code) same ∙ ap (λ z. z ++ b.code) h.0 ∙ append_assoc code x.code b.code
          ∙ ap (λ l. code ++ l.code) (sym e) ∙ g.0,
      ap (λ l. more vnew l.vars) same ∙ ap (λ z. more z b.vars) h.1 ∙ more_more vars x.vars b.vars
          ∙ ap (λ l. more vars l.vars) (sym e) ∙ g.1,
      ap (λ l. more fnew l.funcs) same ∙ ap (λ z. more z b.funcs) h.2 ∙ more_more funcs x.funcs b.funcs
          ∙ ap (λ l. more funcs l.funcs) (sym e) ∙ g.2,
    )

pub goes_ends :
    (rest whole : LowStmt) (old code : Code) (vold vars : Vars) (fold funcs : Funcs) →
    rest ≡ nothing → Goes rest code vars funcs whole old vold fold → PutsStmt whole old code vold vars fold funcs
goes_ends rest whole old code vold vars fold funcs e g = (
  sym (append-nil code) ∙ ap (λ l. code ++ l.code) (sym e) ∙ g.0,
  more_none vars ∙ ap (λ l. more vars l.vars) (sym e) ∙ g.1,
  more_none funcs ∙ ap (λ l. more funcs l.funcs) (sym e) ∙ g.2,
)

-- one more of several
pub one_more :
    {A : Type 0} (xs : List A) (i at : ℕ) (x : A) → suc i ≡ at → i < length xs → x ≡ get_or xs i x →
    drop i xs ≡ x ∷ drop at xs
one_more xs i at x later h is =
    drop-cons xs i x h ∙ ap (λ y. y ∷ drop (suc i) xs) (sym is) ∙ ap (λ n. x ∷ drop n xs) later

-- ---- branches

abbrev pub GoesOn : LowBranches → List SBranch → Vars → Funcs → LowBranches → Vars → Funcs → Type 0
GoesOn rest branches vars funcs whole vold fold =
    (branches ++ rest.branches ≡ whole.branches) × (more vars rest.vars ≡ more vold whole.vars) × (more funcs rest.funcs ≡ more fold whole.funcs)

pub branches_go_on :
    (x : LowBranches) (low : ℕ → ℕ → LowBranches) (rest whole : LowBranches) (b : SBranch) (branches now : List SBranch) (vold vars vnew : Vars) (fold funcs fnew : Funcs) →
    rest ≡ more_branches x (low (vars.next + length x.vars) (funcs.next + length x.funcs)) → PutsBranches x (b ∷ []) vars vnew funcs fnew →
    now ≡ branches ++ b ∷ [] → GoesOn rest branches vars funcs whole vold fold → GoesOn (low vnew.next fnew.next) now vnew fnew whole vold fold
branches_go_on x low rest whole b branches now vold vars vnew fold funcs fnew e h n g =
    let l = low (vars.next + length x.vars) (funcs.next + length x.funcs) in
    let next : vnew.next ≡ vars.next + length x.vars = ap (λ v. v.next) h.1 in
    let number : fnew.next ≡ funcs.next + length x.funcs = ap (λ v. v.next) h.2 in
    let same : low vnew.next fnew.next ≡ l =
    ap (λ t. low t fnew.next) next ∙ ap (low (vars.next + length x.vars)) number in (
      ap (λ z. now ++ z.branches) same ∙ ap (λ z. z ++ l.branches) (n ∙ ap (λ z. branches ++ z) h.0)
          ∙ append_assoc branches x.branches l.branches ∙ ap (λ z. branches ++ z.branches) (sym e) ∙ g.0,
      ap (λ z. more vnew z.vars) same ∙ ap (λ z. more z l.vars) h.1 ∙ more_more vars x.vars l.vars
          ∙ ap (λ z. more vars z.vars) (sym e) ∙ g.1,
      ap (λ z. more fnew z.funcs) same ∙ ap (λ z. more z l.funcs) h.2 ∙ more_more funcs x.funcs l.funcs
          ∙ ap (λ z. more funcs z.funcs) (sym e) ∙ g.2,
    )

abbrev pub no_branches : LowBranches
no_branches = record { branches = []; vars = []; funcs = [] }

pub branches_end :
    (rest whole : LowBranches) (branches : List SBranch) (vold vars : Vars) (fold funcs : Funcs) →
    rest ≡ no_branches → GoesOn rest branches vars funcs whole vold fold → PutsBranches whole branches vold vars fold funcs
branches_end rest whole branches vold vars fold funcs e g = (
  sym (append-nil branches) ∙ ap (λ l. branches ++ l.branches) (sym e) ∙ g.0,
  more_none vars ∙ ap (λ l. more vars l.vars) (sym e) ∙ g.1,
  more_none funcs ∙ ap (λ l. more funcs l.funcs) (sym e) ∙ g.2,
)

abbrev par_low : Span → LowBranches → LowStmt
par_low at l = record { code = s.Par at l.branches ∷ []; vars = l.vars; funcs = l.funcs }

pub par_puts :
    {E : Type 0} (r : Result (Unit {0}) E) (at : Span) (l : LowBranches) (branches : List SBranch) (old new : Code) (vold vnew : Vars) (fold fnew : Funcs) →
    PutsBranches l branches vold vnew fold fnew → OnOk r (new ≡ old ++ s.Par at branches ∷ []) →
    OnOk r (PutsStmt (par_low at l) old new vold vnew fold fnew)
par_puts (Err u) at l branches old new vold vnew fold fnew h n = tt
par_puts (Ok u) at l branches old new vold vnew fold fnew h n = (n ∙ ap (λ z. old ++ s.Par at z ∷ []) h.0, h.1, h.2)

-- ---- tests and loops

abbrev if_low : Low → LowStmt → LowStmt → LowStmt
if_low a x z = record {
  code = a.code ++ s.If a.to x.code z.code ∷ [];
  vars = a.vars ++ x.vars ++ z.vars;
  funcs = x.funcs ++ z.funcs;
}

abbrev while_low : Low → LowStmt → LowStmt
while_low a x = record { code = s.Loop a.code a.to x.code ∷ []; vars = a.vars ++ x.vars; funcs = x.funcs }

module _ (a : Low) (low : ℕ → ℕ → LowStmt) (old mid new : Code) (vold vmid : Vars) (fold : Funcs) (y : ℕ) where
  apart :
      (code : Code) (vlast : Vars) (flast : Funcs) → vmid ≡ more vold a.vars → PutsApart (low vmid.next fold.next) code vmid vlast fold flast →
      PutsApart (low (vold.next + length a.vars) fold.next) code vmid vlast fold flast
  apart code vlast flast h k =
      let next : vmid.next ≡ vold.next + length a.vars = ap (λ v. v.next) h in
      subst (λ t. PutsApart (low t fold.next) code vmid vlast fold flast) next k

  pub while_puts :
      {E : Type 0} (r : Result (Unit {0}) E) (start before inside : Code) (vnew : Vars) (fnew : Funcs) → start ≡ [] → Puts a start before vold vmid y →
      PutsApart (low vmid.next fold.next) inside vmid vnew fold fnew → OnOk r (new ≡ old ++ s.Loop before y inside ∷ []) →
      OnOk r (PutsStmt (while_low a (low (vold.next + length a.vars) fold.next)) old new vold vnew fold fnew)
  while_puts (Err u) start before inside vnew fnew e h k n = tt
  while_puts (Ok u) start before inside vnew fnew e h k n =
      let l = low (vold.next + length a.vars) fold.next in
      let m = apart inside vnew fnew h.1 k in (
        n ∙ ap (λ z. old ++ s.Loop z y inside ∷ []) (h.0 ∙ ap (λ z. z ++ a.code) e) ∙ ap (λ z. old ++ s.Loop a.code z inside ∷ []) h.2
            ∙ ap (λ z. old ++ s.Loop a.code a.to z ∷ []) m.0,
        more_then vold vmid vnew a.vars l.vars h.1 m.1,
        m.2,
      )

  pub if_puts :
      {E : Type 0} (r : Result (Unit {0}) E) (other : ℕ → ℕ → LowStmt) (first second : Code) (vlast vnew : Vars) (flast fnew : Funcs) → Puts a old mid vold vmid y →
      PutsApart (low vmid.next fold.next) first vmid vlast fold flast → PutsApart (other vlast.next flast.next) second vlast vnew flast fnew →
      OnOk r (new ≡ mid ++ s.If y first second ∷ []) →
      OnOk r (PutsStmt (if_low a (low (vold.next + length a.vars) fold.next)
      (other (vold.next + length a.vars + length (low (vold.next + length a.vars) fold.next).vars)
      (fold.next + length (low (vold.next + length a.vars) fold.next).funcs)))
      old new vold vnew fold fnew)
  if_puts (Err u) other first second vlast vnew flast fnew h k q n = tt
  if_puts (Ok u) other first second vlast vnew flast fnew h k q n =
      let l = low (vold.next + length a.vars) fold.next in
      let m = apart first vlast flast h.1 k in
      let next : vlast.next ≡ vold.next + length a.vars + length l.vars =
      ap (λ v. v.next) m.1 ∙ ap (λ v. v.next + length l.vars) h.1 in
      let number : flast.next ≡ fold.next + length l.funcs = ap (λ v. v.next) m.2 in
      let o = other (vold.next + length a.vars + length l.vars) (fold.next + length l.funcs) in
      let there = subst (λ t. PutsApart (other t flast.next) second vlast vnew flast fnew) next q in
      let p : PutsApart o second vlast vnew flast fnew =
      subst (λ g. PutsApart (other (vold.next + length a.vars + length l.vars) g) second vlast vnew flast fnew) number there in
      let is : s.If y first second ≡ s.If a.to l.code o.code =
      ap (λ z. s.If z first second) h.2 ∙ ap (λ z. s.If a.to z second) m.0 ∙ ap (s.If a.to l.code) p.0 in (
        one_behind old mid new a.code (s.If y first second) (s.If a.to l.code o.code) h.0 is n,
        more_then vold vlast vnew (a.vars ++ l.vars) o.vars (more_then vold vmid vlast a.vars l.vars h.1 m.1) p.1,
        more_then fold flast fnew l.funcs o.funcs m.2 p.2,
      )

-- the header's first part, its test, the body, and its last part
module _ (a b : ℕ → LowStmt) (test : ℕ → Low) (low : ℕ → ℕ → LowStmt) (vold : Vars) (fold : Funcs) where
  abbrev low_first : LowStmt
  low_first = a vold.next

  abbrev low_test : Low
  low_test = test (vold.next + length low_first.vars)

  abbrev low_body : LowStmt
  low_body = low (vold.next + length low_first.vars + length low_test.vars) fold.next

  abbrev low_last : LowStmt
  low_last = b (vold.next + length low_first.vars + length low_test.vars + length low_body.vars)

  pub for_puts :
      {E : Type 0} (r : Result (Unit {0}) E) (old mid new start before inside last : Code) (v1 v2 v3 vnew : Vars) (fnew : Funcs) (y : ℕ) →
      PutsPlain (a vold.next) old mid vold v1 → start ≡ [] → Puts (test v1.next) start before v1 v2 y →
      PutsApart (low v2.next fold.next) inside v2 v3 fold fnew → PutsPlain (b v3.next) inside last v3 vnew →
      OnOk r (new ≡ mid ++ s.Loop before y last ∷ []) →
      OnOk r (PutsStmt (for_loop low_first low_test low_body low_last) old new vold vnew fold fnew)
  for_puts (Err u) old mid new start before inside last v1 v2 v3 vnew fnew y h e k m p n = tt
  for_puts (Ok u) old mid new start before inside last v1 v2 v3 vnew fnew y h e k m p n =
      let la = low_first in
      let lt = low_test in
      let lx = low_body in
      let lb = low_last in
      let n1 : v1.next ≡ vold.next + length la.vars = ap (λ v. v.next) h.1 in
      let k' : Puts lt start before v1 v2 y = subst (λ t. Puts (test t) start before v1 v2 y) n1 k in
      let n2 : v2.next ≡ vold.next + length la.vars + length lt.vars =
      ap (λ v. v.next) k'.1 ∙ ap (λ t. t + length lt.vars) n1 in
      let m' : PutsApart lx inside v2 v3 fold fnew = subst (λ t. PutsApart (low t fold.next) inside v2 v3 fold fnew) n2 m in
      let n3 : v3.next ≡ vold.next + length la.vars + length lt.vars + length lx.vars =
      ap (λ v. v.next) m'.1 ∙ ap (λ t. t + length lx.vars) n2 in
      let p' : PutsPlain lb inside last v3 vnew = subst (λ t. PutsPlain (b t) inside last v3 vnew) n3 p in
      let is : s.Loop before y last ≡ s.Loop lt.code lt.to (lx.code ++ lb.code) =
      ap (λ z. s.Loop z y last) (k'.0 ∙ ap (λ z. z ++ lt.code) e) ∙ ap (λ z. s.Loop lt.code z last) k'.2
      ∙ ap (s.Loop lt.code lt.to) (p'.0 ∙ ap (λ z. z ++ lb.code) m'.0) in (
        one_behind old mid new la.code (s.Loop before y last) (s.Loop lt.code lt.to (lx.code ++ lb.code)) h.0 is n,
        more_then vold v3 vnew (la.vars ++ lt.vars ++ lx.vars) lb.vars
            (more_then vold v2 v3 (la.vars ++ lt.vars) lx.vars (more_then vold v1 v2 la.vars lt.vars h.1 k'.1) m'.1) p'.1,
        m'.2,
      )

-- ---- code apart

pub apart_puts :
    (l : LowStmt) (start code : Code) (vold vnew : Vars) (fold fnew : Funcs) → start ≡ [] →
    PutsStmt l start code vold vnew fold fnew → PutsApart l code vold vnew fold fnew
apart_puts l start code vold vnew fold fnew e h = (h.0 ∙ ap (λ z. z ++ l.code) e, h.1, h.2)

pub no_else :
    (c : Scope) (o : Option Stmt) (code : Code) (vars : Vars) (funcs : Funcs) → o ≡ None → code ≡ [] →
    PutsApart (low_else c (otherwise o) vars.next funcs.next) code vars vars funcs funcs
no_else c o code vars funcs e n =
    subst (λ z. PutsApart (low_else c (otherwise z) vars.next funcs.next) code vars vars funcs funcs) (sym e)
    (n, more_none vars, more_none funcs)

pub some_else :
    {E : Type 0} (r : Result Code E) (c : Scope) (o : Option Stmt) (x : Stmt) (vold vnew : Vars) (fold fnew : Funcs) → o ≡ Some x →
    IfOk r (λ code. PutsApart (low_stmt c x vold.next fold.next) code vold vnew fold fnew) →
    IfOk r (λ code. PutsApart (low_else c (otherwise o) vold.next fold.next) code vold vnew fold fnew)
some_else r c o x vold vnew fold fnew e h =
    subst (λ z. IfOk r (λ code. PutsApart (low_else c (otherwise z) vold.next fold.next) code vold vnew fold fnew)) (sym e) h
