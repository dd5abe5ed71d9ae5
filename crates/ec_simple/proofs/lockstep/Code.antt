-- What each statement of a simple form does.
use Rattle.std.proofs.Common.{◌≡◌, ℕ, Bool, List, map, Option}
use Rattle.ec_base.specs.declared.text.Text.{Text}
use Rattle.ec_base.specs.declared.token.Span.{Span}
use Rattle.ec_simple.specs.declared.form.SBranch.{SBranch}
use Rattle.ec_simple.specs.declared.form.SCall.{SCall}
use Rattle.ec_simple.specs.declared.form.SExpr.{SExpr}
use Rattle.ec_simple.specs.declared.form.SForall.{SForall}
use Rattle.ec_simple.specs.declared.form.SPlaceOf.{SPlaceOf}
use Rattle.ec_simple.specs.declared.form.Shape.{Shape}
use Rattle.ec_simple.specs.declared.form.SBranch as b
use Rattle.ec_simple.specs.declared.form.SForall as f
use Rattle.ec_simple.specs.declared.form.SStmt.TheFolds.{the_lemmas as folds}
use Rattle.ec_simple.specs.declared.form.SStmt.TheOpen.{SStmt-F}
use Rattle.ec_simple.specs.declared.form.SStmt.TheVariants as s
use Rattle.ec_simple.specs.declared.form.SStmt.{SStmt}
use Rattle.ec_simple.specs.declared.form.VarUse.{VarUse}
use Rattle.ec_simple.specs.Meaning.{Runs, SCaller, does, of_statement, of_branch, of_forall}

module _ (shapes : List Shape) (big : Bool) (call : SCaller) (n : ℕ) where
  abbrev Is : SStmt → SStmt-F Runs Runs Runs → Type 0
  Is x y = does shapes big call n x ≡ of_statement shapes big call n y

  abbrev All : List SStmt → List Runs
  All xs = map (does shapes big call n) xs

  abbrev pub branch_does : SBranch → Runs
  branch_does = b.fold-SBranch Runs Runs Runs (of_statement shapes big call n) (of_branch shapes big call n) (of_forall shapes big call n)

  abbrev pub forall_does : SForall → Runs
  forall_does = f.fold-SForall Runs Runs Runs (of_statement shapes big call n) (of_branch shapes big call n) (of_forall shapes big call n)

  pub set_does : (x : ℕ) (v : SExpr) → Is (s.Set x v) (SStmt-F.Set x v)
  set_does x v = search folds

  pub load_does : (x : ℕ) (a : SPlaceOf) → Is (s.Load x a) (SStmt-F.Load x a)
  load_does x a = search folds

  pub store_does : (a : SPlaceOf) (x : ℕ) → Is (s.Store a x) (SStmt-F.Store a x)
  store_does a x = search folds

  pub copy_does : (a b : SPlaceOf) → Is (s.Copy a b) (SStmt-F.Copy a b)
  copy_does a b = search folds

  pub new_does : (x shape count : ℕ) (at : Span) → Is (s.New x shape count at) (SStmt-F.New x shape count at)
  new_does x shape count at = search folds

  pub share_does : (x : ℕ) (at : Span) → Is (s.Share x at) (SStmt-F.Share x at)
  share_does x at = search folds

  pub read_does : (p x : ℕ) (at : Span) → Is (s.Read p x at) (SStmt-F.Read p x at)
  read_does p x at = search folds

  pub write_does : (p x : ℕ) (at : Span) → Is (s.Write p x at) (SStmt-F.Write p x at)
  write_does p x at = search folds

  pub add_does : (p x : ℕ) (at : Span) → Is (s.Add p x at) (SStmt-F.Add p x at)
  add_does p x at = search folds

  pub call_does : (c : SCall) → Is (s.Call c) (SStmt-F.Call c)
  call_does c = search folds

  pub print_does : (string : Text) (xs : List ℕ) → Is (s.Print string xs) (SStmt-F.Print string xs)
  print_does string xs = search folds

  pub if_does : (x : ℕ) (a b : List SStmt) → Is (s.If x a b) (SStmt-F.If x (All a) (All b))
  if_does x a b = search folds

  pub loop_does : (before : List SStmt) (x : ℕ) (body : List SStmt) →
      Is (s.Loop before x body) (SStmt-F.Loop (All before) x (All body))
  loop_does before x body = search folds

  pub par_does : (at : Span) (bs : List SBranch) → Is (s.Par at bs) (SStmt-F.Par at (map branch_does bs))
  par_does at bs = search folds

  pub forall_is : (x : SForall) → Is (s.Forall x) (SStmt-F.Forall (forall_does x))
  forall_is x = search folds

  pub return_does : (x : Option ℕ) → Is (s.Return x) (SStmt-F.Return x)
  return_does x = search folds

  pub branch_is : (before : List SStmt) (c : SCall) →
      branch_does (record { before = before; call = c }) ≡ of_branch shapes big call n (record { before = All before; call = c })
  branch_is before c = search folds

  pub header_is : (at : Span) (x : ℕ) (init before : List SStmt) (test : ℕ) (step : List SStmt) (body : SCall) →
      (counted : Bool) (reads writes : List VarUse) →
      forall_does (record {
        at = at;
        var = x;
        init = init;
        before = before;
        test = test;
        step = step;
        body = body;
        counted = counted;
        reads = reads;
        writes = writes;
      })
      ≡ of_forall shapes big call n (record {
        at = at;
        var = x;
        init = All init;
        before = All before;
        test = test;
        step = All step;
        body = body;
        counted = counted;
        reads = reads;
        writes = writes;
      })
  header_is at x init before test step body counted reads writes = search folds
