-- What the form of each statement asks for, and code behind code.
use Rattle.std.proofs.Common.{◌≡◌, refl, ◌∙◌, ℕ, Bool, true, ◌&&◌, List, [], ◌∷◌, ◌++◌, map, Option}
use Rattle.std.proofs.lemmas.Bool.{and_parts}
use Rattle.ec_base.specs.declared.text.Text.{Text}
use Rattle.ec_base.specs.declared.token.Span.{Span}
use Rattle.ec_simple.specs.declared.form.SBranch.{SBranch}
use Rattle.ec_simple.specs.declared.form.SCall.{SCall}
use Rattle.ec_simple.specs.declared.form.SExpr.{SExpr}
use Rattle.ec_simple.specs.declared.form.SForall.{SForall}
use Rattle.ec_simple.specs.declared.form.SFunc.{SFunc}
use Rattle.ec_simple.specs.declared.form.SPlaceOf.{SPlaceOf}
use Rattle.ec_simple.specs.declared.form.Form.{Form}
use Rattle.ec_simple.specs.declared.form.SBranch as b
use Rattle.ec_simple.specs.declared.form.SForall as f
use Rattle.ec_simple.specs.declared.form.SStmt.TheFolds.{the_lemmas as folds}
use Rattle.ec_simple.specs.declared.form.SStmt.TheOpen.{SStmt-F}
use Rattle.ec_simple.specs.declared.form.SStmt.TheVariants as s
use Rattle.ec_simple.specs.declared.form.SStmt.{SStmt}
use Rattle.ec_simple.specs.declared.form.VarUse.{VarUse}
use Rattle.ec_simple.specs.Formed.{statement, branch, forall as header, exists, holds, is_formed, all_formed}

pub both_true : (x y : Bool) → x ≡ true → y ≡ true → (x && y) ≡ true
both_true x y p q = rw p q

module _ (form : Form) (function : SFunc) where
  abbrev pub Is : SStmt → SStmt-F Bool Bool Bool → Type 0
  Is x y = is_formed form function x ≡ statement form function y

  abbrev pub All : List SStmt → List Bool
  All xs = map (is_formed form function) xs

  abbrev pub branch_formed : SBranch → Bool
  branch_formed = b.fold-SBranch Bool Bool Bool (statement form function) (branch form function) (header form function)

  abbrev pub forall_formed : SForall → Bool
  forall_formed = f.fold-SForall Bool Bool Bool (statement form function) (branch form function) (header form function)

  pub set_formed : (x : ℕ) (v : SExpr) → Is (s.Set x v) (SStmt-F.Set x v)
  set_formed x v = search folds

  pub load_formed : (x : ℕ) (a : SPlaceOf) → Is (s.Load x a) (SStmt-F.Load x a)
  load_formed x a = search folds

  pub store_formed : (a : SPlaceOf) (x : ℕ) → Is (s.Store a x) (SStmt-F.Store a x)
  store_formed a x = search folds

  pub copy_formed : (a b : SPlaceOf) → Is (s.Copy a b) (SStmt-F.Copy a b)
  copy_formed a b = search folds

  pub new_formed : (x shape count : ℕ) (at : Span) → Is (s.New x shape count at) (SStmt-F.New x shape count at)
  new_formed x shape count at = search folds

  pub share_formed : (x : ℕ) (at : Span) → Is (s.Share x at) (SStmt-F.Share x at)
  share_formed x at = search folds

  pub read_formed : (p x : ℕ) (at : Span) → Is (s.Read p x at) (SStmt-F.Read p x at)
  read_formed p x at = search folds

  pub write_formed : (p x : ℕ) (at : Span) → Is (s.Write p x at) (SStmt-F.Write p x at)
  write_formed p x at = search folds

  pub add_formed : (p x : ℕ) (at : Span) → Is (s.Add p x at) (SStmt-F.Add p x at)
  add_formed p x at = search folds

  pub call_formed : (c : SCall) → Is (s.Call c) (SStmt-F.Call c)
  call_formed c = search folds

  pub print_formed : (string : Text) (xs : List ℕ) → Is (s.Print string xs) (SStmt-F.Print string xs)
  print_formed string xs = search folds

  pub if_formed : (x : ℕ) (a b : List SStmt) → Is (s.If x a b) (SStmt-F.If x (All a) (All b))
  if_formed x a b = search folds

  pub loop_formed : (before : List SStmt) (x : ℕ) (body : List SStmt) →
      Is (s.Loop before x body) (SStmt-F.Loop (All before) x (All body))
  loop_formed before x body = search folds

  pub par_formed : (at : Span) (bs : List SBranch) → Is (s.Par at bs) (SStmt-F.Par at (map branch_formed bs))
  par_formed at bs = search folds

  pub forall_is : (x : SForall) → Is (s.Forall x) (SStmt-F.Forall (forall_formed x))
  forall_is x = search folds

  pub return_formed : (x : Option ℕ) → Is (s.Return x) (SStmt-F.Return x)
  return_formed x = search folds

  pub branch_is : (before : List SStmt) (c : SCall) →
      branch_formed (record { before = before; call = c }) ≡ branch form function (record { before = All before; call = c })
  branch_is before c = search folds

  pub header_is : (at : Span) (x : ℕ) (init before : List SStmt) (test : ℕ) (step : List SStmt) (body : SCall) →
      (counted : Bool) (reads writes : List VarUse) →
      forall_formed (record {
        at = at;
        var = x;
        init = init;
        before = before;
        test = test;
        step = step;
        body = body;
        counted = counted;
        reads = reads;
        writes = writes;
      })
      ≡ header form function (record {
        at = at;
        var = x;
        init = All init;
        before = All before;
        test = test;
        step = All step;
        body = body;
        counted = counted;
        reads = reads;
        writes = writes;
      })
  header_is at x init before test step body counted reads writes = search folds

  -- ---- code

  pub holds_all : (xs : List SStmt) → all_formed form function xs ≡ true → holds form function (All xs) ≡ true
  holds_all [] h = refl
  holds_all (x ∷ xs) h =
      let parts = and_parts (is_formed form function x) (all_formed form function xs) h in
      both_true (is_formed form function x) (holds form function (All xs)) parts.0 (holds_all xs parts.1)

  pub formed_both : (a b : List SStmt) → all_formed form function a ≡ true → all_formed form function b ≡ true →
      all_formed form function (a ++ b) ≡ true
  formed_both [] b h i = i
  formed_both (x ∷ a) b h i =
      let parts = and_parts (is_formed form function x) (all_formed form function a) h in
      both_true (is_formed form function x) (all_formed form function (a ++ b)) parts.0 (formed_both a b parts.1 i)

  pub formed_one : (x : SStmt) → is_formed form function x ≡ true → all_formed form function (x ∷ []) ≡ true
  formed_one x h = both_true (is_formed form function x) true h refl

  pub formed_last : (a : List SStmt) (x : SStmt) → all_formed form function a ≡ true → is_formed form function x ≡ true →
      all_formed form function (a ++ x ∷ []) ≡ true
  formed_last a x h i = formed_both a (x ∷ []) h (formed_one x i)

  -- ---- tests

  pub if_holds : (x : ℕ) (a b : List SStmt) → exists form function x ≡ true → all_formed form function a ≡ true →
      all_formed form function b ≡ true → is_formed form function (s.If x a b) ≡ true
  if_holds x a b h i j =
      let there = exists form function x in
      let first = holds form function (All a) in
      if_formed x a b ∙ both_true (there && first) (holds form function (All b)) (both_true there first h (holds_all a i)) (holds_all b j)

  pub loop_holds : (before : List SStmt) (x : ℕ) (body : List SStmt) → all_formed form function before ≡ true →
      exists form function x ≡ true → all_formed form function body ≡ true →
      is_formed form function (s.Loop before x body) ≡ true
  loop_holds before x body h i j =
      let there = exists form function x in
      let first = holds form function (All before) in
      loop_formed before x body
      ∙ both_true (first && there) (holds form function (All body)) (both_true first there (holds_all before h) i) (holds_all body j)
