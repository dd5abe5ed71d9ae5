-- The code of expressions, assignments and declarations prints nothing and starts no branches, so it keeps the counts.
use Rattle.std.proofs.Common.{◌≡◌, refl, ap, ◌∙◌, ℕ, suc, ◌+◌, Bool, true, false, not, ◌&&◌, ◌||◌, if◌then◌else◌, List, [], ◌∷◌, ◌++◌, length, map, Option, Some, None, ℤ, pos}
use Rattle.std.specs.List.{list_all}
use Rattle.std.proofs.lemmas.List.Folds.{list_all-map}
use Rattle.ec_base.specs.declared.operator.BinOp.{BinOp}
use Rattle.ec_base.specs.declared.operator.BinOp.TheVariants.{Eq, Ne}
use Rattle.ec_base.specs.declared.text.Text.{Text}
use Rattle.ec_base.specs.declared.token.Span.{Span}
use Rattle.ec_simple.specs.declared.form.SBranch.{SBranch}
use Rattle.ec_simple.specs.declared.form.SBranch as b
use Rattle.ec_simple.specs.declared.form.SCall.{SCall}
use Rattle.ec_simple.specs.declared.form.SExpr.{SExpr}
use Rattle.ec_simple.specs.declared.form.SExpr.TheVariants as e
use Rattle.ec_simple.specs.declared.form.SForall.{SForall}
use Rattle.ec_simple.specs.declared.form.SForall as f
use Rattle.ec_simple.specs.declared.form.SPlaceOf.{SPlaceOf}
use Rattle.ec_simple.specs.declared.form.SStmt.{SStmt}
use Rattle.ec_simple.specs.declared.form.SStmt.TheFolds.{the_lemmas as folds}
use Rattle.ec_simple.specs.declared.form.SStmt.TheOpen.{SStmt-F}
use Rattle.ec_simple.specs.declared.form.SStmt.TheVariants as s
use Rattle.ec_simple.specs.declared.form.VarUse.{VarUse}
use Rattle.ec_simple.specs.Counts.{all_keep, keeps_in, keeps_in_branch, keeps_in_forall, keeps, few_arguments}
use Rattle.ec_simple.specs.Expressions.{Code, Scope, Low, variable_at, function_at, points, temporary, ends, truth, decided, binary, passed, low, low_part, low_place, low_call, low_list}
use Rattle.ec_simple.specs.Statements.{unused, first, low_assignment, low_optional, low_declaration, low_declarations, low_evaluated}
use Rattle.ec_simple.specs.Uses.{member}
use Rattle.ec_simple.proofs.formed.Code.{both_true}
use Rattle.ec_simple.proofs.formed.Tests.{three, all_both, all_one}
use Rattle.ec_types.specs.Meaning.Tree.{Expr, Number, Nil, Var, Unary, Binary, And, Or, Load, Called, New, ValueOf, Part, Missing, Given, Place, Element, Behind, Field, Item, Invocation, Invoke, Exprs, Last, Arg, OnThis, OnOwner, OnHome, OnNode, OnAny, Assignment, SetVar, Store, Copy, Decl, Plain, Shared}

-- no statement of the code has too much
abbrev pub Keeps : Code → Type 0
Keeps code = list_all keeps code ≡ true

-- ---- which statements keep the counts

abbrev Is : SStmt → SStmt-F Bool Bool Bool → Type 0
Is x y = keeps x ≡ keeps_in y

abbrev pub branch_keeps : SBranch → Bool
branch_keeps = b.fold-SBranch Bool Bool Bool keeps_in keeps_in_branch keeps_in_forall

abbrev forall_keeps : SForall → Bool
forall_keeps = f.fold-SForall Bool Bool Bool keeps_in keeps_in_branch keeps_in_forall

pub set_keeps : (x : ℕ) (v : SExpr) → Is (s.Set x v) (SStmt-F.Set x v)
set_keeps x v = search folds

load_keeps : (x : ℕ) (a : SPlaceOf) → Is (s.Load x a) (SStmt-F.Load x a)
load_keeps x a = search folds

store_keeps : (a : SPlaceOf) (x : ℕ) → Is (s.Store a x) (SStmt-F.Store a x)
store_keeps a x = search folds

copy_keeps : (a b : SPlaceOf) → Is (s.Copy a b) (SStmt-F.Copy a b)
copy_keeps a b = search folds

new_keeps : (x shape count : ℕ) (at : Span) → Is (s.New x shape count at) (SStmt-F.New x shape count at)
new_keeps x shape count at = search folds

share_keeps : (x : ℕ) (at : Span) → Is (s.Share x at) (SStmt-F.Share x at)
share_keeps x at = search folds

read_keeps : (p x : ℕ) (at : Span) → Is (s.Read p x at) (SStmt-F.Read p x at)
read_keeps p x at = search folds

pub write_keeps : (p x : ℕ) (at : Span) → Is (s.Write p x at) (SStmt-F.Write p x at)
write_keeps p x at = search folds

pub add_keeps : (p x : ℕ) (at : Span) → Is (s.Add p x at) (SStmt-F.Add p x at)
add_keeps p x at = search folds

call_keeps : (c : SCall) → Is (s.Call c) (SStmt-F.Call c)
call_keeps c = search folds

pub return_keeps : (x : Option ℕ) → Is (s.Return x) (SStmt-F.Return x)
return_keeps x = search folds

pub print_is : (string : Text) (xs : List ℕ) → Is (s.Print string xs) (SStmt-F.Print string xs)
print_is string xs = search folds

if_is : (x : ℕ) (a b : Code) → Is (s.If x a b) (SStmt-F.If x (map keeps a) (map keeps b))
if_is x a b = search folds

loop_is : (before : Code) (x : ℕ) (body : Code) →
    Is (s.Loop before x body) (SStmt-F.Loop (map keeps before) x (map keeps body))
loop_is before x body = search folds

pub par_is : (at : Span) (bs : List SBranch) → Is (s.Par at bs) (SStmt-F.Par at (map branch_keeps bs))
par_is at bs = search folds

forall_is : (x : SForall) → Is (s.Forall x) (SStmt-F.Forall (forall_keeps x))
forall_is x = search folds

branch_is : (before : Code) (c : SCall) →
    branch_keeps (record { before = before; call = c }) ≡ all_keep (map keeps before)
branch_is before c = search folds

header_is : (at : Span) (x : ℕ) (init before : Code) (test : ℕ) (step : Code) (body : SCall) (counted : Bool)
    (reads writes : List VarUse) →
    forall_keeps (record {
      at = at;
      var = x;
      init = init;
      before = before;
      test = test;
      step = step;
      body = body;
      counted = counted;
      reads = reads;
      writes = writes;
    })
    ≡ (all_keep (map keeps init) && all_keep (map keeps before) && all_keep (map keeps step))
header_is at x init before test step body counted reads writes = search folds

-- ---- code, one after another

pub keeps_both : (a b : Code) → Keeps a → Keeps b → Keeps (a ++ b)
keeps_both a b h i = all_both keeps a b h i

pub keeps_one : (x : SStmt) → keeps x ≡ true → Keeps (x ∷ [])
keeps_one x h = all_one keeps x h

pub keeps_last : (a : Code) (x : SStmt) → Keeps a → keeps x ≡ true → Keeps (a ++ x ∷ [])
keeps_last a x h i = keeps_both a (x ∷ []) h (keeps_one x i)

-- ---- statements with code in them

all_kept : (a : Code) → Keeps a → all_keep (map keeps a) ≡ true
all_kept a h = list_all-map (λ x. x) keeps a ∙ h

pub if_keeps : (x : ℕ) (a b : Code) → Keeps a → Keeps b → keeps (s.If x a b) ≡ true
if_keeps x a b h i = if_is x a b ∙ both_true _ _ (all_kept a h) (all_kept b i)

pub loop_keeps : (before : Code) (x : ℕ) (body : Code) → Keeps before → Keeps body → keeps (s.Loop before x body) ≡ true
loop_keeps before x body h i = loop_is before x body ∙ both_true _ _ (all_kept before h) (all_kept body i)

pub call_branch_keeps : (before : Code) (c : SCall) → Keeps before →
    branch_keeps (record { before = before; call = c }) ≡ true
call_branch_keeps before c h = branch_is before c ∙ all_kept before h

pub header_keeps : (x : SForall) → Keeps x.init → Keeps x.before → Keeps x.step → keeps (s.Forall x) ≡ true
header_keeps x h i j =
    forall_is x
    ∙ (header_is x.at x.var x.init x.before x.test x.step x.body x.counted x.reads x.writes
    ∙ three _ _ _ (all_kept x.init h) (all_kept x.before i) (all_kept x.step j))

-- ---- expressions

truth_keeps : (x : ℕ) (n : ℤ) → Keeps (truth x n)
truth_keeps x n = keeps_one (s.Set x (e.Number n)) (set_keeps x (e.Number n))

decided_keeps : (x : ℕ) (l : Low) → Keeps l.code → Keeps (decided x l)
decided_keeps x l h =
    keeps_last l.code (s.If l.to (truth x (pos 1)) (truth x (pos 0))) h
    (if_keeps l.to (truth x (pos 1)) (truth x (pos 0)) (truth_keeps x (pos 1)) (truth_keeps x (pos 0)))

binary_keeps : (p : Bool) (t : ℕ) (at : Span) (op : BinOp) (a b : Low) → Keeps a.code → Keeps b.code →
    Keeps (binary p t at op a b).code
binary_keeps true t at Eq a b h i = keeps_last (a.code ++ b.code) _ (keeps_both a.code b.code h i) (set_keeps _ _)
binary_keeps true t at Ne a b h i =
    keeps_last ((a.code ++ b.code) ++ _ ∷ []) _
    (keeps_last (a.code ++ b.code) _ (keeps_both a.code b.code h i) (set_keeps _ _)) (set_keeps _ _)
binary_keeps true t at op a b h i = keeps_last (a.code ++ b.code) _ (keeps_both a.code b.code h i) (set_keeps _ _)
binary_keeps false t at op a b h i = keeps_last (a.code ++ b.code) _ (keeps_both a.code b.code h i) (set_keeps _ _)

module _ (c : Scope) where
  passed_keeps : (a : Expr) (t : ℕ) (l : Low) → Keeps l.code → Keeps (passed c a t l).code
  passed_keeps (Var at y) t l h = go ((variable_at c y).shared && not (member y c.params))
    where
      go : (b : Bool) →
          Keeps (if b then ends t l.code l.vars (temporary at (Some 0)) (λ z. s.Set z (e.Var l.to)) else l).code
      go true = keeps_last l.code _ h (set_keeps (t + length l.vars) (e.Var l.to))
      go false = h
  passed_keeps a t l h = h

  mutual
    pub value_keeps : (a : Expr) (t : ℕ) → Keeps (low c a t).code
    value_keeps (Number at n) t = keeps_one _ (set_keeps (t + 0) (e.Number n))
    value_keeps (Nil at) t = keeps_one _ (set_keeps (t + 0) e.Null)
    value_keeps (Var at y) t = refl
    value_keeps (Unary at op a) t =
        let l = low c a t in keeps_last l.code _ (value_keeps a t) (set_keeps (t + length l.vars) _)
    value_keeps (Binary at op a b) t =
        let la = low c a t in let u = t + length la.vars in
        binary_keeps (points c a || points c b) t at op la (low c b u) (value_keeps a t) (value_keeps b u)
    value_keeps (And at a b) t =
        let la = low c a t in let u = t + length la.vars in let lb = low c b u in
        let n = length (la.vars ++ lb.vars) in
        keeps_last la.code (s.If la.to (decided (t + n) lb) (truth (t + n) (pos 0))) (value_keeps a t)
        (if_keeps la.to (decided (t + n) lb) (truth (t + n) (pos 0)) (decided_keeps (t + n) lb (value_keeps b u))
        (truth_keeps (t + n) (pos 0)))
    value_keeps (Or at a b) t =
        let la = low c a t in let u = t + length la.vars in let lb = low c b u in
        let n = length (la.vars ++ lb.vars) in
        keeps_last la.code (s.If la.to (truth (t + n) (pos 1)) (decided (t + n) lb)) (value_keeps a t)
        (if_keeps la.to (truth (t + n) (pos 1)) (decided (t + n) lb) (truth_keeps (t + n) (pos 1))
        (decided_keeps (t + n) lb (value_keeps b u)))
    value_keeps (Load q p) t =
        let l = low_place c p t in
        keeps_last l.code _ (place_keeps p t) (load_keeps (t + length l.vars) l.place)
    value_keeps (Called (Invoke at f es q)) t =
        let l = low_call c (Invoke at f es q) t in
        keeps_last l.code _ (invoked_keeps (Invoke at f es q) t) (call_keeps _)
    value_keeps (New at shape element count) t =
        let l = low_part c at (pos 1) count t in
        keeps_last l.code _ (part_keeps at (pos 1) count t) (new_keeps (t + length l.vars) shape l.to at)
    value_keeps (ValueOf at a) t =
        let l = low c a t in
        keeps_last l.code _ (value_keeps a t) (read_keeps l.to (t + length l.vars) at)

    pub part_keeps : (at : Span) (n : ℤ) (a : Part) (t : ℕ) → Keeps (low_part c at n a t).code
    part_keeps at n Missing t = keeps_one _ (set_keeps (t + 0) (e.Number n))
    part_keeps at n (Given a) t = value_keeps a t

    place_keeps : (p : Place) (t : ℕ) → Keeps (low_place c p t).code
    place_keeps (Element at size base index) t =
        let l = low c base t in let u = t + length l.vars in
        keeps_both l.code (low_part c at (pos 0) index u).code (value_keeps base t) (part_keeps at (pos 0) index u)
    place_keeps (Behind at size f base) t =
        let l = low c base t in let u = t + length l.vars in
        keeps_last l.code _ (value_keeps base t) (set_keeps (u + 0) (e.Number (pos 0)))
    place_keeps (Field at f p) t = place_keeps p t
    place_keeps (Item at p index) t =
        let l = low_place c p t in let u = t + length l.vars in
        keeps_both l.code (low c index u).code (place_keeps p t) (value_keeps index u)

    pub invoked_keeps : (i : Invocation) (t : ℕ) → Keeps (low_call c i t).code
    invoked_keeps (Invoke at f es OnThis) t = list_keeps es t
    invoked_keeps (Invoke at f es (OnOwner a)) t =
        let l = low_list c es t in let u = t + length l.vars in
        keeps_both l.code (low c a u).code (list_keeps es t) (value_keeps a u)
    invoked_keeps (Invoke at f es OnHome) t = list_keeps es t
    invoked_keeps (Invoke at f es (OnNode a)) t =
        let l = low_list c es t in let u = t + length l.vars in
        keeps_both l.code (low c a u).code (list_keeps es t) (value_keeps a u)
    invoked_keeps (Invoke at f es OnAny) t = list_keeps es t

    pub list_keeps : (es : Exprs) (t : ℕ) → Keeps (low_list c es t).code
    list_keeps Last t = refl
    list_keeps (Arg a es) t =
        let l = passed c a t (low c a t) in let u = t + length l.vars in
        keeps_both l.code (low_list c es u).code (passed_keeps a t (low c a t) (value_keeps a t)) (list_keeps es u)

  -- as many values as arguments
  pub list_length : (es : Exprs) (t : ℕ) → length (low_list c es t).to ≡ few_arguments es
  list_length Last t = refl
  list_length (Arg a es) t =
      let l = passed c a t (low c a t) in ap suc (list_length es (t + length l.vars))

  -- ---- assignments and declarations

  pub assignment_keeps : (a : Assignment) (t : ℕ) → Keeps (low_assignment c a t).code
  assignment_keeps (SetVar at x a) t = keeps_last (low c a t).code _ (value_keeps a t) (set_keeps (c.place x) _)
  assignment_keeps (Store p a) t =
      let l = low_place c p t in let la = low c a (t + length l.vars) in
      keeps_last (l.code ++ la.code) _
      (keeps_both l.code la.code (place_keeps p t) (value_keeps a (t + length l.vars))) (store_keeps l.place la.to)
  assignment_keeps (Copy p q) t =
      let l = low_place c p t in let m = low_place c q (t + length l.vars) in
      keeps_last (l.code ++ m.code) _
      (keeps_both l.code m.code (place_keeps p t) (place_keeps q (t + length l.vars))) (copy_keeps l.place m.place)

  pub optional_keeps : (a : Option Assignment) (t : ℕ) → Keeps (low_optional c a t).code
  optional_keeps None t = refl
  optional_keeps (Some a) t = assignment_keeps a t

  declaration_keeps : (d : Decl) (t : ℕ) → Keeps (low_declaration c d t).code
  declaration_keeps (Plain x v Missing) t = keeps_one _ (set_keeps (c.place x) (first v))
  declaration_keeps (Plain x v (Given a)) t =
      let one = s.Set (c.place x) (first v) ∷ [] in
      keeps_both one _ (keeps_one _ (set_keeps (c.place x) (first v)))
      (keeps_last (low c a t).code _ (value_keeps a t) (set_keeps (c.place x) _))
  declaration_keeps (Shared x) t = keeps_one _ (share_keeps (c.place x) (variable_at c x).at)

  pub declarations_keep : (ds : List Decl) (t : ℕ) → Keeps (low_declarations c ds t).code
  declarations_keep [] t = refl
  declarations_keep (d ∷ ds) t =
      let l = low_declaration c d t in let u = t + length l.vars in
      keeps_both l.code (low_declarations c ds u).code (declaration_keeps d t) (declarations_keep ds u)

  -- ---- calls whose results aren't used

  pub evaluated_keeps : (i : Invocation) (t : ℕ) → Keeps (low_evaluated c i t).code
  evaluated_keeps (Invoke at f es q) t = go (function_at c f).void
    where
      go : (b : Bool) → Keeps (unused c (low_call c (Invoke at f es q) t) t b (Called (Invoke at f es q))).code
      go true =
          keeps_last (low_call c (Invoke at f es q) t).code _ (invoked_keeps (Invoke at f es q) t) (call_keeps _)
      go false = value_keeps (Called (Invoke at f es q)) t
