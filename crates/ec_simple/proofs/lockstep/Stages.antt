-- Where a statement stands: the numbers of its variables, what is in scope, and room; and what its code leaves.
use Rattle.std.proofs.Common.{◌≡◌, ◌≢◌, refl, sym, ap, ◌∙◌, subst, ℕ, ◌≤◌, ◌<◌, ◌⊎◌, inl, inr, ⊎_elim, Bool, true, false, List, [], ◌∷◌, ◌++◌, length, arith, ℤ}
use Rattle.ec_base.specs.declared.token.Span.{Span}
use Rattle.ec_simple.specs.declared.form.Form.{Form}
use Rattle.ec_simple.specs.declared.form.SCall.{SCall}
use Rattle.ec_simple.specs.declared.form.SStmt.TheOpen.{SStmt-F}
use Rattle.ec_simple.specs.declared.form.SStmt.{SStmt}
use Rattle.ec_simple.specs.Expressions.{Code, Scope, LowCall, function_at, plain_call, low, low_part, low_place, low_list, low_call}
use Rattle.ec_simple.specs.Meaning.{Runs, SCaller, run, does, of_statement, called, calls}
use Rattle.ec_simple.specs.Sound.{IsIn, IsNew, Sound, SoundPart, SoundPlace, SoundList, SoundCall}
use Rattle.ec_simple.proofs.lockstep.Alike.{GoodCalls, set_here, set_other}
use Rattle.ec_simple.proofs.lockstep.Together.{Together, together_append, together_one, together_last}
use Rattle.ec_simple.proofs.lockstep.Values.{Valued, All_valued, Reached, Gave, value_runs, part_runs, place_runs, list_runs, call_runs as call_runs_of}
use Rattle.ec_simple.proofs.lockstep.Variables.{Within, Numbers, fewer, Agrees, Keeps, agrees_kept, agrees_set, same_or_not, in_head, in_tail, head_or_tail, other}
use Rattle.ec_types.specs.Meaning.Evaluation.{Caller, value, given, place, values, invoked}
use Rattle.ec_types.specs.Meaning.State.{Does, Vars, set, ◌>>=◌}
use Rattle.ec_types.specs.Meaning.Tree.{Expr, Part, Place, Exprs, Placing, Invoke}
use Rattle.ec_types.specs.Meaning.Values.{Val, Num}

-- calls of both sides are alike, within so many ticks
abbrev pub Good : Form → Scope → Caller → ℕ → Type 0
Good form base call bound = (sn j : ℕ) → j ≤ bound → j ≤ sn → GoodCalls base.functions call (calls form true sn) j

-- What stays the same throughout a function: the form, what is known of the function, what calls do, how many turns there
-- may be, and the number of ticks within which calls are alike.
pub record Setting : Type 0 where
  pub form : Form
  pub base : Scope
  pub call : Caller
  pub n : ℕ
  pub bound : ℕ
  pub most : bound ≤ n
  pub good : Good form base call bound

-- Where a part stands: the numbers of its variables, which are below v; those of them that are in scope; whether it may
-- return; room for calls and turns of the simple form, and the ticks within which it is looked at.
pub record Stage (here : Setting) : Type 0 where
  pub place : ℕ → ℕ
  pub v : ℕ
  pub ns : List ℕ
  pub numbers : Numbers place ns v
  pub below : (x : ℕ) → IsIn x ns → x < length here.base.variables
  pub sc : List ℕ
  pub inside : Within sc ns
  pub may : Bool
  pub sn : ℕ
  pub k : ℕ
  pub most : k ≤ here.bound
  pub room : k ≤ sn

-- What is in scope agrees, and what stands between the variables and the temporaries is kept: t is the first temporary.
pub record Did (place : ℕ → ℕ) (v : ℕ) (sc : List ℕ) (t : ℕ) (us ws xs : Vars) : Type 0 where
  pub agrees : Agrees place sc ws xs
  pub kept : (y : ℕ) → v ≤ y → y < t → xs y ≡ us y

module _ (place : ℕ → ℕ) (v : ℕ) (sc : List ℕ) where
  pub did_kept : (t : ℕ) (vs us ws : Vars) → Numbers place sc v → v ≤ t → Agrees place sc vs us → Keeps t us ws →
      Did place v sc t us vs ws
  did_kept t vs us ws n h g k = record { agrees = agrees_kept place sc v t vs us ws n h g k; kept = λ y a b. k y b }

  -- one part after another, where more comes into scope
  pub did_behind : (sb : List ℕ) (t u : ℕ) (us ws xs ys zs : Vars) → t ≤ u → Did place v sb t us ws xs →
      Did place v sc u xs ys zs → Did place v sc t us ys zs
  did_behind sb t u us ws xs ys zs h d e =
      record { agrees = e.agrees; kept = λ y a b. e.kept y a (omega (arith, b, h)) ∙ d.kept y a b }

  pub did_then : (t u : ℕ) (us ws xs ys zs : Vars) → t ≤ u → Did place v sc t us ws xs → Did place v sc u xs ys zs →
      Did place v sc t us ys zs
  did_then t u us ws xs ys zs h d e = did_behind sc t u us ws xs ys zs h d e

  -- where less is in scope
  pub did_less : (sb : List ℕ) (t : ℕ) (us ws xs : Vars) → Within sc sb → Did place v sb t us ws xs →
      Did place v sc t us ws xs
  did_less sb t us ws xs w d = record { agrees = λ y i. d.agrees y (w y i); kept = d.kept }

  -- a variable in scope is set on both sides
  pub did_set : (t x : ℕ) (w a : Val) (vs us ws : Vars) → Numbers place sc v → IsIn x sc → v ≤ t →
      Agrees place sc vs us → Keeps t us ws → a ≡ w →
      Did place v sc t us (set x w vs) (set (place x) a ws)
  did_set t x w a vs us ws n i h g k e = record {
    agrees =
        subst (λ b. Agrees place sc (set x w vs) (set (place x) b ws)) (sym e)
        (agrees_set place sc v x w vs ws n i (agrees_kept place sc v t vs us ws n h g k));
    kept = λ y l b. set_other (place x) y a ws (λ d. let c = n.below x i in omega (arith, c, l, d)) ∙ k y b;
  }

-- ---- a variable that comes into scope

module _ (place : ℕ → ℕ) (v x : ℕ) (sc : List ℕ) (numbers : Numbers place (x ∷ sc) v) where
  pub agrees_apart : (b : Val) (vs us : Vars) → IsNew x sc → Agrees place sc vs us →
      Agrees place sc vs (set (place x) b us)
  agrees_apart b vs us n g y i =
      g y i
      ∙ sym (set_other (place x) (place y) b us
      (λ e. other y x sc i n (numbers.apart y x (in_tail y x sc i) (in_head x x sc refl) e)))

  pub agrees_new : (w : Val) (vs us : Vars) → Agrees place sc vs us →
      Agrees place (x ∷ sc) (set x w vs) (set (place x) w us)
  agrees_new w vs us g y i = go (same_or_not y x)
    where
      go : (y ≡ x) ⊎ (y ≢ x) → set x w vs y ≡ set (place x) w us (place y)
      go (inl e) =
          ap (set x w vs) e ∙ (set_here x w vs ∙ sym
          (ap (λ z. set (place x) w us (place z)) e ∙ set_here (place x) w us))
      go (inr d) =
          set_other x y w vs d
          ∙ (⊎_elim (λ e. absurd (d (sym e))) (λ j. g y j) (head_or_tail y x sc i)
          ∙ sym (set_other (place x) (place y) w us (λ e. d (numbers.apart y x i (in_head x x sc refl) e))))

  -- it is set on both sides
  pub did_new : (t : ℕ) (w a : Val) (vs us ws : Vars) → v ≤ t → Agrees place sc vs ws →
      ((y : ℕ) → v ≤ y → y < t → ws y ≡ us y) → a ≡ w →
      Did place v (x ∷ sc) t us (set x w vs) (set (place x) a ws)
  did_new t w a vs us ws h g k e = record {
    agrees = subst (λ b. Agrees place (x ∷ sc) (set x w vs) (set (place x) b ws)) (sym e) (agrees_new w vs ws g);
    kept = λ y l b. set_other (place x) y a ws
        (λ d. let c = numbers.below x (in_head x x sc refl) in omega (arith, c, l, d)) ∙ k y l b;
  }

-- ---- parts on a stage

module _ {here : Setting} where
  abbrev pub scope : Stage here → Scope
  scope z = record here.base { place = z.place }

  abbrev pub calls_on : Stage here → SCaller
  calls_on z = calls here.form true z.sn

  abbrev pub code_runs : Stage here → Code → Vars → Does Vars
  code_runs z code = run here.form.shapes true (calls_on z) z.sn code

  abbrev pub Leaves : Stage here → ℕ → Vars → Vars → Vars → Type 0
  Leaves z t us = Did z.place z.v z.sc t us

  -- from values that agree the code follows what is meant
  abbrev pub Follows : {A : Type 0} (z : Stage here) → (Vars → A → Vars → Type 0) → (Vars → Does A) → Code → Type 0
  Follows z P d code =
      (vs us : Vars) → Agrees z.place z.sc vs us → Together z.may z.k (P us) (d vs) (code_runs z code us)

  pub numbers_of : (z : Stage here) → Numbers z.place z.sc z.v
  numbers_of z = fewer z.place z.sc z.ns z.v z.inside z.numbers

  good_of : (z : Stage here) → GoodCalls here.base.functions here.call (calls_on z) z.k
  good_of z = here.good z.sn z.k z.most z.room

  -- ---- expressions

  pub value_on : (z : Stage here) (e : Expr) → Sound here.form.shapes (scope z) z.sc e → (t : ℕ) → z.v ≤ t →
      let l = low (scope z) e t in
      Follows z (Valued t l.to) (value false here.call e) l.code
  value_on z =
      value_runs here.form.shapes (scope z) here.call (calls_on z) z.sn z.k (good_of z) z.may z.sc z.v (numbers_of z)

  pub part_on : (z : Stage here) (p : Part) (at : Span) (i : ℤ) → SoundPart here.form.shapes (scope z) z.sc p →
      (t : ℕ) → z.v ≤ t →
      let l = low_part (scope z) at i p t in
      Follows z (Valued t l.to) (given false here.call (Num i) p) l.code
  part_on z =
      part_runs here.form.shapes (scope z) here.call (calls_on z) z.sn z.k (good_of z) z.may z.sc z.v (numbers_of z)

  pub place_on : (z : Stage here) (p : Place) → SoundPlace here.form.shapes (scope z) z.sc p → (t : ℕ) → z.v ≤ t →
      let l = low_place (scope z) p t in
      Follows z (Reached here.form.shapes (scope z) p t l.place) (place false here.call p) l.code
  place_on z =
      place_runs here.form.shapes (scope z) here.call (calls_on z) z.sn z.k (good_of z) z.may z.sc z.v (numbers_of z)

  pub list_on : (z : Stage here) (es : Exprs) → SoundList here.form.shapes (scope z) z.sc es → (t : ℕ) → z.v ≤ t →
      let l = low_list (scope z) es t in
      Follows z (All_valued t l.to) (values false here.call es) l.code
  list_on z =
      list_runs here.form.shapes (scope z) here.call (calls_on z) z.sn z.k (good_of z) z.may z.sc z.v (numbers_of z)

  -- ---- calls, whose results go to these variables

  abbrev pub call_runs : Stage here → SCall → Vars → Does Vars
  call_runs z c = called here.form.shapes true (calls_on z) z.sn c

  -- the operands' code, and then the call
  abbrev pub Calls_as : {A : Type 0} (z : Stage here) → (Vars → A → Vars → Type 0) → (Vars → Does A) → LowCall →
      List ℕ → Type 0
  Calls_as z P d l to =
      (vs us : Vars) → Agrees z.place z.sc vs us →
      Together z.may z.k (P us) (d vs) (code_runs z l.code us >>= call_runs z (plain_call l to))

  pub call_on : (z : Stage here) (at : Span) (f : ℕ) (es : Exprs) (q : Placing) →
      SoundCall here.form.shapes (scope z) z.sc (Invoke at f es q) →
      (t : ℕ) → z.v ≤ t → (to : List ℕ) →
      Calls_as z (Gave (function_at (scope z) f) t to) (invoked false here.call (Invoke at f es q))
      (low_call (scope z) (Invoke at f es q) t) to
  call_on z at f es q s t h to vs us g =
      call_runs_of here.form.shapes (scope z) here.call (calls_on z) z.sn z.k (good_of z) z.may z.sc z.v
      (numbers_of z) at f es q s t h vs us g to

  -- ---- code, one after another

  pub append_on : {A C : Type 0} {P : A → Vars → Type 0} {Q : C → Vars → Type 0} {d : Does A} {f : A → Does C}
      (z : Stage here) (a b : Code) (us : Vars) →
      Together z.may z.k P d (code_runs z a us) →
      ((x : A) (ws : Vars) → P x ws → Together z.may z.k Q (f x) (code_runs z b ws)) →
      Together z.may z.k Q (d >>= f) (code_runs z (a ++ b) us)
  append_on z = together_append here.form.shapes (calls_on z) z.sn

  abbrev pub One_does : Stage here → SStmt → Runs
  One_does z = does here.form.shapes true (calls_on z) z.sn

  abbrev pub Doing : Stage here → SStmt-F Runs Runs Runs → Runs
  Doing z = of_statement here.form.shapes true (calls_on z) z.sn

  pub one_on : {A : Type 0} {P : A → Vars → Type 0} {d : Does A} (z : Stage here) (x : SStmt)
      (y : SStmt-F Runs Runs Runs) (us : Vars) →
      One_does z x ≡ Doing z y → Together z.may z.k P d (Doing z y us) →
      Together z.may z.k P d (code_runs z (x ∷ []) us)
  one_on z = together_one here.form.shapes (calls_on z) z.sn

  pub last_on : {A C : Type 0} {P : A → Vars → Type 0} {Q : C → Vars → Type 0} {d : Does A} {f : A → Does C}
      (z : Stage here) (a : Code) (x : SStmt) (y : SStmt-F Runs Runs Runs) (us : Vars) →
      One_does z x ≡ Doing z y → Together z.may z.k P d (code_runs z a us) →
      ((v : A) (ws : Vars) → P v ws → Together z.may z.k Q (f v) (Doing z y ws)) →
      Together z.may z.k Q (d >>= f) (code_runs z (a ++ x ∷ []) us)
  last_on z = together_last here.form.shapes (calls_on z) z.sn
