-- What simple forms mean: they mean it as resolved trees do, but only activations and turns of loops spend ticks.
use Rattle.std.specs.Prelude.{ℕ, zero, suc, Bool, true, false, not, if◌then◌else◌, List, [], ◌∷◌, map, codes, Option, Some, None, slice_get, get_or, replicate, ℤ, pos}
use Rattle.ec_base.specs.Format.{formatted}
use Rattle.ec_calls.specs.Effects.{joined}
use Rattle.ec_simple.specs.declared.form.FuncKind.TheVariants as kind
use Rattle.ec_simple.specs.declared.form.SCall.{SCall}
use Rattle.ec_simple.specs.declared.form.SExpr.{SExpr}
use Rattle.ec_simple.specs.declared.form.SExpr.TheVariants as e
use Rattle.ec_simple.specs.declared.form.SField.{SField}
use Rattle.ec_simple.specs.declared.form.SFunc.{SFunc}
use Rattle.ec_simple.specs.declared.form.Shape.{Shape}
use Rattle.ec_simple.specs.declared.form.Form.{Form}
use Rattle.ec_simple.specs.declared.form.SPlace.{SPlace}
use Rattle.ec_simple.specs.declared.form.SPlace.TheVariants as p
use Rattle.ec_simple.specs.declared.form.SPlaceOf.{SPlaceOf}
use Rattle.ec_simple.specs.declared.form.SStmt.{SStmt, fold-SStmt}
use Rattle.ec_simple.specs.declared.form.SStmt.TheOpen.{SStmt-F, SForall-F, SBranch-F}
use Rattle.ec_simple.specs.declared.form.SVar.{SVar}
use Rattle.ec_types.specs.Places.{place as place_among}
use Rattle.ec_types.specs.Meaning.Values.{Val, Num, Null, zero_value, number, holds, truth, same_value, unary_value, binary_value}
use Rattle.ec_types.specs.Meaning.State.{Site, Here, OwnerOf, Home, Node, Anywhere, Out, Does, With, Returns, Traps, Going, ◌>>=◌, pure, give_back, going, tick, Vars, set, set_all, enter, activate}
use Rattle.ec_types.specs.Meaning.Memory.{Access, load, save, copy, shared, add, allocate, born}
use Rattle.ec_types.specs.Meaning.Evaluation.{divided, print, fork}
use Rattle.ec_types.specs.Meaning.Programs.{Meaning, root, told}
use Rattle.ec_types.specs.Meaning.Layout.{or_zero}

-- what calls of a function do, which gives its results
abbrev pub SCaller : Type 0
SCaller = ℕ → List Val → Site → Does (List Val)

-- what a statement or code does
abbrev pub Runs : Type 0
Runs = Vars → Does Vars

-- ---- shapes

abbrev pub no_field : SField
no_field = record { at = 0; cells = 1; pointer = false }

abbrev pub shape_or : Option Shape → Shape
shape_or None = record { cells = 1; fields = [] }
shape_or (Some s) = s

abbrev pub shape_at : List Shape → ℕ → Shape
shape_at shapes k = shape_or (slice_get shapes k)

abbrev pub field_of : Shape → ℕ → SField
field_of s k = get_or s.fields k no_field

abbrev pub first_value : Bool → Val
first_value pointer = if pointer then Null else zero_value

-- the cells of a fresh element
abbrev pub fresh_cells : Shape → List Val
fresh_cells s = joined (map (λ f. replicate f.cells (first_value f.pointer)) s.fields)

-- ---- values and accesses

abbrev pub expression : SExpr → Vars → Does Val
expression (e.Number n) us = pure (Num n)
expression e.Null us = pure Null
expression (e.Var x) us = pure (us x)
expression (e.Unary op x) us = pure (unary_value op (us x))
expression (e.Binary op x y at) us = divided at (binary_value op (us x) (us y))
expression (e.SameBlock x y) us = pure (truth (same_value (us x) (us y)))
expression (e.IsNull x) us = pure (truth (not (holds (us x))))

abbrev pub item : Option ℕ → Vars → ℤ
item None us = pos 0
item (Some x) us = number (us x)

abbrev pub access : List Shape → SPlaceOf → Vars → Access
access shapes a us = of_field (shape_at shapes a.shape)
  where
    of_field : Shape → Access
    of_field s = record {
      at = a.at;
      base = us a.base;
      index = number (us a.index);
      size = s.cells;
      first = (field_of s a.field).at;
      item = item a.sub us;
      length = (field_of s a.field).cells;
    }

abbrev pub site : SPlace → Vars → Site
site p.Here us = Here
site (p.Owner x) us = OwnerOf (us x)
site p.Home us = Home
site (p.Node x) us = Node (us x)
site p.Anywhere us = Anywhere

-- a variable gets a value
abbrev pub set_to : ℕ → Vars → Val → Does Vars
set_to x us v = pure (set x v us)

-- no variable gets one
abbrev pub unchanged : Vars → Unit {0} → Does Vars
unchanged us done = pure us

-- ---- statements: n is room for turns of loops

module _ (shapes : List Shape) (big : Bool) (call : SCaller) (n : ℕ) where
  abbrev pub called : SCall → Runs
  called c us = call c.func (map us c.args) (site c.place us) >>= (λ vs. pure (set_all c.to vs us))

  abbrev pub turns : ℕ → Runs → ℕ → Runs → Runs
  turns zero before test body us = going
  turns (suc m) before test body us =
      tick big (before us >>= (λ ws. if holds (ws test) then (body ws >>= turns m before test body) else pure ws))

  abbrev pub in_order : List Runs → Runs
  in_order [] us = pure us
  in_order (d ∷ ds) us = d us >>= in_order ds

  abbrev pub forked : Does Vars → Does Vars
  forked = fork true (λ f us s. going) big n

  abbrev pub of_branch : SBranch-F Runs Runs Runs → Runs
  of_branch b us = in_order b.before us >>= called b.call

  -- the header and the body in turn
  abbrev pub of_forall : SForall-F Runs Runs Runs → Runs
  of_forall f us =
      forked (in_order f.init us >>= turns n (in_order f.before) f.test (λ ws. called f.body ws >>= in_order f.step))

  abbrev pub of_statement : SStmt-F Runs Runs Runs → Runs
  of_statement (SStmt-F.Set x v) us = expression v us >>= set_to x us
  of_statement (SStmt-F.Load x a) us = load (access shapes a us) >>= set_to x us
  of_statement (SStmt-F.Store a x) us = save (access shapes a us) (us x) >>= unchanged us
  of_statement (SStmt-F.Copy a b) us = copy (access shapes a us) (access shapes b us) >>= unchanged us
  of_statement (SStmt-F.New x shape count at) us =
      allocate at (fresh_cells (shape_at shapes shape)) (us count) >>= set_to x us
  of_statement (SStmt-F.Share x at) us = born (zero_value ∷ []) >>= set_to x us
  of_statement (SStmt-F.Read p x at) us = load (shared at (us p)) >>= set_to x us
  of_statement (SStmt-F.Write p x at) us = save (shared at (us p)) (us x) >>= unchanged us
  of_statement (SStmt-F.Add p x at) us = add at (us p) (us x) >>= unchanged us
  of_statement (SStmt-F.Call c) us = called c us
  of_statement (SStmt-F.Print string xs) us = print (formatted string (map (λ x. number (us x)) xs)) >>= unchanged us
  of_statement (SStmt-F.If x a b) us = if holds (us x) then in_order a us else in_order b us
  of_statement (SStmt-F.Loop before test body) us = turns n (in_order before) test (in_order body) us
  of_statement (SStmt-F.Par at bs) us = forked (in_order bs us)
  of_statement (SStmt-F.Forall f) us = f us
  of_statement (SStmt-F.Return None) us = give_back zero_value
  of_statement (SStmt-F.Return (Some x)) us = give_back (us x)

  abbrev pub does : SStmt → Runs
  does = fold-SStmt Runs Runs Runs of_statement of_branch of_forall

  abbrev pub run : List SStmt → Runs
  run ss = in_order (map does ss)

-- ---- activations

-- what a function gives: what its result variables hold, or what it returns
abbrev pub results : List ℕ → Out Vars → Out (List Val)
results xs (With us, c, r) = (With (map us xs), c, r)
results xs (Returns v, c, r) = (With (map (λ x. v) xs), c, r)
results xs (Traps t, c, r) = (Traps t, c, r)
results xs (Going, c, r) = (Going, c, r)

-- variables are 0 or NULL at first
abbrev pub unset : List SVar → Vars
unset vars x = of_var (slice_get vars x)
  where
    of_var : Option SVar → Val
    of_var None = zero_value
    of_var (Some v) = first_value v.pointer

module _ (s : Form) (big : Bool) where
  abbrev pub body : SCaller → ℕ → SFunc → List Val → Does (List Val)
  body call n f vs c r = results f.results (run s.shapes big call n f.body (set_all f.params vs (unset f.vars)) c r)

  abbrev pub run_function : SCaller → ℕ → Option SFunc → List Val → Site → Does (List Val)
  run_function call n None vs at = pure []
  run_function call n (Some f) vs at = enter big at (body call n f vs)

  -- calls within n activations and turns
  abbrev pub calls : ℕ → SCaller
  calls zero f vs at = going
  calls (suc n) f vs at = run_function (calls n) n (slice_get s.funcs f) vs at

-- ---- meanings

abbrev pub no_function : SFunc
no_function = record { name = []; kind = kind.Written; vars = []; params = []; results = []; body = [] }

abbrev pub function_or : Option SFunc → SFunc
function_or None = no_function
function_or (Some f) = f

abbrev pub main_number : Form → ℕ
main_number s = or_zero (place_among (map (λ f. f.name) s.funcs) (codes "main"))

abbrev pub result : Out (List Val) → Out Val
result (With vs, c, r) = (With (get_or vs 0 zero_value), c, r)
result (Returns v, c, r) = (Returns v, c, r)
result (Traps t, c, r) = (Traps t, c, r)
result (Going, c, r) = (Going, c, r)

-- main with these arguments, within so many activations and turns
abbrev pub run_form : Form → List ℤ → ℕ → Out Val
run_form s args k =
    result (activate true Here
    (body s true (calls s true k) k (function_or (slice_get s.funcs (main_number s))) (map Num args)) root k)

abbrev pub mean : Form → List ℤ → ℕ → Meaning
mean s args k = told k (run_form s args k)
