-- What simple forms keep to: their numbers name what there is, and ints and pointers stand where they are asked for.
use Rattle.std.specs.Prelude.{◌≡◌, ℕ, ◌==◌, Bool, true, false, not, ◌&&◌, ◌||◌, nat_lt, List, [], ◌∷◌, length, map, codes, Option, Some, None, option_map, slice_get}
use Rattle.std.specs.List.{list_all}
use Rattle.std.specs.Option.{is_some}
use Rattle.ec_simple.specs.declared.form.FuncKind.{FuncKind}
use Rattle.ec_simple.specs.declared.form.FuncKind.TheVariants as kind
use Rattle.ec_simple.specs.declared.form.SCall.{SCall}
use Rattle.ec_simple.specs.declared.form.SExpr.{SExpr}
use Rattle.ec_simple.specs.declared.form.SExpr.TheVariants as e
use Rattle.ec_simple.specs.declared.form.SField.{SField}
use Rattle.ec_simple.specs.declared.form.SFunc.{SFunc}
use Rattle.ec_simple.specs.declared.form.Form.{Form}
use Rattle.ec_simple.specs.declared.form.SPlace.{SPlace}
use Rattle.ec_simple.specs.declared.form.SPlace.TheVariants as p
use Rattle.ec_simple.specs.declared.form.SPlaceOf.{SPlaceOf}
use Rattle.ec_simple.specs.declared.form.SStmt.{SStmt, fold-SStmt}
use Rattle.ec_simple.specs.declared.form.SStmt.TheOpen.{SStmt-F, SForall-F, SBranch-F}
use Rattle.ec_simple.specs.declared.form.SVar.{SVar}
use Rattle.ec_simple.specs.declared.form.VarUse.{VarUse}
use Rattle.ec_simple.specs.Meaning.{shape_at, field_of, main_number}
use Rattle.ec_simple.specs.Uses.{member}
use Rattle.ec_types.specs.Places.{place as place_among}

-- ---- kinds: whether a variable is a pointer, if there is such a variable

abbrev pub Kind : Type 0
Kind = Option Bool

abbrev pub is_int : Kind → Bool
is_int (Some false) = true
is_int k = false

abbrev pub is_pointer : Kind → Bool
is_pointer (Some true) = true
is_pointer k = false

abbrev pub alike : Kind → Kind → Bool
alike j k = (is_int j && is_int k) || (is_pointer j && is_pointer k)

abbrev pub all_alike : List Kind → List Kind → Bool
all_alike [] [] = true
all_alike (j ∷ js) (k ∷ ks) = alike j k && all_alike js ks
all_alike js ks = false

abbrev pub kind_among : List SVar → ℕ → Kind
kind_among vars x = option_map (λ v. v.pointer) (slice_get vars x)

-- ---- functions: f stands in s

module _ (s : Form) (f : SFunc) where
  abbrev pub kind_of : ℕ → Kind
  kind_of = kind_among f.vars

  abbrev pub exists : ℕ → Bool
  exists x = nat_lt x (length f.vars)

  abbrev pub has_shape : ℕ → Option SVar → Bool
  has_shape shape None = false
  has_shape shape (Some v) = v.pointer && (v.shape == shape)

  -- elements of this shape are behind the variable
  abbrev pub points_at : ℕ → ℕ → Bool
  points_at shape x = has_shape shape (slice_get f.vars x)

  -- ---- accesses

  abbrev pub is_item : Option ℕ → Bool
  is_item None = true
  is_item (Some x) = is_int (kind_of x)

  abbrev pub field : SPlaceOf → SField
  field a = field_of (shape_at s.shapes a.shape) a.field

  -- an element, which may have no field
  abbrev pub is_element : SPlaceOf → Bool
  is_element a =
      points_at a.shape a.base && is_int (kind_of a.index) && is_item a.sub && nat_lt a.shape (length s.shapes)

  -- a field of an element
  abbrev pub is_access : SPlaceOf → Bool
  is_access a = is_element a && nat_lt a.field (length (shape_at s.shapes a.shape).fields)

  -- one cell of this kind is reached
  abbrev pub is_cell : Kind → SPlaceOf → Bool
  is_cell k a = is_access a && (is_some a.sub || ((field a).cells == 1)) && alike k (Some (field a).pointer)

  -- ---- values and calls

  -- a variable of this kind may hold it
  abbrev pub is_value : Kind → SExpr → Bool
  is_value k (e.Number n) = is_int k
  is_value k e.Null = is_pointer k
  is_value k (e.Var y) = alike k (kind_of y)
  is_value k (e.Unary op y) = is_int k && is_int (kind_of y)
  is_value k (e.Binary op y z at) = is_int k && is_int (kind_of y) && is_int (kind_of z)
  is_value k (e.SameBlock y z) = is_int k && is_pointer (kind_of y) && is_pointer (kind_of z)
  is_value k (e.IsNull y) = is_int k && is_pointer (kind_of y)

  abbrev pub is_place : SPlace → Bool
  is_place p.Here = true
  is_place (p.Owner x) = is_pointer (kind_of x)
  is_place p.Home = true
  is_place (p.Node x) = is_int (kind_of x)
  is_place p.Anywhere = true

  abbrev pub all_exist : List VarUse → Bool
  all_exist us = list_all (λ u. exists u.var) us

  -- arguments and results are those of the function that is called
  abbrev pub fits : SCall → SFunc → Bool
  fits c g =
      all_alike (map (kind_among g.vars) g.params) (map kind_of c.args)
      && all_alike (map (kind_among g.vars) g.results) (map kind_of c.to)

  -- of a function of such a kind
  abbrev pub is_call : (FuncKind → Bool) → SCall → Bool
  is_call test c = calls (slice_get s.funcs c.func) && is_place c.place && all_exist c.reads && all_exist c.writes
    where
      calls : Option SFunc → Bool
      calls None = false
      calls (Some g) = test g.kind && fits c g

  -- what a branch or body gives back it writes, unless its result isn't used
  abbrev pub gives_back : SCall → Bool
  gives_back c = no_uses c.writes || list_all (λ x. member x (map (λ u. u.var) c.writes)) c.to
    where
      no_uses : List VarUse → Bool
      no_uses [] = true
      no_uses us = false

  -- ---- statements

  abbrev pub is_written : FuncKind → Bool
  is_written kind.Written = true
  is_written k = false

  abbrev pub is_body : FuncKind → Bool
  is_body kind.Body = true
  is_body k = false

  -- a function of its own, or a call of a written one
  abbrev pub is_branch : FuncKind → Bool
  is_branch k = not (is_body k)

  abbrev pub holds : List Bool → Bool
  holds bs = list_all (λ b. b) bs

  abbrev pub branch : SBranch-F Bool Bool Bool → Bool
  branch b = holds b.before && is_call is_branch b.call && gives_back b.call

  -- the loop without what its parts are
  abbrev pub forall : SForall-F Bool Bool Bool → Bool
  forall l =
      exists l.var && holds l.init && holds l.before && exists l.test && holds l.step && is_call is_body l.body
      && gives_back l.body && all_exist l.reads && all_exist l.writes

  abbrev pub statement : SStmt-F Bool Bool Bool → Bool
  statement (SStmt-F.Set x v) = is_value (kind_of x) v
  statement (SStmt-F.Load x a) = is_cell (kind_of x) a
  statement (SStmt-F.Store a x) = is_cell (kind_of x) a
  statement (SStmt-F.Copy a b) = is_element a && is_element b && (a.shape == b.shape)
  statement (SStmt-F.New x shape count at) =
      points_at shape x && is_int (kind_of count) && nat_lt shape (length s.shapes)
  statement (SStmt-F.Share x at) = points_at 0 x
  statement (SStmt-F.Read q x at) = points_at 0 q && is_int (kind_of x)
  statement (SStmt-F.Write q x at) = points_at 0 q && is_int (kind_of x)
  statement (SStmt-F.Add q x at) = points_at 0 q && is_int (kind_of x)
  statement (SStmt-F.Call c) = is_call is_written c
  statement (SStmt-F.Print string xs) = list_all (λ x. is_int (kind_of x)) xs
  statement (SStmt-F.If x a b) = exists x && holds a && holds b
  statement (SStmt-F.Loop before test body) = holds before && exists test && holds body
  statement (SStmt-F.Par at bs) = holds bs
  statement (SStmt-F.Forall l) = l
  statement (SStmt-F.Return None) = is_written f.kind && all_alike (map kind_of f.results) []
  statement (SStmt-F.Return (Some x)) =
      is_written f.kind && all_alike (map kind_of f.results) (kind_of x ∷ [])

  abbrev pub is_formed : SStmt → Bool
  is_formed = fold-SStmt Bool Bool Bool statement branch forall

  abbrev pub all_formed : List SStmt → Bool
  all_formed ss = list_all is_formed ss

  abbrev pub is_formed_function : Bool
  is_formed_function =
      list_all (λ v. nat_lt v.shape (length s.shapes)) f.vars && list_all exists f.params && list_all exists f.results
      && all_formed f.body

-- ---- programs

-- a written function with one result
abbrev pub is_main : Option SFunc → Bool
is_main None = false
is_main (Some f) = one f.kind f.results
  where
    one : FuncKind → List ℕ → Bool
    one kind.Written (x ∷ []) = true
    one k xs = false

abbrev pub has_main : Form → Bool
has_main s = is_some (place_among (map (λ f. f.name) s.funcs) (codes "main")) && is_main (slice_get s.funcs (main_number s))

abbrev pub formed : Form → Bool
formed s = list_all (λ f. is_formed_function s f) s.funcs && has_main s

abbrev pub IsFormed : Form → Type 0
IsFormed s = formed s ≡ true
