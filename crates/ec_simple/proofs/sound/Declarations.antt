-- Declarations of variables.
use Rattle.std.proofs.Common.{◌≡◌, refl, sym, ◌∙◌, ap, subst, ℕ, Bool, true, false, if◌then◌else◌, not, ◌||◌, List, [], ◌∷◌, ◌++◌, append_assoc, append-nil, map, get_or, ◌⊎◌, inl, inr, Option, Some, None, is_some, Ok}
use Rattle.std.proofs.lemmas.Bool.{or_right}
use Rattle.ec_base.specs.declared.reason.Reason.TheVariants.{Mismatch}
use Rattle.ec_base.specs.declared.text.Text.{Text}
use Rattle.ec_base.specs.declared.token.Span.{Span}
use Rattle.ec_simple.specs.Expressions.{Scope, no_variable, variable_at}
use Rattle.ec_simple.specs.Kinds.{KindsFirst, KindsDecl, KindsDecls}
use Rattle.ec_simple.specs.Lower.{shapes}
use Rattle.ec_simple.specs.Meaning.{first_value}
use Rattle.ec_simple.specs.Sound.{IsNew, SoundPart, SoundDecl, SoundDecls, with_declared}
use Rattle.ec_simple.specs.Uses.{declared}
use Rattle.ec_syntax.specs.declared.expression.Expr.{Expr}
use Rattle.ec_syntax.specs.declared.item.Func.{Func}
use Rattle.ec_syntax.specs.declared.item.StructDef.{StructDef}
use Rattle.ec_syntax.specs.declared.name.Mode.{Mode}
use Rattle.ec_syntax.specs.declared.name.Mode.TheVariants as mode
use Rattle.ec_syntax.specs.declared.name.Name.{Name}
use Rattle.ec_syntax.specs.declared.name.Ty.{Ty}
use Rattle.ec_syntax.specs.declared.statement.Decl.{Decl}
use Rattle.ec_types.specs.Arguments.{stays_local}
use Rattle.ec_types.specs.Assignments.{fits_into}
use Rattle.ec_types.specs.Context.{Context, is_local, is_local_mode, is_shared_mode}
use Rattle.ec_types.specs.declared.value_type.ExprType.{ExprType}
use Rattle.ec_types.specs.declared.value_type.ExprType.TheVariants.{Value}
use Rattle.ec_types.specs.declared.value_type.ValueType.{ValueType}
use Rattle.ec_types.specs.Declarations as typing
use Rattle.ec_types.specs.Declarations.{may_be, is_variable, initialised, declaration}
use Rattle.ec_types.specs.Expressions.{judged}
use Rattle.ec_types.specs.Judged.{Fine, must, ◌also◌, optional}
use Rattle.ec_types.specs.Meaning.Layout.{pointer_to}
use Rattle.ec_types.specs.Meaning.Resolution as resolution
use Rattle.ec_types.specs.Meaning.Resolution.{variable}
use Rattle.ec_types.specs.Meaning.Values.{Null, zero_value}
use Rattle.ec_types.specs.Names.{known, fresh, earlier, distinct}
use Rattle.ec_types.specs.Operators.{assignable}
use Rattle.ec_types.specs.Statements.{declares}
use Rattle.ec_types.specs.Types.{value_type, int, is_int, is_pointer}
use Rattle.ec_simple.proofs.sound.AssignmentKinds.{put_kinds}
use Rattle.ec_simple.proofs.sound.Assignments.{value_sound}
use Rattle.ec_simple.proofs.sound.Each.{Each}
use Rattle.ec_simple.proofs.sound.Expressions.{Program, there, resolving}
use Rattle.ec_simple.proofs.sound.Good.{Holds}
use Rattle.ec_simple.proofs.sound.Layers.{known_type}
use Rattle.ec_simple.proofs.sound.Numbers.{number, numbered, read}
use Rattle.ec_simple.proofs.sound.Right.{fine_left, fine_right, must_hold}
use Rattle.ec_simple.proofs.sound.Scopes.{is_fresh, Standing, IsNamed, placed_at, declared_one, is_new}
use Rattle.ec_simple.proofs.sound.ShapeNumbers.{IsKnown}
use Rattle.ec_simple.proofs.sound.Shapes.{base_known, pointer_points}
use Rattle.ec_simple.proofs.sound.Types.{is_single, assignable_stands}
use Rattle.ec_simple.proofs.sound.Variables.{name_of, InScope}

first_by : (b : Bool) → ((if b then Null else zero_value) ≡ Null) ⊎ ((if b then Null else zero_value) ≡ zero_value)
first_by true = inl refl
first_by false = inr refl

declared_by :
    (s : resolution.Scope) (name : Name) (m : Mode) (ty : Ty) (init : Option Expr) →
    declared (resolution.declaration s (record { name = name; mode = m; ty = ty; init = init })) ≡
    resolution.variable_number s name.text
declared_by s name mode.Plain ty init = refl
declared_by s name mode.Local ty init = refl
declared_by s name mode.Shared ty init = refl

pub declared_is :
    (s : resolution.Scope) (d : Decl) → declared (resolution.declaration s d) ≡ resolution.variable_number s d.name.text
declared_is s d = declared_by s d.name d.mode d.ty d.init

module _ (ss : List StructDef) (fs : List Func) (vs : List Decl) (c : Scope) (program : Program ss fs vs c)
    (prints : Text → Option Span) (result : ValueType) (inside : Bool) where
  abbrev s : resolution.Scope
  s = resolving ss fs vs

  abbrev at : List Decl → Context
  at scope = there ss fs prints result inside scope

  -- ---- initialisers, where their variables are in scope

  -- what is known of the value
  module _ (d : Decl) (scope : List Decl) (i : Expr) where
    abbrev value_fits : ExprType → Fine
    value_fits t =
        fits_into (at scope) d.name.at (Value (value_type d.ty)) (is_local_mode d.mode) (judged (at scope) i) t

    initial_fits : (t : ExprType) → value_fits t ≡ Ok tt → assignable (Value (value_type d.ty)) t ≡ true
    initial_fits t k =
        let a = judged (at scope) i in
        let test = must (assignable (Value (value_type d.ty)) t) Mismatch d.name.at in
        must_hold (assignable (Value (value_type d.ty)) t) Mismatch d.name.at
        (fine_left test (stays_local (not (is_local_mode d.mode) || is_local (at scope) a.form) a.at t) k)

    initial_right : initialised (at scope) d i ≡ Ok tt → typing.initial (at scope) d i ≡ Ok tt
    initial_right e =
        fine_left (typing.initial (at scope) d i) (must (not (is_shared_mode d.mode)) Mismatch d.name.at) e

  initial_sound :
      (d : Decl) (scope : List Decl) (sc : List ℕ) → Each (InScope ss vs sc) scope →
      is_single (value_type d.ty) ≡ true →
      (o : Option Expr) → optional (initialised (at scope) d) o ≡ Ok tt →
      SoundPart (shapes ss) c sc (resolution.initial s o)
  initial_sound d scope sc h single None e = tt
  initial_sound d scope sc h single (Some i) e =
      value_sound ss fs vs c program prints result inside scope sc h (value_fits d scope i)
      (λ t k. assignable_stands (value_type d.ty) t single (initial_fits d scope i t k)) i (initial_right d scope i e)

  initial_kinds :
      (d : Decl) (scope : List Decl) (sc : List ℕ) → Each (InScope ss vs sc) scope →
      is_single (value_type d.ty) ≡ true → (x : ℕ) → Holds c x (pointer_to ss (value_type d.ty)) →
      (o : Option Expr) → optional (initialised (at scope) d) o ≡ Ok tt →
      KindsFirst (shapes ss) c x (resolution.initial s o)
  initial_kinds d scope sc h single x holds None e = tt
  initial_kinds d scope sc h single x holds (Some i) e =
      let k =
      put_kinds ss fs vs c program prints result inside scope sc h (value_type d.ty) single (value_fits d scope i)
      (initial_fits d scope i) i (initial_right d scope i e) in
      (k.0, (k.1 ∙ sym (ap is_some holds.pointer ∙ pointer_points ss (value_type d.ty)), holds.shared))

  -- what a declaration is
  record Declares (d : Decl) (scope : List Decl) : Type 0 where
    known : base_known ss (value_type d.ty).base ≡ true
    right : is_variable d ≡ true
    init : optional (initialised (at scope) d) d.init ≡ Ok tt

  declares_is : (d : Decl) (scope : List Decl) → declaration (at scope) d ≡ Ok tt → Declares d scope
  declares_is d scope e =
      let first = known ss d.ty in
      let second = must (is_variable d) Mismatch d.name.at in
      let third = optional (initialised (at scope) d) d.init in
      let rest = fine_right first (second also third) e in
      record {
        known = known_type ss d.ty (fine_left first (second also third) e);
        right = must_hold (is_variable d) Mismatch d.name.at (fine_left second third rest);
        init = fine_right second third rest;
      }

  one_by :
      (name : Name) (m : Mode) (ty : Ty) (init : Option Expr) (scope : List Decl) (sc : List ℕ) →
      Each (InScope ss vs (resolution.variable_number s name.text ∷ sc)) scope → may_be int m (value_type ty) ≡ true →
      optional (initialised (at scope) (record { name = name; mode = m; ty = ty; init = init })) init ≡ Ok tt →
      IsNew (resolution.variable_number s name.text) sc →
      SoundDecl (shapes ss) c sc (resolution.declaration s (record { name = name; mode = m; ty = ty; init = init }))
  one_by name mode.Plain ty init scope sc h right e new = (
    new,
    first_by (is_pointer (value_type ty)),
    initial_sound (record { name = name; mode = mode.Plain; ty = ty; init = init }) scope
        (resolution.variable_number s name.text ∷ sc) h right init e,
  )
  one_by name mode.Local ty init scope sc h right e new = (
    new,
    first_by (is_pointer (value_type ty)),
    initial_sound (record { name = name; mode = mode.Local; ty = ty; init = init }) scope
        (resolution.variable_number s name.text ∷ sc) h
        (or_right (is_int (value_type ty)) (is_pointer (value_type ty)) right) init e,
  )
  one_by name mode.Shared ty init scope sc h right e new = new

  variable_there : (d : Decl) → IsNamed vs d → variable_at c (number name_of vs (name_of d)) ≡ variable ss d
  variable_there d named =
      let n = number name_of vs (name_of d) in
      ap (λ l. get_or l n no_variable) program.variables
      ∙ read name_of vs (name_of d) d (numbered name_of vs (name_of d) d named) (variable ss) no_variable

  kinds_by :
      (name : Name) (m : Mode) (ty : Ty) (init : Option Expr) (scope : List Decl) (sc : List ℕ) →
      Each (InScope ss vs sc) scope → may_be int m (value_type ty) ≡ true →
      optional (initialised (at scope) (record { name = name; mode = m; ty = ty; init = init })) init ≡ Ok tt →
      variable_at c (resolution.variable_number s name.text)
      ≡ variable ss (record { name = name; mode = m; ty = ty; init = init }) →
      KindsDecl (shapes ss) c (resolution.declaration s (record { name = name; mode = m; ty = ty; init = init }))
  kinds_by name mode.Plain ty init scope sc h right e there =
      let holds : Holds c (resolution.variable_number s name.text) (pointer_to ss (value_type ty)) =
      record { pointer = ap (λ v. v.pointer) there; shared = ap (λ v. v.shared) there } in (
        ap first_value (sym (ap is_some holds.pointer ∙ pointer_points ss (value_type ty))),
        initial_kinds (record { name = name; mode = mode.Plain; ty = ty; init = init }) scope sc h right
            (resolution.variable_number s name.text) holds init e,
      )
  kinds_by name mode.Local ty init scope sc h right e there =
      let holds : Holds c (resolution.variable_number s name.text) (pointer_to ss (value_type ty)) =
      record { pointer = ap (λ v. v.pointer) there; shared = ap (λ v. v.shared) there } in (
        ap first_value (sym (ap is_some holds.pointer ∙ pointer_points ss (value_type ty))),
        initial_kinds (record { name = name; mode = mode.Local; ty = ty; init = init }) scope sc h
            (or_right (is_int (value_type ty)) (is_pointer (value_type ty)) right)
            (resolution.variable_number s name.text) holds init e,
      )
  kinds_by name mode.Shared ty init scope sc h right e there = ap (λ v. v.pointer) there

  -- declarations, one after the other
  pub record AllDeclared (ds scope : List Decl) (sc : List ℕ) (before : List Name) : Type 0 where
    pub sound : SoundDecls (shapes ss) c sc (map (resolution.declaration s) ds)
    pub kinds : KindsDecls (shapes ss) c (map (resolution.declaration s) ds)
    pub known : Each (IsKnown ss) ds
    pub standing :
        Standing ss vs (scope ++ ds) (with_declared (shapes ss) c (map (resolution.declaration s) ds) sc)
        (before ++ map (λ d. d.name) ds)

  one_more :
      (d : Decl) (ds scope : List Decl) (sc : List ℕ) (before : List Name) →
      SoundDecl (shapes ss) c sc (resolution.declaration s d) → KindsDecl (shapes ss) c (resolution.declaration s d) →
      IsKnown ss d →
      AllDeclared ds (scope ++ d ∷ []) (number name_of vs (name_of d) ∷ sc) (before ++ d.name ∷ []) →
      AllDeclared (d ∷ ds) scope sc before
  one_more d ds scope sc before one kinds known rest =
      let xs = map (resolution.declaration s) ds in
      let is = declared_is s d in
      record {
        sound = (one, subst (λ n. SoundDecls (shapes ss) c (n ∷ sc) xs) (sym is) rest.sound);
        kinds = (kinds, rest.kinds);
        known = (known, rest.known);
        standing =
            subst (λ l. Standing ss vs l (with_declared (shapes ss) c xs
            (declared (resolution.declaration s d) ∷ sc)) (before ++ d.name ∷ map (λ d. d.name) ds))
            (append_assoc scope (d ∷ []) ds)
            (subst (λ l. Standing ss vs ((scope ++ d ∷ []) ++ ds)
            (with_declared (shapes ss) c xs (declared (resolution.declaration s d) ∷ sc)) l)
            (append_assoc before (d.name ∷ []) (map (λ d. d.name) ds))
            (subst (λ n. Standing ss vs ((scope ++ d ∷ []) ++ ds) (with_declared (shapes ss) c xs (n ∷ sc))
            ((before ++ d.name ∷ []) ++ map (λ d. d.name) ds))
            (sym is) rest.standing));
      }

  pub declarations_sound :
      (ds scope : List Decl) (sc : List ℕ) (before : List Name) → Standing ss vs scope sc before →
      Each (IsNamed vs) ds →
      distinct before (map (λ d. d.name) ds) ≡ Ok tt → declares ds (at scope) ≡ Ok tt → AllDeclared ds scope sc before
  declarations_sound [] scope sc before h named apart e = record {
    sound = tt;
    kinds = tt;
    known = tt;
    standing =
        subst (λ l. Standing ss vs l sc (before ++ [])) (sym (append-nil scope))
        (subst (λ l. Standing ss vs scope sc l) (sym (append-nil before)) h);
  }
  declarations_sound (d ∷ ds) scope sc before h named apart e =
      let first = declaration (at (scope ++ d ∷ [])) d in
      let rest = declares ds (at (scope ++ d ∷ [])) in
      let one = fresh (earlier before d.name) d.name in
      let others = distinct (before ++ d.name ∷ []) (map (λ d. d.name) ds) in
      let new = is_fresh before d.name (fine_left one others apart) in
      let k = declares_is d (scope ++ d ∷ []) (fine_left first rest e) in
      let next = declared_one ss vs scope sc before d int h named.0 k.right k.known in
      one_more d ds scope sc before
      (one_by d.name d.mode d.ty d.init (scope ++ d ∷ []) sc next.decls k.right k.init
      (is_new vs before d.name.text (number name_of vs (name_of d)) sc h.numbers (placed_at vs d named.0) new))
      (kinds_by d.name d.mode d.ty d.init (scope ++ d ∷ []) (number name_of vs (name_of d) ∷ sc) next.decls k.right
      k.init (variable_there d named.0)) k.known
      (declarations_sound ds (scope ++ d ∷ []) (number name_of vs (name_of d) ∷ sc) (before ++ d.name ∷ []) next named.1
      (fine_right one others apart) (fine_right first rest e))
