-- The resolved tree of a typed program is sound, and its main takes and gives ints.
use Rattle.std.proofs.Common.{◌≡◌, refl, sym, ◌∙◌, ap, subst, ℕ, ◌<◌, true, false, List, [], ◌++◌, append_assoc, length, map, slice_get, get_or, Option, Some, None, option_map, Ok}
use Rattle.std.proofs.lemmas.List.{length-map, map-append}
use Rattle.std.proofs.lemmas.Option.{none-some, slice_get-map}
use Rattle.std.specs.List.{list_any}
use Rattle.ec_base.specs.declared.reason.Reason.TheVariants.{Mismatch, StructTooBig, NoMain}
use Rattle.ec_base.specs.declared.text.Text.{Text}
use Rattle.ec_base.specs.declared.token.Span.{Span}
use Rattle.ec_calls.specs.Effects.{doing}
use Rattle.ec_calls.specs.Items.{functions, structs, function_named}
use Rattle.ec_simple.specs.Expressions.{Scope, no_function}
use Rattle.ec_simple.specs.Kinds.{KindsFunction}
use Rattle.ec_simple.specs.Lower.{shapes, scope_of}
use Rattle.ec_simple.specs.Sound.{IsIn, SoundFunction}
use Rattle.ec_simple.specs.Uses.{declared, all_declare}
use Rattle.ec_syntax.specs.declared.item.Field.{Field}
use Rattle.ec_syntax.specs.declared.item.Func.{Func}
use Rattle.ec_syntax.specs.declared.item.Program.{Program as Source}
use Rattle.ec_syntax.specs.declared.item.StructDef.{StructDef}
use Rattle.ec_syntax.specs.declared.statement.Decl.{Decl}
use Rattle.ec_syntax.specs.Grammar.Words.{same}
use Rattle.ec_types.specs.Declarations.{is_field, is_result, is_parameter, parameter}
use Rattle.ec_types.specs.Judged.{must, every, ◌also◌}
use Rattle.ec_types.specs.Meaning.Resolution as resolution
use Rattle.ec_types.specs.Meaning.Resolution.{variable}
use Rattle.ec_types.specs.Meaning.Tree.{Function}
use Rattle.ec_types.specs.Names.{known, distinct, field_named}
use Rattle.ec_types.specs.Programs as typing
use Rattle.ec_types.specs.Programs.{IsTyped, structure, field, start}
use Rattle.ec_types.specs.Sizes.{is_small}
use Rattle.ec_types.specs.Statements as statements
use Rattle.ec_types.specs.Types.{value_type}
use Rattle.ec_simple.proofs.sound.Accesses.{FieldFits, FieldsFit}
use Rattle.ec_simple.proofs.sound.Calls.{FunctionsFit}
use Rattle.ec_simple.proofs.sound.Each.{Each, each_append, each_front, each_back, each_so, each_found}
use Rattle.ec_simple.proofs.sound.Expressions.{Program, there, resolving}
use Rattle.ec_simple.proofs.sound.StatementLayers.{Declaring}
use Rattle.ec_simple.proofs.sound.Layers.{known_type}
use Rattle.ec_simple.proofs.sound.Numbers.{number, numbered, number_below, read}
use Rattle.ec_simple.proofs.sound.Once.{every_right, each_at, each_in, each_named, Parameter, start_standing, each_below}
use Rattle.ec_simple.proofs.sound.Right.{fine_left, fine_right, must_hold}
use Rattle.ec_simple.proofs.sound.Scopes.{IsNamed, apart}
use Rattle.ec_simple.proofs.sound.ShapeNumbers.{IsKnown, variables_below, variables_shared}
use Rattle.ec_simple.proofs.sound.Shapes.{base_known, pointer_below}
use Rattle.ec_simple.proofs.sound.Statements.{numbers, BodyFact, body_fact}

-- ---- structs

structure_fits :
    (ss : List StructDef) (d : StructDef) → structure ss d ≡ Ok tt → (name : Text) (f : Field) →
    field_named d.fields name ≡ Some f →
    FieldFits ss f
structure_fits ss d e name f h =
    let first = distinct [] (map (λ g. g.name) d.fields) in
    let second = must (is_small d) StructTooBig d.name.at in
    let third = every (map (field ss) d.fields) in
    let all = every_right (field ss) d.fields (fine_right second third (fine_right first (second also third) e)) in
    let one = (each_found (λ g. field ss g ≡ Ok tt) (λ g. same g.name.text name) d.fields f all h).holds in
    record {
      right =
          must_hold (is_field f) Mismatch f.name.at
          (fine_right (known ss f.ty) (must (is_field f) Mismatch f.name.at) one);
      known = known_type ss f.ty (fine_left (known ss f.ty) (must (is_field f) Mismatch f.name.at) one);
    }

structure_small : (ss : List StructDef) (d : StructDef) → structure ss d ≡ Ok tt → is_small d ≡ true
structure_small ss d e =
    let first = distinct [] (map (λ g. g.name) d.fields) in
    let second = must (is_small d) StructTooBig d.name.at in
    let third = every (map (field ss) d.fields) in
    must_hold (is_small d) StructTooBig d.name.at (fine_left second third (fine_right first (second also third) e))

fields_fit : (ss : List StructDef) → every (map (structure ss) ss) ≡ Ok tt → FieldsFit ss
fields_fit ss e s d h name f k =
    let one =
    each_found (λ x. structure ss x ≡ Ok tt) (λ x. same x.name.text s) ss d (every_right (structure ss) ss e) h in
    structure_fits ss d one.holds name f k

-- ---- functions

-- what is known of a function that is right
pub record Right (ss : List StructDef) (fs : List Func) (prints : Text → Option Span) (f : Func) : Type 0 where
  pub known : base_known ss (value_type f.result).base ≡ true
  pub result : is_result (value_type f.result) ≡ true
  pub params : Each (Parameter ss) f.params
  pub once : distinct [] (map (λ d. d.name) f.params ++ (doing f.body).variables) ≡ Ok tt
  pub body : statements.body f.body (there ss fs prints (value_type f.result) false f.params) ≡ Ok tt

parameter_right :
    (ss : List StructDef) (fs : List Func) (prints : Text → Option Span) (f : Func) (d : Decl) →
    parameter (start prints fs ss f) d ≡ Ok tt →
    Parameter ss d
parameter_right ss fs prints f d e =
    let first = known ss d.ty in
    let second = must (is_parameter d) Mismatch d.name.at in
    record {
      right = must_hold (is_parameter d) Mismatch d.name.at (fine_right first second e);
      known = known_type ss d.ty (fine_left first second e);
    }

function_right :
    (ss : List StructDef) (fs : List Func) (prints : Text → Option Span) (f : Func) →
    typing.function (start prints fs ss f) f ≡ Ok tt →
    Right ss fs prints f
function_right ss fs prints f e =
    let c = start prints fs ss f in
    let a = known ss f.result in
    let b = must (is_result (value_type f.result)) Mismatch f.name.at in
    let d = every (map (parameter c) f.params) in
    let g = distinct [] (map (λ d. d.name) f.params ++ (doing f.body).variables) in
    let h = statements.body f.body c in
    let behind_a = fine_right a (b also d also g also h) e in
    let behind_b = fine_right b (d also g also h) behind_a in
    let behind_d = fine_right d (g also h) behind_b in
    record {
      known = known_type ss f.result (fine_left a (b also d also g also h) e);
      result = must_hold (is_result (value_type f.result)) Mismatch f.name.at (fine_left b (d also g also h) behind_a);
      params =
          each_so (λ x. parameter c x ≡ Ok tt) (Parameter ss) (parameter_right ss fs prints f) f.params
          (every_right (parameter c) f.params (fine_left d (g also h) behind_b));
      once = fine_left g h behind_d;
      body = fine_right g h behind_d;
    }

abbrev text : Func → Text
text f = f.name.text

module _ (ss : List StructDef) (fs : List Func) (prints : Text → Option Span)
    (rights : Each (Right ss fs prints) fs) where
  abbrev all : List Function
  all = map (resolution.function ss fs) fs

  callable : (c : Scope) → c.functions ≡ all → FunctionsFit ss fs c
  callable c is name f e =
      let n = numbered text fs name f e in
      let r = (each_found (Right ss fs prints) (λ g. same g.name.text name) fs f rights e).holds in
      record {
        below =
            subst (λ l. number text fs name < length l) (sym is)
            (subst (λ m. number text fs name < m) (sym (length-map fs (resolution.function ss fs)))
            (number_below text fs name f n));
        is =
            ap (λ l. get_or l (number text fs name) no_function) is ∙ read text fs name f n
            (resolution.function ss fs) no_function;
        result = r.result;
        known = r.known;
        params = each_so (Parameter ss) (λ d. is_parameter d ≡ true) (λ d p. p.right) f.params r.params;
        named =
            each_named (λ d. d.name) [] f.params
            (apart [] (map (λ d. d.name) f.params) (doing f.body).variables r.once).front;
      }

  module _ (fields : FieldsFit ss) (f : Func) (r : Right ss fs prints f) (name : Text) (g : ℕ) where
    abbrev vs : List Decl
    vs = resolution.variables f

    abbrev function : Function
    function = resolution.function ss fs f

    abbrev c : Scope
    c = scope_of all name function g

    program : Program ss fs vs c
    program = record { fields = fields; functions = callable c refl; variables = refl }

    fact :
        BodyFact ss fs vs c program prints (value_type f.result) r.result (statements.body f.body)
        (resolution.body (resolving ss fs vs) f.body)
        (resolution.declared_in f.body) (doing f.body)
    fact = body_fact ss fs vs c program prints (value_type f.result) r.result f.body

    abbrev inner : List Decl
    inner = resolution.declared_in f.body

    -- all names of the function are declared once
    once : distinct [] (map (λ d. d.name) f.params ++ map (λ d. d.name) inner) ≡ Ok tt
    once = subst (λ l. distinct [] (map (λ d. d.name) f.params ++ l) ≡ Ok tt) fact.names r.once

    named : Each (IsNamed vs) vs
    named =
        each_named (λ d. d.name) [] vs (subst (λ l. distinct [] l ≡ Ok tt)
        (sym (map-append (λ d. d.name) f.params inner)) once)

    declaring : Declaring ss vs f.params (numbers vs f.params) (map (λ d. d.name) f.params) inner
    declaring = record {
      standing = start_standing ss vs f.params (each_front (IsNamed vs) f.params inner named) r.params;
      named = each_back (IsNamed vs) f.params inner named;
      once = (apart [] (map (λ d. d.name) f.params) (map (λ d. d.name) inner) once).back;
    }

    -- the numbers of all variables
    all_numbers : numbers vs f.params ++ numbers vs inner ≡ numbers vs vs
    all_numbers = sym (map-append (λ d. number (λ e. e.name.text) vs d.name.text) f.params inner)

    below : (x : ℕ) → IsIn x (numbers vs vs) → x < length function.variables
    below x h =
        subst (λ m. x < m) (sym (length-map vs (variable ss)))
        (each_in (λ y. y < length vs) (numbers vs vs) x (each_below vs vs named) h)

    abbrev Fits : Type 0
    Fits = SoundFunction (shapes ss) c function × KindsFunction (shapes ss) c function

    all_known : Each (IsKnown ss) inner → Each (IsKnown ss) vs
    all_known h =
        each_append (IsKnown ss) f.params inner
        (each_so (Parameter ss) (IsKnown ss) (λ d p. p.known) f.params r.params) h

    function_fits : Fits
    function_fits =
        let h = fact.shown false f.params (numbers vs f.params) (map (λ d. d.name) f.params) declaring r.body in (
          record {
            below = λ x k. below x (subst (IsIn x)
                (append_assoc function.params (map declared function.decls) (all_declare function.body)
                ∙ ap (λ l. numbers vs f.params ++ l) fact.declares ∙ all_numbers) k);
            decls = h.sound.0;
            body = h.sound.1;
          },
          record {
            variables = variables_below ss vs (all_known h.known);
            shared = variables_shared ss vs;
            result = pointer_below ss (value_type f.result) r.known;
            decls = h.kinds.0;
            body = h.kinds.1;
          },
        )

-- ---- programs

-- what is known of the items of a typed program
pub record Items (ss : List StructDef) (fs : List Func) : Type 0 where
  pub prints : Text → Option Span
  pub names : distinct [] (map (λ f. f.name) fs) ≡ Ok tt
  pub fields : FieldsFit ss
  pub small : Each (λ d. is_small d ≡ true) ss
  pub rights : Each (Right ss fs prints) fs
  pub main : list_any typing.is_main fs ≡ true

pub typed_items : (p : Source) → IsTyped p → Items (structs p) (functions p)
typed_items p t =
    let ss = structs p in
    let fs = functions p in
    let one = λ (f : Func). typing.function (start t.prints fs ss f) f in
    let a = distinct [] (map (λ f. f.name) fs) in
    let b = distinct [] (map (λ d. d.name) ss) in
    let d = every (map (structure ss) ss) in
    let g = every (map one fs) in
    let h = must (list_any typing.is_main fs) NoMain p.end in
    let behind_a = fine_right a (b also d also g also h) t.fine in
    let behind_b = fine_right b (d also g also h) behind_a in
    let behind_d = fine_right d (g also h) behind_b in
    record {
      prints = t.prints;
      names = fine_left a (b also d also g also h) t.fine;
      fields = fields_fit ss (fine_left d (g also h) behind_b);
      small =
          each_so (λ x. structure ss x ≡ Ok tt) (λ x. is_small x ≡ true) (structure_small ss) ss
          (every_right (structure ss) ss (fine_left d (g also h) behind_b));
      rights =
          each_so (λ f. one f ≡ Ok tt) (Right ss fs t.prints) (function_right ss fs t.prints) fs
          (every_right one fs (fine_left g h behind_d));
      main = must_hold (list_any typing.is_main fs) NoMain p.end (fine_right g h behind_d);
    }

some_mapped :
    {A B : Type 0} (f : A → B) (o : Option A) (y : B) → option_map f o ≡ Some y → (x : A) × (o ≡ Some x) × (f x ≡ y)
some_mapped f None y e = absurd (none-some y e)
some_mapped f (Some x) y e = (x, refl, cc)

-- the variables of each function are declared once
pub named_variables :
    (p : Source) → IsTyped p → (f : Func) (x : Text) → function_named (functions p) x ≡ Some f →
    Each (IsNamed (resolution.variables f)) (resolution.variables f)
named_variables p t f x e =
    let i = typed_items p t in
    let r =
    (each_found (Right (structs p) (functions p) i.prints) (λ g. same g.name.text x) (functions p) f i.rights
    e).holds in
    named (structs p) (functions p) i.prints i.rights i.fields f r [] 0

-- each function of a typed program keeps to what its simple form needs
module _ (p : Source) (t : IsTyped p) (k : ℕ) (f : Function) (e : slice_get (resolution.program p) k ≡ Some f)
    (name : Text) (g : ℕ) where
  abbrev scope : Function → Scope
  scope h = scope_of (resolution.program p) name h g

  functions_fit :
      SoundFunction (shapes (structs p)) (scope f) f × KindsFunction (shapes (structs p)) (scope f) f
  functions_fit =
      let i = typed_items p t in
      let ss = structs p in
      let fs = functions p in
      let x =
      some_mapped (resolution.function ss fs) (slice_get fs k) f
      (sym (slice_get-map (resolution.function ss fs) fs k) ∙ e) in
      subst (λ h. SoundFunction (shapes ss) (scope h) h × KindsFunction (shapes ss) (scope h) h) x.2
      (function_fits ss fs i.prints i.rights i.fields x.0 (each_at (Right ss fs i.prints) fs k x.0 i.rights x.1) name g)

  pub sound_functions : SoundFunction (shapes (structs p)) (scope_of (resolution.program p) name f g) f
  sound_functions = functions_fit.0

  pub kinds_functions : KindsFunction (shapes (structs p)) (scope_of (resolution.program p) name f g) f
  kinds_functions = functions_fit.1
