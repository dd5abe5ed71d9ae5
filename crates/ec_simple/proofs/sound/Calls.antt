-- Calls, their arguments and what they give.
use Rattle.std.proofs.Common.{◌≡◌, refl, sym, ◌∙◌, ap, ap₂, subst, ℕ, suc, ◌<◌, ◌==◌, Bool, true, false, ◌||◌, not, if◌then◌else◌, List, [], ◌∷◌, ◌++◌, length, map, find, get_or, Option, Some, None, option_map, is_some, Ok}
use Rattle.std.proofs.lemmas.Bool.{or_right}
use Rattle.std.proofs.lemmas.List.{length-map}
use Rattle.std.proofs.lemmas.List.Folds.{find-append}
use Rattle.std.proofs.lemmas.Option.{none-some}
use Rattle.std.specs.Bool.{then_some}
use Rattle.std.specs.Option.{option_or}
use Rattle.ec_base.specs.declared.text.Text.{Text}
use Rattle.ec_base.specs.declared.token.Span.{Span}
use Rattle.ec_calls.specs.Items.{function_named}
use Rattle.ec_simple.specs.Expressions.{Scope, no_variable, function_at, pointer, gives}
use Rattle.ec_simple.specs.Kinds.{arguments_point, parameters_point, Kinds, KindsCall, KindsList, KindsPlacing}
use Rattle.ec_simple.specs.Lower.{shapes}
use Rattle.ec_simple.specs.Sound.{count, Sound, SoundCall, SoundList, SoundPlacing, Gives}
use Rattle.ec_syntax.specs.declared.expression.Expr.{Expr as Written}
use Rattle.ec_syntax.specs.declared.item.Func.{Func}
use Rattle.ec_syntax.specs.declared.item.StructDef.{StructDef}
use Rattle.ec_syntax.specs.declared.name.Mode.{Mode}
use Rattle.ec_syntax.specs.declared.name.Mode.TheVariants as mode
use Rattle.ec_syntax.specs.declared.name.Name.{Name}
use Rattle.ec_syntax.specs.declared.name.Ty.{Ty}
use Rattle.ec_syntax.specs.declared.statement.Decl.{Decl}
use Rattle.ec_syntax.specs.Grammar.Words.{same}
use Rattle.ec_types.specs.Arguments.{argument, fits, arguments, result_type, quiet, stays_local}
use Rattle.ec_types.specs.Context.{is_local_mode, is_shared_mode}
use Rattle.ec_types.specs.declared.value_type.ExprType.{ExprType}
use Rattle.ec_types.specs.declared.value_type.ExprType.TheVariants.{Value}
use Rattle.ec_types.specs.declared.value_type.ValueBase.{ValueBase}
use Rattle.ec_types.specs.declared.value_type.ValueBase.TheVariants.{Void, Int, Struct}
use Rattle.ec_types.specs.declared.value_type.ValueType.{ValueType}
use Rattle.ec_types.specs.Declarations.{is_parameter, is_result}
use Rattle.ec_types.specs.Expressions.{Placed}
use Rattle.ec_types.specs.Judged.{Judged, ◌and_then◌, ◌also◌}
use Rattle.ec_types.specs.Meaning.Layout.{or_zero, shape_of}
use Rattle.ec_types.specs.Meaning.Resolution as resolution
use Rattle.ec_types.specs.Meaning.Resolution.{Resolved, value, Calling, or_number, is_struct, variable, function_number, function_gives}
use Rattle.ec_types.specs.Meaning.Tree.{Exprs, exprs, Placing, Invoke, Called}
use Rattle.ec_types.specs.Names.{variable_named}
use Rattle.ec_types.specs.Operators.{passes}
use Rattle.ec_types.specs.Parts as parts
use Rattle.ec_types.specs.Parts.{Part, typed}
use Rattle.ec_types.specs.Types.{value_type, is_int, is_pointer}
use Rattle.ec_simple.proofs.sound.Each.{Each, each_so}
use Rattle.ec_simple.proofs.sound.Good.{Good}
use Rattle.ec_simple.proofs.sound.Numbers.{number, numbered, read}
use Rattle.ec_simple.proofs.sound.Points.{pointer_as, shared_is_shared, assigned_points}
use Rattle.ec_simple.proofs.sound.Right.{then_right, also_left, and_right, typed_is, valued_is, shared_is}
use Rattle.ec_simple.proofs.sound.Shapes.{base_known}
use Rattle.ec_simple.proofs.sound.Types.{may_stand, is_spread, type_known, single_is_no_struct, assignable_stands, shared_stands, stands_gives, none_either, pointed}

-- what is known of the expression that a part became
abbrev pub Becomes : List StructDef → Scope → List ℕ → Part → Resolved → Type 0
Becomes ss c sc p r = (t : ExprType) → p.is ≡ Ok t → Good ss c sc p.form t r

-- ---- parameters ask for values

passes_by :
    (name : Name) (m : Mode) (ty : Ty) (init : Option Written) (t : ExprType) →
    is_parameter (record { name = name; mode = m; ty = ty; init = init }) ≡ true →
    passes (record { name = name; mode = m; ty = ty; init = init }) t ≡ true → may_stand t ≡ true
passes_by name mode.Plain ty init t h k = assignable_stands (value_type ty) t h k
passes_by name mode.Local ty init t h k =
    assignable_stands (value_type ty) t (or_right (is_int (value_type ty)) (is_pointer (value_type ty)) h) k
passes_by name mode.Shared ty init t h k = shared_stands t k

passes_stands : (d : Decl) (t : ExprType) → is_parameter d ≡ true → passes d t ≡ true → may_stand t ≡ true
passes_stands d t h k = passes_by d.name d.mode d.ty d.init t h k

argument_by :
    (lets : parts.Form → Bool) (local : Bool) (a : Part) (t : ExprType) (b : Bool) →
    (if b then parts.shared a
    else (parts.valued a and_then (λ u. Ok u also stays_local (local || lets a.form) a.at u))) ≡ Ok t →
    a.is ≡ Ok t
argument_by lets local a t true e = shared_is a t e
argument_by lets local a t false e =
    let h = then_right (parts.valued a) (λ u. Ok u also stays_local (local || lets a.form) a.at u) t e in
    let same = also_left (Ok h.a) (stays_local (local || lets a.form) a.at h.a) t h.next in
    let first = h.first in
    valued_is a t cc

argument_is : (lets : parts.Form → Bool) (d : Decl) (a : Part) (t : ExprType) → argument lets d a ≡ Ok t → a.is ≡ Ok t
argument_is lets d a t e = argument_by lets (not (is_local_mode d.mode)) a t (is_shared_mode d.mode) e

-- and they are pointers where their parameters are
alike_by :
    (ss : List StructDef) (name : Name) (m : Mode) (ty : Ty) (init : Option Written) (t : ExprType) →
    passes (record { name = name; mode = m; ty = ty; init = init }) t ≡ true →
    is_some (pointer_as ss t) ≡ is_some (variable ss (record { name = name; mode = m; ty = ty; init = init })).pointer
alike_by ss name mode.Plain ty init t k = assigned_points ss (Value (value_type ty)) t k
alike_by ss name mode.Local ty init t k = assigned_points ss (Value (value_type ty)) t k
alike_by ss name mode.Shared ty init t k = ap is_some (shared_is_shared ss t k)

passes_alike :
    (ss : List StructDef) (d : Decl) (t : ExprType) → passes d t ≡ true →
    is_some (pointer_as ss t) ≡ is_some (variable ss d).pointer
passes_alike ss d t k = alike_by ss d.name d.mode d.ty d.init t k

-- whether parameters are pointers, by their declarations
abbrev pub parameters_are : List StructDef → List Decl → List Bool
parameters_are ss ds = map (λ d. is_some (variable ss d).pointer) ds

module _ (ss : List StructDef) (c : Scope) (sc : List ℕ) where
  record Argument (d : Decl) (r : Resolved) : Type 0 where
    sound : Sound (shapes ss) c sc (value r)
    kinds : Kinds (shapes ss) c (value r)
    alike : is_some (pointer c (value r)) ≡ is_some (variable ss d).pointer

  one_argument :
      (lets : parts.Form → Bool) (d : Decl) (p : Part) (r : Resolved) → Becomes ss c sc p r → is_parameter d ≡ true →
      fits lets (Some d) p ≡ Ok true → Argument d r
  one_argument lets d p r becomes right e =
      let h = then_right (argument lets d p) (λ t. Ok (passes d t)) true e in
      let passed : passes d h.a ≡ true = let n = h.next in cc in
      let g = becomes h.a (argument_is lets d p h.a h.first) in
      record {
        sound = g.sound (passes_stands d h.a right passed);
        kinds = g.kinds (passes_stands d h.a right passed);
        alike = ap is_some g.points ∙ passes_alike ss d h.a passed;
      }

  no_argument : {B : Type 0} (lets : parts.Form → Bool) (p : Part) → fits lets None p ≡ Ok true → B
  no_argument lets p e =
      let h = then_right (parts.valued p) (λ t. Ok false) true e in
      let n : ◌≡◌ {A = Judged Bool} (Ok false) (Ok true) = h.next in
      let no : ⊥ = cc in absurd no

  -- as many arguments as parameters, and what they become
  pub record Arguments (es : Exprs) (ds : List Decl) : Type 0 where
    pub many : count es ≡ length ds
    pub sound : SoundList (shapes ss) c sc es
    pub kinds : KindsList (shapes ss) c es
    pub alike : arguments_point c es ≡ parameters_are ss ds

  none_left : (lets : parts.Form → Bool) (ds : List Decl) → arguments lets ds [] ≡ Ok true → Arguments (exprs []) ds
  none_left lets [] e = record { many = refl; sound = tt; kinds = tt; alike = refl }
  none_left lets (d ∷ ds) e = let no : ⊥ = cc in absurd no

  module _ {E : Type 0} (part : E → Part) (became : E → Resolved) {X : Type 0} (it : X → E)
      (each : (x : X) → Becomes ss c sc (part (it x)) (became (it x))) where
    abbrev pub parts_of : List X → List Part
    parts_of xs = map part (map it xs)

    abbrev pub values_of : List X → Exprs
    values_of xs = exprs (map value (map became (map it xs)))

    pub arguments_sound :
        (lets : parts.Form → Bool) (ds : List Decl) (xs : List X) → Each (λ d. is_parameter d ≡ true) ds →
        arguments lets ds (parts_of xs) ≡ Ok true → Arguments (values_of xs) ds
    arguments_sound lets ds [] right e = none_left lets ds e
    arguments_sound lets [] (x ∷ xs) right e =
        no_argument lets (part (it x)) (and_right (fits lets None (part (it x))) (arguments lets [] (parts_of xs)) e).0
    arguments_sound lets (d ∷ ds) (x ∷ xs) right e =
        let h = and_right (fits lets (Some d) (part (it x))) (arguments lets ds (parts_of xs)) e in
        let one = one_argument lets d (part (it x)) (became (it x)) (each x) right.0 h.0 in
        let rest = arguments_sound lets ds xs right.1 h.1 in
        record {
          many = ap suc rest.many;
          sound = (one.sound, rest.sound);
          kinds = (one.kinds, rest.kinds);
          alike = ap₂ (λ b bs. b ∷ bs) one.alike rest.alike;
        }

-- ---- the function that is called

-- a function of the program is at its number as it became
pub record Callable (ss : List StructDef) (fs : List Func) (c : Scope) (name : Text) (f : Func) : Type 0 where
  pub below : function_number fs name < length c.functions
  pub is : function_at c (function_number fs name) ≡ resolution.function ss fs f
  pub result : is_result (value_type f.result) ≡ true
  pub known : base_known ss (value_type f.result).base ≡ true
  pub params : Each (λ d. is_parameter d ≡ true) f.params
  pub named : Each (λ d. variable_named f.params d.name.text ≡ Some d) f.params

abbrev pub FunctionsFit : List StructDef → List Func → Scope → Type 0
FunctionsFit ss fs c = (name : Text) (f : Func) → function_named fs name ≡ Some f → Callable ss fs c name f

pub record GoodCall (ss : List StructDef) (c : Scope) (sc : List ℕ) (t : ExprType) (x : Calling) : Type 0 where
  pub type : x.1 ≡ t
  pub known : type_known ss t ≡ true
  pub single : is_spread t ≡ false
  pub call : SoundCall (shapes ss) c sc x.0
  pub gives : may_stand t ≡ true → Gives (shapes ss) c x.0
  pub kinds : KindsCall (shapes ss) c x.0
  pub points : pointer c (Called x.0) ≡ pointer_as ss t

abbrev pub CallBecomes : List StructDef → Scope → List ℕ → Judged ExprType → Calling → Type 0
CallBecomes ss c sc j x = (t : ExprType) → j ≡ Ok t → GoodCall ss c sc t x

abbrev pub GoodPlacing : List StructDef → Scope → List ℕ → Placing → Type 0
GoodPlacing ss c sc q = SoundPlacing (shapes ss) c sc q × KindsPlacing (shapes ss) c q

abbrev pub PlaceBecomes : List StructDef → Scope → List ℕ → Placed → Placing → Type 0
PlaceBecomes ss c sc p q = p.fits ≡ Ok true → GoodPlacing ss c sc q

result_by :
    (base : ValueBase) (stars : ℕ) → is_result (record { base = base; stars = stars }) ≡ true →
    is_struct (Value (record { base = base; stars = stars })) ≡ false
result_by Void stars h = none_either (stars == 0)
result_by Int stars h = none_either (stars == 0)
result_by (Struct s) stars h = single_is_no_struct (record { base = Struct s; stars = stars }) h

result_is_not_spread : (v : ValueType) → is_result v ≡ true → is_spread (Value v) ≡ false
result_is_not_spread v h = ap (λ b. b || false) (result_by v.base v.stars h)

result_is :
    (f : Func) (b : Bool) (t : ExprType) → result_type f b ≡ Some t → (b ≡ true) × (Value (value_type f.result) ≡ t)
result_is f true t h = (refl, cc)
result_is f false t h = absurd (none-some t h)

gives_by : (b : Bool) (x : ℕ) → (if b then Some (or_zero (then_some b x)) else None) ≡ then_some b x
gives_by true x = refl
gives_by false x = refl

-- the parameters of a function, by their numbers
numbers_point :
    (ss : List StructDef) (vs ds : List Decl) → Each (λ d. variable_named vs d.name.text ≡ Some d) ds →
    map (λ x. is_some (get_or (map (variable ss) vs) x no_variable).pointer)
    (map (λ d. number (λ e. e.name.text) vs d.name.text) ds)
    ≡ parameters_are ss ds
numbers_point ss vs [] h = refl
numbers_point ss vs (d ∷ ds) h =
    let text = λ (e : Decl). e.name.text in
    let here = read text vs d.name.text d (numbered text vs d.name.text d h.0) (variable ss) no_variable in
    ap₂ (λ b bs. b ∷ bs) (ap (λ v. is_some v.pointer) here) (numbers_point ss vs ds h.1)

named_before :
    (ds more : List Decl) (d : Decl) → variable_named ds d.name.text ≡ Some d →
    variable_named (ds ++ more) d.name.text ≡ Some d
named_before ds more d h =
    let test = λ (e : Decl). same e.name.text d.name.text in
    find-append test ds more ∙ ap (λ o. option_or o (find test more)) h

function_points :
    (ss : List StructDef) (fs : List Func) (f : Func) → Each (λ d. variable_named f.params d.name.text ≡ Some d) f.params →
    parameters_point (resolution.function ss fs f) ≡ parameters_are ss f.params
function_points ss fs f h =
    numbers_point ss (resolution.variables f) f.params
    (each_so (λ d. variable_named f.params d.name.text ≡ Some d)
    (λ d. variable_named (resolution.variables f) d.name.text ≡ Some d)
    (named_before f.params (resolution.declared_in f.body)) f.params h)

module _ (ss : List StructDef) (fs : List Func) (c : Scope) (sc : List ℕ) (functions : FunctionsFit ss fs c) where
  abbrev pub calls : Text → Span → Exprs → Placing → Calling
  calls name at es q = (Invoke at (function_number fs name) es q, function_gives fs name)

  of_function :
      (name : Text) (at : Span) (f : Func) (es : Exprs) (q : Placing) → function_named fs name ≡ Some f →
      Arguments ss c sc es f.params → GoodPlacing ss c sc q →
      GoodCall ss c sc (Value (value_type f.result)) (calls name at es q)
  of_function name at f es q e args place =
      let k = functions name f e in
      let v = value_type f.result in
      record {
        type = ap (λ o. or_number (option_map (λ g. Value (value_type g.result)) o)) e;
        known = k.known;
        single = result_is_not_spread v k.result;
        call = (k.below, args.many ∙ sym (ap (λ g. length g.params) k.is ∙ length-map f.params _), args.sound, place.0);
        gives = λ h. ap (λ g. g.void) k.is ∙ stands_gives v h;
        kinds = (args.kinds, args.alike ∙ sym (ap parameters_point k.is ∙ function_points ss fs f k.named), place.1);
        points = ap gives k.is ∙ gives_by (is_pointer v) (shape_of ss (pointed v));
      }

  pub called_by :
      (inside : Bool) (prints : Option Span) (name : Name) (at : Span) (f : Func) (es : Exprs) (q : Placing)
      (fit : Judged Bool) (t : ExprType) →
      function_named fs name.text ≡ Some f → (fit ≡ Ok true → Arguments ss c sc es f.params) →
      (fit ≡ Ok true → GoodPlacing ss c sc q) →
      (fit and_then (λ b. typed at (result_type f b) also quiet inside prints at)) ≡ Ok t →
      GoodCall ss c sc t (calls name.text at es q)
  called_by inside prints name at f es q fit t e args place h =
      let k = then_right fit (λ b. typed at (result_type f b) also quiet inside prints at) t h in
      let o =
      typed_is at (result_type f k.a) t
      (also_left (typed at (result_type f k.a)) (quiet inside prints at) t k.next) in
      let r = result_is f k.a t o in
      let right : fit ≡ Ok true = k.first ∙ ap Ok r.0 in
      subst (λ u. GoodCall ss c sc u (calls name.text at es q)) r.1
      (of_function name.text at f es q e (args right) (place right))
