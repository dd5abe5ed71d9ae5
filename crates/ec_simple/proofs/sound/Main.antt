-- The main of a typed program.
use Rattle.std.proofs.Common.{◌≡◌, refl, sym, ◌∙◌, ap, subst, inl, inr, Bool, true, false, ◌&&◌, List, [], ◌∷◌, map, codes, slice_get, get_or, Option, Some, None}
use Rattle.std.proofs.lemmas.Bool.{false≢true, and_parts, or_cases}
use Rattle.std.specs.List.{list_any, list_all}
use Rattle.ec_base.specs.declared.text.Text.{Text}
use Rattle.ec_calls.specs.Items.{functions, structs, function_named}
use Rattle.ec_simple.specs.Expressions.{no_variable}
use Rattle.ec_syntax.specs.declared.expression.Expr.{Expr}
use Rattle.ec_syntax.specs.declared.item.Func.{Func}
use Rattle.ec_syntax.specs.declared.item.Program.{Program as Source}
use Rattle.ec_syntax.specs.declared.item.StructDef.{StructDef}
use Rattle.ec_syntax.specs.declared.name.Mode.{Mode}
use Rattle.ec_syntax.specs.declared.name.Mode.TheVariants as mode
use Rattle.ec_syntax.specs.declared.name.Name.{Name}
use Rattle.ec_syntax.specs.declared.name.Ty.{Ty}
use Rattle.ec_syntax.specs.declared.statement.Decl.{Decl}
use Rattle.ec_syntax.specs.Grammar.Words.{same}
use Rattle.ec_types.specs.declared.value_type.ValueType.{ValueType}
use Rattle.ec_types.specs.Meaning.Layout.{pointer_to as pointer_behind}
use Rattle.ec_types.specs.Meaning.Resolution as resolution
use Rattle.ec_types.specs.Meaning.Resolution.{variable}
use Rattle.ec_types.specs.Meaning.Tree.{Function, Variable}
use Rattle.ec_types.specs.Places.{place}
use Rattle.ec_types.specs.Programs.{IsTyped, is_main, is_plain}
use Rattle.ec_types.specs.Types.{value_type, int, is_int, is_void, is_pointer}
use Rattle.ec_types.proofs.Places.{same_is}
use Rattle.ec_simple.proofs.sound.Each.{Each, each_front}
use Rattle.ec_simple.proofs.sound.Numbers.{number, numbered, number_is, mapped, read}
use Rattle.ec_simple.proofs.sound.Once.{Named, each_named}
use Rattle.ec_simple.proofs.sound.Programs.{typed_items, named_variables}
use Rattle.ec_simple.proofs.sound.Scopes.{IsNamed}
use Rattle.ec_simple.proofs.sound.Types.{same_type_is}
use Rattle.ec_simple.proofs.sound.Variables.{name_of}

-- an int that isn't shared
pub record IsInt (v : Variable) : Type 0 where
  pub pointer : v.pointer ≡ None
  pub shared : v.shared ≡ false

-- the first function named main takes ints and gives one
pub record Main (p : Source) : Type 0 where
  pub function : Function
  pub placed : place (map (λ f. f.name.text) (functions p)) (codes "main") ≡ Some (resolution.main_number p)
  pub there : slice_get (resolution.program p) (resolution.main_number p) ≡ Some function
  pub void : function.void ≡ false
  pub pointer : function.pointer ≡ false
  pub ints : Each (λ x. IsInt (get_or function.variables x no_variable)) function.params

-- ---- what it takes and gives

void_by : (v : ValueType) → int ≡ v → is_void v ≡ false
void_by v e = subst (λ w. is_void w ≡ false) e refl

pointer_by : (v : ValueType) → int ≡ v → is_pointer v ≡ false
pointer_by v e = subst (λ w. is_pointer w ≡ false) e refl

behind_by : (ss : List StructDef) (v : ValueType) → int ≡ v → pointer_behind ss v ≡ None
behind_by ss v e = subst (λ w. pointer_behind ss w ≡ None) e refl

int_is : (v : ValueType) → is_int v ≡ true → int ≡ v
int_is v e = sym (same_type_is v int e)

int_by :
    (ss : List StructDef) (name : Name) (m : Mode) (ty : Ty) (init : Option Expr) → is_plain m ≡ true →
    int ≡ value_type ty →
    IsInt (variable ss (record { name = name; mode = m; ty = ty; init = init }))
int_by ss name mode.Plain ty init h e = record { pointer = behind_by ss (value_type ty) e; shared = refl }
int_by ss name mode.Local ty init h e = absurd (false≢true h)
int_by ss name mode.Shared ty init h e = absurd (false≢true h)

abbrev is_int_parameter : Decl → Bool
is_int_parameter d = is_plain d.mode && is_int (value_type d.ty)

int_variable : (ss : List StructDef) (d : Decl) → is_int_parameter d ≡ true → IsInt (variable ss d)
int_variable ss d e =
    let h = and_parts (is_plain d.mode) (is_int (value_type d.ty)) e in
    int_by ss d.name d.mode d.ty d.init h.0 (int_is (value_type d.ty) h.1)

int_parameters :
    (ss : List StructDef) (vs ds : List Decl) → Each (IsNamed vs) ds → list_all is_int_parameter ds ≡ true →
    Each (λ x. IsInt (get_or (map (variable ss) vs) x no_variable)) (map (λ d. number name_of vs (name_of d)) ds)
int_parameters ss vs [] h e = tt
int_parameters ss vs (d ∷ ds) h e =
    let k = and_parts (is_int_parameter d) (list_all is_int_parameter ds) e in (
      subst IsInt (sym (read name_of vs (name_of d) d (numbered name_of vs (name_of d) d h.0) (variable ss)
          no_variable)) (int_variable ss d k.0),
      int_parameters ss vs ds h.1 k.1,
    )

-- ---- where it is

record Some_main (fs : List Func) : Type 0 where
  f : Func
  named : function_named fs (codes "main") ≡ Some f
  right : is_main f ≡ true

main_among :
    (all fs : List Func) → Each (Named (λ f. f.name) all) fs → list_any is_main fs ≡ true → Some_main all
main_among all [] h e = absurd (false≢true e)
main_among all (f ∷ fs) h e = elim (or_cases (is_main f) (list_any is_main fs) e) [
  | inl q ↦
      let right =
      and_parts (same f.name.text (codes "main") && is_int (value_type f.result))
      (list_all is_int_parameter f.params) q in
      let called = and_parts (same f.name.text (codes "main")) (is_int (value_type f.result)) right.0 in
      record {
        f = f;
        named = subst (λ n. function_named all n ≡ Some f) (same_is f.name.text (codes "main") called.0) h.0;
        right = q;
      }
  | inr q ↦ main_among all fs h.1 q
]

abbrev text : Func → Text
text f = f.name.text

pub main_is : (p : Source) → IsTyped p → Main p
main_is p t =
    let i = typed_items p t in
    let ss = structs p in
    let fs = functions p in
    let m = main_among fs fs (each_named (λ f. f.name) [] fs i.names) i.main in
    let n = numbered text fs (codes "main") m.f m.named in
    let a =
    and_parts (same m.f.name.text (codes "main") && is_int (value_type m.f.result))
    (list_all is_int_parameter m.f.params) m.right in
    let b = and_parts (same m.f.name.text (codes "main")) (is_int (value_type m.f.result)) a.0 in
    let result = int_is (value_type m.f.result) b.1 in
    record {
      function = resolution.function ss fs m.f;
      placed = n.placed ∙ ap Some (sym (number_is text fs (codes "main") m.f n));
      there = mapped text fs (codes "main") m.f n (resolution.function ss fs);
      void = void_by (value_type m.f.result) result;
      pointer = pointer_by (value_type m.f.result) result;
      ints =
          int_parameters ss (resolution.variables m.f) m.f.params
          (each_front (IsNamed (resolution.variables m.f)) m.f.params (resolution.declared_in m.f.body)
          (named_variables p t m.f (codes "main") m.named)) a.1;
    }
