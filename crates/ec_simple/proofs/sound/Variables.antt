-- Variables in scope, as expressions.
use Rattle.std.proofs.Common.{◌≡◌, refl, sym, ◌∙◌, ap, subst, ℕ, ◌==◌, Bool, true, false, if◌then◌else◌, List, map, get_or, Option, Some, option_map, true≢false}
use Rattle.std.proofs.lemmas.Bool.{false≢true, or_right}
use Rattle.ec_base.specs.declared.text.Text.{Text}
use Rattle.ec_base.specs.declared.token.Span.{Span}
use Rattle.ec_simple.specs.Expressions.{Scope, variable_at, no_variable}
use Rattle.ec_simple.specs.Sound.{IsIn}
use Rattle.ec_syntax.specs.declared.expression.Expr.{Expr as Written}
use Rattle.ec_syntax.specs.declared.item.Func.{Func}
use Rattle.ec_syntax.specs.declared.item.StructDef.{StructDef}
use Rattle.ec_syntax.specs.declared.name.Mode.{Mode}
use Rattle.ec_syntax.specs.declared.name.Mode.TheVariants as mode
use Rattle.ec_syntax.specs.declared.name.Name.{Name}
use Rattle.ec_syntax.specs.declared.name.Ty.{Ty}
use Rattle.ec_syntax.specs.declared.statement.Decl.{Decl}
use Rattle.ec_syntax.specs.Grammar.Words.{same}
use Rattle.ec_types.specs.declared.value_type.ExprType.TheVariants.{Shared, SharedName}
use Rattle.ec_types.specs.declared.value_type.ValueType.{ValueType}
use Rattle.ec_types.specs.Context.{is_shared_mode}
use Rattle.ec_types.specs.Declarations.{may_be}
use Rattle.ec_types.specs.Meaning.Resolution as resolution
use Rattle.ec_types.specs.Meaning.Resolution.{or_number, variable_number, variable_is, named, variable}
use Rattle.ec_types.specs.Names.{variable_named}
use Rattle.ec_types.specs.Operators.{variable_type}
use Rattle.ec_types.specs.Parts as parts
use Rattle.ec_types.specs.Types.{value_type, is_int, is_pointer}
use Rattle.ec_types.proofs.Places.{same_is}
use Rattle.ec_simple.proofs.sound.Each.{Each, each_found}
use Rattle.ec_simple.proofs.sound.Good.{Good, Holds}
use Rattle.ec_simple.proofs.sound.Numbers.{number, numbered, read}
use Rattle.ec_simple.proofs.sound.Points.{is_value, pointer_as}
use Rattle.ec_simple.proofs.sound.Shapes.{base_known}
use Rattle.ec_simple.proofs.sound.Types.{is_spread, type_known, single_is_not_spread}

abbrev pub name_of : Decl → Text
name_of d = d.name.text

-- a variable or parameter in scope: of all that the function declares it is the one of its name
pub record InScope (ss : List StructDef) (vs : List Decl) (sc : List ℕ) (d : Decl) : Type 0 where
  pub named : variable_named vs d.name.text ≡ Some d
  pub inside : IsIn (number name_of vs d.name.text) sc
  pub shared : ValueType
  pub right : may_be shared d.mode (value_type d.ty) ≡ true
  pub known : base_known ss (value_type d.ty).base ≡ true

-- ---- types of variables

pub record VariableType (ss : List StructDef) (d : Decl) : Type 0 where
  pub known : type_known ss (variable_type d) ≡ true
  pub single : is_spread (variable_type d) ≡ false
  pub points : (variable ss d).pointer ≡ pointer_as ss (variable_type d)
  pub unshared : is_value (variable_type d) ≡ true → (variable ss d).shared ≡ false

shared_known : (ss : List StructDef) (b : Bool) → type_known ss (if b then SharedName else Shared) ≡ true
shared_known ss true = refl
shared_known ss false = refl

shared_single : (b : Bool) → is_spread (if b then SharedName else Shared) ≡ false
shared_single true = refl
shared_single false = refl

shared_points : (ss : List StructDef) (b : Bool) → Some 0 ≡ pointer_as ss (if b then SharedName else Shared)
shared_points ss true = refl
shared_points ss false = refl

shared_no_value : {B : Type 0} (b : Bool) → is_value (if b then SharedName else Shared) ≡ true → B
shared_no_value true h = absurd (false≢true h)
shared_no_value false h = absurd (false≢true h)

variable_type_by :
    (ss : List StructDef) (name : Name) (m : Mode) (ty : Ty) (init : Option Written) (shared : ValueType) →
    may_be shared m (value_type ty) ≡ true → base_known ss (value_type ty).base ≡ true →
    VariableType ss (record { name = name; mode = m; ty = ty; init = init })
variable_type_by ss name mode.Plain ty init shared h k =
    record { known = k; single = single_is_not_spread (value_type ty) h; points = refl; unshared = λ v. refl }
variable_type_by ss name mode.Local ty init shared h k = record {
  known = k;
  single = single_is_not_spread (value_type ty) (or_right (is_int (value_type ty)) (is_pointer (value_type ty)) h);
  points = refl;
  unshared = λ v. refl;
}
variable_type_by ss name mode.Shared ty init shared h k = record {
  known = shared_known ss (ty.stars == 0);
  single = shared_single (ty.stars == 0);
  points = shared_points ss (ty.stars == 0);
  unshared = λ v. shared_no_value (ty.stars == 0) v;
}

pub variable_type_of :
    (ss : List StructDef) (d : Decl) (shared : ValueType) → may_be shared d.mode (value_type d.ty) ≡ true →
    base_known ss (value_type d.ty).base ≡ true → VariableType ss d
variable_type_of ss d shared h k = variable_type_by ss d.name d.mode d.ty d.init shared h k

shared_by :
    (ss : List StructDef) (name : Name) (m : Mode) (ty : Ty) (init : Option Written) → is_shared_mode m ≡ true →
    (variable ss (record { name = name; mode = m; ty = ty; init = init })).pointer ≡ Some 0
shared_by ss name mode.Plain ty init h = absurd (false≢true h)
shared_by ss name mode.Local ty init h = absurd (false≢true h)
shared_by ss name mode.Shared ty init h = refl

pub shared_variable :
    (ss : List StructDef) (d : Decl) → is_shared_mode d.mode ≡ true → (variable ss d).pointer ≡ Some 0
shared_variable ss d h = shared_by ss d.name d.mode d.ty d.init h

-- ---- variables as expressions

module _ (ss : List StructDef) (fs : List Func) (vs : List Decl) (c : Scope)
    (variables : c.variables ≡ map (variable ss) vs)
    (sc : List ℕ) (scope : List Decl) (in_scope : Each (InScope ss vs sc) scope) where
  abbrev pub resolving : resolution.Scope
  resolving = record { structs = ss; functions = fs; variables = vs }

  pub record Here (x : Text) (d : Decl) : Type 0 where
    pub named : variable_named vs x ≡ Some d
    pub inside : IsIn (number name_of vs x) sc
    pub kind : VariableType ss d

  pub here : (x : Text) (d : Decl) → variable_named scope x ≡ Some d → Here x d
  here x d e =
      let f = each_found (InScope ss vs sc) (λ y. same y.name.text x) scope d in_scope e in
      let h = f.holds in
      let is : d.name.text ≡ x = same_is d.name.text x f.passes in
      record {
        named = subst (λ n. variable_named vs n ≡ Some d) is h.named;
        inside = subst (λ n. IsIn (number name_of vs n) sc) is h.inside;
        kind = variable_type_of ss d h.shared h.right h.known;
      }

  there : (x : Text) (d : Decl) → Here x d → variable_at c (number name_of vs x) ≡ variable ss d
  there x d h =
      ap (λ l. get_or l (number name_of vs x) no_variable) variables
      ∙ read name_of vs x d (numbered name_of vs x d h.named) (variable ss) no_variable

  pub good_variable :
      (at : Span) (x : Text) (d : Decl) → Here x d →
      Good ss c sc (parts.Variable x) (variable_type d) (named resolving at (variable_is resolving x) x)
  good_variable at x d h =
      let n = number name_of vs x in
      record {
        type = ap (λ o. or_number (option_map variable_type o)) h.named;
        known = h.kind.known;
        sound = λ k. h.inside;
        kinds = λ k. tt;
        points = ap (λ v. v.pointer) (there x d h) ∙ h.kind.points;
        stands = λ k. absurd (false≢true k);
        access = λ k. absurd (true≢false (sym k ∙ h.kind.single));
        variable = λ k. refl;
        left = λ k l. refl;
        set = λ y k. let same_place : (at, n) ≡ y = cc in subst (λ z. IsIn z.1 sc) same_place h.inside;
        holds = λ y k v.
            let same_place : (at, n) ≡ y = cc in
            subst (λ z. Holds c z.1 (pointer_as ss (variable_type d))) same_place (
            record {
              pointer = ap (λ v. v.pointer) (there x d h) ∙ h.kind.points;
              shared = ap (λ v. v.shared) (there x d h) ∙ h.kind.unshared v;
            }
            );
      }

  -- `&` and a shared variable
  pub good_address :
      (at : Span) (x : Text) (d : Decl) → Here x d → is_shared_mode d.mode ≡ true →
      Good ss c sc parts.Other Shared (named resolving at Shared x)
  good_address at x d h m =
      let n = number name_of vs x in
      record {
        type = refl;
        known = refl;
        sound = λ k. h.inside;
        kinds = λ k. tt;
        points = ap (λ v. v.pointer) (there x d h) ∙ shared_variable ss d m;
        stands = λ k. absurd (false≢true k);
        access = λ k. absurd (false≢true k);
        variable = λ k. refl;
        left = λ k l. refl;
        set = λ y k. let same_place : (at, n) ≡ y = cc in subst (λ z. IsIn z.1 sc) same_place h.inside;
        holds = λ y k v. absurd (false≢true v);
      }
