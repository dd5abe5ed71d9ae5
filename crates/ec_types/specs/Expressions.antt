-- What expressions are, or what they are refused for. Expressions are judged part by part, as folds: a part of a layer
-- stands for what is known of it, and an expression of which a part is refused is not refused for anything else.
use Rattle.std.specs.Prelude.{ℕ, ◌==◌, Bool, true, false, if◌then◌else◌, ◌&&◌, Option, Some, None, Ok}
use Rattle.ec_base.specs.declared.text.Text.{Text}
use Rattle.ec_base.specs.declared.token.Span.{Span}
use Rattle.ec_syntax.specs.declared.expression.Call.{Call, fold-Call}
use Rattle.ec_syntax.specs.declared.expression.Expr.{Expr, fold-Expr}
use Rattle.ec_syntax.specs.declared.expression.ExprKind.TheOpen.{ExprKind-F, Placement-F, Call-F, Expr-F}
use Rattle.ec_syntax.specs.declared.expression.Placement.{Placement, fold-Placement}
use Rattle.ec_syntax.specs.declared.item.Func.{Func}
use Rattle.ec_syntax.specs.declared.name.Ty.{Ty}
use Rattle.ec_syntax.specs.declared.statement.Decl.{Decl}
use Rattle.ec_base.specs.declared.reason.Reason.TheVariants.{Unknown, Mismatch, SharedEscapes}
use Rattle.ec_types.specs.declared.value_type.ExprType.{ExprType}
use Rattle.ec_types.specs.declared.value_type.ExprType.TheVariants.{Null, Shared}
use Rattle.ec_types.specs.Arguments.{arguments, params_of, quiet, result_type}
use Rattle.ec_types.specs.Context.{Context, is_local, is_local_variable, is_shared_mode}
use Rattle.ec_types.specs.Judged.{Judged, refused, ◌and_then◌, ◌also◌, ◌and◌, optional}
use Rattle.ec_calls.specs.Items.{function_named}
use Rattle.ec_types.specs.Names.{variable_named, ending, known}
use Rattle.ec_types.specs.Operators.{binary_type, unary_type, logic_type, pointee, element_type, struct_behind, member, allocated, variable_type}
use Rattle.ec_types.specs.Parts.{Form, Variable, Nothing, Allocation, Other, Part, part, access, is_whole_array, same_variable, valued, shared, typed, by_one, by_two, tested}
use Rattle.ec_types.specs.Types.{value_type, number, is_shared, is_number, points}

-- What a placement asks of its operand, and which forms of expressions it lets local parameters have.
pub record Placed : Type 0 where
  pub fits : Judged Bool
  pub lets : Form → Bool

-- ---- names

abbrev pub named_variable : Option Decl → Span → Judged ExprType
named_variable None at = refused Unknown at
named_variable (Some d) at = Ok (variable_type d)

-- `&` and a name
abbrev pub address : Option Decl → Text → Span → Judged ExprType
address None x at = refused Unknown (ending at x)
address (Some d) x at = if is_shared_mode d.mode && (d.ty.stars == 0) then Ok Shared else refused SharedEscapes at

abbrev pub known_field : Option ExprType → Text → Span → Judged ExprType
known_field None f at = refused Unknown (ending at f)
known_field (Some t) f at = Ok t

module _ (c : Context) where
  -- ---- accesses and `malloc`s

  abbrev pub field_of : Option Text → Text → Span → Judged ExprType
  field_of None f at = refused Mismatch at
  field_of (Some s) f at = known_field (member c.structs s f) f at

  -- an element of an array field is as local as the field
  abbrev pub indexes_locally : Part → Bool
  indexes_locally a = if is_whole_array a.is then a.local else is_local_variable c a.form

  -- the field f of a struct that stands behind so many pointers
  abbrev pub selected : ℕ → Part → Text → Span → Judged ExprType
  selected stars a f at = valued a and_then (λ t. field_of (struct_behind stars t) f at)

  abbrev pub new : Option Ty → Judged Bool → Ty → Span → Judged ExprType
  new to counts element at =
      counts also optional (known c.structs) to also known c.structs element
      and_then (λ fits. typed at (allocated to (value_type element) fits))

  -- ---- calls

  abbrev pub of_place : Placement-F (Span → Part) Placed (Judged ExprType) Part → Placed
  of_place Placement-F.Here = record { fits = Ok true; lets = is_local c }
  of_place (Placement-F.OwnerOf a) = record { fits = tested points (Some a); lets = same_variable a.form }
  of_place Placement-F.Home = record { fits = Ok true; lets = λ form. false }
  of_place (Placement-F.Node a) = record { fits = tested is_number (Some a); lets = λ form. false }
  of_place Placement-F.Anywhere = record { fits = Ok true; lets = λ form. false }

  abbrev pub called : Option Func → Span → Judged Bool → Span → Judged ExprType
  called None name fits at = refused Unknown name also fits
  called (Some f) name fits at =
      fits and_then (λ b. typed at (result_type f b) also quiet c.inside (c.prints f.name.text) at)

  abbrev pub of_call : Call-F (Span → Part) Placed (Judged ExprType) Part → Judged ExprType
  of_call x = of_function (function_named c.functions x.name.text)
    where
      of_function : Option Func → Judged ExprType
      of_function f = called f x.name.at (arguments x.place.lets (params_of f) x.args and x.place.fits) x.at

  -- ---- expressions

  abbrev pub of_kind : ExprKind-F (Span → Part) Placed (Judged ExprType) Part → Span → Part
  of_kind (ExprKind-F.Number n) at = part Other at (Ok number)
  of_kind ExprKind-F.Null at = part Nothing at (Ok Null)
  of_kind (ExprKind-F.Var x) at = part (Variable x) at (named_variable (variable_named c.scope x) at)
  of_kind (ExprKind-F.Paren a) at = a
  of_kind (ExprKind-F.Unary op a) at = part Other at (by_one at (unary_type op) a)
  of_kind (ExprKind-F.Binary op a b) at = part Other at (by_two at (binary_type op) a b)
  of_kind (ExprKind-F.And a b) at = part Other at (by_two at logic_type a b)
  of_kind (ExprKind-F.Or a b) at = part Other at (by_two at logic_type a b)
  of_kind (ExprKind-F.Deref a) at = access (is_local_variable c a.form) at (by_one at pointee a)
  of_kind (ExprKind-F.Index a i) at = access (indexes_locally a) at (by_two at element_type a i)
  of_kind (ExprKind-F.Arrow a f) at = access (is_local_variable c a.form) at (selected 1 a f at)
  of_kind (ExprKind-F.Dot a f) at = access a.local at (selected 0 a f at)
  of_kind (ExprKind-F.Call x) at = part Other at x
  of_kind (ExprKind-F.New to count element) at = part Allocation at (new to (tested is_number count) element at)
  of_kind (ExprKind-F.ValueOf a) at = part Other at (shared a and_then (λ t. typed at (if is_shared t then Some number else None)))
  of_kind (ExprKind-F.Address x) at = part Other at (address (variable_named c.scope x) x at)

  abbrev pub of_expression : Expr-F (Span → Part) Placed (Judged ExprType) Part → Part
  of_expression e = e.kind e.at

  abbrev pub judged : Expr → Part
  judged = fold-Expr (Span → Part) Placed (Judged ExprType) Part of_kind of_place of_call of_expression

  abbrev pub placed : Placement → Placed
  placed = fold-Placement (Span → Part) Placed (Judged ExprType) Part of_kind of_place of_call of_expression

  abbrev pub judged_call : Call → Judged ExprType
  judged_call = fold-Call (Span → Part) Placed (Judged ExprType) Part of_kind of_place of_call of_expression

  abbrev pub value : Expr → Judged ExprType
  value e = valued (judged e)
