-- Parts of expressions: what stands inside their parentheses, where, and what it is or is refused for.
use Rattle.std.specs.Prelude.{Bool, true, false, Option, Some, None, Ok, Err}
use Rattle.std.specs.Option.{is_some}
use Rattle.ec_base.specs.declared.text.Text.{Text}
use Rattle.ec_base.specs.declared.token.Span.{Span}
use Rattle.ec_syntax.specs.Grammar.Words.{same}
use Rattle.ec_base.specs.declared.reason.Reason.TheVariants.{Mismatch, SharedEscapes}
use Rattle.ec_types.specs.declared.value_type.ExprType.{ExprType}
use Rattle.ec_types.specs.declared.value_type.ExprType.TheVariants.{Value, Null, Array, Shared, SharedName}
use Rattle.ec_types.specs.Types.{is_array}
use Rattle.ec_types.specs.Judged.{Judged, refused, ◌and_then◌, both}

-- which kind of expression it is, as far as it matters where it may stand
pub data Form : Type 0 where
  Variable : Text → Form
  Access : Form
  Nothing : Form
  Allocation : Form
  Other : Form

-- An expression, its parentheses left out: its form, where it stands, and what it is. An access is local where it goes
-- through a local variable.
pub record Part : Type 0 where
  pub form : Form
  pub at : Span
  pub local : Bool
  pub is : Judged ExprType

abbrev pub part : Form → Span → Judged ExprType → Part
part form at is = record { form = form; at = at; local = false; is = is }

abbrev pub access : Bool → Span → Judged ExprType → Part
access local at is = record { form = Access; at = at; local = local; is = is }

-- an array field without its index
abbrev pub is_whole_array : Judged ExprType → Bool
is_whole_array (Ok t) = is_array t
is_whole_array (Err why) = false

-- ---- forms

abbrev pub named : Form → Option Text
named (Variable x) = Some x
named Access = None
named Nothing = None
named Allocation = None
named Other = None

abbrev pub is_variable : Form → Bool
is_variable form = is_some (named form)

-- a variable or an access
abbrev pub is_place : Form → Bool
is_place (Variable x) = true
is_place Access = true
is_place Nothing = false
is_place Allocation = false
is_place Other = false

abbrev pub same_name : Option Text → Option Text → Bool
same_name (Some x) (Some y) = same x y
same_name x y = false

-- both are one and the same variable
abbrev pub same_variable : Form → Form → Bool
same_variable a b = same_name (named a) (named b)

-- ---- shared names

-- where no shared name may stand
abbrev pub unshared : Span → ExprType → Judged ExprType
unshared at (Value t) = Ok (Value t)
unshared at Null = Ok Null
unshared at Array = Ok Array
unshared at Shared = refused SharedEscapes at
unshared at SharedName = refused SharedEscapes at

-- where what is shared is asked
abbrev pub sharing : Span → ExprType → Judged ExprType
sharing at (Value t) = Ok (Value t)
sharing at Null = Ok Null
sharing at Array = Ok Array
sharing at Shared = Ok Shared
sharing at SharedName = refused SharedEscapes at

abbrev pub valued : Part → Judged ExprType
valued p = p.is and_then unshared p.at

abbrev pub shared : Part → Judged ExprType
shared p = p.is and_then sharing p.at

-- ---- rules

-- what a rule gives, if it gives anything
abbrev pub typed : Span → Option ExprType → Judged ExprType
typed at None = refused Mismatch at
typed at (Some t) = Ok t

abbrev pub by_one : Span → (ExprType → Option ExprType) → Part → Judged ExprType
by_one at rule a = valued a and_then (λ t. typed at (rule t))

abbrev pub by_two : Span → (ExprType → ExprType → Option ExprType) → Part → Part → Judged ExprType
by_two at rule a b = both (valued a) (valued b) and_then (λ p. typed at (rule p.0 p.1))

-- a test of a part that may be missing
abbrev pub tested : (ExprType → Bool) → Option Part → Judged Bool
tested test None = Ok true
tested test (Some a) = valued a and_then (λ t. Ok (test t))
