-- What the functions inside the crate promise each other.
use Rattle.std.specs.Prelude.{Bool, List, [], ◌∷◌, ◌++◌, map, filter_map, fold, Option, Some, None, nat_lt, ◌==◌, ◌&&◌, ◌||◌, if◌then◌else◌}
use Rattle.std.specs.Option.{is_some}
use Rattle.ec_base.specs.declared.text.Text.{Text}
use Rattle.ec_base.specs.declared.token.Span.{Span}
use Rattle.ec_syntax.specs.declared.expression.Expr.{Expr}
use Rattle.ec_syntax.specs.declared.item.Func.{Func}
use Rattle.ec_syntax.specs.declared.item.Item.{Item}
use Rattle.ec_syntax.specs.declared.statement.Assign.{Assign}
use Rattle.ec_calls.specs.Effects.{Effect, of_option, effects, assign_effects}
use Rattle.ec_calls.specs.Items.{as_function, function_named}

-- the functions that are called
abbrev pub callees : List Effect → List Text
callees es = filter_map (λ e. e.calls) es

-- in the headers of loops
abbrev pub for_header_effects : Option Assign → Option Expr → Option Assign → List Effect
for_header_effects first test next =
    of_option assign_effects first ++ of_option effects test ++ of_option assign_effects next

abbrev pub forall_header_effects : Assign → Expr → Assign → List Effect
forall_header_effects first test next = assign_effects first ++ effects test ++ assign_effects next

-- the place begins before the other, or ends before it where both begin together
abbrev pub is_before : Span → Span → Bool
is_before a b = nat_lt a.from b.from || ((a.from == b.from) && nat_lt a.to b.to)

-- the one that comes first, if there is any
abbrev pub earlier : Option Span → Option Span → Option Span
earlier None b = b
earlier (Some a) None = Some a
earlier (Some a) (Some b) = if is_before b a then Some b else Some a

abbrev pub earliest : List Span → Option Span
earliest [] = None
earliest (p ∷ ps) = earlier (Some p) (earliest ps)

-- ---- the first function of each name

abbrev pub added : List Func → Func → List Func
added all f = if is_some (function_named all f.name.text) then all else all ++ f ∷ []

abbrev pub firsts : List Func → List Func
firsts fs = fold added [] fs

abbrev pub first_functions : List Item → List Func
first_functions items = firsts (filter_map as_function items)

abbrev pub names_of : List Func → List Text
names_of fs = map (λ f. f.name.text) fs
