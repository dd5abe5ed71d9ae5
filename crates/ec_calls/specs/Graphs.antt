-- The calls between functions that have numbers, and their `printf`s.
use Rattle.std.specs.Prelude.{ℕ, suc, List, [], ◌∷◌, ◌++◌, map, filter_map, Option, option_map}
use Rattle.ec_base.specs.declared.text.Text.{Text}
use Rattle.ec_base.specs.declared.token.Span.{Span}
use Rattle.ec_syntax.specs.declared.item.Func.{Func}
use Rattle.ec_calls.specs.declared.reach.Edge.{Edge}
use Rattle.ec_calls.specs.Effects.{doing}
use Rattle.ec_calls.specs.Prints.{number}
use Rattle.ec_calls.specs.Seen.{callees, earliest}

abbrev pub edge : ℕ → ℕ → Edge
edge caller callee = record { caller = caller; callee = callee }

-- calls of those names that have a number
abbrev pub edges_to : List Text → ℕ → List Text → List Edge
edges_to names caller called = filter_map (λ name. option_map (edge caller) (number names name)) called

abbrev pub edges_of : List Text → ℕ → Func → List Edge
edges_of names caller f = edges_to names caller (callees (doing f.body).effects)

-- the calls of functions whose numbers begin so
abbrev pub all_edges : List Text → ℕ → List Func → List Edge
all_edges names k [] = []
all_edges names k (f ∷ fs) = edges_of names k f ++ all_edges names (suc k) fs

-- the first `printf` of each
abbrev pub own_place : Func → Option Span
own_place f = earliest (doing f.body).prints

abbrev pub own_places : List Func → List (Option Span)
own_places fs = map own_place fs
