-- The first `printf` to which the calls of a function come.
use Rattle.std.specs.Prelude.{◌≡◌, ◌<◌, ◌≤◌, ◌⊎◌, Contains, List, Option, Some, None, option_map, suc, get_or, ℕ, [], ◌∷◌, if◌then◌else◌}
use Rattle.ec_base.specs.declared.text.Text.{Text}
use Rattle.ec_base.specs.declared.token.Span.{Span}
use Rattle.ec_syntax.specs.declared.item.Func.{Func}
use Rattle.ec_syntax.specs.Grammar.Words.{same}
use Rattle.ec_calls.specs.Effects.{Effect, doing}
use Rattle.ec_calls.specs.Items.{function_named}

-- a call of this name stands in the function
pub record CallsTo (f : Func) (name : Text) : Type 0 where
  pub call : Effect
  pub stands : Contains (doing f.body).effects call
  pub names : call.calls ≡ Some name

-- among these functions, calls lead from one to another, or it is the same one
pub data Reaches (all : List Func) : Text → Text → Type 0 where
  here : {name : Text} → Reaches all name name
  onward : {name next last : Text} {f : Func} →
      function_named all name ≡ Some f → CallsTo f next → Reaches all next last → Reaches all name last

-- a `printf` of a function to which calls come
pub record ComesToPrint (all : List Func) (name : Text) (at : Span) : Type 0 where
  pub last : Text
  pub f : Func
  pub reaches : Reaches all name last
  pub is : function_named all last ≡ Some f
  pub prints : Contains (doing f.body).prints at

-- the place begins no later than the other, and ends no later where both begin together
abbrev pub NoLater : Span → Span → Type 0
NoLater a b = (a.from < b.from) ⊎ ((a.from ≡ b.from) × (a.to ≤ b.to))

-- the one that comes first in the source, if there is any
abbrev pub IsFirstPrint : List Func → Text → Option Span → Type 0
IsFirstPrint all name None = (at : Span) → ComesToPrint all name at → ⊥
IsFirstPrint all name (Some first) =
    ComesToPrint all name first × ((at : Span) → ComesToPrint all name at → NoLater first at)

abbrev pub ArePrints : List Func → (Text → Option Span) → Type 0
ArePrints all prints = (name : Text) → IsFirstPrint all name (prints name)

-- ---- a table of them: names, and for each of these the place, if it has one

pub record Table : Type 0 where
  pub names : List Text
  pub places : List (Option Span)

-- where the name stands first
abbrev pub number : List Text → Text → Option ℕ
number [] name = None
number (x ∷ xs) name = if same x name then Some 0 else option_map suc (number xs name)

abbrev pub place_of : List (Option Span) → Option ℕ → Option Span
place_of places None = None
place_of places (Some k) = get_or places k None

abbrev pub printed : Table → Text → Option Span
printed t name = place_of t.places (number t.names name)
