-- Refusals: their numbers, and which of them comes first.
use Rattle.std.specs.Prelude.{◌≡◌, ◌==◌, Bool, ◌||◌, ◌&&◌, nat_lt, if◌then◌else◌, List, [], ◌∷◌, Option, Some, None}
use Rattle.ec_base.specs.declared.token.Span.{Span}
use Rattle.ec_base.specs.Reason.{number_of}
use Rattle.ec_base.specs.declared.reason.Reason.{Reason}
use Rattle.ec_types.specs.declared.refusal.TypeRefusal.{TypeRefusal}

abbrev pub refusal : Reason → Span → TypeRefusal
refusal fault at = record { what = number_of fault; at = at; other = None }

-- one that names another place too
abbrev pub refusal_beside : Reason → Span → Span → TypeRefusal
refusal_beside fault at other = record { what = number_of fault; at = at; other = Some other }

-- the one that begins earlier; of two at one byte the one of the lesser number, and then the one that ends earlier
abbrev pub is_before : TypeRefusal → TypeRefusal → Bool
is_before a b =
    nat_lt a.at.from b.at.from
    || ((a.at.from == b.at.from) && (nat_lt a.what b.what || ((a.what == b.what) && nat_lt a.at.to b.at.to)))

-- of two the one that comes first, and of two that stand alike the one told first
abbrev pub sooner : TypeRefusal → Option TypeRefusal → TypeRefusal
sooner a None = a
sooner a (Some b) = if is_before b a then b else a

abbrev pub first : List TypeRefusal → Option TypeRefusal
first [] = None
first (r ∷ rs) = Some (sooner r (first rs))

-- the first of these
abbrev pub IsLeast : TypeRefusal → List TypeRefusal → Type 0
IsLeast r all = first all ≡ Some r
