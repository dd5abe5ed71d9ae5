-- Judgements: what a part of a program is, or all that it is refused for.
use Rattle.std.specs.Prelude.{◌≡◌, Bool, ◌&&◌, if◌then◌else◌, List, [], ◌∷◌, ◌++◌, Option, Some, None, Result, Ok, Err}
use Rattle.ec_base.specs.declared.fail.Fail.{Fail}
use Rattle.ec_base.specs.declared.fail.Fail.TheVariants.{Memory, Refused}
use Rattle.ec_base.specs.declared.token.Span.{Span}
use Rattle.ec_base.specs.declared.reason.Reason.{Reason}
use Rattle.ec_types.specs.declared.refusal.TypeRefusal.{TypeRefusal}
use Rattle.ec_types.specs.Refusals.{refusal, refusal_beside, IsLeast}

abbrev pub Judged : Type 0 → Type 0
Judged A = Result A (List TypeRefusal)

abbrev pub refused : {A : Type 0} → Reason → Span → Judged A
refused fault at = Err (refusal fault at ∷ [])

abbrev pub refused_beside : {A : Type 0} → Reason → Span → Span → Judged A
refused_beside fault at other = Err (refusal_beside fault at other ∷ [])

-- ---- of what is merely right or not

abbrev pub Fine : Type 0
Fine = Judged (Unit {0})

abbrev pub fine : Fine
fine = Ok tt

-- refused unless the test holds
abbrev pub must : Bool → Reason → Span → Fine
must test fault at = if test then fine else refused fault at

-- ---- together

infixr 5 ◌and_then◌
-- what follows is asked only where the first is right
abbrev pub ◌and_then◌ : {A B : Type 0} → Judged A → (A → Judged B) → Judged B
Ok a and_then rest = rest a
Err why and_then rest = Err why

-- two parts, refused for all that either is refused for
abbrev pub both : {A B : Type 0} → Judged A → Judged B → Judged (A × B)
both (Ok a) (Ok b) = Ok (a, b)
both (Ok a) (Err why) = Err why
both (Err why) (Ok b) = Err why
both (Err why) (Err more) = Err (why ++ more)

infixr 6 ◌also◌
-- the first of two parts, where neither is refused
abbrev pub ◌also◌ : {A B : Type 0} → Judged A → Judged B → Judged A
Ok a also Ok b = Ok a
Ok a also Err why = Err why
Err why also Ok b = Err why
Err why also Err more = Err (why ++ more)

infixr 6 ◌and◌
-- two tests, both of which are to hold
abbrev pub ◌and◌ : Judged Bool → Judged Bool → Judged Bool
a and b = both a b and_then (λ p. Ok (p.0 && p.1))

-- all of a list
abbrev pub every : List Fine → Fine
every [] = fine
every (j ∷ js) = j also every js

-- what may be missing
abbrev pub optional : {A : Type 0} → (A → Fine) → Option A → Fine
optional judge None = fine
optional judge (Some a) = judge a

-- ---- answers

-- An answer is as judged: the value, or the first of the refusals, or memory was wanted.
abbrev pub Gives : {A : Type 0} → Result A (Fail TypeRefusal) → Judged A → Type 0
Gives (Ok a) (Ok b) = a ≡ b
Gives (Ok a) (Err why) = ⊥
Gives (Err (Refused r)) (Ok b) = ⊥
Gives (Err (Refused r)) (Err why) = IsLeast r why
Gives (Err Memory) j = Unit {0}
