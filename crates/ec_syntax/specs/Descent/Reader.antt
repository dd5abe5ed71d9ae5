-- Readers: functions that read a value from the tokens that are left, looking at one token beyond it, or stop at a
-- token.
-- They are put together as languages are, but that a reader is told by the next token which way to go.
use Rattle.std.specs.Prelude.{ℕ, zero, suc, Bool, if◌then◌else◌, nat_le, List, [], ◌∷◌, length, Option, Some, None}
use Rattle.ec_base.specs.declared.token.Span.{Span}
use Rattle.ec_base.specs.declared.token.Token.{Token}
use Rattle.ec_syntax.specs.declared.quantity.Fault.{Fault}
use Rattle.ec_syntax.specs.declared.quantity.Fault.TheVariants.{Expected, Passes}
use Rattle.ec_syntax.specs.Grammar.State.{State, Counts, limit}
use Rattle.ec_syntax.specs.declared.quantity.Quantity.TheVariants.{Nesting}
use Rattle.ec_syntax.specs.Grammar.Language.{first_is, begin, span}
use Rattle.ec_syntax.specs.declared.quantity.Quantity.{Quantity}

-- what a reader answers: a value and the state behind it, or why it stops, and the tokens from there on
pub data Outcome (A : Type 0) : Type 0 where
  Done : A → State → Outcome A
  Stopped : Fault → List Token → Outcome A

abbrev pub Reader : Type 0 → Type 0
Reader A = State → Outcome A

abbrev pub look : {A : Type 0} → (State → A) → Reader A
look f s = Done (f s) s

abbrev pub give : {A : Type 0} → A → Reader A
give a s = Done a s

abbrev pub and_then : {A B : Type 0} → Outcome A → (A → Reader B) → Outcome B
and_then (Done a s) f = f a s
and_then (Stopped fault left) f = Stopped fault left

infixl 10 ◌>>=◌
abbrev pub ◌>>=◌ : {A B : Type 0} → Reader A → (A → Reader B) → Reader B
(p >>= f) s = and_then (p s) f

infixl 10 ◌>>◌
abbrev pub ◌>>◌ : {A B : Type 0} → Reader A → Reader B → Reader B
p >> q = p >>= (λ _. q)

-- the one where the next token passes the test, and else the other
abbrev pub when : {A : Type 0} → (Token → Bool) → Reader A → Reader A → Reader A
when test p q s = if first_is test s.left then p s else q s

abbrev pub stop : {A : Type 0} → Fault → Reader A
stop fault s = Stopped fault s.left

-- a token that may stand here, but passes a limit
abbrev pub passed : {A : Type 0} → (Token → Bool) → Quantity → Reader A
passed test q = when test (stop (Passes q)) (stop Expected)

-- turns as long as the next token passes the test, at most so many
abbrev pub turns_by : {A : Type 0} → ℕ → (Token → Bool) → (A → Reader A) → A → Reader A
turns_by zero test turn a = give a
turns_by (suc more) test turn a = when test (turn a >>= turns_by more test turn) (give a)

-- as many turns as there are; each takes a token
abbrev pub turns : {A : Type 0} → (Token → Bool) → (A → Reader A) → A → Reader A
turns test turn a s = turns_by (length s.left) test turn a s

abbrev pub part : {A : Type 0} → Reader A → Reader A
part p s = p (record s { marks = 0 })

abbrev pub function : {A : Type 0} → Reader A → Reader A
function p s = p (record s { variables = 0 })

-- the deepest that may be passed: the nesting, where there is no room for it
abbrev pub deepest : ℕ → Quantity → Quantity
deepest zero q = Nesting
deepest (suc room) q = q

-- this is the k-th of its kind, whose first token passes the test and whose room for nesting is given
abbrev pub kth : {A : Type 0} → Quantity → ℕ → (Token → Bool) → ℕ → Reader A → Reader A
kth q k test room p s = if nat_le k (limit q) then p s else passed test (deepest room q) s

-- what stands one deeper and begins with a token that passes the test, where there is room
abbrev pub inside : {A : Type 0} → ℕ → (Token → Bool) → Reader A → Reader A
inside zero test p = passed test Nesting
inside (suc room) test p = p

-- the first quantity that is past its limit
abbrev pub excess : Counts → Option Quantity
excess [] = None
excess (c ∷ cs) = if nat_le c.1 (limit c.0) then excess cs else Some c.0

-- the state behind a token
abbrev pub behind : State → Token → List Token → State
behind s x rest = record s { left = rest; end = x.at.to }

abbrev pub counting : {A : Type 0} → (State → State) → State → Token → List Token → A → Option Quantity → Outcome A
counting counted s x rest a None = Done a (behind (counted s) x rest)
counting counted s x rest a (Some q) = Stopped (Passes q) s.left

abbrev pub picking : {A : Type 0} → (State → A → Counts) → (State → State) →
    State → Token → List Token → Option A → Outcome A
picking counts counted s x rest None = Stopped Expected s.left
picking counts counted s x rest (Some a) = counting counted s x rest a (excess (counts s a))

abbrev pub at_front : {A : Type 0} → (Token → Option A) → (State → A → Counts) → (State → State) →
    State → List Token → Outcome A
at_front pick counts counted s [] = Stopped Expected []
at_front pick counts counted s (x ∷ rest) = picking counts counted s x rest (pick x)

abbrev pub one : {A : Type 0} → (Token → Option A) → (State → A → Counts) → (State → State) → Reader A
one pick counts counted s = at_front pick counts counted s s.left

abbrev pub plain : {A : Type 0} → (Token → Option A) → Reader A
plain pick = one pick (λ s a. []) (λ s. s)

abbrev pub placed : {A B : Type 0} → (A → Span → B) → Reader A → Reader B
placed make p = look begin >>= (λ from. p >>= (λ a. look (λ s. s.end) >>= (λ to. give (make a (span from to)))))
