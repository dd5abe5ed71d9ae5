-- Languages: which tokens stand for which values. `l asked s a s'` says that from the state s on stand tokens of the
-- language l for the value a, behind which the state is s'. Each rule below puts languages together as a grammar does.
use Rattle.std.specs.Prelude.{◌≡◌, ◌⊎◌, ℕ, Bool, false, List, [], ◌∷◌, ◌++◌, Option, Some, None}
use Rattle.ec_base.specs.declared.token.Span.{Span}
use Rattle.ec_base.specs.declared.token.Token.{Token}
use Rattle.ec_syntax.specs.Grammar.State.{State, Asked, Counts, AskedAll}
use Rattle.ec_syntax.specs.declared.quantity.Quantity.TheVariants.{Nesting}
use Rattle.ec_syntax.specs.declared.quantity.Quantity.{Quantity}

abbrev pub Language : Type 0 → Type 1
Language A = Asked → State → A → State → Type 0

-- ---- rules

-- no tokens, and a value of the state
abbrev pub look : {A : Type 0} → (State → A) → Language A
look f asked s a s' = (a ≡ f s) × (s' ≡ s)

-- no tokens, and this value
abbrev pub give : {A : Type 0} → A → Language A
give a = look (λ _. a)

-- one behind the other, where the second may depend on the value of the first
infixl 10 ◌>>=◌
abbrev pub ◌>>=◌ : {A B : Type 0} → Language A → (A → Language B) → Language B
(p >>= f) asked s b s' = (a : _) × (m : State) × p asked s a m × f a asked m b s'

infixl 10 ◌>>◌
abbrev pub ◌>>◌ : {A B : Type 0} → Language A → Language B → Language B
p >> q = p >>= (λ _. q)

-- one or the other
infixr 8 ◌or◌
abbrev pub ◌or◌ : {A : Type 0} → Language A → Language A → Language A
(p or q) asked s a s' = p asked s a s' ⊎ q asked s a s'

-- no tokens at all
abbrev pub never : {A : Type 0} → Language A
never asked s a s' = ⊥

-- any number of turns, each of which makes a value of the one before
pub data Turns {A : Type 0} (turn : A → Language A) (asked : Asked) : State → A → A → State → Type 0 where
  over : {s : State} {a : A} → Turns turn asked s a a s
  more : {s m s' : State} {a b c : A} → turn a asked s b m → Turns turn asked m b c s' → Turns turn asked s a c s'

abbrev pub turns : {A : Type 0} → (A → Language A) → A → Language A
turns turn a asked s b s' = Turns turn asked s a b s'

-- a value or none
abbrev pub maybe : {A : Type 0} → Language A → Language (Option A)
maybe p = (p >>= (λ a. give (Some a))) or give None

-- a value more behind these
abbrev pub append : {A : Type 0} → Language A → List A → Language (List A)
append p before = p >>= (λ a. give (before ++ a ∷ []))

-- what begins a part of its own has no operators and brackets before it
abbrev pub part : {A : Type 0} → Language A → Language A
part p asked s a s' = p asked (record s { marks = 0 }) a s'

-- an item's variables are counted by themselves
abbrev pub function : {A : Type 0} → Language A → Language A
function p asked s a s' = p asked (record s { variables = 0 }) a s'

-- this is the k-th of its kind, which its first token is asked for
abbrev pub kth : {A : Type 0} → Quantity → ℕ → Language A → Language A
kth q k p asked s a s' = asked s.left q k × p asked s a s'

-- the next token, if there is one, isn't this
abbrev pub first_is : (Token → Bool) → List Token → Bool
first_is test [] = false
first_is test (x ∷ rest) = test x

abbrev pub lacks : (Token → Bool) → Language (Unit {0})
lacks test asked s a s' = (first_is test s.left ≡ false) × (s' ≡ s)

-- ---- tokens

-- One token that gives a value, at this depth. What is counted at it is asked for, and counted from then on.
pub record Takes {A : Type 0} (depth : ℕ) (pick : Token → Option A) (counts : State → A → Counts)
    (counted : State → State) (asked : Asked) (s : State) (a : A) (s' : State) : Type 0 where
  pub token : Token
  pub rest : List Token
  pub stands : s.left ≡ token ∷ rest
  pub picked : pick token ≡ Some a
  pub nested : asked s.left Nesting depth
  pub within : AskedAll asked s.left (counts s a)
  pub next : s' ≡ record (counted s) { left = rest; end = token.at.to }

abbrev pub one : {A : Type 0} → ℕ → (Token → Option A) → (State → A → Counts) → (State → State) → Language A
one depth pick counts counted asked s a s' = Takes depth pick counts counted asked s a s'

-- a token at which nothing is counted
abbrev pub plain : {A : Type 0} → ℕ → (Token → Option A) → Language A
plain depth pick = one depth pick (λ s a. []) (λ s. s)

-- ---- places

-- where the next token begins
abbrev pub begin : State → ℕ
begin s = first_from s.left
  where
    first_from : List Token → ℕ
    first_from [] = 0
    first_from (x ∷ rest) = x.at.from

abbrev pub span : ℕ → ℕ → Span
span from to = record { from = from; to = to }

-- a value with its place, from its first token to its last
abbrev pub placed : {A B : Type 0} → (A → Span → B) → Language A → Language B
placed make p = look begin >>= (λ from. p >>= (λ a. look (λ s. s.end) >>= (λ to. give (make a (span from to)))))
