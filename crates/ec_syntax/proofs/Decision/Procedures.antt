-- What a reader owes a language: it reads what the language has and nothing else, and where it stops, what stands before can
-- be ended, while it stops there whatever stands behind.
use Rattle.std.proofs.Common.{◌≡◌, ◌≤◌, ◌<◌, ◌⊎◌, ℕ, Bool, true, false, List, [], ◌∷◌, ◌++◌, length, map, codes, ◌+◌}
use Rattle.ec_base.specs.Lexical.{AllLexical}
use Rattle.ec_base.specs.declared.limits.TheConstants.{MAX_NESTING}
use Rattle.ec_base.specs.declared.token.Token.{Token}
use Rattle.ec_syntax.specs.Grammar.State.{State, Asked, limit, limits}
use Rattle.ec_syntax.specs.declared.quantity.Quantity.TheVariants.{Nesting}
use Rattle.ec_syntax.specs.Grammar.Language.{Language, first_is}
use Rattle.ec_syntax.specs.Grammar.Tokens.{is_word}
use Rattle.ec_syntax.specs.Descent.Reader.{Reader, Outcome}
use Rattle.ec_syntax.specs.Descent.Reader.Outcome.{Done, Stopped}
use Rattle.ec_syntax.specs.declared.quantity.Fault.TheVariants.{Expected, Passes}
use Rattle.ec_syntax.specs.declared.quantity.Quantity.{Quantity}
use Rattle.ec_syntax.specs.declared.quantity.Fault.{Fault}

-- a state with other tokens left
infixl 20 ◌with◌
abbrev pub ◌with◌ : State → List Token → State
s with ts = record s { left = ts }

-- ---- what is asked

-- what is asked is no more than the limits
abbrev pub Mild : Asked → Type 0
Mild asked = (left : List Token) (q : Quantity) (count : ℕ) → count ≤ limit q → asked left q count

-- nothing is asked at the last n tokens
abbrev pub Silent : Asked → ℕ → Type 0
Silent asked n = (left : List Token) (q : Quantity) (count : ℕ) → length left ≤ n → asked left q count

-- the nesting is asked where another quantity is past its limit
abbrev pub asks_nesting : Fault → Bool
asks_nesting Expected = false
asks_nesting (Passes Nesting) = false
asks_nesting (Passes q) = true

-- The limits at the tokens before the last n, and the nesting at the first of those n, where another quantity is past its
-- limit there.
abbrev pub upto : Fault → ℕ → Asked
upto fault n left q count =
    (n < length left → count ≤ limit q) × (asks_nesting fault ≡ true → length left ≡ n → q ≡ Nesting → count ≤ limit q)

-- ---- what stands behind

abbrev pub is_else : Token → Bool
is_else = is_word (codes "else")

-- tokens of which the first, if there is one, doesn't pass a test
abbrev pub Quiet : (Token → Bool) → List Token → Type 0
Quiet test ts = first_is test ts ≡ false

-- the tokens that stay where a reader stops: one that passes a limit is a sentence's
abbrev pub kept : Fault → List Token → List Token
kept Expected left = []
kept (Passes q) [] = []
kept (Passes q) (x ∷ rest) = x ∷ []

abbrev pub Lexical : List Token → Type 0
Lexical ts = AllLexical (map (λ x. x.kind) ts)

-- ---- what a language keeps

-- A word of the language, whatever stands behind it, but that no `else` comes where there was none.
pub record Carried {A : Type 0} (l : Language A) (s : State) (a : A) (m : State) : Type 1 where
  pub word : List Token
  pub is : s.left ≡ word ++ m.left
  pub still : (asked : Asked) (rest : List Token) → Mild asked → (Quiet is_else m.left → Quiet is_else rest) →
      l asked (s with (word ++ rest)) a (m with rest)

-- a word of the language from a state on, with nothing asked at its tokens
pub record Ended {A : Type 0} (l : Language A) (s : State) (rest : List Token) : Type 1 where
  pub value : A
  pub after : State
  pub behind : after.left ≡ rest
  pub read : (asked : Asked) → Silent asked (length s.left) → l asked s value after

-- tokens that are a word of each of these languages from any state on, before this rest
pub record Ends {X A : Type 0} (l : X → Language A) (rest : List Token) : Type 1 where
  pub fill : List Token
  pub lexical : Lexical fill
  pub calm : Quiet is_else (fill ++ rest)
  pub ended : (x : X) (s : State) → s.left ≡ fill ++ rest → Ended (l x) s rest

-- ---- what a reader answers

-- a limit that is asked for is passed
pub record Denied {A : Type 0} (asked : Asked) (o : Outcome A) : Type 0 where
  pub quantity : Quantity
  pub left : List Token
  pub count : ℕ
  pub is : o ≡ Stopped (Passes quantity) left
  pub wanted : asked left quantity count
  pub passes : limit quantity < count

abbrev pub Faces : {A : Type 0} → Asked → Outcome A → A → State → Type 0
Faces asked o a m = (o ≡ Done a m) ⊎ Denied asked o

-- A reader that has read a word: it is one of the language within the limits, and would be read whatever stood behind the
-- next token.
pub record Reads {A : Type 0} (p : Reader A) (l : Language A) (s : State) (a : A) (m : State) : Type 0 where
  pub read : l limits s a m
  pub word : List Token
  pub is : s.left ≡ word ++ m.left
  pub same : (x : Token) (rest others : List Token) → m.left ≡ x ∷ rest →
      p (s with (word ++ x ∷ others)) ≡ Done a (m with (x ∷ others))

-- What has been read, and the token at which a reader stops if it passes a limit, goes on to a word before this rest.
pub record Completed {A : Type 0} (l : Language A) (s : State) (word : List Token) (fault : Fault)
    (left rest : List Token) : Type 0 where
  pub fill : List Token
  pub lexical : Lexical fill
  pub calm : Quiet is_else (fill ++ rest)
  pub value : A
  pub after : State
  pub behind : after.left ≡ rest
  pub read : l (upto fault (length (kept fault left ++ (fill ++ rest))))
      (s with (word ++ (kept fault left ++ (fill ++ rest)))) value after

-- A reader that has stopped: what it has read can be completed, and it would stop there whatever stood behind.
pub record Stops {A : Type 0} (p : Reader A) (l : Language A) (goes : Token → Bool) (s : State) (fault : Fault)
    (left : List Token) : Type 0 where
  pub word : List Token
  pub is : s.left ≡ word ++ left
  pub same : (x : Token) (rest others : List Token) → left ≡ x ∷ rest →
      p (s with (word ++ x ∷ others)) ≡ Stopped fault (x ∷ others)
  pub there : (q : Quantity) → fault ≡ Passes q → left ≡ [] → ⊥
  pub completed : (rest : List Token) → Quiet goes rest → Quiet is_else rest → Completed l s word fault left rest

-- ---- all together

-- nested so deep, the grammar has the tree of each program within the limits
abbrev pub enough : ℕ
enough = MAX_NESTING + 3

-- What is asked at the first of these tokens is all, but the nesting is asked of this depth alone.
abbrev pub AsksOnly : Asked → ℕ → List Token → Type 0
AsksOnly asked depth left = (q : Quantity) (count : ℕ) → (q ≡ Nesting → count ≡ depth) → asked left q count

-- a word of the language that begins with a token
pub record Opened {A : Type 0} (depth : ℕ) (l : Language A) (s : State) (more : ℕ) (rest : List Token) : Type 1 where
  pub value : A
  pub after : State
  pub behind : after.left ≡ rest
  pub read : (asked : Asked) → Silent asked more → AsksOnly asked depth s.left → l asked s value after

-- this token begins a word of each of these languages before this rest
pub record Opens {X A : Type 0} (depth : ℕ) (l : X → Language A) (here : Token) (rest : List Token) : Type 1 where
  pub fill : List Token
  pub lexical : Lexical fill
  pub calm : Quiet is_else (fill ++ rest)
  pub opened : (x : X) (s : State) → s.left ≡ here ∷ (fill ++ rest) → Opened depth (l x) s (length (fill ++ rest)) rest

-- no tokens at all are a word of the language
pub record Skipped {A : Type 0} (l : Language A) (s : State) : Type 1 where
  pub value : A
  pub after : State
  pub behind : after.left ≡ s.left
  pub read : (asked : Asked) → l asked s value after

-- Languages whose tokens stand at this depth or deeper. A word begins with a token of its own that passes the test `first`, unless it
-- may be empty, and each such token begins one; a token behind a word that passes the test `goes` may belong to a longer one.
pub record Spoken {X A : Type 0} (able : Type 0) (depth : ℕ) (l : X → Language A) (empty : Type 0)
    (first goes : Token → Bool) : Type 1 where
  pub carried : (x : X) (s : State) (a : A) (m : State) → l x limits s a m → Carried (l x) s a m
  pub starts : (x : X) (asked : Asked) (s : State) (a : A) (m : State) → l x asked s a m →
      ((first_is first s.left ≡ true) × asked s.left Nesting depth × length m.left < length s.left)
      ⊎ (empty × (m.left ≡ s.left))
  pub ends : able → (rest : List Token) → Quiet goes rest → Quiet is_else rest → Ends l rest
  pub opens : able → (here : Token) → first here ≡ true → (rest : List Token) → Quiet goes rest → Quiet is_else rest →
      Opens depth l here rest
  pub skips : able → empty → (x : X) (s : State) → Quiet goes s.left → Quiet is_else s.left → Skipped (l x) s

-- readers that decide such languages; `able` says that the languages are nested deep enough for what the readers read
pub record Decides {X A : Type 0} (able : Type 0) (depth : ℕ) (p : X → Reader A) (l : X → Language A) (empty : Type 0)
    (first goes : Token → Bool) : Type 1 where
  pub spoken : Spoken able depth l empty first goes
  pub done : able → (x : X) (s : State) (a : A) (m : State) → p x s ≡ Done a m → Reads (p x) (l x) s a m
  pub stopped : able → (x : X) (s : State) (fault : Fault) (left : List Token) → p x s ≡ Stopped fault left →
      Stops (p x) (l x) goes s fault left
  pub complete : (x : X) (asked : Asked) (s : State) (a : A) (m : State) → l x asked s a m → Quiet goes m.left →
      Faces asked (p x s) a m

-- ---- what stands behind something else, at whatever depth

-- What stands behind: its words begin with tokens that pass the test, or have none.
pub record Trails {X B : Type 0} (able : Type 0) (g : X → Language B) (empty : Type 0)
    (first goes : Token → Bool) : Type 1 where
  pub carried : (x : X) (s : State) (b : B) (m : State) → g x limits s b m → Carried (g x) s b m
  pub starts : (x : X) (asked : Asked) (s : State) (b : B) (m : State) → g x asked s b m →
      ((first_is first s.left ≡ true) × (length m.left < length s.left)) ⊎ (empty × (m.left ≡ s.left))
  pub ends : able → (rest : List Token) → Quiet goes rest → Quiet is_else rest → Ends g rest

-- and readers that decide it
pub record Follows {X B : Type 0} (able : Type 0) (f : X → Reader B) (g : X → Language B) (empty : Type 0)
    (first goes : Token → Bool) : Type 1 where
  pub trails : Trails able g empty first goes
  pub done : able → (x : X) (s : State) (b : B) (m : State) → f x s ≡ Done b m → Reads (f x) (g x) s b m
  pub stopped : able → (x : X) (s : State) (fault : Fault) (left : List Token) → f x s ≡ Stopped fault left →
      Stops (f x) (g x) goes s fault left
  pub complete : (x : X) (asked : Asked) (s : State) (b : B) (m : State) → g x asked s b m → Quiet goes m.left →
      Faces asked (f x s) b m

-- ---- tests

-- each token that passes the one test passes the other
abbrev pub Within : (Token → Bool) → (Token → Bool) → Type 0
Within test other = (x : Token) → test x ≡ true → other x ≡ true

-- no token passes both tests
abbrev pub Apart : (Token → Bool) → (Token → Bool) → Type 0
Apart test other = (x : Token) → test x ≡ true → other x ≡ false
