-- Which sources are accepted, and why and where the others are refused.
use Rattle.std.specs.Prelude.{◌≡◌, ◌⊎◌, ℕ, ◌≤◌, ◌<◌, true, List, length, Some, None, slice_get}
use Rattle.ec_base.specs.declared.limits.TheConstants.{MAX_SOURCE}
use Rattle.ec_base.specs.declared.token.Span.{Span}
use Rattle.ec_base.specs.declared.token.Token.{Token}
use Rattle.ec_lex.specs.declared.refusal.LexRefusal.{LexRefusal}
use Rattle.ec_lex.specs.Tokens.{Cuts}
use Rattle.ec_print.specs.Canonical.{canonical}
use Rattle.ec_reader.specs.declared.refusal.ReadRefusal.{ReadRefusal}
use Rattle.ec_reader.specs.Refusals.{Refuses}
use Rattle.ec_small.specs.declared.tree.Program.{Program}
use Rattle.ec_small.specs.Grammar as small
use Rattle.ec_syntax.specs.declared.item.Program.{Program as Tree}
use Rattle.ec_syntax.specs.Grammar.Reading.{Reads}
use Rattle.ec_driver.specs.declared.status.Refusal.{Refusal}
use Rattle.ec_types.specs.declared.refusal.TypeRefusal.{TypeRefusal}
use Rattle.ec_types.specs.Programs.{IsFirst, IsTyped}
use Rattle.ec_driver.specs.Built.{first_parallel}
use Rattle.ec_driver.specs.Lines.{not_program, not_token, not_typed, not_yet, too_long}

-- ---- tokens

-- the bytes are few enough, and have these tokens and no refusal
pub record Lexes (bytes : List ℕ) (tokens : List Token) : Type 0 where
  pub short : length bytes ≤ MAX_SOURCE
  pub cuts : Cuts 0 true bytes tokens None

-- the bytes are few enough, and this is the first refusal of their tokens
pub record Breaks (bytes : List ℕ) (r : Refusal) : Type 0 where
  pub short : length bytes ≤ MAX_SOURCE
  pub before : List Token
  pub first : LexRefusal
  pub cuts : Cuts 0 true bytes before (Some first)
  pub is : r ≡ not_token first

-- ---- programs of the whole language

-- the bytes have these tokens, which are a program of the whole language with this tree
pub record IsSource (bytes : List ℕ) (tokens : List Token) (tree : Tree) : Type 0 where
  pub lexes : Lexes bytes tokens
  pub reads : Reads tokens tree

-- the bytes have tokens, of which this is the first that keeps them from being a program of the whole language
pub record Misreads (bytes : List ℕ) (r : Refusal) : Type 0 where
  pub tokens : List Token
  pub lexes : Lexes bytes tokens
  pub first : ReadRefusal
  pub refuses : Refuses tokens first
  pub is : r ≡ not_program first

-- the bytes are too many, or are no tokens, or no program of the whole language: the refusal says which, and where
abbrev pub Misfits : List ℕ → Refusal → Type 0
Misfits bytes r = ((MAX_SOURCE < length bytes) × (r ≡ too_long)) ⊎ (Breaks bytes r ⊎ Misreads bytes r)

-- ---- typed programs

-- the bytes have these tokens, which are a program of the whole language that is typed
pub record IsTypedSource (bytes : List ℕ) (tokens : List Token) (tree : Tree) : Type 0 where
  pub source : IsSource bytes tokens tree
  pub typed : IsTyped tree

-- the bytes are a program of the whole language, of which this is the first thing that it is refused for by its types
pub record Mistypes (bytes : List ℕ) (r : Refusal) : Type 0 where
  pub tokens : List Token
  pub tree : Tree
  pub source : IsSource bytes tokens tree
  pub first : TypeRefusal
  pub refuses : IsFirst tree first
  pub is : r ≡ not_typed first

-- the bytes are no program, or none that is typed: the refusal says which, and where
abbrev pub Untyped : List ℕ → Refusal → Type 0
Untyped bytes r = Misfits bytes r ⊎ Mistypes bytes r

-- ---- programs that are checked

-- the bytes are a typed program, of whose forms that aren't built yet this is the first
pub record Unbuilt (bytes : List ℕ) (r : Refusal) : Type 0 where
  pub tokens : List Token
  pub tree : Tree
  pub source : IsTypedSource bytes tokens tree
  pub at : Span
  pub there : first_parallel tree ≡ Some at
  pub is : r ≡ not_yet at

-- the bytes are a typed program all of whose forms are built
pub record IsChecked (bytes : List ℕ) : Type 0 where
  pub tokens : List Token
  pub tree : Tree
  pub source : IsTypedSource bytes tokens tree
  pub built : first_parallel tree ≡ None

-- what a check refuses
abbrev pub Unchecked : List ℕ → Refusal → Type 0
Unchecked bytes r = Untyped bytes r ⊎ Unbuilt bytes r

-- ---- small programs, which are run

-- the refusal stands at the first of these tokens after which no small program continues
pub record StopsAt (tokens : List Token) (r : Refusal) : Type 0 where
  pub at : ℕ
  pub refuses : small.Refuses tokens at
  pub token : Token
  pub there : slice_get tokens at ≡ Some token
  pub is : r ≡ not_yet token.at

-- the bytes are a typed program of the whole language, and a small one with this tree
pub record Accepts (bytes : List ℕ) (p : Program) : Type 0 where
  pub tokens : List Token
  pub tree : Tree
  pub source : IsTypedSource bytes tokens tree
  pub reads : small.Reads tokens p

-- the bytes are a typed program of the whole language, and no small one: the refusal says where
pub record Stops (bytes : List ℕ) (r : Refusal) : Type 0 where
  pub tokens : List Token
  pub tree : Tree
  pub source : IsTypedSource bytes tokens tree
  pub stops : StopsAt tokens r

-- what a run refuses
abbrev pub Rejects : List ℕ → Refusal → Type 0
Rejects bytes r = Untyped bytes r ⊎ Stops bytes r

-- ---- texts that are in order

-- the bytes are a small program
abbrev pub IsSmall : List ℕ → Type 0
IsSmall bytes = (p : Program) × Accepts bytes p

-- the bytes are a typed program of the whole language, with this tree
abbrev pub HasTree : List ℕ → Tree → Type 0
HasTree bytes tree = (tokens : List Token) × IsTypedSource bytes tokens tree

abbrev pub IsTypedText : List ℕ → Type 0
IsTypedText bytes = (tree : Tree) × HasTree bytes tree

-- the bytes are a program of the whole language, and this is its canonical text
abbrev pub Prints : List ℕ → List ℕ → Type 0
Prints bytes text = (tokens : List Token) × (tree : Tree) × IsSource bytes tokens tree × (text ≡ canonical tree)

abbrev pub IsProgram : List ℕ → Type 0
IsProgram bytes = (tokens : List Token) × (tree : Tree) × IsSource bytes tokens tree
