-- Tokens that are printed as they are: they have no `++`, no `--`, no parameter list of `void` alone, and no lists of
-- declarators or fields.
use Rattle.std.specs.Prelude.{◌≡◌, ◌<◌, ℕ, List, [], ◌∷◌, ◌++◌, map, codes}
use Rattle.ec_base.specs.declared.token.Mark.TheVariants as m
use Rattle.ec_base.specs.declared.token.Token.{Token}
use Rattle.ec_base.specs.declared.token.TokenKind.{TokenKind}
use Rattle.ec_base.specs.declared.token.TokenKind.TheVariants as t
use Rattle.ec_syntax.specs.Grammar.Reading.{Reads}
use Rattle.ec_syntax.specs.declared.item.Program.{Program}
use Rattle.ec_print.specs.Layout.{depth_after}
use Rattle.ec_print.specs.Sentence.{sentence}

-- these tokens stand in a row among others, behind those before
abbrev pub Stand : List TokenKind → List TokenKind → List TokenKind → Type 0
Stand these before all = (after : List TokenKind) × (all ≡ before ++ (these ++ after))

-- how many parentheses are open behind tokens
abbrev pub depth_behind : ℕ → List TokenKind → ℕ
depth_behind depth [] = depth
depth_behind depth (k ∷ ks) = depth_behind (depth_after depth k) ks

-- a word, and `void` in parentheses
abbrev pub with_void : List ℕ → List TokenKind
with_void w = t.Word w ∷ t.Mark m.OpenParen ∷ t.Word (codes "void") ∷ t.Mark m.CloseParen ∷ []

-- There is no `++` and no `--`. A comma outside parentheses is one between declarators or fields: each stands inside.
-- `(void)` behind any word but `sizeof` is a list of parameters: it stands behind that word alone.
pub record IsPlain (all : List TokenKind) : Type 0 where
  pub no_increment : (before : List TokenKind) → Stand (t.Mark m.Increment ∷ []) before all → ⊥
  pub no_decrement : (before : List TokenKind) → Stand (t.Mark m.Decrement ∷ []) before all → ⊥
  pub commas : (before : List TokenKind) → Stand (t.Mark m.Comma ∷ []) before all → 0 < depth_behind 0 before
  pub voids : (before : List TokenKind) (w : List ℕ) → Stand (with_void w) before all → w ≡ codes "sizeof"

-- Such tokens that are read as a program are its sentence and the end: nothing but blanks, line ends and comments is
-- changed where they are printed.
abbrev pub PlainIsSentence : Type 0
PlainIsSentence =
    (tokens : List Token) (p : Program) → Reads tokens p →
    IsPlain (map (λ x. x.kind) tokens) → map (λ x. x.kind) tokens ≡ sentence p ++ t.End ∷ []
