-- Which kind of token passes which test, so that what a test says of a kind it says of each token that passes another.
use Rattle.std.proofs.Common.{◌≡◌, refl, sym, ◌∙◌, ap, subst, ℕ, Bool, true, false, ◌==◌, true≢false, List, [], ◌∷◌, get_or, eqb-true, Option, Some, None, is_some, ℤ, if◌then◌else◌}
use Rattle.std.proofs.lemmas.Option.{cond_some}
use Rattle.std.proofs.lemmas.Bool.{false_from_ne_true, both_ways}
use Rattle.std.specs.Cmp.Lexicographic.{bytes_decides}
use Rattle.ec_base.specs.declared.token.Mark.{Mark}
use Rattle.ec_base.specs.declared.token.Mark.TheVariants as m
use Rattle.ec_base.specs.declared.token.Span.{Span}
use Rattle.ec_base.specs.declared.token.Token.{Token}
use Rattle.ec_base.specs.declared.token.TokenKind.{TokenKind}
use Rattle.ec_base.specs.declared.token.TokenKind.TheVariants as t
use Rattle.ec_syntax.specs.Grammar.Words
use Rattle.ec_syntax.specs.declared.name.Name.{Name}
use Rattle.ec_syntax.specs.Grammar.Words.{same}
use Rattle.ec_syntax.specs.Grammar.Tokens.{mark_number, is_mark, is_word, only, number_of, string_of}
use Rattle.ec_syntax.specs.Grammar.Expressions.{of_mark}
use Rattle.ec_syntax.specs.Descent.Tokens.{is_name, is_number}
use Rattle.ec_syntax.proofs.Decision.Procedures.{Apart}

-- ---- nothing but that a token passes a test

-- what `only` gives of a test that went so
abbrev pub so : Bool → Option (Unit {0})
so b = if b then Some tt else None

pub only_some : (test : Token → Bool) (x : Token) → test x ≡ is_some (only test x)
only_some test x = by (test x)
  where
    by : (b : Bool) → b ≡ is_some (so b)
    by true = refl
    by false = refl

pub only_picks : (test : Token → Bool) (x : Token) → test x ≡ true → only test x ≡ Some tt
only_picks test x e = ap so e

pub only_passes : (test : Token → Bool) (x : Token) (u : Unit {0}) → only test x ≡ Some u → test x ≡ true
only_passes test x u h = (cond_some (test x) tt u h).0

-- ---- by the kind

-- a token of this kind, at this place
abbrev pub token_of : TokenKind → Span → Token
token_of kind at = record { kind = kind; at = at }

-- what a test says of a token, it says of one of the same kind at the same place
pub by_kind : (test : Token → Bool) (b : Bool) (x : Token) (kind : TokenKind) → x.kind ≡ kind →
    test (token_of kind x.at) ≡ b → test x ≡ b
by_kind test b x kind e h = subst (λ k. test (token_of k x.at) ≡ b) (sym e) h

-- ---- marks

marks : List Mark
marks = m.OpenPar ∷ m.ClosePar ∷ m.Arrow ∷ m.Increment ∷ m.Decrement ∷ m.ShiftLeft ∷ m.ShiftRight ∷ m.LessEqual ∷ m.GreaterEqual ∷ m.Equal
    ∷ m.NotEqual ∷ m.AndAnd ∷ m.OrOr ∷ m.OpenBrace ∷ m.CloseBrace ∷ m.OpenParen ∷ m.CloseParen ∷ m.OpenBracket ∷ m.CloseBracket ∷ m.Semicolon
    ∷ m.Comma ∷ m.Dot ∷ m.At ∷ m.Assign ∷ m.Plus ∷ m.Minus ∷ m.Star ∷ m.Slash ∷ m.Percent ∷ m.And ∷ m.Or ∷ m.Caret ∷ m.Tilde ∷ m.Bang ∷ m.Less ∷ m.Greater ∷ []

-- the mark of a number
mark_of : ℕ → Mark
mark_of n = get_or marks n m.Greater

number_mark : (k : Mark) → mark_of (mark_number k) ≡ k
unfolding mark_of marks
number_mark m.OpenPar = refl
number_mark m.ClosePar = refl
number_mark m.Arrow = refl
number_mark m.Increment = refl
number_mark m.Decrement = refl
number_mark m.ShiftLeft = refl
number_mark m.ShiftRight = refl
number_mark m.LessEqual = refl
number_mark m.GreaterEqual = refl
number_mark m.Equal = refl
number_mark m.NotEqual = refl
number_mark m.AndAnd = refl
number_mark m.OrOr = refl
number_mark m.OpenBrace = refl
number_mark m.CloseBrace = refl
number_mark m.OpenParen = refl
number_mark m.CloseParen = refl
number_mark m.OpenBracket = refl
number_mark m.CloseBracket = refl
number_mark m.Semicolon = refl
number_mark m.Comma = refl
number_mark m.Dot = refl
number_mark m.At = refl
number_mark m.Assign = refl
number_mark m.Plus = refl
number_mark m.Minus = refl
number_mark m.Star = refl
number_mark m.Slash = refl
number_mark m.Percent = refl
number_mark m.And = refl
number_mark m.Or = refl
number_mark m.Caret = refl
number_mark m.Tilde = refl
number_mark m.Bang = refl
number_mark m.Less = refl
number_mark m.Greater = refl

same_mark : (j k : Mark) → (mark_number j == mark_number k) ≡ true → j ≡ k
same_mark j k h = sym (number_mark j) ∙ ap mark_of (eqb-true _ _ h) ∙ number_mark k

mark_kind_of : (k : Mark) (kind : TokenKind) (at : Span) → is_mark k (token_of kind at) ≡ true → kind ≡ t.Mark k
mark_kind_of k (t.Mark j) at h = ap t.Mark (same_mark j k h)
mark_kind_of k _ at h = absurd (true≢false (sym h))

-- a token that passes the test of a mark is that mark
pub mark_kind : (k : Mark) (x : Token) → is_mark k x ≡ true → x.kind ≡ t.Mark k
mark_kind k x h = mark_kind_of k x.kind x.at h

-- what a test says of a mark, it says of a token that passes the mark's test
pub from_mark : (k : Mark) (test : Token → Bool) (b : Bool) → ((at : Span) → test (token_of (t.Mark k) at) ≡ b) →
    (x : Token) → is_mark k x ≡ true → test x ≡ b
from_mark k test b h x e = by_kind test b x (t.Mark k) (mark_kind k x e) (h x.at)

-- ---- words

word_kind_of : (w : List ℕ) (kind : TokenKind) (at : Span) → is_word w (token_of kind at) ≡ true → kind ≡ t.Word w
word_kind_of w (t.Word v) at h = ap t.Word ((bytes_decides v w).0 h)
word_kind_of w _ at h = absurd (true≢false (sym h))

-- a token that passes the test of a word is that word
pub word_kind : (w : List ℕ) (x : Token) → is_word w x ≡ true → x.kind ≡ t.Word w
word_kind w x h = word_kind_of w x.kind x.at h

-- what a test says of a word, it says of a token that passes the word's test
pub from_word : (w : List ℕ) (test : Token → Bool) (b : Bool) → ((at : Span) → test (token_of (t.Word w) at) ≡ b) →
    (x : Token) → is_word w x ≡ true → test x ≡ b
from_word w test b h x e = by_kind test b x (t.Word w) (word_kind w x e) (h x.at)

-- ---- names, numbers and strings

named_kind : (x : Token) (kind : TokenKind) → x.kind ≡ kind → is_name (token_of kind x.at) ≡ true →
    (w : List ℕ) × (x.kind ≡ t.Word w) × (Words.is_name w ≡ true)
named_kind x (t.Word w) e h = (w, e, by (Words.is_name w) h)
  where
    by : (b : Bool) → is_some {T = Name} (if b then Some (record { text = w; at = x.at }) else None) ≡ true → b ≡ true
    by true g = refl
    by false g = g
named_kind x _ e h = absurd (true≢false (sym h))

-- a name is a word that isn't reserved
pub name_kind : (x : Token) → is_name x ≡ true → (w : List ℕ) × (x.kind ≡ t.Word w) × (Words.is_name w ≡ true)
name_kind x h = named_kind x x.kind refl h

-- what a test says of all words that aren't reserved, it says of names
pub from_name : (test : Token → Bool) (b : Bool) →
    ((w : List ℕ) (at : Span) → Words.is_name w ≡ true → test (token_of (t.Word w) at) ≡ b) → (x : Token) →
    is_name x ≡ true → test x ≡ b
from_name test b h x e = let (w, kind, free) = name_kind x e in by_kind test b x (t.Word w) kind (h w x.at free)

-- a name is none of the reserved words
pub name_not : (v : List ℕ) → Words.is_name v ≡ false → Apart is_name (is_word v)
name_not v r = from_name (is_word v) false (λ w at free. false_from_ne_true (same w v) (λ e. both_ways (Words.is_name v) r (subst (λ u. Words.is_name u ≡ true) ((bytes_decides w v).0 e) free)))

pub from_number : (test : Token → Bool) (b : Bool) → ((n : ℤ) (at : Span) → test (token_of (t.Number n) at) ≡ b) →
    (x : Token) → is_number x ≡ true → test x ≡ b
from_number test b h x e = by x.kind refl e
  where
    by : (kind : TokenKind) → x.kind ≡ kind → is_number (token_of kind x.at) ≡ true → test x ≡ b
    by (t.Number n) k g = by_kind test b x (t.Number n) k (h n x.at)
    by _ k g = absurd (true≢false (sym g))

-- a token that gives a number is that number
pub number_kind : (x : Token) (z : ℤ) → number_of x ≡ Some z → x.kind ≡ t.Number z
number_kind x z h = by x.kind refl h
  where
    by : (kind : TokenKind) → x.kind ≡ kind → number_of (token_of kind x.at) ≡ Some z → x.kind ≡ t.Number z
    by (t.Number w) e g = let same : w ≡ z = cc in e ∙ ap t.Number same
    by _ e g = absurd (true≢false (sym (ap is_some g)))

pub string_kind : (x : Token) (z : List ℕ) → string_of x ≡ Some z → x.kind ≡ t.Str z
string_kind x z h = by x.kind refl h
  where
    by : (kind : TokenKind) → x.kind ≡ kind → string_of (token_of kind x.at) ≡ Some z → x.kind ≡ t.Str z
    by (t.Str w) e g = let same : w ≡ z = cc in e ∙ ap t.Str same
    by _ e g = absurd (true≢false (sym (ap is_some g)))

-- ---- marks by a choice among them

-- a token of whose mark something is chosen is a mark
pub chosen_kind : {A : Type 0} (pick : Mark → Option A) (x : Token) (a : A) → of_mark pick x ≡ Some a →
    (k : Mark) × (x.kind ≡ t.Mark k) × (pick k ≡ Some a)
chosen_kind {A} pick x a h = by x.kind refl h
  where
    by : (kind : TokenKind) → x.kind ≡ kind → of_mark pick (token_of kind x.at) ≡ Some a →
        (k : Mark) × (x.kind ≡ t.Mark k) × (pick k ≡ Some a)
    by (t.Mark k) e g = (k, e, g)
    by _ e g = absurd (true≢false (sym (ap is_some g)))

-- the same where only that something is chosen is known
pub some_mark : {A : Type 0} (pick : Mark → Option A) (x : Token) → is_some (of_mark pick x) ≡ true →
    (k : Mark) × (x.kind ≡ t.Mark k) × (is_some (pick k) ≡ true)
some_mark {A} pick x h = by x.kind refl h
  where
    by : (kind : TokenKind) → x.kind ≡ kind → is_some (of_mark pick (token_of kind x.at)) ≡ true →
        (k : Mark) × (x.kind ≡ t.Mark k) × (is_some (pick k) ≡ true)
    by (t.Mark k) e g = (k, e, g)
    by _ e g = absurd (true≢false (sym g))
