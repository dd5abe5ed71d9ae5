-- What is written so far, and what it becomes by a phrase more.
use Rattle.std.specs.Prelude.{ℕ, zero, suc, List, [], ◌∷◌, ◌++◌, Option, codes}
use Rattle.ec_base.specs.declared.token.Mark.TheVariants as m
use Rattle.ec_base.specs.declared.token.TokenKind.{TokenKind}
use Rattle.ec_syntax.specs.declared.expression.Expr.{Expr}
use Rattle.ec_syntax.specs.declared.name.Ty.{Ty}
use Rattle.ec_print.specs.Layout.{spelled, gap, depth_after}
use Rattle.ec_print.specs.Phrase.{Phrase, nothing, token, ◌then◌}
use Rattle.ec_print.specs.Sentence.{word, mark, bracketed, joined, further, listed, optional, type, cast, expression, pair, printed}

-- a text, and how many parentheses are open at its end
pub record Written : Type 0 where
  pub text : List ℕ
  pub depth : ℕ

-- one token more
unfoldable pub with_token : TokenKind → Written → Written
with_token k w = record { text = w.text ++ spelled k ++ gap w.depth k ∷ []; depth = depth_after w.depth k }

-- a phrase more
abbrev pub with : Phrase → Written → Written
with nothing w = w
with (token k) w = with_token k w
with (a then b) w = with b (with a w)

-- the comma before a phrase of a list, behind so many
abbrev pub separator : ℕ → Phrase
separator zero = nothing
separator (suc i) = mark m.Comma

-- what is left of a list of phrases with a comma between each two, behind so many
abbrev pub listed_behind : ℕ → List Phrase → Phrase
listed_behind zero xs = listed xs
listed_behind (suc i) xs = further xs

-- a `malloc` as far as its count
abbrev pub malloc_head : Option Ty → Phrase
malloc_head to = optional cast to then word (codes "malloc") then mark m.OpenParen

-- a `malloc` from its `sizeof` on
abbrev pub malloc_tail : Ty → Phrase
malloc_tail element = word (codes "sizeof") then bracketed (type element) then mark m.CloseParen

-- ---- statements, with their semicolon

-- a write to a shared variable, or an addition to one
abbrev pub updating : List ℕ → Expr → Expr → Phrase
updating w shared value = word w then pair shared value then mark m.Semicolon

abbrev pub printing : List ℕ → List Expr → Phrase
printing s es = word (codes "printf") then printed s es then mark m.Semicolon

abbrev pub returning : Option Expr → Phrase
returning e = word (codes "return") then optional expression e then mark m.Semicolon

-- a word, and a condition in parentheses
abbrev pub condition : List ℕ → Expr → Phrase
condition w test = word w then bracketed (expression test)

-- "{^" stmt* "^}"
abbrev pub parallel : List Phrase → Phrase
parallel branches = mark m.OpenPar then joined branches then mark m.ClosePar
