-- Structs are decided.
use Rattle.std.proofs.Common.{◌≡◌, ℕ, Bool, false, ◌==◌, List, [], ◌∷◌, ◌++◌, Option, Some, None, codes, refl, ap, ◌∙◌, inl, inr, arith}
use Rattle.std.specs.Prelude.{ℤ}
use Rattle.ec_base.specs.declared.token.Mark.{Mark}
use Rattle.ec_base.specs.declared.token.Mark.TheVariants as m
use Rattle.ec_base.specs.declared.token.TokenKind.TheVariants as t
use Rattle.ec_base.specs.declared.token.Token.{Token}
use Rattle.ec_syntax.specs.declared.item.Field.{Field}
use Rattle.ec_syntax.specs.declared.item.Item.{Item}
use Rattle.ec_syntax.specs.declared.item.Item.TheVariants.{Struct}
use Rattle.ec_syntax.specs.declared.name.Base.{Base}
use Rattle.ec_syntax.specs.declared.name.Name.{Name}
use Rattle.ec_syntax.specs.Grammar.State.{State, Asked}
use Rattle.ec_syntax.specs.Grammar.Language as L
use Rattle.ec_syntax.specs.Grammar.Language.{Language, ◌or◌, ◌>>=◌, ◌>>◌}
use Rattle.ec_syntax.specs.Grammar.Tokens as LT
use Rattle.ec_syntax.specs.Grammar.Tokens.{is_word, is_mark, mark_number}
use Rattle.ec_syntax.specs.Grammar.Types.{typed}
use Rattle.ec_syntax.specs.Grammar.Items as LI
use Rattle.ec_syntax.specs.Descent.Reader as R
use Rattle.ec_syntax.specs.Descent.Reader.{Reader, ◌>>=◌ as ◌▸=◌, ◌>>◌ as ◌▸◌}
use Rattle.ec_syntax.specs.Descent.Tokens as RT
use Rattle.ec_syntax.specs.Descent.Tokens.{is_name, begins_base}
use Rattle.ec_syntax.specs.Descent.Items as RI
use Rattle.ec_syntax.proofs.Decision.Procedures.{is_else, Decides, Apart}
use Rattle.ec_syntax.proofs.Decision.Basics.{given, weaker, renamed, same_language, reindexed}
use Rattle.ec_syntax.proofs.Decision.Concatenation.{decides_follows}
use Rattle.ec_syntax.proofs.Decision.Sequencing.{followed, followed_maybe}
use Rattle.ec_syntax.proofs.Decision.Alternatives.{either}
use Rattle.ec_syntax.proofs.Decision.Repetition.{turning}
use Rattle.ec_syntax.proofs.Lookahead.FirstSets.{one_of, itself, or_within, or_apart, apart_or, within_left, within_right, none, none_apart, apart_none, none_within}
use Rattle.ec_syntax.proofs.Items.Tokens.{mark_decides, number_decides, name_decides, base_decides, stars_decides}
use Rattle.ec_syntax.proofs.Tokens.Classes.{only_some, from_mark, from_name, name_not}
use Rattle.ec_syntax.proofs.Decision.OneToken.{Takable, taken}

-- ---- steps

-- one behind another behind which nothing may go on
module _ {X A B able : Type 0} {d d' : ℕ} {p : X → Reader A} {l : X → Language A} {g : X → A → Language B}
    {empty : Type 0} {first other goes : Token → Bool} where
  pub after : (f : X → A → Reader B) → Decides able d p l ⊥ first none →
      Decides {X = X × A} able d' (λ xa. f xa.0 xa.1) (λ xa. g xa.0 xa.1) empty other goes →
      Decides able d (λ x. p x ▸= f x) (λ x. l x >>= g x) ⊥ first goes
  after f h k = followed f h (decides_follows k) (apart_none other) (λ _. none_within goes) (λ e. e)

-- what ends with a value made of what was read
module _ {X A B able : Type 0} {d : ℕ} {p : X → Reader A} {l : X → Language A} {first goes : Token → Bool}
    (make : X → A → B) where
  pub made : Decides able d p l ⊥ first goes →
      Decides able d (λ x. p x ▸= (λ a. R.give (make x a))) (λ x. l x >>= (λ a. L.give (make x a))) ⊥ first goes
  made h = followed (λ x a. R.give (make x a)) h (decides_follows (given (λ (xa : X × A). make xa.0 xa.1) able d goes)) (none_apart goes) (λ _. itself goes) (λ e. e)

-- ---- tests

pub name_not_mark : (k : Mark) → Apart is_name (is_mark k)
name_not_mark k = from_name (is_mark k) false (λ w at free. refl)

pub mark_not_mark : (j k : Mark) → (mark_number j == mark_number k) ≡ false → Apart (is_mark j) (is_mark k)
mark_not_mark j k e = from_mark j (is_mark k) false (λ at. e)

pub mark_not_word : (k : Mark) (w : List ℕ) → Apart (is_mark k) (is_word w)
mark_not_word k w = from_mark k (is_word w) false (λ at. refl)

pub mark_not_else : (k : Mark) → Apart (is_mark k) is_else
mark_not_else k = mark_not_word k (codes "else")

-- ---- the length of an array

-- "[" num "]", in the reader's shape
abbrev sized : Language (Option ℤ)
sized = LT.mark 0 m.OpenBracket >> (LT.number 1 >>= (λ n. LT.mark 1 m.CloseBracket >> L.give (Some n)))

abbrev sized_reader : Reader (Option ℤ)
sized_reader = RT.mark m.OpenBracket ▸ (RT.number ▸= (λ n. RT.mark m.CloseBracket ▸ R.give (Some n)))

abbrev size : Language (Option ℤ)
size = L.maybe (LT.mark 0 m.OpenBracket >> (LT.number 1 >>= (λ n. LT.mark 1 m.CloseBracket >> L.give n)))

closed_decides : {X able : Type 0} (n : X → ℤ) →
    Decides {X = X} able 1 (λ x. RT.mark m.CloseBracket ▸ R.give (Some (n x)))
    (λ x. LT.mark 1 m.CloseBracket >> L.give (Some (n x))) ⊥ (is_mark m.CloseBracket) none
closed_decides n = made (λ x _. Some (n x)) (mark_decides (omega arith) m.CloseBracket)

sized_decides : {X able : Type 0} → Decides {X = X} able 0 (λ _. sized_reader)
    (λ _. sized) ⊥ (is_mark m.OpenBracket) none
sized_decides = after _ (mark_decides (omega arith) m.OpenBracket) (after _ (number_decides (omega arith)) (closed_decides (λ x. x.1)))

chosen_decides : {X able : Type 0} → Decides {X = X} able 0 (λ _. RI.size) (λ _. sized or L.give None) (Unit {0})
    (one_of (is_mark m.OpenBracket) none) (is_mark m.OpenBracket)
chosen_decides = either (is_mark m.OpenBracket) (weaker (λ e. e) (λ e. e) (λ e. e) (none_within _) sized_decides) (given (λ _. None) _ 0 _) (itself _) (none_apart _) (λ _. itself _)

to_size : (asked : Asked) (s : State) (a : Option ℤ) (s' : State) → (sized or L.give None) asked s a s' →
    size asked s a s'
to_size asked s a s' (inl (u, m, a1, (n, k, a2, (v, l, a3, (e, f))))) = inl (n, l, (u, m, a1, (n, k, a2, (v, l, a3, (refl, refl)))), (e, f))
to_size asked s a s' (inr h) = inr h

from_size : (asked : Asked) (s : State) (a : Option ℤ) (s' : State) → size asked s a s' →
    (sized or L.give None) asked s a s'
from_size asked s a s' (inl (b, r, (u, m, a1, (n, k, a2, (v, l, a3, (e, f)))), (g, h))) = inl (u, m, a1, (n, k, a2, (v, l, a3, (g ∙ ap Some e, h ∙ f))))
from_size asked s a s' (inr h) = inr h

size_decides : {X able : Type 0} → Decides {X = X} able 0 (λ _. RI.size) (λ _. size) (Unit {0}) (is_mark m.OpenBracket)
    (is_mark m.OpenBracket)
size_decides = renamed (or_within _ _ _ (itself _) (none_within _)) (within_left _ _ _ (itself _)) (same_language (λ _. to_size) (λ _. from_size) chosen_decides)

-- ---- fields

abbrev field : Base → ℕ → Name → Option ℤ → Field
field b k n a = record { name = n; ty = typed b k; array = a }

abbrev pub star_or_name : Token → Bool
star_or_name = one_of (is_mark m.Star) is_name

-- behind the name of a field
measured_decides : {X able : Type 0} (b : X → Base) (k : X → ℕ) (n : X → Name) →
    Decides {X = X} able 0 (λ x. RI.size ▸= (λ a. R.give (field (b x) (k x) (n x) a)))
    (λ x. size >>= (λ a. L.give (field (b x) (k x) (n x) a))) (Unit {0}) (one_of (is_mark m.OpenBracket) none)
    (is_mark m.OpenBracket)
measured_decides b k n = followed_maybe _ size_decides (given (λ x. field (b x.0) (k x.0) (n x.0) x.1) _ 0 _) (none_apart _) (λ _. itself _) (none_apart _) tt

field_name_decides : {X able : Type 0} (b : X → Base) →
    Decides {X = X} able 0 (λ x. RI.field_name (b x)) (λ x. LI.field_name (b x)) ⊥ star_or_name (is_mark m.OpenBracket)
field_name_decides b =
    followed_maybe _ (stars_decides (omega arith) (λ _. 0)) (after _ (name_decides (omega arith)) (measured_decides (λ x. b x.0.0) (λ x. x.0.1) (λ x. x.1)))
    (name_not_mark m.Star) (λ e. absurd e) (name_not (codes "else") refl) tt

-- one more field of this base, behind these
abbrev next : Base → List Field → Language (List Field)
next b fs = LT.mark 0 m.Comma >> (LI.field_name b >>= (λ f. L.give (fs ++ f ∷ [])))

abbrev next_reader : Base → List Field → Reader (List Field)
next_reader b fs = RT.mark m.Comma ▸ (RI.field_name b ▸= (λ f. R.give (fs ++ f ∷ [])))

next_decides : {X able : Type 0} (b : X → Base) (fs : X → List Field) →
    Decides {X = X} able 0 (λ x. next_reader (b x) (fs x)) (λ x. next (b x) (fs x)) ⊥ (is_mark m.Comma)
    (is_mark m.OpenBracket)
next_decides b fs = after _ (mark_decides (omega arith) m.Comma) (made (λ x f. fs x.0 ++ f ∷ []) (field_name_decides (λ x. b x.0)))

abbrev names : Base → List Field → Language (List Field)
names b before = L.turns (next b) before

abbrev comma_or_bracket : Token → Bool
comma_or_bracket = one_of (is_mark m.Comma) (is_mark m.OpenBracket)

names_decides : {X able : Type 0} (b : X → Base) (before : X → List Field) →
    Decides {X = X} able 0 (λ x. RI.field_names (b x) (before x)) (λ x. names (b x) (before x)) (Unit {0})
    (is_mark m.Comma) comma_or_bracket
names_decides b before = reindexed (λ x. (b x, before x)) (turning next_reader next (next_decides (λ x. x.0) (λ x. x.1))
    (mark_not_mark m.Comma m.OpenBracket refl) (within_right _ _ _ (itself _)) (within_left _ _ _ (itself _)))

-- the `;` behind fields
all_decides : {X able : Type 0} {goes : Token → Bool} (all : X → List Field) →
    Decides {X = X} able 0 (λ x. RT.mark m.Semicolon ▸ R.give (all x))
    (λ x. LT.mark 0 m.Semicolon >> L.give (all x)) ⊥ (is_mark m.Semicolon) goes
all_decides all = made (λ x _. all x) (mark_decides (omega arith) m.Semicolon)

rest_decides : {X able : Type 0} {goes : Token → Bool} (b : X → Base) (before : X → List Field) →
    Decides {X = X} able 0 (λ x. RI.field_names (b x) (before x) ▸= (λ all. RT.mark m.Semicolon ▸ R.give all))
    (λ x. names (b x) (before x) >>= (λ all. LT.mark 0 m.Semicolon >> L.give all)) ⊥
    (one_of (is_mark m.Comma) (is_mark m.Semicolon)) goes
rest_decides b before = followed_maybe _ (names_decides b before) (all_decides (λ x. x.1))
    (apart_or _ _ _ (mark_not_mark m.Semicolon m.Comma refl) (mark_not_mark m.Semicolon m.OpenBracket refl)) (λ e. absurd e) (mark_not_else m.Semicolon) tt

pub fields_decide : {X able : Type 0} {goes : Token → Bool} (before : X → List Field) →
    Decides {X = X} able 0 (λ x. RI.fields (before x)) (λ x. LI.fields (before x)) ⊥ begins_base goes
fields_decide before = after _ (base_decides (omega arith)) (followed _ (field_name_decides (λ x. x.1)) (decides_follows (rest_decides (λ x. x.0.1) (λ x. before x.0.0 ++ x.1 ∷ [])))
    (or_apart _ _ _ (mark_not_mark m.Comma m.OpenBracket refl) (mark_not_mark m.Semicolon m.OpenBracket refl)) (λ e. absurd e) (λ e. e))

-- ---- structs

brace_takable : {X : Type 0} → Takable {X = X} {A = Unit {0}} (LT.only (is_mark m.OpenBrace))
    (λ _. LI.struct_counts) LI.with_struct (is_mark m.OpenBrace)
brace_takable = record {
  shallow = λ x s a. refl;
  counts_still = λ x s ts a. refl;
  counted_still = λ s ts. refl;
  told = only_some (is_mark m.OpenBrace);
  token = record { kind = t.Mark m.OpenBrace; at = record { from = 0; to = 0 } };
  value = tt;
  picked = refl;
  lexical = refl;
  no_else = refl;
}

brace_decides : {X able : Type 0} {goes : Token → Bool} →
    Decides {X = X} able 0 (λ _. RI.struct_brace) (λ _. LI.struct_brace) ⊥ (is_mark m.OpenBrace) goes
brace_decides = taken _ 0 _ (omega arith) brace_takable

abbrev item : Name → List Field → Item
item n fs = Struct (record { name = n; fields = fs })

-- "}" ";"
ended_decides : {X able : Type 0} {goes : Token → Bool} (n : X → Name) (fs : X → List Field) →
    Decides {X = X} able 0 (λ x. RT.mark m.CloseBrace ▸ (RT.mark m.Semicolon ▸ R.give (item (n x) (fs x))))
    (λ x. LT.mark 0 m.CloseBrace >> (LT.mark 0 m.Semicolon >> L.give (item (n x) (fs x)))) ⊥ (is_mark m.CloseBrace) goes
ended_decides n fs = after _ (mark_decides (omega arith) m.CloseBrace) (made (λ x _. item (n x.0) (fs x.0)) (mark_decides (omega arith) m.Semicolon))

-- more fields
more_decides : {X able : Type 0} (first : X → List Field) →
    Decides {X = X} able 0 (λ x. R.turns begins_base RI.fields (first x)) (λ x. L.turns LI.fields (first x))
    (Unit {0}) begins_base begins_base
more_decides first = reindexed (λ x. (tt, first x)) (turning {X = Unit {0}} (λ _. RI.fields) (λ _. LI.fields) (fields_decide (λ x. x.1)) (apart_none _) (none_within _) (itself _))

-- "{" fields+ "}" ";" behind a name
abbrev pub structure : Name → Language Item
structure n = LI.struct_brace >> (LI.fields [] >>= (λ first. L.turns LI.fields first >>= (λ all. LT.mark 0 m.CloseBrace >> (LT.mark 0 m.Semicolon >> L.give (item n all)))))

base_not_mark : (k : Mark) → Apart (is_mark k) begins_base
base_not_mark k = from_mark k begins_base false (λ at. refl)

pub structure_decides : {X able : Type 0} {goes : Token → Bool} (n : X → Name) →
    Decides {X = X} able 0 (λ x. RI.structure (n x)) (λ x. structure (n x)) ⊥ (is_mark m.OpenBrace) goes
structure_decides n =
    after _ brace_decides (after _ (fields_decide (λ _. [])) (followed_maybe _ (more_decides (λ x. x.1)) (ended_decides (λ x. n x.0.0.0) (λ x. x.1))
    (base_not_mark m.CloseBrace) (λ e. absurd e) (mark_not_else m.CloseBrace) tt))
