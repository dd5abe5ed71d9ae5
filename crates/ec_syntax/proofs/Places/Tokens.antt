-- Tokens, types, brackets and lists: where what is read of them stands.
use Rattle.std.proofs.Common.{◌≡◌, refl, sym, ◌∙◌, ap, subst, true≢false, ◌≤◌, ℕ, suc, Bool, true, false, if◌then◌else◌, List, [], ◌∷◌, ◌++◌, map, Option, Some, None, is_some, arith, codes}
use Rattle.ec_base.specs.declared.token.Mark.{Mark}
use Rattle.ec_base.specs.declared.token.Mark.TheVariants as m
use Rattle.ec_base.specs.declared.token.Span.{Span}
use Rattle.ec_base.specs.declared.token.Token.{Token}
use Rattle.ec_base.specs.declared.token.TokenKind.{TokenKind}
use Rattle.ec_base.specs.declared.token.TokenKind.TheVariants as t
use Rattle.ec_syntax.specs.declared.name.Name.{Name}
use Rattle.ec_syntax.specs.Grammar.Expressions as E
use Rattle.ec_syntax.specs.Grammar.Expressions.{of_mark}
use Rattle.ec_syntax.specs.Grammar.Language as L
use Rattle.ec_syntax.specs.Grammar.Language.{Language, begin}
use Rattle.ec_syntax.specs.Grammar.State.{State, Counts}
use Rattle.ec_syntax.specs.Grammar.Tokens as T
use Rattle.ec_syntax.specs.Grammar.Tokens.{only, is_word, is_mark, name_of, number_of, string_of}
use Rattle.ec_syntax.specs.Grammar.Types as Y
use Rattle.ec_syntax.specs.Grammar.Words.{is_name}
use Rattle.ec_syntax.specs.Parts.{Role, Parts, one, ◌ahead_of◌, joined}
use Rattle.ec_syntax.specs.Places.{first, Stands}
use Rattle.ec_syntax.proofs.EndOfText.Grammar.{inside_of}
use Rattle.ec_syntax.proofs.EndOfText.Inside.{Inside}
use Rattle.ec_syntax.proofs.Tokens.Classes.{token_of, chosen_kind}
use Rattle.ec_syntax.proofs.Places.Standing.{ahead_of_nothing, ahead_of_assoc, joined-more, first_below, stands_ahead_of, Gives, gives_self, gives_same}
use Rattle.ec_syntax.proofs.Places.Placing.{taken_on, Enters, entered}
use Rattle.ec_syntax.proofs.Places.Rules.{Lays, both_laid, lays_behind, given, behind, firstly, made, either, turned, taken, token_lays}

-- ---- which tokens aren't the end

pub word_inside : (w : List ℕ) → Inside (only (is_word w))
word_inside w = inside_of (only (is_word w)) (λ x e. rw e refl)

pub mark_inside : (k : Mark) → Inside (only (is_mark k))
mark_inside k = inside_of (only (is_mark k)) (λ x e. rw e refl)

pub operator_inside : {A : Type 0} (pick : Mark → Option A) → Inside (of_mark pick)
operator_inside pick = inside_of (of_mark pick) (λ x e. rw e refl)

pub number_inside : Inside number_of
number_inside = inside_of number_of (λ x e. rw e refl)

pub name_inside : Inside name_of
name_inside = inside_of name_of (λ x e. rw e refl)

pub string_inside : Inside string_of
string_inside = inside_of string_of (λ x e. rw e refl)

-- ---- single tokens

module _ {before : Parts} {d : ℕ} where
  pub word_lays : (w : List ℕ) → Lays true before (T.word d w) (λ _. before)
  word_lays w = token_lays (word_inside w)

  pub mark_lays : (k : Mark) → Lays true before (T.mark d k) (λ _. before)
  mark_lays k = token_lays (mark_inside k)

  pub sign_lays : (k : Mark) → Lays true before (T.sign d k) (λ _. before)
  sign_lays k = token_lays (mark_inside k)

  pub number_lays : Lays true before (T.number d) (λ _. before)
  number_lays = token_lays number_inside

  pub string_lays : Lays true before (T.string d) (λ _. before)
  string_lays = token_lays string_inside

  pub name_lays : Lays true before (T.name d) (λ _. before)
  name_lays = token_lays name_inside

-- a name stands where its token does
name_place : (x : Token) (n : Name) → name_of x ≡ Some n → x.at ≡ n.at
name_place x n e = by x.kind refl e
  where
    named : (b : Bool) (w : List ℕ) →
        (if b then Some (let n : Name = record { text = w; at = x.at } in n) else None) ≡ Some n → x.at ≡ n.at
    named true w h = let same : (let n : Name = record { text = w; at = x.at } in n) ≡ n = cc in ap (λ n. n.at) same
    named false w h = absurd (true≢false (sym (ap is_some h)))

    by : (kind : TokenKind) → x.kind ≡ kind → name_of (token_of kind x.at) ≡ Some n → x.at ≡ n.at
    by (t.Word w) k h = named (is_name w) w h
    by _ k h = absurd (true≢false (sym (ap is_some h)))

-- a name that is declared
pub declared_lays : {before : Parts} {d : ℕ} {counts : State → Name → Counts} {counted : State → State}
    (role : Role) → Lays true before (L.one d name_of counts counted) (λ n. before ahead_of one role n.at Parts.nothing)
declared_lays {before} role = taken name_inside (λ x n e start low stands h k.
    let at = name_place x n e in
    let small : first role x.at.from ≤ x.at.to = omega (arith, first_below role x.at.from, k) in
    stands_ahead_of before (one role n.at Parts.nothing) start low x.at.to stands
    (subst (λ (z : Span). Stands low x.at.to (one role z Parts.nothing)) at (h, k, small, omega arith)))

-- an operator, with the mark that it is
pub operator_lays : {A B : Type 0} {d : ℕ} {c : Bool} {before : Parts} (pick : Mark → Option A) {q : A → Language B}
    {g : B → Parts} →
    ((a : A) → (k : Mark) × (pick k ≡ Some a) → Lays c before (q a) g) → Lays true before (L.◌>>=◌ (T.operator d (of_mark pick)) q) g
operator_lays {A} {B} {d} {c} {before} pick {q} {g} h = record {
  each = λ start low s v n r rising stands.
      let (a, m, x, y) = r in
      let k = chosen_kind pick x.token a x.picked in
      let one = (token_lays {before = before} (operator_inside pick)).each start low s a m x rising stands in
      both_laid true c start start low s m n before (g v) one ((h a (k.0, k.2)).each start one.high m v n y one.rising one.stands);
}

pub enters_operator : {A B : Type 0} {d : ℕ} {c : Bool} (pick : Mark → Option A) {q : A → Language B} {g : B → Parts} →
    ((a : A) → (k : Mark) × (pick k ≡ Some a) → Lays c Parts.nothing (q a) g) → Enters (L.◌>>=◌ (T.operator d (of_mark pick)) q) g
enters_operator {A} {B} {d} {c} pick {q} {g} h = record {
  each = λ low s v n r rising.
      let (a, m, x, y) = r in
      let k = chosen_kind pick x.token a x.picked in
      let one = (token_lays {before = Parts.nothing} (operator_inside pick)).each low low s a m x rising (omega arith) in
      both_laid true c low (suc (begin s)) low s m n Parts.nothing (g v) one ((h a (k.0, k.2)).each (suc (begin s)) one.high m v n y one.rising (taken_on one).goes);
}

-- ---- parts behind others

pub gives_none : (us : Parts) {v : Parts} → v ≡ Parts.nothing → Gives us (us ahead_of v)
gives_none us e = gives_same (sym (ap (λ z. us ahead_of z) e ∙ ahead_of_nothing us))

pub gives_one : (us : Parts) {a v : Parts} → v ≡ a → Gives (us ahead_of a) (us ahead_of v)
gives_one us e = gives_same (ap (λ z. us ahead_of z) (sym e))

pub gives_two : (us a b : Parts) {v : Parts} → v ≡ a ahead_of b → Gives ((us ahead_of a) ahead_of b) (us ahead_of v)
gives_two us a b e = gives_same (ahead_of_assoc us a b ∙ ap (λ z. us ahead_of z) (sym e))

pub gives_three : (us a b c : Parts) {v : Parts} → v ≡ a ahead_of (b ahead_of c) →
    Gives (((us ahead_of a) ahead_of b) ahead_of c)
    (us ahead_of v)
gives_three us a b c e = gives_same (ap (λ z. z ahead_of c) (ahead_of_assoc us a b) ∙ ahead_of_assoc us (a ahead_of b) c ∙ ap (λ z. us ahead_of z) (ahead_of_assoc a b c ∙ sym e))

-- ---- types

module _ {before : Parts} where
  struct_lays : (d : ℕ) → Lays true before (Y.struct_base d) (λ _. before)
  struct_lays d = firstly (word_lays (codes "struct")) (λ _. behind name_lays (λ _. given gives_self))

  int_lays : (d : ℕ) → Lays true before (Y.int_base d) (λ _. before)
  int_lays d = firstly (word_lays (codes "int")) (λ _. given gives_self)

  -- of a variable
  pub value_base_lays : (d : ℕ) → Lays true before (L.◌or◌ (Y.int_base d) (Y.struct_base d)) (λ _. before)
  value_base_lays d = either (int_lays d) (struct_lays d)

  pub base_lays : (d : ℕ) → Lays true before (Y.base d) (λ _. before)
  base_lays d = either (int_lays d) (either (firstly (word_lays (codes "void")) (λ _. given gives_self)) (struct_lays d))

  pub stars_lay : (star : Language (Unit {0})) → Lays true before star (λ _. before) → (k : ℕ) →
      Lays false before (Y.stars star k) (λ _. before)
  stars_lay star h k = turned {takes = true} (λ _. firstly h (λ _. given gives_self)) k

  pub mode_lays : (d : ℕ) → Lays false before (Y.mode d) (λ _. before)
  mode_lays d = either (given gives_self) (either (behind (word_lays (codes "local")) (λ _. given gives_self)) (behind (word_lays (codes "shared")) (λ _. given gives_self)))

  pub type_lays : {star : Language (Unit {0})} (d : ℕ) → Lays true before star (λ _. before) →
      Lays true before (Y.type_with d star) (λ _. before)
  type_lays {star} d h = firstly (base_lays d) (λ b. made (Y.typed b) (λ _. gives_self) (stars_lay star h 0))

  pub pointer_lays : {star : Language (Unit {0})} (d : ℕ) → Lays true before star (λ _. before) →
      Lays true before (Y.pointer_with d star) (λ _. before)
  pointer_lays {star} d h = firstly (base_lays d) (λ b. behind h (λ _. made (Y.typed b) (λ _. gives_self) (stars_lay star h 1)))

-- ---- brackets and lists

-- in parentheses
pub bracketed_lays : {A : Type 0} {takes : Bool} {before : Parts} {l : Language A} {f : A → Parts} (d : ℕ) →
    Lays takes before l f → Lays true before (E.bracketed d l) f
bracketed_lays d h = firstly (sign_lays m.OpenParen) (λ _. behind h (λ a. behind (sign_lays m.CloseParen) (λ _. given gives_self)))

pub bracketed_enters : {A : Type 0} {takes : Bool} {l : Language A} {f : A → Parts} (d : ℕ) →
    Lays takes Parts.nothing l f → Enters (E.bracketed d l) f
bracketed_enters d h = entered (mark_inside m.OpenParen) (λ _. behind h (λ a. behind (sign_lays m.CloseParen) (λ _. given gives_self)))

-- the parts of a value behind those before, whatever these are
abbrev pub Adds : {A : Type 0} → Bool → Language A → (A → Parts) → Type 0
Adds takes l parts = (before : Parts) → Lays takes before l (λ a. before ahead_of parts a)

module _ {A : Type 0} {takes : Bool} (parts : A → Parts) {l : List A → Language A}
    (h : (xs : List A) → Adds takes (l xs) parts) where
  abbrev pub more_of : List A → Language (List A)
  more_of xs = L.◌>>=◌ (l xs) (λ x. L.give (xs ++ x ∷ []))

  -- one behind the others
  pub more_lays : (before : Parts) (xs : List A) → Lays takes (before ahead_of joined (map parts xs)) (more_of xs)
      (λ ys. before ahead_of joined (map parts ys))
  more_lays before xs = made (λ x. xs ++ x ∷ []) (λ x. gives_two before (joined (map parts xs)) (parts x) (joined-more parts xs x)) (h xs (before ahead_of joined (map parts xs)))

  pub sequence_lays : Adds false (L.turns more_of []) (λ xs. joined (map parts xs))
  sequence_lays before = lays_behind (ahead_of_nothing before) (turned (more_lays before) [])

  -- any number of others behind the first ones, each with a comma before it
  pub commas_lay : (d : ℕ) (before : Parts) (xs : List A) → Lays false (before ahead_of joined (map parts xs))
      (L.turns (λ xs. L.◌>>◌ (T.mark d m.Comma) (more_of xs)) xs) (λ ys. before ahead_of joined (map parts ys))
  commas_lay d before xs = turned {takes = true} (λ ys. firstly (mark_lays m.Comma) (λ _. more_lays before ys)) xs
