-- What stands before a refusal begins an item or a sum, and with the token that is refused it begins none.
use Rattle.std.proofs.Common.{◌≡◌, refl, sym, ◌∙◌, ap, subst, ℕ, zero, suc, Bool, true, false, List, [], ◌∷◌, ◌++◌, append_assoc, pos}
use Rattle.std.specs.Prelude.{Option, Some, None}
use Rattle.ec_base.specs.declared.token.TokenKind.{TokenKind}
use Rattle.ec_base.specs.declared.token.TokenKind.TheVariants as t
use Rattle.ec_base.specs.declared.token.Mark.TheVariants as m
use Rattle.ec_small.specs.declared.tree.Operator.{Operator}
use Rattle.ec_small.specs.declared.tree.Operator.TheVariants as operator
use Rattle.ec_small.specs.declared.tree.Expr.{Expr}
use Rattle.ec_small.specs.declared.tree.Expr.TheVariants.{Number, Binary}
use Rattle.ec_small.specs.Words.{place}
use Rattle.ec_small.specs.Grammar.{Kinds, Names, IsItem, number, variable, nested, IsProduct, single, times, IsSum, one, plus, minus}
use Rattle.ec_small.specs.Descent.{Read, Sized, and_then, is_mark, mark, mark_if, item, product_on, product_by, sum_on, sum_by, sum, factor_operator, term_operator}
use Rattle.ec_small.specs.Descent as descent
use Rattle.ec_small.proofs.Rules.{Stuck, Opens, Judged, AllLexical-append}
use Rattle.ec_small.proofs.Levels.{Halts, halts_front}
use Rattle.ec_small.proofs.Judges.{judged_then, stuck_by, Ends, Both, Joins, judged_by}
use Rattle.ec_small.proofs.Operators.{no_factor, products, sums, begins, item_refused, close_is}
use Rattle.ec_small.proofs.Agrees.{ItemsOf, ProductsOf, SumsOf, shorter_item, shorter_product, local_product, local_sum, reach_product, reach_sum, read_sum}

-- ends of items, products and sums
abbrev pub Any : ℕ → Kinds → Type 0
Any j rest = Unit {0}

abbrev ItemJudgedAt : ℕ → Names → ℕ → Kinds → Type 0
ItemJudgedAt n names i ts = Judged (Ends (ItemsOf n names i) Any) (ItemsOf n names i) (item n names i) ts (item n names i ts)

abbrev ItemJudged : ℕ → Type 0
ItemJudged n = (names : Names) (i : ℕ) (ts : Kinds) → ItemJudgedAt n names i ts

-- ---- products and sums, over items

times_by : (n : ℕ) (names : Names) (i : ℕ) (ts : Kinds) (a : Expr) (j : ℕ) (x : TokenKind) (us : Kinds) (b : Sized) (rest : Kinds) (op : Operator) → factor_operator x ≡ Some op →
    IsProduct n i names ts a (suc j) (x ∷ us) → IsItem n j names us b.0 b.1 rest → IsProduct n i names ts (Binary op a b.0) b.1 rest
times_by n names i ts a j (t.Mark m.Star) us b rest op is s h =
    let same : operator.Mul ≡ op = cc in subst (λ o. IsProduct n i names ts (Binary o a b.0) b.1 rest) same (times s h)
times_by n names i ts a j _ us b rest op is s h = cc

adds_by : (n : ℕ) (names : Names) (i : ℕ) (ts : Kinds) (a : Expr) (j : ℕ) (x : TokenKind) (us : Kinds) (b : Sized) (rest : Kinds) (op : Operator) → term_operator x ≡ Some op →
    IsSum n i names ts a (suc j) (x ∷ us) → IsProduct n j names us b.0 b.1 rest → IsSum n i names ts (Binary op a b.0) b.1 rest
adds_by n names i ts a j (t.Mark m.Plus) us b rest op is s h =
    let same : operator.Add ≡ op = cc in subst (λ o. IsSum n i names ts (Binary o a b.0) b.1 rest) same (plus s h)
adds_by n names i ts a j (t.Mark m.Minus) us b rest op is s h =
    let same : operator.Sub ≡ op = cc in subst (λ o. IsSum n i names ts (Binary o a b.0) b.1 rest) same (minus s h)
adds_by n names i ts a j _ us b rest op is s h = cc

module _ (n : ℕ) (names : Names) (items : (i : ℕ) (ts : Kinds) → ItemJudgedAt n names i ts) where
  product_joins : Joins factor_operator (item n names) (product_by (item n names)) (product_on (item n names)) (ItemsOf n names) (ProductsOf n names) Any
  product_joins = record {
    level = products (item n names);
    one = λ i ts p rest h. single h;
    more = λ i ts a j x us b rest op is s h. times_by n names i ts a j x us b rest op is s h;
    local = λ i ts p rest h. local_product h;
    shorter = λ i ts p rest h. shorter_item h;
    reach = λ i ts a j x us op is h. reach_product h;
    judged = items;
  }

  sum_joins : Joins term_operator (product_by (item n names)) (sum_by (item n names)) (sum_on (product_by (item n names))) (ProductsOf n names) (SumsOf n names) (Both factor_operator Any)
  sum_joins = record {
    level = sums (item n names);
    one = λ i ts p rest h. one h;
    more = λ i ts a j x us b rest op is s h. adds_by n names i ts a j x us b rest op is s h;
    local = λ i ts p rest h. local_sum h;
    shorter = λ i ts p rest h. shorter_product h;
    reach = λ i ts a j x us op is h. reach_sum h (no_factor x op is);
    judged = λ i ts. judged_by product_joins i ts;
  }

  judged_over : (i : ℕ) (ts : Kinds) → Judged (Ends (SumsOf n names i) (Both term_operator (Both factor_operator Any))) (SumsOf n names i) (sum n names i) ts (sum n names i ts)
  judged_over i ts = judged_by sum_joins i ts

-- ---- items

-- an item may begin anywhere
at_once : (n : ℕ) (names : Names) (i : ℕ) (ts : Kinds) → Stuck (item n names i) [] ts → Opens (ItemsOf n names i) (item n names i) ts ts
at_once n names i ts s = ([], refl, (λ after. (t.Number (pos 0) ∷ [], (Number (pos 0), i), number, refl)), s)

judged_variable : (n : ℕ) (names : Names) (i : ℕ) (w : List ℕ) (rest : Kinds) (o : Option ℕ) → place names w ≡ o →
    Judged (Ends (ItemsOf n names i) Any) (ItemsOf n names i) (item n names i) (t.Word w ∷ rest) (descent.variable i w rest o)
judged_variable n names i w rest None is = at_once n names i (t.Word w ∷ rest) (λ behind. ap (descent.variable i w behind) is)
judged_variable n names i w rest (Some k) is = (variable is, tt)

judged_refused : (n : ℕ) (names : Names) (i : ℕ) (x : TokenKind) (rest : Kinds) → begins x ≡ false → ItemJudgedAt n names i (x ∷ rest)
judged_refused n names i x rest h =
    subst (λ r. Judged (Ends (ItemsOf n names i) Any) (ItemsOf n names i) (item n names i) (x ∷ rest) r) (sym (item_refused n names i x rest h))
    (at_once n names i (x ∷ rest) (λ behind. item_refused n names i x behind h))

-- an item, where one that begins with a bracket is judged
judged_at : (n : ℕ) (names : Names) (i : ℕ) (ts : Kinds) → ((us : Kinds) → ItemJudgedAt n names i (t.Mark m.OpenParen ∷ us)) → ItemJudgedAt n names i ts
judged_at n names i [] bracket = at_once n names i [] tt
judged_at n names i (t.Number v ∷ rest) bracket = (number, tt)
judged_at n names i (t.Word w ∷ rest) bracket = judged_variable n names i w rest (place names w) refl
judged_at n names i (t.Mark m.OpenParen ∷ rest) bracket = bracket rest
judged_at n names i (x ∷ rest) bracket = judged_refused n names i x rest refl

-- ---- brackets

module _ (n : ℕ) (names : Names) (i : ℕ) (us : Kinds) where
  abbrev Deeper : Kinds → Type 0
  Deeper r = Opens (ItemsOf (suc n) names (suc (suc i))) (item (suc n) names (suc (suc i))) (t.Mark m.OpenParen ∷ us) r

  opens_nested : (r : Kinds) → Opens (SumsOf n names i) (sum n names i) us r → Deeper r
  opens_nested r o = (
    t.Mark m.OpenParen ∷ o.0,
    ap (λ l. t.Mark m.OpenParen ∷ l) o.1,
    (λ after.
        let q = o.2 (t.Mark m.CloseParen ∷ after) in (
          q.0 ++ t.Mark m.CloseParen ∷ [],
          q.1,
          subst (λ l. IsItem (suc n) (suc (suc i)) names (t.Mark m.OpenParen ∷ (o.0 ++ l)) q.1.0 q.1.1 after) (sym (append_assoc q.0 (t.Mark m.CloseParen ∷ []) after)) (nested q.2),
          AllLexical-append q.0 (t.Mark m.CloseParen ∷ []) q.3 refl,
        )),
    stuck_by (sum n names i) (item (suc n) names (suc (suc i))) o.0 (t.Mark m.OpenParen ∷ o.0) r (λ x behind e. ap (λ p. and_then p (mark m.CloseParen)) e) o.3,
  )

  opens_closed : (p : Sized) (r : Kinds) (s : IsSum n i names us p.0 p.1 r) → Stuck (item (suc n) names (suc (suc i))) (t.Mark m.OpenParen ∷ (local_sum s).0) r → Deeper r
  opens_closed p r s stuck =
      let l = local_sum s in
      (t.Mark m.OpenParen ∷ l.0, ap (λ z. t.Mark m.OpenParen ∷ z) l.1, (λ after. (t.Mark m.CloseParen ∷ [], p, nested (l.2 (t.Mark m.CloseParen ∷ after)), refl)), stuck)

  -- what the brackets hold is the same, whatever comes behind
  again : (p : Sized) (r : Kinds) (s : IsSum n i names us p.0 p.1 r) (behind : Kinds) → Halts factor_operator p.1 behind → Halts term_operator p.1 behind →
      item (suc n) names (suc (suc i)) (t.Mark m.OpenParen ∷ ((local_sum s).0 ++ behind)) ≡ mark m.CloseParen p behind
  again p r s behind f g = ap (λ q. and_then q (mark m.CloseParen)) (read_sum ((local_sum s).2 behind) f g)

  abbrev Closed : Kinds → Read Sized → Type 0
  Closed r q = Judged (Ends (ItemsOf (suc n) names (suc (suc i))) Any) (ItemsOf (suc n) names (suc (suc i))) (item (suc n) names (suc (suc i))) (t.Mark m.OpenParen ∷ us) q

  closed_if : (p : Sized) (x : TokenKind) (r : Kinds) → IsSum n i names us p.0 p.1 (x ∷ r) → Halts factor_operator p.1 (x ∷ r) → Halts term_operator p.1 (x ∷ r) →
      (b : Bool) → is_mark m.CloseParen x ≡ b → Closed r (mark_if b p x r)
  closed_if p x r s f g true is = (nested (subst (λ y. IsSum n i names us p.0 p.1 (y ∷ r)) (close_is x is) s), tt)
  closed_if p x r s f g false is =
      opens_closed p (x ∷ r) s
      (λ behind. again p (x ∷ r) s (x ∷ behind) (halts_front factor_operator p.1 x r behind f) (halts_front term_operator p.1 x r behind g) ∙ ap (λ b. mark_if b p x behind) is)

  judged_closed : (p : Sized) (r : Kinds) → Ends (SumsOf n names i) (Both term_operator (Both factor_operator Any)) us p r → Closed r (mark m.CloseParen p r)
  judged_closed p [] s = opens_closed p [] s.0 tt
  judged_closed p (x ∷ r) s = closed_if p x r s.0 s.1.0.1 s.1.1 (is_mark m.CloseParen x) refl

judged_nested : (n : ℕ) → ItemJudged n → (names : Names) (i : ℕ) (us : Kinds) → ItemJudgedAt (suc n) names (suc (suc i)) (t.Mark m.OpenParen ∷ us)
judged_nested n items names i us =
    judged_then (Ends (SumsOf n names i) (Both term_operator (Both factor_operator Any))) (SumsOf n names i) (Ends (ItemsOf (suc n) names (suc (suc i))) Any) (ItemsOf (suc n) names (suc (suc i)))
    (sum n names i) (item (suc n) names (suc (suc i))) us (t.Mark m.OpenParen ∷ us) (sum n names i us) (mark m.CloseParen) (judged_over n names (items names) i us)
    (λ r. opens_nested n names i us r) (λ p r s. judged_closed n names i us p r s)

pub judged_item : (n : ℕ) → ItemJudged n
judged_item zero names i ts = judged_at zero names i ts (λ us. at_once zero names i (t.Mark m.OpenParen ∷ us) (λ behind. refl))
judged_item (suc n) names zero ts = judged_at (suc n) names zero ts (λ us. at_once (suc n) names zero (t.Mark m.OpenParen ∷ us) (λ behind. refl))
judged_item (suc n) names (suc zero) ts = judged_at (suc n) names (suc zero) ts (λ us. at_once (suc n) names (suc zero) (t.Mark m.OpenParen ∷ us) (λ behind. refl))
judged_item (suc n) names (suc (suc i)) ts = judged_at (suc n) names (suc (suc i)) ts (λ us. judged_nested n (judged_item n) names i us)

-- ---- products and sums

pub judged_product : (n : ℕ) (names : Names) (i : ℕ) (ts : Kinds) → Judged (Ends (ProductsOf n names i) (Both factor_operator Any)) (ProductsOf n names i) (product_by (item n names) i) ts (product_by (item n names) i ts)
judged_product n names i ts = judged_by (product_joins n names (judged_item n names)) i ts

pub judged_sum : (n : ℕ) (names : Names) (i : ℕ) (ts : Kinds) → Judged (Ends (SumsOf n names i) (Both term_operator (Both factor_operator Any))) (SumsOf n names i) (sum n names i) ts (sum n names i ts)
judged_sum n names i ts = judged_over n names (judged_item n names) i ts
