-- What the turns of the reading functions tell, by the places of tokens.
use Rattle.std.proofs.Common.{◌≡◌, refl, sym, ◌∙◌, ap, subst, ℕ, zero, suc, ◌+◌, ◌-◌, ◌≤◌, ◌<◌, ◌≢◌, List, [], ◌∷◌, length, drop, length-drop, get_or, drop-cons, arith}
use Rattle.std.specs.Prelude.{Result, Ok, Err, IsErrAnd, Some}
use Rattle.std.proofs.lemmas.List.{length-map}
use Rattle.ec_base.specs.declared.fail.Fail.{Fail}
use Rattle.ec_base.specs.declared.fail.Fail.TheVariants.{Memory, Refused}
use Rattle.ec_base.specs.declared.token.Token.{Token}
use Rattle.ec_base.specs.declared.token.TokenKind.{TokenKind}
use Rattle.ec_base.specs.declared.token.TokenKind.TheVariants as t
use Rattle.ec_base.specs.declared.token.Mark.TheVariants as m
use Rattle.ec_small.specs.declared.tree.Operator.{Operator}
use Rattle.ec_small.specs.declared.tree.Expr.{Expr}
use Rattle.ec_small.specs.declared.tree.Expr.TheVariants.{Binary}
use Rattle.ec_small.specs.Grammar.{Kinds, Names, kinds}
use Rattle.ec_small.specs.Descent.{Read, Sized, and_then, mark, item, sum, product_by, factor_operator, operator_at, AnswersAt}
use Rattle.ec_small.proofs.Rules.{Judged}
use Rattle.ec_small.proofs.Marks.{drop_next}
use Rattle.ec_small.proofs.Judges.{Ends, Both}
use Rattle.ec_small.proofs.Agrees.{ItemsOf, ProductsOf, shorter_item, shorter_product}
use Rattle.ec_small.proofs.Prefix.{Any, judged_item, judged_product}
use Rattle.ec_small.proofs.Levels.{Operators, Reader, Turns, Level, Reaches, reach_more, stuck_one, stuck_more}

-- an answer is told of what is the same
pub answers_as : {A : Type 0} (tokens : List Token) (r : Result (A × ℕ) (Fail ℕ)) (told other : Read A) → other ≡ told → AnswersAt tokens r told → AnswersAt tokens r other
answers_as tokens r told other same h = subst (λ o. AnswersAt tokens r o) (sym same) h

refused_same : {A B : Type 0} (tokens : List Token) (f : Fail ℕ) (told : Read A) (other : Read B) → ((at : Kinds) → told ≡ Err at → other ≡ Err at) →
    AnswersAt {A = A} tokens (Err f) told → AnswersAt {A = B} tokens (Err f) other
refused_same tokens Memory told other same h = tt
refused_same tokens (Refused at) told other same h = (h.0, same (kinds (drop at tokens)) h.1)

-- a refusal of the one, which `?` gives back, is one of the other
pub refused_too : {A B : Type 0} (tokens : List Token) (r : Result (B × ℕ) (Fail ℕ)) (f : Fail ℕ) (told : Read A) (other : Read B) → IsErrAnd r (λ e. e ≡ f) →
    ((at : Kinds) → told ≡ Err at → other ≡ Err at) → AnswersAt {A = A} tokens (Err f) told → AnswersAt tokens r other
refused_too tokens (Ok p) f told other is same h = absurd is
refused_too {A = A} {B = B} tokens (Err e) f told other is same h = subst (λ x. AnswersAt {A = B} tokens (Err x) other) (sym is) (refused_same {A = A} {B = B} tokens f told other same h)

-- ---- brackets

pub item_open : (n : ℕ) (names : Names) (i : ℕ) (us : Kinds) → n ≢ 0 → 2 ≤ i → item n names i (t.Mark m.OpenParen ∷ us) ≡ and_then (sum (n - 1) names (i - 2) us) (mark m.CloseParen)
item_open zero names i us some fits = absurd (some refl)
item_open (suc n) names zero us some fits = absurd (omega arith)
item_open (suc n) names (suc zero) us some fits = absurd (omega arith)
item_open (suc n) names (suc (suc i)) us some fits =
    let a : n ≡ suc n - 1 = omega arith in
    let b : i ≡ suc (suc i) - 2 = omega arith in
    ap (λ k. and_then (sum k names i us) (mark m.CloseParen)) a ∙ ap (λ k. and_then (sum (suc n - 1) names k us) (mark m.CloseParen)) b

-- the same where a bracket stands at a place of the tokens
pub opened : (n : ℕ) (names : Names) (i : ℕ) (tokens : List Token) (at : ℕ) (token : Token) → at < length tokens → (get_or tokens at token).kind ≡ t.Mark m.OpenParen →
    n ≢ 0 → 2 ≤ i → item n names i (kinds (drop at tokens)) ≡ and_then (sum (n - 1) names (i - 2) (kinds (drop (at + 1) tokens))) (mark m.CloseParen)
opened n names i tokens at token h kind some fits =
    let next : suc at ≡ at + 1 = omega arith in
    ap (λ l. item n names i (kinds l)) (drop-cons tokens at token h) ∙ ap (λ x. item n names i (x ∷ kinds (drop (suc at) tokens))) kind
    ∙ ap (λ k. item n names i (t.Mark m.OpenParen ∷ kinds (drop k tokens))) next ∙ item_open n names i (kinds (drop (at + 1) tokens)) some fits

-- ---- operators

module _ {ops : Operators} {read by : Reader} {on : Turns} (level : Level ops read by on) (tokens : List Token) (i : ℕ) (ts : Kinds) where
  -- the token of an operator that there is room for
  at_front : (left : ℕ) (l : List Token) (op : Operator) → operator_at ops left (kinds l) ≡ Some op →
      (j : ℕ) × (x : TokenKind) × (left ≡ suc j) × (kinds l ≡ x ∷ kinds (drop 1 l)) × (ops x ≡ Some op)
  at_front zero l op h = cc
  at_front (suc j) [] op h = cc
  at_front (suc j) (y ∷ l) op h = (j, y.kind, refl, refl, h)

  front : (left next : ℕ) (op : Operator) → operator_at ops left (kinds (drop next tokens)) ≡ Some op →
      (j : ℕ) × (x : TokenKind) × (left ≡ suc j) × (kinds (drop next tokens) ≡ x ∷ kinds (drop (next + 1) tokens)) × (ops x ≡ Some op)
  front left next op h =
      let f = at_front left (drop next tokens) op h in
      (f.0, f.1, f.2, f.3 ∙ ap (λ l. f.1 ∷ kinds l) (sym (drop_next next tokens)), f.4)

  -- what was read so far, seen before its operator
  before : (left next : ℕ) (op : Operator) (a : Expr) (o : operator_at ops left (kinds (drop next tokens)) ≡ Some op) → Reaches by on i ts (a, left) (kinds (drop next tokens)) →
      Reaches by on i ts (a, suc (front left next op o).0) ((front left next op o).1 ∷ kinds (drop (next + 1) tokens))
  before left next op a o r =
      let f = front left next op o in
      subst (λ l. Reaches by on i ts (a, suc f.0) l) f.3 (subst (λ k. Reaches by on i ts (a, k) (kinds (drop next tokens))) f.2 r)

  one_less : (left next : ℕ) (op : Operator) (o : operator_at ops left (kinds (drop next tokens)) ≡ Some op) → left - 1 ≡ (front left next op o).0
  one_less left next op o = let h : left ≡ suc (front left next op o).0 = (front left next op o).2 in omega arith

  pub turned : (short : (k : ℕ) (us : Kinds) (p : Sized) (rest : Kinds) → read k us ≡ Ok (p, rest) → length rest < length us) →
      (left next : ℕ) (op : Operator) (a : Expr) (b : Sized) (after : ℕ) (x y : Expr) → operator_at ops left (kinds (drop next tokens)) ≡ Some op →
      Reaches by on i ts (a, left) (kinds (drop next tokens)) → read (left - 1) (kinds (drop (next + 1) tokens)) ≡ Ok (b, kinds (drop after tokens)) →
      x ≡ a → y ≡ b.0 → Reaches by on i ts (Binary op x y, b.1) (kinds (drop after tokens))
  turned short left next op a b after x y o r h x_is y_is =
      let f = front left next op o in
      subst (λ z. Reaches by on i ts (Binary op z y, b.1) (kinds (drop after tokens))) (sym x_is)
      (subst (λ z. Reaches by on i ts (Binary op a z, b.1) (kinds (drop after tokens))) (sym y_is)
      (reach_more level i ts a f.0 f.1 (kinds (drop (next + 1) tokens)) b (kinds (drop after tokens)) op f.4 (before left next op a o r)
      (ap (λ k. read k (kinds (drop (next + 1) tokens))) (sym (one_less left next op o)) ∙ h) (short (left - 1) (kinds (drop (next + 1) tokens)) b (kinds (drop after tokens)) h)))

  -- a refusal of what stands behind an operator, and of what stands first
  pub refused_behind : (left next : ℕ) (op : Operator) (a : Expr) (r : Result (Sized × ℕ) (Fail ℕ)) (f : Fail ℕ) → operator_at ops left (kinds (drop next tokens)) ≡ Some op →
      Reaches by on i ts (a, left) (kinds (drop next tokens)) → IsErrAnd r (λ e. e ≡ f) → AnswersAt {A = Sized} tokens (Err f) (read (left - 1) (kinds (drop (next + 1) tokens))) →
      AnswersAt tokens r (by i ts)
  refused_behind left next op a r f o reaches is h =
      let g = front left next op o in
      refused_too tokens r f (read (left - 1) (kinds (drop (next + 1) tokens))) (by i ts) is
      (λ err stops. stuck_more level i ts a g.0 g.1 (kinds (drop (next + 1) tokens)) err op g.4 (before left next op a o reaches)
      (ap (λ k. read k (kinds (drop (next + 1) tokens))) (sym (one_less left next op o)) ∙ stops)) h

  pub refused_first : (r : Result (Sized × ℕ) (Fail ℕ)) (f : Fail ℕ) → IsErrAnd r (λ e. e ≡ f) → AnswersAt {A = Sized} tokens (Err f) (read i ts) → AnswersAt tokens r (by i ts)
  refused_first r f is h = refused_too tokens r f (read i ts) (by i ts) is (λ err stops. stuck_one level i ts err stops) h

-- what is read behind an operator ends at a later place
pub later : (tokens : List Token) (read : Reader) (short : (k : ℕ) (us : Kinds) (p : Sized) (rest : Kinds) → read k us ≡ Ok (p, rest) → length rest < length us) →
    (left next after : ℕ) (b : Sized) → after ≤ length tokens → read left (kinds (drop (next + 1) tokens)) ≡ Ok (b, kinds (drop after tokens)) → next < after
later tokens read short left next after b within is =
    omega (arith, short left (kinds (drop (next + 1) tokens)) b (kinds (drop after tokens)) is, length-map {A = Token} {B = TokenKind}, length-drop {A = Token})

-- ---- what is read is fewer tokens

pub short_item : (n : ℕ) (names : Names) (i : ℕ) (ts : Kinds) (p : Sized) (rest : Kinds) → item n names i ts ≡ Ok (p, rest) → length rest < length ts
short_item n names i ts p rest is =
    shorter_item (subst (λ r. Judged (Ends (ItemsOf n names i) Any) (ItemsOf n names i) (item n names i) ts r) is (judged_item n names i ts)).0

pub short_product : (n : ℕ) (names : Names) (i : ℕ) (ts : Kinds) (p : Sized) (rest : Kinds) → product_by (item n names) i ts ≡ Ok (p, rest) → length rest < length ts
short_product n names i ts p rest is =
    shorter_product (subst (λ r. Judged (Ends (ProductsOf n names i) (Both factor_operator Any)) (ProductsOf n names i) (product_by (item n names) i) ts r) is (judged_product n names i ts)).0
