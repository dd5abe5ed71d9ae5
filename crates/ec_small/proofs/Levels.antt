-- One level of operators that join to the left, read by turns.
use Rattle.std.proofs.Common.{◌≡◌, refl, sym, ◌∙◌, ap, subst, ℕ, zero, suc, ◌≤◌, ◌<◌, [], ◌∷◌, ◌++◌, length, append_assoc, arith}
use Rattle.std.specs.Prelude.{Ok, Err, Option, Some, None}
use Rattle.ec_base.specs.declared.token.TokenKind.{TokenKind}
use Rattle.ec_small.specs.declared.tree.Operator.{Operator}
use Rattle.ec_small.specs.declared.tree.Expr.{Expr}
use Rattle.ec_small.specs.declared.tree.Expr.TheVariants.{Binary}
use Rattle.ec_small.specs.Grammar.{Kinds}
use Rattle.ec_small.specs.Descent.{Read, Sized, and_then, operator_at}
use Rattle.ec_small.proofs.Rules.{Rule, Local}

-- the operator that a token is at a level
abbrev pub Operators : Type 0
Operators = TokenKind → Option Operator

-- no operator of the level that there is room for stands here
abbrev pub Halts : Operators → ℕ → Kinds → Type 0
Halts ops j rest = operator_at ops j rest ≡ None

pub halts_end : (ops : Operators) (j : ℕ) → Halts ops j []
halts_end ops zero = refl
halts_end ops (suc j) = refl

-- only the first token tells
pub halts_front : (ops : Operators) (j : ℕ) (x : TokenKind) (r behind : Kinds) → Halts ops j (x ∷ r) → Halts ops j (x ∷ behind)
halts_front ops zero x r behind h = refl
halts_front ops (suc j) x r behind h = h

abbrev pub Reader : Type 0
Reader = ℕ → Kinds → Read Sized

abbrev pub Turns : Type 0
Turns = ℕ → Sized → Kinds → Read Sized

-- how a level is read: by the level below it, and then in turns
pub record Level (ops : Operators) (read by : Reader) (on : Turns) : Type 0 where
  pub starts : (i : ℕ) (ts : Kinds) → by i ts ≡ and_then (read i ts) (λ p rest. on (length rest) p rest)
  pub halts : (k : ℕ) (p : Sized) (rest : Kinds) → Halts ops p.1 rest → on k p rest ≡ Ok (p, rest)
  pub goes : (k : ℕ) (a : Expr) (j : ℕ) (x : TokenKind) (rest : Kinds) (op : Operator) → ops x ≡ Some op →
      on (suc k) (a, suc j) (x ∷ rest) ≡ and_then (read j rest) (λ b. on k (Binary op a b.0, b.1))

-- what was read so far goes on, with turns enough for the rest
abbrev pub Reaches : Reader → Turns → ℕ → Kinds → Sized → Kinds → Type 0
Reaches by on i ts p rest = (k : ℕ) × (length rest ≤ k) × (by i ts ≡ on k p rest)

module _ {ops : Operators} {read by : Reader} {on : Turns} (level : Level ops read by on) where
  pub reach_one : (i : ℕ) (ts : Kinds) (p : Sized) (rest : Kinds) → read i ts ≡ Ok (p, rest) → Reaches by on i ts p rest
  reach_one i ts p rest h = (length rest, omega arith, level.starts i ts ∙ ap (λ r. and_then r (λ q us. on (length us) q us)) h)

  pub reach_more : (i : ℕ) (ts : Kinds) (a : Expr) (j : ℕ) (x : TokenKind) (us : Kinds) (b : Sized) (rest : Kinds) (op : Operator) → ops x ≡ Some op →
      Reaches by on i ts (a, suc j) (x ∷ us) → read j us ≡ Ok (b, rest) → length rest < length us → Reaches by on i ts (Binary op a b.0, b.1) rest
  reach_more i ts a j x us b rest op o r h short = go r.0 r.1 r.2
    where
      go : (k : ℕ) → length (x ∷ us) ≤ k → by i ts ≡ on k (a, suc j) (x ∷ us) → Reaches by on i ts (Binary op a b.0, b.1) rest
      go zero fits is = absurd (omega arith)
      go (suc k) fits is = (k, omega arith, is ∙ level.goes k a j x us op o ∙ ap (λ p. and_then p (λ c. on k (Binary op a c.0, c.1))) h)

  pub settled : (i : ℕ) (ts : Kinds) (p : Sized) (rest : Kinds) → Reaches by on i ts p rest → Halts ops p.1 rest → by i ts ≡ Ok (p, rest)
  settled i ts p rest r h = r.2 ∙ level.halts r.0 p rest h

  pub stuck_one : (i : ℕ) (ts err : Kinds) → read i ts ≡ Err err → by i ts ≡ Err err
  stuck_one i ts err h = level.starts i ts ∙ ap (λ r. and_then r (λ q us. on (length us) q us)) h

  -- what goes on with an operator, and is refused behind it
  pub stuck_more : (i : ℕ) (ts : Kinds) (a : Expr) (j : ℕ) (x : TokenKind) (us err : Kinds) (op : Operator) → ops x ≡ Some op →
      Reaches by on i ts (a, suc j) (x ∷ us) → read j us ≡ Err err → by i ts ≡ Err err
  stuck_more i ts a j x us err op o r h = go r.0 r.1 r.2
    where
      go : (k : ℕ) → length (x ∷ us) ≤ k → by i ts ≡ on k (a, suc j) (x ∷ us) → by i ts ≡ Err err
      go zero fits is = absurd (omega arith)
      go (suc k) fits is = is ∙ level.goes k a j x us op o ∙ ap (λ p. and_then p (λ c. on k (Binary op a c.0, c.1))) h

-- ---- tokens of a tree

pub local_more : {A B C : Type 0} (P : Rule A) (Q : Rule B) (R : Rule C) (ts : Kinds) (a : A) (x : TokenKind) (us : Kinds) (b : B) (rest : Kinds) (c : C) →
    ((zs vs after : Kinds) → P zs a (x ∷ vs) → Q vs b after → R zs c after) → Local P ts a (x ∷ us) → Local Q us b rest → Local R ts c rest
local_more P Q R ts a x us b rest c more l q = (
  l.0 ++ (x ∷ q.0),
  l.1 ∙ ap (λ z. l.0 ++ (x ∷ z)) q.1 ∙ sym (append_assoc l.0 (x ∷ q.0) rest),
  λ after. subst (λ z. R z c after) (sym (append_assoc l.0 (x ∷ q.0) after)) (more (l.0 ++ (x ∷ (q.0 ++ after))) (q.0 ++ after) after (l.2 (x ∷ (q.0 ++ after))) (q.2 after)),
)
