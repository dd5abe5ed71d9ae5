-- Tokens by which an expression may go on.
use Rattle.std.proofs.Common.{◌≡◌, refl, sym, ◌∙◌, ap, subst, ◌==◌, ℕ, suc, Bool, true, false, ◌||◌, true≢false, nat_lt, Option, Some, None, is_some, arith, if◌then◌else◌, eqb-true, lt-ltb, le-ltb, ltb-true}
use Rattle.ec_base.specs.declared.token.Mark.{Mark}
use Rattle.ec_base.specs.declared.token.Mark.TheVariants as m
use Rattle.ec_base.specs.declared.token.Span.{Span}
use Rattle.ec_base.specs.declared.token.Token.{Token}
use Rattle.ec_base.specs.declared.token.TokenKind.TheVariants as t
use Rattle.ec_syntax.specs.Grammar.Tokens.{is_mark}
use Rattle.ec_syntax.specs.Grammar.Expressions.{of_mark, infix_of, at_level, Infix}
use Rattle.ec_syntax.specs.Descent.Expressions.{is_at_level}
use Rattle.ec_syntax.proofs.Decision.Procedures.{Within, Apart}
use Rattle.ec_syntax.proofs.Lookahead.FirstSets.{split}
use Rattle.ec_syntax.proofs.Tokens.Classes.{token_of, by_kind, some_mark}
use Rattle.std.proofs.lemmas.Bool.{or_left, or_right, or_from}

-- what an operand may go on by
abbrev pub goes_operand : Token → Bool
goes_operand x = is_mark m.OpenBracket x || is_mark m.Arrow x || is_mark m.Dot x || is_mark m.OpenParen x || is_mark m.At x

-- an operator between operands
abbrev pub is_infix : Token → Bool
is_infix x = is_some (of_mark infix_of x)

-- what an expression may go on by
abbrev pub goes_expr : Token → Bool
goes_expr x = goes_operand x || is_infix x

abbrev pub binds_closer : ℕ → Option Infix → Bool
binds_closer n None = false
binds_closer n (Some i) = nat_lt i.0 n

-- an operator of the levels below this one
abbrev pub is_below : ℕ → Token → Bool
is_below n x = binds_closer n (of_mark infix_of x)

-- what operands that are joined by operators of the levels below this one may go on by
abbrev pub goes_level : ℕ → Token → Bool
goes_level n x = goes_operand x || is_below n x

-- no operator is what an operand goes on by
operator_mark : (k : Mark) (at : Span) → is_some (infix_of k) ≡ true → goes_operand (token_of (t.Mark k) at) ≡ false
operator_mark m.OpenBracket at h = absurd (true≢false (sym h))
operator_mark m.Arrow at h = absurd (true≢false (sym h))
operator_mark m.Dot at h = absurd (true≢false (sym h))
operator_mark m.OpenParen at h = absurd (true≢false (sym h))
operator_mark m.At at h = absurd (true≢false (sym h))
operator_mark _ at h = refl

pub infix_apart : Apart is_infix goes_operand
infix_apart x h = let (k, e, p) = some_mark infix_of x h in by_kind goes_operand false x (t.Mark k) e (operator_mark k x.at p)

-- an operator of a level
record At (n : ℕ) (k : Mark) : Type 0 where
  op : Infix
  is : infix_of k ≡ Some op
  level : op.0 ≡ n

at_mark : (n : ℕ) (k : Mark) → is_some (at_level n k) ≡ true → At n k
at_mark n k h = by (infix_of k) refl
  where
    by : (o : Option Infix) → infix_of k ≡ o → At n k
    by None e = absurd (true≢false (sym (rw e at h)))
    by (Some i) e = record { op = i; is = e; level = eqb-true _ _ (there (i.0 == n) (rw e at h)) }
      where
        there : (b : Bool) → is_some (if b then Some i.1 else None) ≡ true → b ≡ true
        there true g = refl
        there false g = g

-- what is known of a token that is an operator of a level
at_infix : (n : ℕ) (x : Token) → is_at_level n x ≡ true → (i : Infix) × (of_mark infix_of x ≡ Some i) × (i.0 ≡ n)
at_infix n x h =
    let (k, e, p) = some_mark (at_level n) x h in
    let a = at_mark n k p in
    (a.op, subst (λ kind. of_mark infix_of (token_of kind x.at) ≡ Some a.op) (sym e) a.is, a.level)

pub level_infix : (n : ℕ) → Within (is_at_level n) is_infix
level_infix n x h = ap is_some (at_infix n x h).1

pub level_apart : (n : ℕ) → Apart (is_at_level n) (goes_level n)
level_apart n x h =
    let (i, e, same) = at_infix n x h in
    or_from (goes_operand x) (is_below n x) (infix_apart x (level_infix n x h)) (ap (binds_closer n) e ∙ le-ltb i.0 n (omega arith))

pub level_goes : (n : ℕ) → Within (is_at_level n) (goes_level (suc n))
level_goes n x h =
    let (i, e, same) = at_infix n x h in
    or_right (goes_operand x) (is_below (suc n) x) (ap (binds_closer (suc n)) e ∙ lt-ltb i.0 (suc n) (omega arith))

-- ---- from level to level

closer : (n : ℕ) (o : Option Infix) → binds_closer n o ≡ true → binds_closer (suc n) o ≡ true
closer n None h = h
closer n (Some i) h = let small = ltb-true i.0 n h in lt-ltb i.0 (suc n) (omega arith)

closer_some : (n : ℕ) (o : Option Infix) → binds_closer n o ≡ true → is_some o ≡ true
closer_some n None h = h
closer_some n (Some i) h = refl

pub level_grows : (n : ℕ) → Within (goes_level n) (goes_level (suc n))
level_grows n x h = split (goes_operand x) (is_below n x) (or_left (goes_operand x) (is_below (suc n) x)) (λ e. or_right (goes_operand x) (is_below (suc n) x) (closer n (of_mark infix_of x) e)) h

pub level_expr : (n : ℕ) → Within (goes_level n) goes_expr
level_expr n x h = split (goes_operand x) (is_below n x) (or_left (goes_operand x) (is_infix x)) (λ e. or_right (goes_operand x) (is_infix x) (closer_some n (of_mark infix_of x) e)) h

pub operand_level : (n : ℕ) → Within goes_operand (goes_level n)
operand_level n x h = or_left (goes_operand x) (is_below n x) h

pub operand_expr : Within goes_operand goes_expr
operand_expr x h = or_left (goes_operand x) (is_infix x) h
