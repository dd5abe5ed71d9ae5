-- Readers of operands and expressions decide their languages.
use Rattle.std.proofs.Common.{◌≡◌, refl, ◌∙◌, ap, ◌≤◌, ◌<◌, ◌+◌, ℕ, zero, suc, Bool, arith}
use Rattle.ec_base.specs.declared.limits.TheConstants.{MAX_NESTING}
use Rattle.ec_base.specs.declared.token.Token.{Token}
use Rattle.ec_syntax.specs.declared.expression.Expr.{Expr}
use Rattle.ec_syntax.specs.Grammar.State.{State}
use Rattle.ec_syntax.specs.declared.quantity.Quantity.TheVariants.{Nesting}
use Rattle.ec_syntax.specs.declared.quantity.Fault.TheVariants.{Expected}
use Rattle.ec_syntax.specs.Grammar.Language as L
use Rattle.ec_syntax.specs.Grammar.Language.{Language}
use Rattle.ec_syntax.specs.Descent.Reader as R
use Rattle.ec_syntax.specs.Descent.Reader.{Reader}
use Rattle.ec_syntax.specs.Grammar.Expressions as LE
use Rattle.ec_syntax.specs.Descent.Tokens.{begins_expr}
use Rattle.ec_syntax.specs.Descent.Expressions as RE
use Rattle.ec_syntax.specs.Descent.Expressions.{is_at_level}
use Rattle.ec_syntax.proofs.Decision.Procedures.{Spoken, Decides}
use Rattle.ec_syntax.proofs.Decision.Basics as basics
use Rattle.ec_syntax.proofs.Nesting.Limits.{shallow}
use Rattle.ec_syntax.proofs.Lookahead.FirstSets.{itself}
use Rattle.ec_syntax.proofs.Decision.Limited.{Told, always, weaker}
use Rattle.ec_syntax.proofs.Decision.BoundedRepetition.{nothing_told}
use Rattle.ec_syntax.proofs.Nesting.Parts.{passed_on}
use Rattle.ec_syntax.proofs.Lookahead.FollowSets.{goes_operand, goes_expr}
use Rattle.ec_syntax.proofs.Expressions.Operators.{expr_of_told}
use Rattle.ec_syntax.proofs.Expressions.Operands.{unary_of_told}
use Rattle.ec_syntax.proofs.Expressions.Witnesses.{unary_ends, unary_opens}

-- ---- deeper than any reader goes

-- a language alone, with any reader
alone : {A : Type 0} {able : Type 0} {d : ℕ} {l : Language A} {first goes : Token → Bool} →
    Spoken {X = Unit {0}} able d (λ x. l) ⊥ first goes →
    Told {X = Unit {0}} ⊥ able d (λ x. R.stop Expected) (λ x. l) ⊥ first goes
alone h = record { spoken = h; decides = λ e. absurd e }

-- with nothing said of how words end
bare : (nested d : ℕ) → MAX_NESTING < d → Spoken {X = Unit {0}} ⊥ d (λ x. LE.unary nested d) ⊥ begins_expr goes_operand
bare zero d deep = (nothing_told {X = Unit {0}} {fits = ⊥} (λ x. R.stop Expected) begins_expr goes_operand).spoken
bare (suc nested) d deep = (unary_of_told ⊥ ⊥ 0 d (λ e. absurd e) (λ e. absurd e) (λ e. omega arith) (R.stop Expected) (LE.unary nested (suc d)) (alone (bare nested (suc d) (omega arith)))).spoken

unary_alone : (nested d : ℕ) → MAX_NESTING < d →
    Spoken {X = Unit {0}} (2 ≤ nested) d (λ x. LE.unary nested d) ⊥ begins_expr goes_operand
unary_alone zero d deep = basics.weaker_spoken (λ e. omega arith) (λ e. e) (λ e. e) (itself _) (bare zero d deep)
unary_alone (suc zero) d deep = basics.weaker_spoken (λ e. omega arith) (λ e. e) (λ e. e) (itself _) (bare 1 d deep)
unary_alone (suc (suc k)) d deep =
    let h = bare (suc (suc k)) d deep in
    record {
      carried = h.carried;
      starts = h.starts;
      ends = λ can rest quiet calm. unary_ends (suc k) d rest quiet calm;
      opens = λ can here first rest quiet calm. unary_opens k d rest quiet calm here first;
      skips = λ can none. absurd none;
    }

-- ---- operands

-- operands that nothing begins, since they may not be nested so often
unable : (able : Type 0) (d : ℕ) (p : Reader Expr) → (able → ⊥) →
    Decides {X = Unit {0}} able d (λ x. p) (λ x. L.never) ⊥ begins_expr goes_operand
unable able d p no-more = (weaker no-more (λ e. e) (λ e. e) (itself _) (nothing_told {X = Unit {0}} {fits = Unit {0}} (λ x. p) begins_expr goes_operand)).decides tt

operands : (room nested d : ℕ) → d + room ≡ suc MAX_NESTING →
    Decides {X = Unit {0}} (room + 2 ≤ nested) d (λ x. RE.unary room)
    (λ x. LE.unary nested d) ⊥ begins_expr goes_operand
operands zero nested d sum = basics.weaker (λ e. omega arith) (λ e. e) (λ e. e) (itself _) (shallow (unary_alone nested d (omega arith)) (omega arith))
operands (suc room) zero d sum = unable (suc room + 2 ≤ zero) d (RE.unary (suc room)) (λ e. omega arith)
operands (suc room) (suc nested) d sum =
    (unary_of_told (Unit {0}) (suc room + 2 ≤ suc nested) room d (λ e. omega arith) (λ e. omega arith) (λ e. tt) (RE.unary room) (LE.unary nested (suc d))
    (weaker (λ e. omega arith) (λ e. e) (λ e. e) (itself _) (always (operands room nested (suc d) (omega arith))))).decides tt

pub unary_decides : {X : Type 0} (room nested d : ℕ) → d + room ≡ suc MAX_NESTING →
    Decides {X = X} (room + 2 ≤ nested) d (λ x. RE.unary room) (λ x. LE.unary nested d) ⊥ begins_expr goes_operand
unary_decides {X} room nested d sum = basics.reindexed {X = Unit {0}} (λ (x : X). tt) (operands room nested d sum)

pub unary_spoken : {X : Type 0} (nested d : ℕ) → MAX_NESTING < d →
    Spoken {X = X} (2 ≤ nested) d (λ x. LE.unary nested d) ⊥ begins_expr goes_operand
unary_spoken {X} nested d deep = basics.reindexed_spoken {X = Unit {0}} (λ (x : X). tt) (unary_alone nested d deep)

-- ---- expressions

pub expr_spoken : {X : Type 0} (nested d : ℕ) → MAX_NESTING < d →
    Spoken {X = X} (2 ≤ nested) d (λ x. LE.expr nested d) ⊥ begins_expr goes_expr
expr_spoken {X} nested d deep = basics.reindexed_spoken {X = Unit {0}} (λ (x : X). tt)
    (expr_of_told ⊥ (2 ≤ nested) d (λ e. absurd e) begins_expr (R.stop Expected) (LE.unary nested d) (alone (unary_alone nested d deep))).spoken

-- where there is no room, no level reads anything
levels_passed : (level : ℕ) (s : State) →
    R.passed {A = Expr} begins_expr Nesting s ≡ RE.levels level (R.passed begins_expr Nesting) s
levels_passed zero s = refl
levels_passed (suc level) s =
    passed_on begins_expr Nesting (R.turns (is_at_level level) (RE.operation level (RE.levels level (R.passed begins_expr Nesting)))) s
    ∙ ap (λ o. R.and_then o (R.turns (is_at_level level) (RE.operation level (RE.levels level (R.passed begins_expr Nesting))))) (levels_passed level s)

pub expr_decides : {X : Type 0} (room nested d : ℕ) → d + room ≡ suc MAX_NESTING →
    Decides {X = X} (room + 2 ≤ nested) d (λ x. RE.expr room) (λ x. LE.expr nested d) ⊥ begins_expr goes_expr
expr_decides zero nested d sum = basics.same_reader (λ x s. levels_passed 10 s) (basics.weaker (λ e. omega arith) (λ e. e) (λ e. e) (itself _) (shallow (expr_spoken nested d (omega arith)) (omega arith)))
expr_decides {X} (suc room) nested d sum = basics.reindexed {X = Unit {0}} (λ (x : X). tt)
    ((expr_of_told (Unit {0}) (suc room + 2 ≤ nested) d (λ e. omega arith) begins_expr (RE.unary (suc room)) (LE.unary nested d) (always (operands (suc room) nested d sum))).decides tt)
