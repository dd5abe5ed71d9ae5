-- A name that begins an operand: a variable, or a call.
use Rattle.std.proofs.Common.{◌≡◌, refl, ◌∙◌, ap, ◌⊎◌, inl, inr, ◌≤◌, ◌+◌, ℕ, suc, Bool, true, false, ◌||◌, List}
use Rattle.ec_base.specs.declared.limits.TheConstants.{MAX_NESTING}
use Rattle.ec_base.specs.declared.token.Mark.TheVariants as m
use Rattle.ec_base.specs.declared.token.Token.{Token}
use Rattle.ec_syntax.specs.declared.expression.Expr.{Expr}
use Rattle.ec_syntax.specs.declared.expression.ExprKind.TheVariants.{Var, Call as CallOf}
use Rattle.ec_syntax.specs.declared.expression.Placement.{Placement}
use Rattle.ec_syntax.specs.declared.name.Name.{Name}
use Rattle.ec_syntax.specs.Grammar.State.{State, Asked}
use Rattle.ec_syntax.specs.Grammar.Language as L
use Rattle.ec_syntax.specs.Grammar.Language.{Language, begin, span}
use Rattle.ec_syntax.specs.Descent.Reader as R
use Rattle.ec_syntax.specs.Descent.Reader.{Reader}
use Rattle.ec_syntax.specs.Grammar.Tokens as T
use Rattle.ec_syntax.specs.Grammar.Tokens.{is_mark}
use Rattle.ec_syntax.specs.Grammar.Expressions as LE
use Rattle.ec_syntax.specs.Grammar.Expressions.{expression}
use Rattle.ec_syntax.specs.Descent.Tokens as RT
use Rattle.ec_syntax.specs.Descent.Tokens.{begins_expr, is_name}
use Rattle.ec_syntax.specs.Descent.Expressions as RE
use Rattle.ec_syntax.specs.Descent.Expressions.{call_at, begins_arguments}
use Rattle.ec_syntax.proofs.Lookahead.FirstSets.{itself, none, none_apart, none_within, drop_none, add_none}
use Rattle.ec_syntax.proofs.Decision.Limited.{Told, followed, followed_maybe, made_maybe, either, ending, begun, everywhere, further, renamed}
use Rattle.ec_syntax.proofs.Terminals.Tokens.{name_told}
use Rattle.ec_syntax.proofs.Nesting.Brackets.{bracketed_maybe_told}
use Rattle.ec_syntax.proofs.Expressions.Calls.{arguments_told, place_told, goes_arguments}
use Rattle.ec_syntax.proofs.Lookahead.FollowSets.{goes_expr}
use Rattle.ec_syntax.proofs.Tokens.Classes.{from_mark}

-- a call behind its name, which begins at this place
abbrev pub called_behind : ℕ → Language Expr → ℕ → Name → Language Expr
called_behind d expr from n =
    L.◌>>=◌ (LE.bracketed d (LE.arguments (suc d) expr)) (λ args. L.◌>>=◌ (LE.place d expr) (λ p.
    L.◌>>=◌ (L.look (λ s. s.end)) (λ to. L.give (expression (CallOf (call_at n args p (span from to))) (span from to)))))

abbrev pub variable : ℕ → Name → Language Expr
variable from n = L.◌>>=◌ (L.look (λ s. s.end)) (λ to. L.give (expression (Var n.text) (span from to)))

-- both as they are read
abbrev pub read_named : ℕ → Language Expr → Language Expr
read_named d expr = L.◌>>=◌ (L.look begin) (λ from. L.◌>>=◌ (T.name d) (λ n. L.◌or◌ (called_behind d expr from n) (variable from n)))

-- what goes on behind a name
abbrev pub goes_named : Token → Bool
goes_named x = is_mark m.OpenParen x || is_mark m.At x

-- where the last token ends, made into a value
pub ended_told : {B : Type 0} (Y : Type 0) (fits able : Type 0) (d : ℕ) (goes : Token → Bool) (f : Y → ℕ → B) →
    Told {X = Y} fits able d (λ y. R.◌>>=◌ (R.look (λ s. s.end)) (λ to. R.give (f y to)))
    (λ y. L.◌>>=◌ (L.look (λ s. s.end)) (λ to. L.give (f y to))) (Unit {0}) none goes
ended_told Y fits able d goes f = made_maybe f (ending Y fits able d goes)

module _ (fits able : Type 0) (room d : ℕ) (small : fits → d ≤ MAX_NESTING)
    (sum : fits → suc d + room ≡ suc MAX_NESTING) (p : Reader Expr) (l : Language Expr)
    (inner : Told {X = Unit {0}} (suc d ≤ MAX_NESTING) able (suc d) (λ x. p) (λ x. l) ⊥ begins_expr goes_expr) where
  abbrev Named : Type 0
  Named = (Unit {0} × ℕ) × Name

  abbrev call_of : Named → List Expr → Placement → ℕ → Expr
  call_of y args p to = expression (CallOf (call_at y.1 args p (span y.0.1 to))) (span y.0.1 to)

  placed_call_told : Told {X = Named × List Expr} fits able d
      (λ y. R.◌>>=◌ (RE.place room p) (λ p. R.◌>>=◌ (R.look (λ s. s.end)) (λ to. R.give (call_of y.0 y.1 p to))))
      (λ y. L.◌>>=◌ (LE.place d l) (λ p. L.◌>>=◌ (L.look (λ s. s.end)) (λ to. L.give (call_of y.0 y.1 p to)))) (Unit {0}) (is_mark m.At) (is_mark m.At)
  placed_call_told = renamed (drop_none (is_mark m.At)) (add_none (is_mark m.At))
      (followed_maybe (λ y p. R.◌>>=◌ (R.look (λ s. s.end)) (λ to. R.give (call_of y.0 y.1 p to))) (place_told fits able room d small sum p l inner (Named × List Expr))
      (ended_told ((Named × List Expr) × Placement) fits able d (is_mark m.At) (λ y to. call_of y.0.0 y.0.1 y.1 to)) (none_apart _) (λ u. itself _) (none_apart _) tt)

  called_told : Told {X = Named} fits able d (λ y. RE.called room p y.0.1 y.1)
      (λ y. called_behind d l y.0.1 y.1) ⊥ (is_mark m.OpenParen) goes_named
  called_told = followed (λ y args. R.◌>>=◌ (RE.place room p) (λ p. R.◌>>=◌ (R.look (λ s. s.end)) (λ to. R.give (call_of y args p to))))
      (bracketed_maybe_told room d small sum (from_mark m.CloseParen goes_arguments false (λ at. refl)) (everywhere Named (arguments_told (suc d ≤ MAX_NESTING) able (suc d) (λ e. e) p l inner)))
      (further (from_mark m.At goes_named true (λ at. refl)) placed_call_told) (λ x e. refl) (λ u. none_within goes_named) (λ e. e)

  behind_told : Told {X = Named} fits able d
      (λ y. R.when (is_mark m.OpenParen) (RE.called room p y.0.1 y.1)
      (R.◌>>=◌ (R.look (λ s. s.end)) (λ to. R.give (expression (Var y.1.text) (span y.0.1 to)))))
      (λ y. L.◌or◌ (called_behind d l y.0.1 y.1) (variable y.0.1 y.1)) (Unit {0}) (λ t. is_mark m.OpenParen t || none t) goes_named
  behind_told = either (is_mark m.OpenParen) called_told (ended_told Named fits able d goes_named (λ y to. expression (Var y.1.text) (span y.0.1 to))) (itself _) (none_apart _)
      (λ u. from_mark m.OpenParen goes_named true (λ at. refl))

  pub named_told : Told {X = Unit {0}} fits able d (λ x. RE.named room p) (λ x. read_named d l) ⊥ is_name goes_named
  named_told = begun (λ x from. R.◌>>=◌ RT.name (λ n. R.when (is_mark m.OpenParen) (RE.called room p from n) (R.◌>>=◌ (R.look (λ s. s.end)) (λ to. R.give (expression (Var n.text) (span from to))))))
      (λ x from. L.◌>>=◌ (T.name d) (λ n. L.◌or◌ (called_behind d l from n) (variable from n)))
      (followed (λ y n. R.when (is_mark m.OpenParen) (RE.called room p y.1 n) (R.◌>>=◌ (R.look (λ s. s.end)) (λ to. R.give (expression (Var n.text) (span y.1 to)))))
      (name_told (Unit {0} × ℕ) fits able d small none) behind_told (λ x e. refl) (λ u. none_within goes_named) (λ e. e))

-- ---- the same words as in the grammar

abbrev pub one_variable : ℕ → Language Expr
one_variable d = L.placed expression (L.◌>>=◌ (T.name d) (λ n. L.give (Var n.text)))

abbrev pub one_call : ℕ → Language Expr → Language Expr
one_call d expr = L.placed (λ make at. expression (CallOf (make at)) at) (LE.called d expr)

module _ (d : ℕ) (expr : Language Expr) (asked : Asked) (s : State) (a : Expr) (m : State) where
  pub variable_named : one_variable d asked s a m → read_named d expr asked s a m
  variable_named h =
      let n = h.3.2 in let last = h.3.3 in
      (h.0, h.1, h.2, (n.0, n.1, n.2, inr (last.0, last.1, (last.2.0 ∙ ap (λ s. s.end) n.3.1, last.2.1 ∙ n.3.1), (last.3.0 ∙ ap (λ k. expression k (span h.0 last.0)) n.3.0, last.3.1))))

  pub call_named : one_call d expr asked s a m → read_named d expr asked s a m
  call_named h =
      let n = h.3.2 in let args = n.3 in let p = args.3 in let last = h.3.3 in (
        h.0,
        h.1,
        h.2,
        (
          n.0,
          n.1,
          n.2,
          inl (
            args.0,
            args.1,
            args.2,
            (
              p.0,
              p.1,
              p.2,
              (
                last.0,
                last.1,
                (last.2.0 ∙ ap (λ s. s.end) p.3.1, last.2.1 ∙ p.3.1),
                (last.3.0 ∙ ap (λ make. expression (CallOf (make (span h.0 last.0))) (span h.0 last.0)) p.3.0, last.3.1),
              ),
            ),
          ),
        ),
      )

  pub named_either : read_named d expr asked s a m → one_variable d asked s a m ⊎ one_call d expr asked s a m
  named_either h = by h.3.3
    where
      by : L.◌or◌ (called_behind d expr h.0 h.3.0) (variable h.0 h.3.0) asked h.3.1 a m →
          one_variable d asked s a m ⊎ one_call d expr asked s a m
      by (inr last) = inl (h.0, h.1, h.2, (Var h.3.0.text, h.3.1, (h.3.0, h.3.1, h.3.2, (refl, refl)), last))
      by (inl args) = let p = args.3 in
          inr (h.0, h.1, h.2, ((λ at. call_at h.3.0 args.0 p.0 at), p.1, (h.3.0, h.3.1, h.3.2, (args.0, args.1, args.2, (p.0, p.1, p.2, (refl, refl)))), p.3))
