-- Counts are decided.
use Rattle.std.proofs.Common.{◌≡◌, refl, ◌∙◌, ◌⊎◌, inl, inr, ◌≤◌, ◌<◌, ℕ, zero, suc, length, codes, arith, if◌then◌else◌}
use Rattle.ec_base.specs.declared.limits.TheConstants.{MAX_NESTING}
use Rattle.ec_base.specs.declared.token.Mark.TheVariants as m
use Rattle.ec_base.specs.declared.token.TokenKind.TheVariants as t
use Rattle.ec_syntax.specs.declared.expression.Expr.{Expr}
use Rattle.ec_syntax.specs.Grammar.State.{State, Asked}
use Rattle.ec_syntax.specs.Grammar.Language as L
use Rattle.ec_syntax.specs.Grammar.Language.{Language, first_is}
use Rattle.ec_syntax.specs.Descent.Reader as R
use Rattle.ec_syntax.specs.Descent.Reader.{Reader}
use Rattle.ec_syntax.specs.Descent.Reader.Outcome.{Done}
use Rattle.ec_syntax.specs.Grammar.Tokens as T
use Rattle.ec_syntax.specs.Grammar.Tokens.{is_mark, is_word}
use Rattle.ec_syntax.specs.Grammar.Expressions.{of_mark, at_level, joined}
use Rattle.ec_syntax.specs.Descent.Tokens as RT
use Rattle.ec_syntax.specs.Descent.Tokens.{begins_expr}
use Rattle.ec_syntax.specs.Descent.Expressions as RE
use Rattle.ec_syntax.proofs.Lookahead.FirstTokens.{Into, takes}
use Rattle.ec_syntax.proofs.Lookahead.FirstSets.{itself, none}
use Rattle.ec_syntax.proofs.Decision.Limited.{Told, followed, made, everywhere, reindexed, same_reader, weaker}
use Rattle.ec_syntax.proofs.Terminals.Tokens.{word_told, operator_told}
use Rattle.ec_syntax.proofs.Lookahead.FollowSets.{goes_operand}
use Rattle.ec_syntax.proofs.Decision.BoundedRepetition.{goes_on, reads_fewer, nothing_told, bounded_told}
use Rattle.ec_syntax.proofs.Expressions.CountFactors.{Join, star, other, is_factor, star_told, other_told, factor_apart, star_apart, one_count, read_count, count_step_told}
use Rattle.ec_syntax.proofs.Expressions.CountTurns.{Counting, counting, star_in, other_in, star_or_other, operator_takes, read_same}
use Rattle.ec_syntax.proofs.Expressions.CountTurns.Counting.{last, more}
use Rattle.ec_syntax.proofs.Tokens.Classes.{token_of}
use Rattle.ec_syntax.proofs.Tokens.Samples.{nowhere, sizeof_sample}

-- an operand, and the last `*`
abbrev shortest : ℕ → Language Expr → Expr → Language Expr
shortest d l a = L.◌>>=◌ (T.operator d (of_mark (at_level 0))) (λ make. L.◌>>=◌ l (λ b. L.◌>>=◌ (T.operator d star) (λ join. L.◌>>◌ (T.word d (codes "sizeof")) (L.give (joined make a b)))))

abbrev read_shortest : Reader Expr → Expr → Reader Expr
read_shortest p a = R.◌>>=◌ (RT.operator (of_mark (at_level 0))) (λ make. R.◌>>=◌ p (λ b. R.◌>>=◌ (RT.operator star) (λ join. R.◌>>◌ (RT.word (codes "sizeof")) (R.give (joined make a b)))))

-- so many factors, or the shortest rest instead
abbrev some_counts : ℕ → Language Expr → ℕ → Expr → Language Expr
some_counts d l zero = shortest d l
some_counts d l (suc n) = one_count d l (some_counts d l n)

abbrev read_some : Reader Expr → ℕ → Expr → Reader Expr
read_some p zero = read_shortest p
read_some p (suc n) = read_count p (read_some p n)

-- so many factors
abbrev few_counts : ℕ → Language Expr → ℕ → Expr → Language Expr
few_counts d l zero = λ a. L.never
few_counts d l (suc n) = one_count d l (few_counts d l n)

-- ---- the same words

some_step : (d : ℕ) (l : Language Expr) (Q : Expr → Language Expr) → ((a : Expr) → Into (Q a) (counting d l a)) →
    (a : Expr) → Into (one_count d l Q a) (counting d l a)
some_step d l Q out a asked s c s' (inl h) = by h.3
  where
    by : L.◌or◌ (L.◌>>◌ (T.word d (codes "sizeof")) (L.give a)) (L.◌>>=◌ l (λ b. Q (joined h.0 a b))) asked h.1 c s' →
        Counting d l asked s a c s'
    by (inl w) = last h.2 w
    by (inr b) = more (star_in d asked s h.0 h.1 h.2) b.2 (out (joined h.0 a b.0) asked b.1 c s' b.3)
some_step d l Q out a asked s c s' (inr h) = let b = h.3 in more (other_in d asked s h.0 h.1 h.2) b.2 (out (joined h.0 a b.0) asked b.1 c s' b.3)

some_out : (d : ℕ) (l : Language Expr) (n : ℕ) (a : Expr) → Into (some_counts d l n a) (counting d l a)
some_out d l zero a = λ asked s c s' h. let b = h.3 in let end = b.3 in more h.2 b.2 (last end.2 end.3)
some_out d l (suc n) a = some_step d l (some_counts d l n) (some_out d l n) a

module _ (d : ℕ) (l : Language Expr) (takes_one : (asked : Asked) (s : State) (b : Expr) (s' : State) → l asked s b s' →
    length s'.left < length s.left)
    (W : ℕ → Expr → Language Expr) (step : (n : ℕ) (a : Expr) → Into (one_count d l (W n) a) (W (suc n) a)) where
  back_in : (n : ℕ) (a : Expr) (asked : Asked) (s : State) (c : Expr) (s' : State) → length s.left < n →
      Counting d l asked s a c s' → W n a asked s c s'
  back_in zero a asked s c s' small h = absurd (omega arith)
  back_in (suc n) a asked s c s' small (last {m = k} {make = make} op w) = step n a asked s c s' (inl (make, k, op, inl w))
  back_in (suc n) a asked s c s' small (more {m = k} {m' = k'} {b = b} {make = make} op w rest) =
      by (back_in n (joined make a b) asked k' c s' fewer rest) (star_or_other d asked s make k op)
    where
      fewer : length k'.left < n
      fewer = let f = takes_one asked k b k' w in let g = operator_takes d asked s make k op in omega arith

      by : W n (joined make a b) asked k' c s' → T.operator d star asked s make k ⊎ T.operator d other asked s make k →
          W (suc n) a asked s c s'
      by r (inl o) = step n a asked s c s' (inl (make, k, o, inr (b, k', w, r)))
      by r (inr o) = step n a asked s c s' (inr (make, k, o, (b, k', w, r)))

-- ---- the readers

-- a reader of a factor goes on alike where what reads the rest of fewer tokens does
module _ {fits able : Type 0} {d : ℕ} (small : fits → d ≤ MAX_NESTING) {p : Reader Expr} {l : Language Expr}
    (operand : Told {X = Unit {0}} fits able d (λ x. p) (λ x. l) ⊥ begins_expr goes_operand) (fit : fits)
    (can : able) where
  rest_same : (u v : Expr → Reader Expr) (make : Join) (a : Expr) (s : State) →
      ((a : Expr) (k : State) → length k.left < length s.left → u a k ≡ v a k) →
      R.◌>>=◌ p (λ b. u (joined make a b)) s ≡ R.◌>>=◌ p (λ b. v (joined make a b)) s
  rest_same u v make a s h = goes_on p (λ b. u (joined make a b)) (λ b. v (joined make a b)) s (λ b k e. h (joined make a b) k (reads_fewer (operand.decides fit) can tt s b k e))

  star_same : (u v : Expr → Reader Expr) (a : Expr) (s : State) →
      ((a : Expr) (k : State) → length k.left < length s.left → u a k ≡ v a k) → (make : Join) (k : State) →
      length k.left < length s.left →
      R.when (is_word (codes "sizeof")) (R.◌>>◌ (RT.word (codes "sizeof")) (R.give a))
      (R.◌>>=◌ p (λ b. u (joined make a b))) k ≡
      R.when (is_word (codes "sizeof")) (R.◌>>◌ (RT.word (codes "sizeof")) (R.give a)) (R.◌>>=◌ p (λ b. v (joined make a b))) k
  star_same u v a s h make k fewer = λ i. if first_is (is_word (codes "sizeof")) k.left then R.◌>>◌ (RT.word (codes "sizeof")) (R.give a) k
      else rest_same u v make a k (λ b j e. h b j (omega arith)) i

  step_same : (u v : Expr → Reader Expr) (a : Expr) (s : State) →
      ((a : Expr) (k : State) → length k.left < length s.left → u a k ≡ v a k) → read_count p u a s ≡ read_count p v a s
  step_same u v a s h = λ i. if first_is (is_mark m.Star) s.left
      then goes_on (RT.operator star) (λ make. R.when (is_word (codes "sizeof")) (R.◌>>◌ (RT.word (codes "sizeof")) (R.give a)) (R.◌>>=◌ p (λ b. u (joined make a b))))
      (λ make. R.when (is_word (codes "sizeof")) (R.◌>>◌ (RT.word (codes "sizeof")) (R.give a)) (R.◌>>=◌ p (λ b. v (joined make a b)))) s
      (λ make k e. star_same u v a s h make k (reads_fewer ((star_told fits able d small p l operand (Unit {0})).decides fit) can tt s make k e)) i
      else goes_on (RT.operator other) (λ make. R.◌>>=◌ p (λ b. u (joined make a b))) (λ make. R.◌>>=◌ p (λ b. v (joined make a b))) s
      (λ make k e. let fewer = reads_fewer ((other_told fits able d small p l operand (Unit {0})).decides fit) can tt s make k e in rest_same u v make a k (λ b j g. h b j (omega arith))) i

  same_counts : (n k : ℕ) (a : Expr) (s : State) → length s.left < n → length s.left < k →
      read_some p n a s ≡ RE.count_by k p a s
  same_counts zero k a s small h = absurd (omega arith)
  same_counts (suc n) zero a s few h = absurd (omega arith)
  same_counts (suc n) (suc k) a s few h =
      step_same (read_some p n) (RE.count_by k p) a s (λ b j fewer. same_counts n k b j (omega arith) (omega arith)) ∙ read_same p (RE.count_by k p) a s

module _ (fits able : Type 0) (d : ℕ) (small : fits → d ≤ MAX_NESTING) (p : Reader Expr) (l : Language Expr)
    (operand : Told {X = Unit {0}} fits able d (λ x. p) (λ x. l) ⊥ begins_expr goes_operand) where
  shortest_told : Told {X = Expr} fits able d (read_shortest p) (shortest d l) ⊥ is_factor none
  shortest_told =
      followed (λ a make. R.◌>>=◌ p (λ b. R.◌>>=◌ (RT.operator star) (λ join. R.◌>>◌ (RT.word (codes "sizeof")) (R.give (joined make a b)))))
      (operator_told Expr fits able d small none (of_mark (at_level 0)) is_factor (token_of (t.Mark m.Star) nowhere) _ refl refl refl (λ x. refl))
      (followed (λ y b. R.◌>>=◌ (RT.operator star) (λ join. R.◌>>◌ (RT.word (codes "sizeof")) (R.give (joined y.1 y.0 b)))) (everywhere (Expr × Join) operand)
      (followed (λ y join. R.◌>>◌ (RT.word (codes "sizeof")) (R.give (joined y.0.1 y.0.0 y.1))) (star_told fits able d small p l operand ((Expr × Join) × Expr))
      (made (λ (y : ((Expr × Join) × Expr) × Join) u. joined y.0.0.1 y.0.0.0 y.0.1) (word_told (((Expr × Join) × Expr) × Join) fits able d small none (codes "sizeof") sizeof_sample))
      (λ x e. refl) (λ e. absurd e) (λ e. e))
      star_apart (λ e. absurd e) (λ e. e))
      (λ x e. refl) (λ e. absurd e) (λ e. e)

  some_told : (n : ℕ) → Told {X = Expr} fits able d (read_some p n) (some_counts d l n) ⊥ is_factor none
  some_told zero = shortest_told
  some_told (suc n) = count_step_told fits able d small p l operand (read_some p n) (some_counts d l n) (some_told n)

  few_told : (n : ℕ) → Told {X = Expr} fits ⊥ d (λ a. RE.count_by n p a) (few_counts d l n) ⊥ is_factor none
  few_told zero = nothing_told (λ a. RE.count_by zero p a) is_factor none
  few_told (suc n) = same_reader (λ a s. read_same p (λ a. RE.count_by n p a) a s)
      (count_step_told fits ⊥ d small p l (weaker (λ e. absurd e) (λ e. e) (λ e. e) (itself _) operand) (λ a. RE.count_by n p a) (few_counts d l n) (few_told n))

  counting_told : Told {X = Expr} fits able d (λ a s. RE.count_by (suc (length s.left)) p a s)
      (counting d l) ⊥ is_factor none
  counting_told = bounded_told (read_some p) (λ n a. RE.count_by n p a) (some_counts d l) (few_counts d l) (counting d l) some_told few_told (some_out d l)
      (λ n a. back_in d l (takes operand.spoken tt) (some_counts d l) (λ n a asked s c s' h. h) n a)
      (λ n a. back_in d l (takes operand.spoken tt) (few_counts d l) (λ n a asked s c s' h. h) n a)
      (same_counts small operand)

  pub count_told : (Y : Type 0) → Told {X = Y} fits able d (λ y. RE.count p)
      (λ y. L.◌>>=◌ l (counting d l)) ⊥ begins_expr none
  count_told Y = followed (λ y a s. RE.count_by (suc (length s.left)) p a s) (everywhere Y operand) (reindexed (λ (y : Y × Expr). y.1) counting_told) factor_apart (λ e. absurd e) (λ e. e)
