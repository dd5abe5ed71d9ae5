-- Assignments, which are read by their left side first.
use Rattle.std.proofs.Common.{◌≡◌, refl, sym, ap, ⊎_elim, inl, inr, ◌≤◌, ℕ, zero, suc, Bool, true, false, List, [], ◌∷◌, Option, None, if◌then◌else◌}
use Rattle.ec_base.specs.declared.limits.TheConstants.{MAX_NESTING}
use Rattle.ec_base.specs.declared.operator.BinOp.{BinOp}
use Rattle.ec_base.specs.declared.operator.BinOp.TheVariants.{Add, Sub}
use Rattle.ec_base.specs.declared.token.Mark.{Mark}
use Rattle.ec_base.specs.declared.token.Mark.TheVariants as mk
use Rattle.ec_base.specs.declared.token.Span.{Span}
use Rattle.ec_base.specs.declared.token.Token.{Token}
use Rattle.ec_syntax.specs.declared.expression.Expr.{Expr}
use Rattle.ec_syntax.specs.declared.expression.ExprKind.{ExprKind}
use Rattle.ec_syntax.specs.declared.expression.ExprKind.TheVariants.{Var}
use Rattle.ec_syntax.specs.declared.name.Name.{Name}
use Rattle.ec_syntax.specs.declared.statement.Assign.{Assign}
use Rattle.ec_syntax.specs.Grammar.State.{State, Asked, Counts}
use Rattle.ec_syntax.specs.Grammar.Tokens as T
use Rattle.ec_syntax.specs.Grammar.Tokens.{is_mark, only, next_mark, with_mark}
use Rattle.ec_syntax.specs.Grammar.Language as L
use Rattle.ec_syntax.specs.Grammar.Language.{Language, first_is}
use Rattle.ec_syntax.specs.Grammar.Expressions.{expression, unary, expr, expr_of}
use Rattle.ec_syntax.specs.Grammar.Statements.{stepped, assignment}
use Rattle.ec_syntax.specs.Descent.Reader as R
use Rattle.ec_syntax.specs.Descent.Reader.{Reader}
use Rattle.ec_syntax.specs.Descent.Reader.Outcome.{Stopped}
use Rattle.ec_syntax.specs.declared.quantity.Fault.TheVariants.{Expected}
use Rattle.ec_syntax.specs.Descent.Tokens as RT
use Rattle.ec_syntax.specs.Descent.Tokens.{is_name, begins_expr}
use Rattle.ec_syntax.specs.Descent.Expressions as RE
use Rattle.ec_syntax.specs.Descent.Statements as RS
use Rattle.ec_syntax.proofs.Decision.Procedures.{Quiet, is_else, Ends, Within, Apart, Spoken}
use Rattle.ec_syntax.proofs.Decision.Basics.{same_language_spoken}
use Rattle.ec_syntax.proofs.Lookahead.FirstTokens.{ends_into}
use Rattle.ec_syntax.proofs.Lookahead.FirstSets.{one_of, or_within, or_apart, within_left, itself, name_begins, none, apart_none}
use Rattle.ec_syntax.proofs.Decision.Limited as told
use Rattle.ec_syntax.proofs.Decision.Limited.{Told}
use Rattle.ec_syntax.proofs.Terminals.Tokens.{sign_told, name_told}
use Rattle.ec_syntax.proofs.Lookahead.FollowSets.{goes_operand, goes_expr}
use Rattle.ec_syntax.proofs.Decision.Alternatives.{either_spoken}
use Rattle.ec_syntax.proofs.Tokens.Sequences.{first_within}
use Rattle.ec_syntax.proofs.Decision.Dependence.{trailing}
use Rattle.ec_syntax.proofs.Expressions.OperandKinds.{Tells, unary_told, name_unary}
use Rattle.ec_syntax.proofs.Tokens.Classes.{from_mark}

-- ---- the language in the order in which it is read

-- "=" and a value, behind what it is assigned to
abbrev pub assign_by : ℕ → Language Expr → Expr → Language Assign
assign_by d value l = L.◌>>◌ (T.sign d mk.Assign) (L.◌>>=◌ value (λ r. L.give (record { left = l; right = r })))

abbrev pub step_by : ℕ → Mark → BinOp → Name → Language Assign
step_by d k op i = L.◌>>◌ (T.sign d k) (L.give (stepped op i))

abbrev pub variable_at : List ℕ → Span → Name
variable_at w at = record { text = w; at = at }

-- "++" or "--" behind a name
abbrev pub steps_by : ℕ → Expr → Language Assign
steps_by d l = on_kind l.kind
  where
    on_kind : ExprKind → Language Assign
    on_kind (Var w) = L.◌or◌ (step_by d mk.Increment Add (variable_at w l.at)) (step_by d mk.Decrement Sub (variable_at w l.at))
    on_kind _ = L.never

abbrev pub assigned_by : ℕ → Language Expr → Expr → Language Assign
assigned_by d value l = L.◌or◌ (assign_by d value l) (steps_by d l)

abbrev pub assignment_by : ℕ → ℕ → Language Assign
assignment_by nested d = L.◌>>=◌ (unary nested d) (assigned_by d (expr nested d))

-- ---- it has the same words

stepped_word : (nested d : ℕ) (inner : Language Expr) (asked : Asked) (s m : State) (k : ExprKind) (at : Span) →
    Tells d inner asked s m (expression k at) → (a : Assign) (m' : State) →
    steps_by d (expression k at) asked m a m' → assignment nested d asked s a m'
stepped_word nested d inner asked s m (Var w) at h a m' (inl k) = inr (inl (variable_at w at, m, h, k))
stepped_word nested d inner asked s m (Var w) at h a m' (inr k) = inr (inr (variable_at w at, m, h, k))
stepped_word nested d inner asked s m _ at h a m' k = absurd k

pub by_word : (nested d : ℕ) (asked : Asked) (s : State) (a : Assign) (m : State) →
    assignment_by (suc nested) d asked s a m → assignment (suc nested) d asked s a m
by_word nested d asked s a m (l, m₁, h, inl k) = inl (l, m₁, h, k)
by_word nested d asked s a m (l, m₁, h, inr k) =
    stepped_word (suc nested) d (expr_of (suc d) (unary nested (suc d))) asked s m₁ l.kind l.at (unary_told nested d asked s l m₁ h) a m k

pub word_by : (nested d : ℕ) (asked : Asked) (s : State) (a : Assign) (m : State) →
    assignment (suc nested) d asked s a m → assignment_by (suc nested) d asked s a m
word_by nested d asked s a m (inl (l, m₁, h, k)) = (l, m₁, h, inl k)
word_by nested d asked s a m (inr (inl (i, m₁, h, k))) = (expression (Var i.text) i.at, m₁, name_unary nested d asked s i m₁ h, inr (inl k))
word_by nested d asked s a m (inr (inr (i, m₁, h, k))) = (expression (Var i.text) i.at, m₁, name_unary nested d asked s i m₁ h, inr (inr k))

-- ---- what is read behind the left side

-- a reader that stops where its test fails
pub stops_else : {A : Type 0} (test : Token → Bool) (p : Reader A) →
    ((s : State) → first_is test s.left ≡ false → p s ≡ Stopped Expected s.left) → (s : State) →
    p s ≡ R.when test p (R.stop Expected) s
stops_else test p h s = by (first_is test s.left) refl
  where
    by : (b : Bool) → first_is test s.left ≡ b → p s ≡ (if b then p s else Stopped Expected s.left)
    by true e = refl
    by false e = h s e

-- a token that fails a test isn't taken
refused_at : {A : Type 0} (pick : Token → Option A) (test : Token → Bool) (counts : State → A → Counts)
    (counted : State → State) → ((x : Token) → test x ≡ false → pick x ≡ None) →
    (ts : List Token) (s : State) → s.left ≡ ts → first_is test ts ≡ false →
    R.at_front pick counts counted s ts ≡ Stopped Expected s.left
refused_at pick test counts counted n [] s e h = ap (λ ts. Stopped Expected ts) (sym e)
refused_at pick test counts counted n (x ∷ rest) s e h = rw (n x h) refl

only_none : (test : Token → Bool) (x : Token) → test x ≡ false → only test x ≡ None
only_none test x h = rw h refl

pub sign_refused : (k : Mark) (s : State) → first_is (is_mark k) s.left ≡ false → RT.sign k s ≡ Stopped Expected s.left
sign_refused k s h = refused_at (only (is_mark k)) (is_mark k) next_mark with_mark (only_none (is_mark k)) s.left s refl h

pub mark_refused : (k : Mark) (s : State) → first_is (is_mark k) s.left ≡ false → RT.mark k s ≡ Stopped Expected s.left
mark_refused k s h = refused_at (only (is_mark k)) (is_mark k) (λ s a. []) (λ s. s) (only_none (is_mark k)) s.left s refl h

-- tests of what may stand behind the left side
abbrev pub steps : Token → Bool
steps = one_of (is_mark mk.Increment) (is_mark mk.Decrement)

abbrev pub assigns : Token → Bool
assigns = one_of (is_mark mk.Assign) steps

assign_inc : Apart (is_mark mk.Increment) (is_mark mk.Assign)
assign_inc = from_mark mk.Increment (is_mark mk.Assign) false (λ at. refl)

assign_dec : Apart (is_mark mk.Decrement) (is_mark mk.Assign)
assign_dec = from_mark mk.Decrement (is_mark mk.Assign) false (λ at. refl)

dec_inc : Apart (is_mark mk.Decrement) (is_mark mk.Increment)
dec_inc = from_mark mk.Decrement (is_mark mk.Increment) false (λ at. refl)

assign_steps : Apart steps (is_mark mk.Assign)
assign_steps = or_apart (is_mark mk.Increment) (is_mark mk.Decrement) (is_mark mk.Assign) assign_inc assign_dec

-- what may begin behind a left side of a kind
abbrev pub assigns_of : ExprKind → Token → Bool
assigns_of (Var w) = assigns
assigns_of _ = is_mark mk.Assign

pub assigns_within : (k : ExprKind) → Within (assigns_of k) assigns
assigns_within (Var w) = itself assigns
assigns_within _ = within_left (is_mark mk.Assign) (is_mark mk.Assign) steps (itself (is_mark mk.Assign))

abbrev pub assign_read : Reader Expr → Expr → Reader Assign
assign_read v l = R.◌>>◌ (RT.sign mk.Assign) (R.◌>>=◌ v (λ r. R.give (record { left = l; right = r })))

assign_refused : (v : Reader Expr) (l : Expr) (s : State) → first_is (is_mark mk.Assign) s.left ≡ false →
    assign_read v l s ≡ Stopped Expected s.left
assign_refused v l s h = ap (λ o. R.and_then o (λ u. R.◌>>=◌ v (λ r. R.give (record { left = l; right = r })))) (sign_refused mk.Assign s h)

module _ {fits able : Type 0} {d : ℕ} (small : fits → d ≤ MAX_NESTING) (v : Reader Expr) (value : Language Expr)
    {first goes : Token → Bool} (V : Told {X = Unit {0}} fits able d (λ x. v) (λ x. value) ⊥ first goes) where
  pub assign_told : Told {X = Expr} fits able d (assign_read v) (assign_by d value) ⊥ (is_mark mk.Assign) goes
  assign_told = told.followed (λ l u. R.◌>>=◌ v (λ r. R.give (record { left = l; right = r }))) (sign_told Expr fits able d small none mk.Assign)
      (told.made (λ lu r. record { left = lu.0; right = r }) (told.everywhere (Expr × Unit {0}) V)) (apart_none first) (λ e. absurd e) (λ e. e)

  step_told : (k : Mark) (op : BinOp) (i : Name) →
      Told {X = Unit {0}} fits able d (λ x. R.◌>>◌ (RT.sign k) (R.give (stepped op i)))
      (λ x. step_by d k op i) ⊥ (is_mark k) goes
  step_told k op i = told.made (λ x u. stepped op i) (sign_told (Unit {0}) fits able d small goes k)

  variable_told : (w : List ℕ) (at : Span) →
      Told {X = Unit {0}} fits able d (λ u. RS.assigned v (expression (Var w) at))
      (λ u. assigned_by d value (expression (Var w) at)) ⊥ assigns goes
  variable_told w at = told.either (is_mark mk.Assign) (told.reindexed (λ u. expression (Var w) at) assign_told)
      (told.either (is_mark mk.Increment) (step_told mk.Increment Add (variable_at w at)) (step_told mk.Decrement Sub (variable_at w at)) (itself (is_mark mk.Increment)) dec_inc (λ e. absurd e))
      (itself (is_mark mk.Assign)) assign_steps (λ e. absurd e)

  pub other_told : (l : Expr) → Told {X = Unit {0}} fits able d
      (λ u. R.when (is_mark mk.Assign) (assign_read v l) (R.stop Expected))
      (λ u. L.◌or◌ (assign_by d value l) L.never) ⊥ (is_mark mk.Assign) goes
  other_told l = told.same_language {l = λ u. assign_by d value l} (λ u asked s a m h. inl h) (λ u asked s a m. ⊎_elim (λ h. h) (λ n. absurd n))
      (told.same_reader {p = λ u. assign_read v l} (λ u s. stops_else (is_mark mk.Assign) (assign_read v l) (assign_refused v l) s) (told.reindexed (λ u. l) assign_told))

  -- behind a left side of each kind
  pub behind_kind : (k : ExprKind) (at : Span) →
      Told {X = Unit {0}} fits able d (λ u. RS.assigned v (expression k at))
      (λ u. assigned_by d value (expression k at)) ⊥ (assigns_of k) goes
  behind_kind (Var w) at = variable_told w at
  behind_kind k at = other_told (expression k at)

  pub behind_ends : able → (rest : List Token) → Quiet goes rest → Quiet is_else rest →
      Ends (λ (xl : Unit {0} × Expr). assigned_by d value xl.1) rest
  behind_ends can rest q c = ends_into {l = λ (xl : Unit {0} × Expr). assign_by d value xl.1} (λ xl asked s a m h. inl h) ((told.reindexed (λ (xl : Unit {0} × Expr). xl.1) assign_told).spoken.ends can rest q c)

  -- a left side and what stands behind it
  module _ (u : Reader Expr) (left : Language Expr) {first_u goes_u : Token → Bool} where
    pub assigned_told : Told {X = Unit {0}} fits able d (λ x. u) (λ x. left) ⊥ first_u goes_u → Apart assigns goes_u →
        Told {X = Unit {0}} fits able d (λ x. R.◌>>=◌ u (RS.assigned v))
        (λ x. L.◌>>=◌ left (assigned_by d value)) ⊥ first_u goes
    assigned_told U apart = trailing (λ x l. RS.assigned v l) (λ x l. assigned_by d value l) U (λ xl. behind_kind xl.1.kind xl.1.at) (λ xl e. e) (λ xl. assigns_within xl.1.kind) behind_ends apart (λ e. absurd e)

-- ---- all of an assignment

-- a language with fewer words, which isn't nested deep enough for what is read
pub lesser : {X A : Type 0} {fits able other : Type 0} {d : ℕ} {p : X → Reader A} {l l' : X → Language A}
    {first goes : Token → Bool} → (able → ⊥) →
    ((x : X) (asked : Asked) (s : State) (a : A) (m : State) → l' x asked s a m → l x asked s a m) →
    Spoken able d l' ⊥ first goes → Told fits other d p l ⊥ first goes → Told fits able d p l' ⊥ first goes
lesser none into spoken h = record {
  spoken = spoken;
  decides = λ fit. record {
    spoken = spoken;
    done = λ can. absurd (none can);
    stopped = λ can. absurd (none can);
    complete = λ x asked s a m k q. (h.decides fit).complete x asked s a m (into x asked s a m k) q;
  };
}

-- words that begin with fewer tokens, in a language that isn't nested deep enough for what is read
pub wider : {X A : Type 0} {able other : Type 0} {d : ℕ} {l : X → Language A} {first first' goes goes' : Token → Bool} →
    (able → ⊥) → Within first first' → Spoken other d l ⊥ first goes → Spoken able d l ⊥ first' goes'
wider {first = first} {first' = first'} none within h = record {
  carried = h.carried;
  starts = λ x asked s a m k. ⊎_elim (λ y. inl (first_within first first' within s.left y.0, y.1, y.2)) (λ y. inr y) (h.starts x asked s a m k);
  ends = λ can. absurd (none can);
  opens = λ can. absurd (none can);
  skips = λ can. absurd (none can);
}

-- "++" or "--" behind a name
abbrev pub named_steps : ℕ → Language Assign
named_steps d = L.◌or◌ (L.◌>>=◌ (T.name d) (λ i. step_by d mk.Increment Add i)) (L.◌>>=◌ (T.name d) (λ i. step_by d mk.Decrement Sub i))

pub named_step_told : (fits able : Type 0) (d : ℕ) (small : fits → d ≤ MAX_NESTING) (goes : Token → Bool) (k : Mark)
    (op : BinOp) →
    Told {X = Unit {0}} fits able d (λ x. R.◌>>=◌ RT.name (λ i. R.◌>>◌ (RT.sign k) (R.give (stepped op i))))
    (λ x. L.◌>>=◌ (T.name d) (λ i. step_by d k op i)) ⊥ is_name goes
named_step_told fits able d small goes k op =
    told.followed (λ x i. R.◌>>◌ (RT.sign k) (R.give (stepped op i))) (name_told (Unit {0}) fits able d small none)
    (told.made (λ (xi : Unit {0} × Name) u. stepped op xi.1) (sign_told (Unit {0} × Name) fits able d small goes k)) (apart_none (is_mark k)) (λ e. absurd e) (λ e. e)

steps_spoken : (d : ℕ) (goes : Token → Bool) →
    Spoken {X = Unit {0}} ⊥ d (λ x. named_steps d) ⊥ (one_of is_name is_name) goes
steps_spoken d goes = either_spoken (named_step_told ⊥ ⊥ d (λ e. absurd e) goes mk.Increment Add).spoken (named_step_told ⊥ ⊥ d (λ e. absurd e) goes mk.Decrement Sub).spoken

steps_word : (d : ℕ) (asked : Asked) (s : State) (a : Assign) (m : State) → assignment zero d asked s a m →
    named_steps d asked s a m
steps_word d asked s a m (inl h) = absurd h.2
steps_word d asked s a m (inr h) = h

more_word : (d : ℕ) (asked : Asked) (s : State) (a : Assign) (m : State) → assignment zero d asked s a m →
    assignment 1 d asked s a m
more_word d asked s a m (inl h) = absurd h.2
more_word d asked s a m (inr h) = inr h

none_spoken : (able : Type 0) (d : ℕ) → (able → ⊥) →
    Spoken {X = Unit {0}} able d (λ x. assignment zero d) ⊥ begins_expr goes_expr
none_spoken able d none = wider none (or_within is_name is_name begins_expr name_begins name_begins)
    (same_language_spoken {l = λ x. named_steps d} (λ x asked s a m h. inr h) (λ x asked s a m h. steps_word d asked s a m h) (steps_spoken d goes_expr))

pub assigns_operand : Apart assigns goes_operand
assigns_operand = or_apart (is_mark mk.Assign) steps goes_operand (from_mark mk.Assign goes_operand false (λ at. refl))
    (or_apart (is_mark mk.Increment) (is_mark mk.Decrement) goes_operand (from_mark mk.Increment goes_operand false (λ at. refl)) (from_mark mk.Decrement goes_operand false (λ at. refl)))

module _ {fits able : Type 0} (d room : ℕ) (small : fits → d ≤ MAX_NESTING) where
  some_told : (nested : ℕ) → Told {X = Unit {0}} fits able d (λ x. RE.unary room)
      (λ x. unary (suc nested) d) ⊥ begins_expr goes_operand →
      Told {X = Unit {0}} fits able d (λ x. RE.expr room) (λ x. expr (suc nested) d) ⊥ begins_expr goes_expr →
      Told {X = Unit {0}} fits able d (λ x. RS.assignment room) (λ x. assignment (suc nested) d) ⊥ begins_expr goes_expr
  some_told nested U V = told.same_language {l = λ x. assignment_by (suc nested) d} (λ x asked s a m h. by_word nested d asked s a m h) (λ x asked s a m h. word_by nested d asked s a m h)
      (assigned_told small (RE.expr room) (expr (suc nested) d) V (RE.unary room) (unary (suc nested) d) U assigns_operand)

-- what is asked of expressions
pub record Expressions (fits : Type 0) (able : ℕ → Type 0) (d room : ℕ) : Type 1 where
  pub unary_told : (nested : ℕ) → Told {X = Unit {0}} fits (able nested) d (λ x. RE.unary room)
      (λ x. unary nested d) ⊥ begins_expr goes_operand
  pub expr_told : (nested : ℕ) → Told {X = Unit {0}} fits (able nested) d (λ x. RE.expr room)
      (λ x. expr nested d) ⊥ begins_expr goes_expr

pub assignment_told : {fits : Type 0} (able : ℕ → Type 0) (d room : ℕ) → (fits → d ≤ MAX_NESTING) → (able zero → ⊥) →
    Expressions fits able d room → (nested : ℕ) →
    Told {X = Unit {0}} fits (able nested) d (λ x. RS.assignment room)
    (λ x. assignment nested d) ⊥ begins_expr goes_expr
assignment_told able d room small none e zero = lesser {l = λ x. assignment 1 d} none (λ x asked s a m h. more_word d asked s a m h) (none_spoken (able zero) d none)
    (some_told d room small 0 (e.unary_told 1) (e.expr_told 1))
assignment_told able d room small none e (suc nested) = some_told d room small nested (e.unary_told (suc nested)) (e.expr_told (suc nested))
