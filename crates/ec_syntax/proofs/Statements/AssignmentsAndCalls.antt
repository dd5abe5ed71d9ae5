-- Statements that are an assignment or a call, which are read by an operand first.
use Rattle.std.proofs.Common.{◌≡◌, refl, sym, ap, subst, ⊎_elim, inl, inr, ◌≤◌, ℕ, suc, Bool, true, false, ◌||◌, List}
use Rattle.ec_base.specs.declared.limits.TheConstants.{MAX_NESTING}
use Rattle.ec_base.specs.declared.token.Mark.TheVariants as mk
use Rattle.ec_base.specs.declared.token.Span.{Span}
use Rattle.ec_base.specs.declared.token.Token.{Token}
use Rattle.ec_syntax.specs.declared.expression.Call.{Call}
use Rattle.ec_syntax.specs.declared.expression.Expr.{Expr}
use Rattle.ec_syntax.specs.declared.expression.ExprKind.{ExprKind}
use Rattle.ec_syntax.specs.declared.expression.ExprKind.TheVariants.{Var, Call as CallOf}
use Rattle.ec_syntax.specs.declared.statement.Stmt.{Stmt}
use Rattle.ec_syntax.specs.declared.statement.StmtKind.{StmtKind}
use Rattle.ec_syntax.specs.declared.statement.StmtKind.TheVariants.{Set, Eval}
use Rattle.ec_syntax.specs.Grammar.State.{State, Asked}
use Rattle.ec_syntax.specs.Grammar.Tokens.{is_mark}
use Rattle.ec_syntax.specs.Grammar.Language as L
use Rattle.ec_syntax.specs.Grammar.Language.{Language, first_is}
use Rattle.ec_syntax.specs.Grammar.Expressions.{expression, unary, expr, expr_of, call}
use Rattle.ec_syntax.specs.Grammar.Statements as LS
use Rattle.ec_syntax.specs.Grammar.Statements.{assignment}
use Rattle.ec_syntax.specs.Descent.Reader as R
use Rattle.ec_syntax.specs.Descent.Reader.{Reader, Outcome}
use Rattle.ec_syntax.specs.Descent.Reader.Outcome.{Done, Stopped}
use Rattle.ec_syntax.specs.declared.quantity.Fault.TheVariants.{Expected}
use Rattle.ec_syntax.specs.Descent.Tokens as RT
use Rattle.ec_syntax.specs.Descent.Tokens.{begins_expr}
use Rattle.ec_syntax.specs.Descent.Expressions as RE
use Rattle.ec_syntax.specs.Descent.Statements as RS
use Rattle.std.proofs.lemmas.Bool.{both_ways}
use Rattle.ec_syntax.proofs.Decision.Procedures.{Quiet, is_else, Ends, Within, Apart}
use Rattle.ec_syntax.proofs.Lookahead.FirstTokens.{ends_into}
use Rattle.ec_syntax.proofs.Tokens.Sequences.{Quiet-apart}
use Rattle.ec_syntax.proofs.Lookahead.FirstSets.{one_of, or_within, within_left, within_right, itself, none, none_apart, none_within}
use Rattle.ec_syntax.proofs.Decision.Limited as told
use Rattle.ec_syntax.proofs.Decision.Limited.{Told}
use Rattle.ec_syntax.proofs.Terminals.Tokens.{mark_told}
use Rattle.ec_syntax.proofs.Lookahead.FollowSets.{goes_operand, goes_expr, operand_expr}
use Rattle.ec_syntax.proofs.Nesting.Parts.{parted}
use Rattle.ec_syntax.proofs.Decision.Dependence.{trailing}
use Rattle.ec_syntax.proofs.Expressions.OperandKinds.{Tells, unary_told, call_unary}
use Rattle.ec_syntax.proofs.Statements.Assignments.{assigns_operand, assigned_by, assign_by, assigns, assigns_within, assign_read, assign_told, behind_kind, by_word, word_by, mark_refused}
use Rattle.ec_syntax.proofs.Tokens.Classes.{from_mark}

-- ---- the language in the order in which it is read

-- a call that stands alone
abbrev pub evals_by : Expr → Language StmtKind
evals_by l = on_kind l.kind
  where
    on_kind : ExprKind → Language StmtKind
    on_kind (CallOf c) = L.give (Eval c)
    on_kind _ = L.never

abbrev pub sets_by : ℕ → Language Expr → Expr → Language StmtKind
sets_by d value l = L.◌>>=◌ (assigned_by d value l) (λ a. L.give (Set a))

abbrev pub acts_by : ℕ → Language Expr → Expr → Language StmtKind
acts_by d value l = L.◌or◌ (sets_by d value l) (evals_by l)

abbrev pub act_by : ℕ → ℕ → Language StmtKind
act_by nested d = L.part (L.◌>>=◌ (unary nested d) (acts_by d (expr nested d)))

-- as the grammar has it
abbrev pub act : ℕ → ℕ → Language Expr → Language StmtKind
act nested d inner = L.◌or◌ (L.◌>>=◌ (L.part (assignment nested d)) (λ a. L.give (Set a))) (L.◌>>=◌ (L.part (call d inner)) (λ c. L.give (Eval c)))

-- ---- it has the same words

abbrev pub inner_of : ℕ → ℕ → Language Expr
inner_of nested d = expr_of (suc d) (unary nested (suc d))

eval_word : (nested d : ℕ) (inner : Language Expr) (asked : Asked) (s m : State) (k : ExprKind) (at : Span) →
    Tells d inner asked (record s { marks = 0 }) m (expression k at) → (a : StmtKind) (m' : State) →
    evals_by (expression k at) asked m a m' → act nested d inner asked s a m'
eval_word nested d inner asked s m (CallOf c) at h a m' k = inr (c, m, h, k)
eval_word nested d inner asked s m _ at h a m' k = absurd k

act_to : (nested d : ℕ) (asked : Asked) (s : State) (a : StmtKind) (m : State) → act_by (suc nested) d asked s a m →
    act (suc nested) d (inner_of nested d) asked s a m
act_to nested d asked s a m (l, m₁, h, inl (b, m₂, k, e)) = inl (b, m₂, by_word nested d asked (record s { marks = 0 }) b m₂ (l, m₁, h, k), e)
act_to nested d asked s a m (l, m₁, h, inr k) =
    eval_word (suc nested) d (inner_of nested d) asked s m₁ l.kind l.at (unary_told nested d asked (record s { marks = 0 }) l m₁ h) a m k

eval_here : (l : Expr) (c : Call) (asked : Asked) (m : State) (a : StmtKind) (m' : State) → l.kind ≡ CallOf c →
    L.give (Eval c) asked m a m' → evals_by l asked m a m'
eval_here l c asked m a m' e h = subst (λ k. evals_by (expression k l.at) asked m a m') (sym e) h

act_from : (nested d : ℕ) (asked : Asked) (s : State) (a : StmtKind) (m : State) →
    act (suc nested) d (inner_of nested d) asked s a m → act_by (suc nested) d asked s a m
act_from nested d asked s a m (inl (b, m₂, h, e)) =
    let w = word_by nested d asked (record s { marks = 0 }) b m₂ h in
    (w.0, w.1, w.2, inl (b, m₂, w.3, e))
act_from nested d asked s a m (inr (c, m₁, h, e)) =
    let w = call_unary nested d asked (record s { marks = 0 }) c m₁ h in
    (w.0, m₁, w.2, inr (eval_here w.0 c asked m₁ a m w.1 e))

-- ---- what is read behind the operand

-- where `=` or another step doesn't follow a call, it stands alone
abbrev pub acted_by : Reader Expr → Expr → Reader StmtKind
acted_by v l = on_kind l.kind
  where
    on_kind : ExprKind → Reader StmtKind
    on_kind (CallOf c) = R.when (is_mark mk.Assign) (R.◌>>=◌ (assign_read v l) (λ a. R.give (Set a))) (R.give (Eval c))
    on_kind _ = R.◌>>=◌ (RS.assigned v l) (λ a. R.give (Set a))

abbrev alone_of : ExprKind → Type 0
alone_of (CallOf c) = Unit {0}
alone_of _ = ⊥

abbrev acts_of : ExprKind → Token → Bool
acts_of (CallOf c) = λ t. is_mark mk.Assign t || none t
acts_of (Var w) = assigns
acts_of _ = is_mark mk.Assign

acts_within : (k : ExprKind) → Within (acts_of k) assigns
acts_within (CallOf c) = or_within (is_mark mk.Assign) none assigns (assigns_within (CallOf c)) (none_within assigns)
acts_within (Var w) = itself assigns
acts_within _ = within_left (is_mark mk.Assign) (is_mark mk.Assign) (one_of (is_mark mk.Increment) (is_mark mk.Decrement)) (itself (is_mark mk.Assign))

alone : (k : ExprKind) → alone_of k → Unit {0}
alone k e = tt

-- what a call or an assignment may go on by
abbrev pub goes_act : (Token → Bool) → Token → Bool
goes_act goes = one_of goes (is_mark mk.Assign)

module _ {fits able : Type 0} {d : ℕ} (small : fits → d ≤ MAX_NESTING) (v : Reader Expr) (value : Language Expr)
    {first goes : Token → Bool} (V : Told {X = Unit {0}} fits able d (λ x. v) (λ x. value) ⊥ first goes) where
  set_told : {start : Token → Bool} (l : Expr) →
      Told {X = Unit {0}} fits able d (λ u. RS.assigned v l) (λ u. assigned_by d value l) ⊥ start goes →
      Told {X = Unit {0}} fits able d (λ u. R.◌>>=◌ (RS.assigned v l) (λ a. R.give (Set a)))
      (λ u. L.◌or◌ (sets_by d value l) L.never) ⊥ start (goes_act goes)
  set_told l h = told.further (within_left goes goes (is_mark mk.Assign) (itself goes))
      (told.same_language {l = λ u. sets_by d value l} (λ u asked s a m k. inl k) (λ u asked s a m. ⊎_elim (λ k. k) (λ n. absurd n)) (told.made (λ u a. Set a) h))

  -- "=" and a value behind a call
  assign_set_told : (l : Expr) → Told {X = Unit {0}} fits able d (λ u. R.◌>>=◌ (assign_read v l) (λ a. R.give (Set a)))
      (λ u. sets_by d value l) ⊥ (is_mark mk.Assign) goes →
      Told {X = Unit {0}} fits able d (λ u. R.◌>>=◌ (assign_read v l) (λ a. R.give (Set a)))
      (λ u. sets_by d value l) ⊥ (is_mark mk.Assign) (goes_act goes)
  assign_set_told l h = told.further (within_left goes goes (is_mark mk.Assign) (itself goes)) h

  call_sets_told : (c : Call) (at : Span) →
      Told {X = Unit {0}} fits able d (λ u. R.◌>>=◌ (assign_read v (expression (CallOf c) at)) (λ a. R.give (Set a)))
      (λ u. sets_by d value (expression (CallOf c) at)) ⊥ (is_mark mk.Assign) goes
  call_sets_told c at = told.same_language {l = λ u. L.◌>>=◌ (assign_by d value (expression (CallOf c) at)) (λ a. L.give (Set a))}
      (λ u asked s a m h. (h.0, h.1, inl h.2, h.3)) (λ u asked s a m h. (h.0, h.1, ⊎_elim (λ k. k) (λ n. absurd n) h.2, h.3))
      (told.made (λ u a. Set a) (told.reindexed (λ u. expression (CallOf c) at) (assign_told small v value V)))

  call_acted_told : (c : Call) (at : Span) →
      Told {X = Unit {0}} fits able d (λ u. acted_by v (expression (CallOf c) at))
      (λ u. acts_by d value (expression (CallOf c) at)) (Unit {0}) (λ t. is_mark mk.Assign t || none t) (goes_act goes)
  call_acted_told c at = told.either (is_mark mk.Assign) (assign_set_told (expression (CallOf c) at) (call_sets_told c at)) (told.given (λ u. Eval c) fits able d (goes_act goes))
      (itself (is_mark mk.Assign)) (none_apart (is_mark mk.Assign)) (λ u. within_right (is_mark mk.Assign) goes (is_mark mk.Assign) (itself (is_mark mk.Assign)))

  acted_kind : (k : ExprKind) (at : Span) →
      Told {X = Unit {0}} fits able d (λ u. acted_by v (expression k at)) (λ u. acts_by d value (expression k at))
      (alone_of k) (acts_of k) (goes_act goes)
  acted_kind (CallOf c) at = call_acted_told c at
  acted_kind (Var w) at = set_told (expression (Var w) at) (behind_kind small v value V (Var w) at)
  acted_kind k at = set_told (expression k at) (behind_kind small v value V k at)

  acted_ends : able → (rest : List Token) → Quiet (goes_act goes) rest → Quiet is_else rest →
      Ends (λ (xl : Unit {0} × Expr). acts_by d value xl.1) rest
  acted_ends can rest q c = ends_into {l = λ (xl : Unit {0} × Expr). L.◌>>=◌ (assign_by d value xl.1) (λ a. L.give (Set a))} (λ xl asked s a m h. inl (h.0, h.1, inl h.2, h.3))
      ((told.further {goes' = goes_act goes} (within_left goes goes (is_mark mk.Assign) (itself goes)) (told.made (λ xl a. Set a) (told.reindexed (λ (xl : Unit {0} × Expr). xl.1) (assign_told small v value V)))).spoken.ends can rest q c)

  pub acted_by_told : (u : Reader Expr) (left : Language Expr) {first_u goes_u : Token → Bool} →
      Told {X = Unit {0}} fits able d (λ x. u) (λ x. left) ⊥ first_u goes_u → Apart assigns goes_u →
      Within goes_u goes →
      Told {X = Unit {0}} fits able d (λ x. R.◌>>=◌ u (acted_by v))
      (λ x. L.◌>>=◌ left (acts_by d value)) ⊥ first_u (goes_act goes)
  acted_by_told u left {goes_u = goes_u} U apart within = trailing (λ x l. acted_by v l) (λ x l. acts_by d value l) U (λ xl. acted_kind xl.1.kind xl.1.at) (λ xl. alone xl.1.kind) (λ xl. acts_within xl.1.kind) acted_ends apart
      (λ e. within_left goes_u goes (is_mark mk.Assign) within)

-- ---- the reader of statements reads the same

abbrev finish : StmtKind → Reader StmtKind
finish kind = R.◌>>◌ (RT.mark mk.Semicolon) (R.give kind)

finish_refused : (kind : StmtKind) (s : State) → first_is (is_mark mk.Semicolon) s.left ≡ false →
    finish kind s ≡ Stopped Expected s.left
finish_refused kind s h = ap (λ o. R.and_then o (λ u. R.give kind)) (mark_refused mk.Semicolon s h)

same_call : (v : Reader Expr) (c : Call) (at : Span) (m : State) (b e : Bool) →
    first_is (is_mark mk.Semicolon) m.left ≡ b → first_is (is_mark mk.Assign) m.left ≡ e →
    R.and_then (RS.acted v (expression (CallOf c) at) m) finish
    ≡ R.and_then (acted_by v (expression (CallOf c) at) m) finish
same_call v c at m true true h k = absurd (both_ways (first_is (is_mark mk.Assign) m.left) (Quiet-apart (is_mark mk.Semicolon) (is_mark mk.Assign) (from_mark mk.Semicolon (is_mark mk.Assign) false (λ at. refl)) m.left h) k)
same_call v c at m true false h k = rw (h, k) refl
same_call v c at m false true h k = rw (h, k) refl
same_call v c at m false false h k = rw (h, k) (sym (finish_refused (Eval c) m h))

same_kind : (v : Reader Expr) (k : ExprKind) (at : Span) (m : State) →
    R.and_then (RS.acted v (expression k at) m) finish ≡ R.and_then (acted_by v (expression k at) m) finish
same_kind v (CallOf c) at m = same_call v c at m _ _ refl refl
same_kind v _ at m = refl

same_acts : (v : Reader Expr) (o : Outcome Expr) →
    R.and_then (R.and_then o (RS.acted v)) finish ≡ R.and_then (R.and_then o (acted_by v)) finish
same_acts v (Done l m) = same_kind v l.kind l.at m
same_acts v (Stopped fault left) = refl

-- ---- all of an act

-- one that ends with its `;`
pub ended_told : {X : Type 0} {fits able : Type 0} {d : ℕ} (small : fits → d ≤ MAX_NESTING) (p : X → Reader StmtKind)
    (l : X → Language StmtKind) {start goes : Token → Bool} (out : Token → Bool) →
    Told fits able d p l ⊥ start goes → Apart (is_mark mk.Semicolon) goes →
    Told fits able d (λ x. RS.ended (p x)) (λ x. LS.ended d (l x)) ⊥ start out
ended_told {X} {fits} {able} {d} small p l out h apart = told.placed (λ x. LS.statement)
    (told.followed (λ x. finish) h (told.made (λ (xk : X × StmtKind) u. xk.1) (mark_told (X × StmtKind) fits able d small out mk.Semicolon)) apart (λ e. absurd e) (λ e. e))

pub ended_maybe_told : {X : Type 0} {fits able : Type 0} {d : ℕ} (small : fits → d ≤ MAX_NESTING)
    (p : X → Reader StmtKind) (l : X → Language StmtKind) {start goes : Token → Bool} (out : Token → Bool) →
    Told fits able d p l (Unit {0}) start goes → Apart (is_mark mk.Semicolon) goes →
    Told fits able d (λ x. RS.ended (p x)) (λ x. LS.ended d (l x)) ⊥ (λ t. start t || is_mark mk.Semicolon t) out
ended_maybe_told {X} {fits} {able} {d} small p l out h apart = told.placed (λ x. LS.statement)
    (told.followed_maybe (λ x. finish) h (told.made (λ (xk : X × StmtKind) u. xk.1) (mark_told (X × StmtKind) fits able d small out mk.Semicolon)) apart (λ e. absurd e)
    (from_mark mk.Semicolon is_else false (λ at. refl)) tt)

placed_alike : {A B : Type 0} (make : A → Span → B) (p q : Reader A) → ((s : State) → p s ≡ q s) → (s : State) →
    R.placed make p s ≡ R.placed make q s
placed_alike make p q e s = ap (λ o. R.and_then o (λ a. R.◌>>=◌ (R.look (λ s. s.end)) (λ to. R.give (make a (L.span (L.begin s) to))))) (e s)

-- a set or a call
abbrev pub act_words : ℕ → ℕ → Language Expr → Language Stmt
act_words nested d inner = L.◌or◌ (LS.ended d (L.◌>>=◌ (L.part (assignment nested d)) (λ a. L.give (Set a)))) (LS.ended d (L.◌>>=◌ (L.part (call d inner)) (λ c. L.give (Eval c))))

-- a choice of statements is a choice within one
apart_words : (d : ℕ) (p q : Language StmtKind) (asked : Asked) (s : State) (a : Stmt) (m : State) →
    LS.ended d (L.◌or◌ p q) asked s a m → L.◌or◌ (LS.ended d p) (LS.ended d q) asked s a m
apart_words d p q asked s a m (from, s₁, e, (b, m₂, (k, m₁, inl h, f), g)) = inl (from, s₁, e, (b, m₂, (k, m₁, h, f), g))
apart_words d p q asked s a m (from, s₁, e, (b, m₂, (k, m₁, inr h, f), g)) = inr (from, s₁, e, (b, m₂, (k, m₁, h, f), g))

joined_words : (d : ℕ) (p q : Language StmtKind) (asked : Asked) (s : State) (a : Stmt) (m : State) →
    L.◌or◌ (LS.ended d p) (LS.ended d q) asked s a m → LS.ended d (L.◌or◌ p q) asked s a m
joined_words d p q asked s a m (inl (from, s₁, e, (b, m₂, (k, m₁, h, f), g))) = (from, s₁, e, (b, m₂, (k, m₁, inl h, f), g))
joined_words d p q asked s a m (inr (from, s₁, e, (b, m₂, (k, m₁, h, f), g))) = (from, s₁, e, (b, m₂, (k, m₁, inr h, f), g))

ended_into : (d : ℕ) (p q : Language StmtKind) →
    ((asked : Asked) (s : State) (k : StmtKind) (m : State) → p asked s k m → q asked s k m) →
    (asked : Asked) (s : State) (a : Stmt) (m : State) → LS.ended d p asked s a m → LS.ended d q asked s a m
ended_into d p q into asked s a m (from, s₁, e, (b, m₂, (k, m₁, h, f), g)) = (from, s₁, e, (b, m₂, (k, m₁, into asked s₁ k m₁ h, f), g))

module _ {fits able : Type 0} {d : ℕ} (small : fits → d ≤ MAX_NESTING) (nested room : ℕ)
    (U : Told {X = Unit {0}} fits able d (λ x. RE.unary room) (λ x. unary (suc nested) d) ⊥ begins_expr goes_operand)
    (V : Told {X = Unit {0}} fits able d (λ x. RE.expr room) (λ x. expr (suc nested) d) ⊥ begins_expr goes_expr) (out : Token → Bool) where
  abbrev set_part : Language StmtKind
  set_part = L.◌>>=◌ (L.part (assignment (suc nested) d)) (λ a. L.give (Set a))

  abbrev call_part : Language StmtKind
  call_part = L.◌>>=◌ (L.part (call d (inner_of nested d))) (λ c. L.give (Eval c))

  read_told : Told {X = Unit {0}} fits able d
      (λ x. RS.ended (R.part (R.◌>>=◌ (RE.unary room) (acted_by (RE.expr room)))))
      (λ x. LS.ended d (act_by (suc nested) d)) ⊥ begins_expr out
  read_told = ended_told small (λ x. R.part (R.◌>>=◌ (RE.unary room) (acted_by (RE.expr room)))) (λ x. act_by (suc nested) d) out
      (parted (acted_by_told small (RE.expr room) (expr (suc nested) d) V (RE.unary room) (unary (suc nested) d) U assigns_operand operand_expr)) (from_mark mk.Semicolon (goes_act goes_expr) false (λ at. refl))

  pub act_told : Told {X = Unit {0}} fits able d
      (λ x. RS.ended (R.part (R.◌>>=◌ (RE.unary room) (RS.acted (RE.expr room)))))
      (λ x. act_words (suc nested) d (inner_of nested d)) ⊥ begins_expr out
  act_told = told.same_language {l = λ x. LS.ended d (act_by (suc nested) d)}
      (λ x asked s a m h. apart_words d set_part call_part asked s a m (ended_into d (act_by (suc nested) d) (L.◌or◌ set_part call_part) (act_to nested d) asked s a m h))
      (λ x asked s a m h. ended_into d (L.◌or◌ set_part call_part) (act_by (suc nested) d) (act_from nested d) asked s a m (joined_words d set_part call_part asked s a m h))
      (told.same_reader (λ x s. placed_alike LS.statement (R.◌>>=◌ (R.part (R.◌>>=◌ (RE.unary room) (acted_by (RE.expr room)))) finish) (R.◌>>=◌ (R.part (R.◌>>=◌ (RE.unary room) (RS.acted (RE.expr room)))) finish)
      (λ s. sym (same_acts (RE.expr room) (RE.unary room (record s { marks = 0 })))) s) read_told)
