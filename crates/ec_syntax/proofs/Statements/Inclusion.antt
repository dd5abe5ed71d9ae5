-- Statements of fewer expressions, assignments and statements one deeper are statements.
use Rattle.std.proofs.Common.{inl, inr, ℕ, suc, codes, List, [], ◌∷◌, ◌++◌, length}
use Rattle.ec_base.specs.declared.token.Mark.TheVariants as mk
use Rattle.ec_base.specs.declared.token.Span.{Span}
use Rattle.ec_syntax.specs.declared.expression.Expr.{Expr}
use Rattle.ec_syntax.specs.declared.name.Base.{Base}
use Rattle.ec_syntax.specs.declared.name.Mode.{Mode}
use Rattle.ec_syntax.specs.declared.statement.Assign.{Assign}
use Rattle.ec_syntax.specs.declared.statement.Decl.{Decl}
use Rattle.ec_syntax.specs.declared.statement.Stmt.{Stmt}
use Rattle.ec_syntax.specs.declared.statement.StmtKind.{StmtKind}
use Rattle.ec_syntax.specs.declared.statement.StmtKind.TheVariants.{For, Forall}
use Rattle.ec_syntax.specs.declared.quantity.Quantity.TheVariants.{Arguments, Branches}
use Rattle.ec_syntax.specs.Grammar.State.{State, Asked}
use Rattle.ec_syntax.specs.Grammar.Tokens as T
use Rattle.ec_syntax.specs.Grammar.Language as L
use Rattle.ec_syntax.specs.Grammar.Language.{Language}
use Rattle.ec_syntax.specs.Grammar.Expressions as LE
use Rattle.ec_syntax.specs.Grammar.Statements as LS
use Rattle.ec_syntax.proofs.Lookahead.FirstTokens.{Into}
use Rattle.ec_syntax.proofs.Statements.AssignmentsAndCalls.{inner_of}
use Rattle.ec_syntax.proofs.Statements.Simple.{simple_words}
use Rattle.ec_syntax.proofs.Statements.Bare.{body_words, bare_words}

-- ---- rules

placed_into : {A B : Type 0} (make : A → Span → B) (l l' : Language A) → Into l l' →
    Into (L.placed make l) (L.placed make l')
placed_into make l l' i asked s b m (from, s₁, e, (a, m₁, h, g)) = (from, s₁, e, (a, m₁, i asked s₁ a m₁ h, g))

maybe_into : {A : Type 0} (l l' : Language A) → Into l l' → Into (L.maybe l) (L.maybe l')
maybe_into l l' i asked s b m (inl (a, m₁, h, g)) = inl (a, m₁, i asked s a m₁ h, g)
maybe_into l l' i asked s b m (inr h) = inr h

part_into : {A : Type 0} (l l' : Language A) → Into l l' → Into (L.part l) (L.part l')
part_into l l' i asked s a m h = i asked (record s { marks = 0 }) a m h

turns_into : {A : Type 0} (turn turn' : A → Language A) → ((a : A) → Into (turn a) (turn' a)) →
    (asked : Asked) (s : State) (a b : A) (m : State) → L.Turns turn asked s a b m → L.Turns turn' asked s a b m
turns_into turn turn' i asked s a b m L.over = L.over
turns_into turn turn' i asked s a b m (L.more {m = n} {b = c} h t) = L.more (i a asked s c n h) (turns_into turn turn' i asked n c b m t)

header_into : {A : Type 0} (d : ℕ) (l l' : Language A) → Into l l' → Into (LS.header d l) (LS.header d l')
header_into d l l' i asked s b m (u, m₁, h, (a, m₂, k, g)) = (u, m₁, h, (a, m₂, i asked m₁ a m₂ k, g))

bracketed_into : {A : Type 0} (d : ℕ) (l l' : Language A) → Into l l' → Into (LE.bracketed d l) (LE.bracketed d l')
bracketed_into d l l' i asked s b m (u, m₁, h, (a, m₂, k, g)) = (u, m₁, h, (a, m₂, i asked m₁ a m₂ k, g))

ended_into : (d : ℕ) (l l' : Language StmtKind) → Into l l' → Into (LS.ended d l) (LS.ended d l')
ended_into d l l' i asked s a m (from, s₁, e, (b, m₂, (k, m₁, h, f), g)) = (from, s₁, e, (b, m₂, (k, m₁, i asked s₁ k m₁ h, f), g))

closed_into : (d : ℕ) (l l' : Language StmtKind) → Into l l' → Into (LS.closed d l) (LS.closed d l')
closed_into d l l' i asked s a m (b, m₁, h, g) = (b, m₁, placed_into LS.statement l l' i asked s b m₁ h, g)

-- ---- simple statements

module _ (d : ℕ) (el el' : Language Expr) (i : Into el el') where
  pair_into : Into (LS.pair d el) (LS.pair d el')
  pair_into asked s p m (a, m₁, h, (u, m₂, k, (b, m₃, j, g))) = (a, m₁, i asked s a m₁ h, (u, m₂, k, (b, m₃, i asked m₂ b m₃ j, g)))

  abbrev argument : Language Expr → List Expr → Language (List Expr)
  argument l es = L.◌>>◌ (T.mark d mk.Comma) (L.◌>>=◌ (L.kth Arguments (suc (length es)) l) (λ e. L.give (es ++ e ∷ [])))

  argument_into : (es : List Expr) → Into (argument el es) (argument el' es)
  argument_into es asked s b m (u, m₁, h, (e, m₂, (n, k), g)) = (u, m₁, h, (e, m₂, (n, i asked m₁ e m₂ k), g))

  printed_into : Into (LS.printed d el) (LS.printed d el')
  printed_into asked s k m (t, m₁, h, (es, m₂, j, g)) = (t, m₁, h, (es, m₂, turns_into (argument el) (argument el') argument_into asked m₁ [] es m₂ j, g))

paired_into : (w : List ℕ) (d : ℕ) (el el' : Language Expr) (make : Expr × Expr → StmtKind) → Into el el' →
    Into (L.◌>>=◌ (L.part (L.◌>>◌ (T.word d w) (LE.bracketed d (LS.pair (suc d) el)))) (λ p. L.give (make p)))
    (L.◌>>=◌ (L.part (L.◌>>◌ (T.word d w) (LE.bracketed d (LS.pair (suc d) el')))) (λ p. L.give (make p)))
paired_into w d el el' make i asked s k m (p, m₁, (u, m₂, h, j), g) = (p, m₁, (u, m₂, h, bracketed_into d (LS.pair (suc d) el) (LS.pair (suc d) el') (pair_into (suc d) el el' i) asked m₂ p m₁ j), g)

printf_into : (d : ℕ) (el el' : Language Expr) → Into el el' →
    Into (L.part (L.◌>>◌ (T.word d (codes "printf")) (LE.bracketed d (LS.printed (suc d) el))))
    (L.part (L.◌>>◌ (T.word d (codes "printf")) (LE.bracketed d (LS.printed (suc d) el'))))
printf_into d el el' i asked s k m (u, m₁, h, j) = (u, m₁, h, bracketed_into d (LS.printed (suc d) el) (LS.printed (suc d) el') (printed_into (suc d) el el' i) asked m₁ k m j)

simple_into : (nested d : ℕ) (call el el' : Language Expr) → Into el el' →
    Into (simple_words nested d call el) (simple_words nested d call el')
simple_into nested d call el el' i asked s a m (inl h) = inl h
simple_into nested d call el el' i asked s a m (inr (inl h)) = inr (inl (closed_into d _ _ (paired_into (codes "writeto") d el el' _ i) asked s a m h))
simple_into nested d call el el' i asked s a m (inr (inr (inl h))) = inr (inr (inl (closed_into d _ _ (paired_into (codes "addto") d el el' _ i) asked s a m h)))
simple_into nested d call el el' i asked s a m (inr (inr (inr (inl h)))) = inr (inr (inr (inl (closed_into d _ _ (printf_into d el el' i) asked s a m h))))
simple_into nested d call el el' i asked s a m (inr (inr (inr (inr (inl h))))) = inr (inr (inr (inr (inl h))))
simple_into nested d call el el' i asked s a m (inr (inr (inr (inr (inr h))))) = inr (inr (inr (inr (inr h))))

-- ---- blocks

module _ (d : ℕ) (el el' : Language Expr) (i : Into el el') where
  declarator_into : (how : Mode) (b : Base) → Into (LS.declarator d el how b) (LS.declarator d el' how b)
  declarator_into how b asked s a m (k, m₁, h₁, (n, m₂, h₂, (init, m₃, h₃, g))) =
      (k, m₁, h₁, (n, m₂, h₂, (init, m₃, maybe_into (L.◌>>◌ (T.mark d mk.Assign) (L.part el)) (L.◌>>◌ (T.mark d mk.Assign) (L.part el')) value_into asked m₂ init m₃ h₃, g)))
    where
      value_into : Into (L.◌>>◌ (T.mark d mk.Assign) (L.part el)) (L.◌>>◌ (T.mark d mk.Assign) (L.part el'))
      value_into asked s a m (u, m₁, h, k) = (u, m₁, h, part_into el el' i asked m₁ a m k)

  abbrev next : Language Expr → Mode → Base → List Decl → Language (List Decl)
  next l how b ds = L.◌>>◌ (T.mark d mk.Comma) (L.◌>>=◌ (LS.declarator d l how b) (λ next. L.give (ds ++ next ∷ [])))

  next_into : (how : Mode) (b : Base) (ds : List Decl) → Into (next el how b ds) (next el' how b ds)
  next_into how b ds asked s a m (u, m₁, h, (n, m₂, k, g)) = (u, m₁, h, (n, m₂, declarator_into how b asked m₁ n m₂ k, g))

  declaration_into : (before : List Decl) → Into (LS.declaration d el before) (LS.declaration d el' before)
  declaration_into before asked s a m (how, m₁, h₁, (b, m₂, h₂, (first, m₃, h₃, (all, m₄, h₄, g)))) =
      (how, m₁, h₁, (b, m₂, h₂, (first, m₃, declarator_into how b asked m₂ first m₃ h₃, (all, m₄, turns_into (next el how b) (next el' how b) (next_into how b) asked m₃ (before ++ first ∷ []) all m₄ h₄, g))))

abbrev item : Language Stmt → List Stmt → Language (List Stmt)
item l ss = L.◌>>=◌ l (λ s. L.give (ss ++ s ∷ []))

item_into : (l l' : Language Stmt) → Into l l' → (ss : List Stmt) → Into (item l ss) (item l' ss)
item_into l l' i ss asked s a m (b, m₁, h, g) = (b, m₁, i asked s b m₁ h, g)

contents_into : (d : ℕ) (el el' : Language Expr) (sl sl' : Language Stmt) → Into el el' → Into sl sl' →
    Into (LS.contents d el sl) (LS.contents d el' sl')
contents_into d el el' sl sl' i j asked s a m (ds, m₁, h, (ss, m₂, k, g)) =
    (ds, m₁, turns_into (LS.declaration d el) (LS.declaration d el') (declaration_into d el el' i) asked s [] ds m₁ h, (ss, m₂, turns_into (item sl) (item sl') (item_into sl sl' j) asked m₁ [] ss m₂ k, g))

pub block_into : (d : ℕ) (el el' : Language Expr) (sl sl' : Language Stmt) → Into el el' → Into sl sl' →
    Into (LS.block d el sl) (LS.block d el' sl')
block_into d el el' sl sl' i j asked s a m (from, s₁, e, (k, m₁, (b, m₂, (u, m₃, h, (c, m₄, p, q)), f), g)) =
    (from, s₁, e, (k, m₁, (b, m₂, (u, m₃, h, (c, m₄, contents_into (suc d) el el' sl sl' i j asked m₃ c m₄ p, q)), f), g))

-- ---- what isn't in braces

abbrev branch : Language Stmt → List Stmt → Language (List Stmt)
branch l ss = L.◌>>=◌ (L.kth Branches (suc (length ss)) l) (λ s. L.give (ss ++ s ∷ []))

branch_into : (l l' : Language Stmt) → Into l l' → (ss : List Stmt) → Into (branch l ss) (branch l' ss)
branch_into l l' i ss asked s a m (b, m₁, (n, h), g) = (b, m₁, (n, i asked s b m₁ h), g)

parallel_into : (d : ℕ) (sl sl' : Language Stmt) → Into sl sl' → Into (LS.parallel d sl) (LS.parallel d sl')
parallel_into d sl sl' i asked s a m (u, m₁, h, (ss, m₂, k, g)) = (u, m₁, h, (ss, m₂, turns_into (branch sl) (branch sl') (branch_into sl sl' i) asked m₁ [] ss m₂ k, g))

module _ (d : ℕ) (el el' : Language Expr) (i : Into el el') (bl bl' : Language Stmt) (j : Into bl bl') where
  test_into : Into (LS.header d (L.part el)) (LS.header d (L.part el'))
  test_into asked s a m h = header_into d (L.part el) (L.part el') (part_into el el' i) asked s a m h

  choice_into : Into (LS.choice d el bl) (LS.choice d el' bl')
  choice_into asked s k m (u, m₁, h, (c, m₂, t, (a, m₃, b, inl (v, m₄, e, (f, m₅, g, o))))) = (u, m₁, h, (c, m₂, test_into asked m₁ c m₂ t, (a, m₃, j asked m₂ a m₃ b, inl (v, m₄, e, (f, m₅, j asked m₄ f m₅ g, o)))))
  choice_into asked s k m (u, m₁, h, (c, m₂, t, (a, m₃, b, inr o))) = (u, m₁, h, (c, m₂, test_into asked m₁ c m₂ t, (a, m₃, j asked m₂ a m₃ b, inr o)))

  loop_into : Into (LS.loop d el bl) (LS.loop d el' bl')
  loop_into asked s k m (u, m₁, h, (c, m₂, t, (a, m₃, b, o))) = (u, m₁, h, (c, m₂, test_into asked m₁ c m₂ t, (a, m₃, j asked m₂ a m₃ b, o)))

  module _ (al al' : Language Assign) (n : Into al al') where
    set_into : Into (L.maybe (L.part al)) (L.maybe (L.part al'))
    set_into asked s a m h = maybe_into (L.part al) (L.part al') (part_into al al' n) asked s a m h

    abbrev for_head : Language Assign → Language Expr → Language (Stmt → StmtKind)
    for_head a e = L.◌>>=◌ (L.maybe (L.part a)) (λ i. L.◌>>◌ (T.mark (suc d) mk.Semicolon) (L.◌>>=◌ (L.maybe (L.part e)) (λ c. L.◌>>◌ (T.mark (suc d) mk.Semicolon)
        (L.◌>>=◌ (L.maybe (L.part a)) (λ e. L.give (λ b. For i c e b))))))

    for_head_into : Into (for_head al el) (for_head al' el')
    for_head_into asked s k m (x, m₁, a, (y, m₂, c, (z, m₃, e, (w, m₄, f, (q, m₅, g, o))))) =
        (x, m₁, set_into asked s x m₁ a, (y, m₂, c, (z, m₃, maybe_into (L.part el) (L.part el') (part_into el el' i) asked m₂ z m₃ e, (w, m₄, f, (q, m₅, set_into asked m₄ q m₅ g, o)))))

    for_into : Into (LS.for_loop d al el bl) (LS.for_loop d al' el' bl')
    for_into asked s k m (u, m₁, h, (make, m₂, p, (b, m₃, l, t))) = (u, m₁, h, (make, m₂, header_into d (for_head al el) (for_head al' el') for_head_into asked m₁ make m₂ p, (b, m₃, j asked m₂ b m₃ l, t)))

    abbrev all_head : Language Assign → Language Expr → Language (Stmt → StmtKind)
    all_head a e = L.◌>>=◌ (L.part a) (λ i. L.◌>>◌ (T.mark (suc d) mk.Semicolon) (L.◌>>=◌ (L.part e) (λ c. L.◌>>◌ (T.mark (suc d) mk.Semicolon)
        (L.◌>>=◌ (L.part a) (λ e. L.give (λ b. Forall i c e b))))))

    all_head_into : Into (all_head al el) (all_head al' el')
    all_head_into asked s k m (x, m₁, a, (y, m₂, c, (z, m₃, e, (w, m₄, f, (q, m₅, g, o))))) =
        (x, m₁, part_into al al' n asked s x m₁ a, (y, m₂, c, (z, m₃, part_into el el' i asked m₂ z m₃ e, (w, m₄, f, (q, m₅, part_into al al' n asked m₄ q m₅ g, o)))))

    forall_into : Into (LS.forall_loop d al el bl) (LS.forall_loop d al' el' bl')
    forall_into asked s k m (u, m₁, h, (make, m₂, p, (b, m₃, l, t))) = (u, m₁, h, (make, m₂, header_into d (all_head al el) (all_head al' el') all_head_into asked m₁ make m₂ p, (b, m₃, j asked m₂ b m₃ l, t)))

-- ---- all

pub body_into : (d : ℕ) (el el' : Language Expr) (sl sl' bl bl' : Language Stmt) → Into el el' → Into sl sl' →
    Into bl bl' → Into (body_words d el sl bl) (body_words d el' sl' bl')
body_into d el el' sl sl' bl bl' i j k asked s a m (inl h) = inl (block_into d el el' sl sl' i j asked s a m h)
body_into d el el' sl sl' bl bl' i j k asked s a m (inr h) = inr (k asked s a m h)

module _ (n d : ℕ) (el el' : Language Expr) (al al' : Language Assign) (sl sl' bl bl' : Language Stmt) (i : Into el el')
    (j : Into al al') (k : Into sl sl') (o : Into bl bl') where
  pub bare_into : Into (bare_words n d el al sl bl) (bare_words n d el' al' sl' bl')
  bare_into asked s a m (inl h) = inl (placed_into LS.statement _ _ (parallel_into d sl sl' k) asked s a m h)
  bare_into asked s a m (inr (inl h)) = inr (inl (placed_into LS.statement _ _ (choice_into d el el' i bl bl' o) asked s a m h))
  bare_into asked s a m (inr (inr (inl h))) = inr (inr (inl (placed_into LS.statement _ _ (loop_into d el el' i bl bl' o) asked s a m h)))
  bare_into asked s a m (inr (inr (inr (inl h)))) = inr (inr (inr (inl (placed_into LS.statement _ _ (for_into d el el' i bl bl' o al al' j) asked s a m h))))
  bare_into asked s a m (inr (inr (inr (inr (inl h))))) = inr (inr (inr (inr (inl (placed_into LS.statement _ _ (forall_into d el el' i bl bl' o al al' j) asked s a m h)))))
  bare_into asked s a m (inr (inr (inr (inr (inr h))))) = inr (inr (inr (inr (inr (simple_into (suc n) d (inner_of n d) el el' i asked s a m h)))))
