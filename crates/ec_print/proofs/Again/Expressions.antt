-- Expressions, read again.
use Rattle.std.proofs.Common.{◌≡◌, refl, sym, ◌∙◌, ap, subst, inl, inr, ℕ, zero, suc, true, List, [], ◌∷◌, ◌++◌, codes, Some}
use Rattle.ec_base.specs.declared.operator.UnOp.TheVariants.{Neg, Inv, Not}
use Rattle.ec_base.specs.declared.token.Mark.{Mark}
use Rattle.ec_base.specs.declared.token.Mark.TheVariants as m
use Rattle.ec_base.specs.declared.token.TokenKind.TheVariants as t
use Rattle.ec_syntax.specs.Grammar.Expressions as E
use Rattle.ec_syntax.specs.Grammar.Expressions.{of_mark, prefix_of}
use Rattle.ec_syntax.specs.Grammar.Language as L
use Rattle.ec_syntax.specs.Grammar.Language.{Language}
use Rattle.ec_syntax.specs.Grammar.State.{State, limits}
use Rattle.ec_syntax.specs.Grammar.Tokens as T
use Rattle.ec_syntax.specs.declared.expression.Expr.{Expr}
use Rattle.ec_syntax.specs.declared.expression.ExprKind.{ExprKind}
use Rattle.ec_syntax.specs.declared.expression.ExprKind.TheVariants as v
use Rattle.ec_syntax.proofs.Tokens.Classes.{chosen_kind}
use Rattle.ec_print.specs.Phrase.{tokens, ◌then◌}
use Rattle.ec_print.specs.Sentence as S
use Rattle.ec_print.specs.Unplaced as U
use Rattle.ec_print.proofs.Again.Readings.{Again, Kinds, as_kinds, as_language, to_state, mapped, behind}
use Rattle.ec_print.proofs.Again.Marks.{word_again, sign_again, name_again, number_again, operator_again}
use Rattle.ec_print.proofs.Again.Rules.{Grows, settled, made, turns_again}
use Rattle.ec_print.proofs.Again.Levels.{Operands, levels_again, spoken}
use Rattle.ec_print.proofs.Again.Calls.{Mirrors, bracketed_again}
use Rattle.ec_print.proofs.Again.Primary.{call_expression_again, malloc_again}
use Rattle.ec_print.proofs.Again.Folds.{phrase, said, seen, expression_again, paren_alike, unary_alike, deref_alike, valueof_alike, index_alike, arrow_alike, dot_alike}
use Rattle.ec_syntax.proofs.Folds.Expressions as tree

-- ---- what operands begin with

number_expression : (d : ℕ) → Mirrors true phrase U.kind (L.◌>>=◌ (T.number d) (λ n. L.give (v.Number n))) (L.◌>>=◌ (T.number d) (λ n. L.give (v.Number n)))
number_expression d s x n (z, i, r, (e, f)) =
    settled phrase U.kind e f (as_kinds (ap tokens (sym (tree.number_fold S.of_kind S.of_place S.of_call S.of_expression z))) (made v.Number (λ b h. ap (λ w. U.kind (v.Number w)) h) (number_again r)))

null_expression : (d : ℕ) → Mirrors true phrase U.kind (L.◌>>◌ (T.word d (codes "NULL")) (L.give v.Null)) (L.◌>>◌ (T.word d (codes "NULL")) (L.give v.Null))
null_expression d s x n (u, i, r, (e, f)) =
    settled phrase U.kind e f (as_kinds (ap tokens (sym (tree.null_fold S.of_kind S.of_place S.of_call S.of_expression))) (made (λ _. v.Null) (λ _ _. refl) (word_again (codes "NULL") r)))

variable_expression : (d : ℕ) → Mirrors true phrase U.kind (L.◌>>=◌ (T.name d) (λ n. L.give (v.Var n.text))) (L.◌>>=◌ (T.name d) (λ n. L.give (v.Var n.text)))
variable_expression d s x n (a, i, r, (e, f)) =
    settled phrase U.kind e f
    (as_kinds (ap tokens (sym (tree.var_fold S.of_kind S.of_place S.of_call S.of_expression a.text))) (made (λ b. v.Var b.text) (λ b h. ap (λ w. U.kind (v.Var w)) h) (name_again r)))

module _ (d : ℕ) (l l' : Language Expr) (H : Operands l l') where
  inner_again : Operands (E.expr_of (suc d) l) (E.expr_of (suc d) l')
  inner_again = levels_again (suc d) 10 l l' H

  abbrev parens : Language Expr → Language ExprKind
  parens z = L.◌>>=◌ (E.bracketed d (E.expr_of (suc d) z)) (λ e. L.give (v.Paren e))

  paren_expression : Mirrors true phrase U.kind (parens l) (parens l')
  paren_expression s x n (a, i, r, (e, f)) =
      settled phrase U.kind e f
      (as_kinds (ap tokens (sym (tree.paren_fold S.of_kind S.of_place S.of_call S.of_expression a)))
      (made v.Paren (λ b h. paren_alike b a h) (bracketed_again d S.expression U.expression (E.expr_of (suc d) l) (E.expr_of (suc d) l') inner_again s a i r)))

  abbrev values : Language Expr → Language ExprKind
  values z = L.◌>>◌ (T.word d (codes "valueof")) (L.◌>>=◌ (E.bracketed d (E.expr_of (suc d) z)) (λ e. L.give (v.ValueOf e)))

  value_expression : Mirrors true phrase U.kind (values l) (values l')
  value_expression s x n (u, j, q, (a, i, r, (e, f))) =
      settled phrase U.kind e f
      (as_kinds (ap tokens (sym (tree.valueof_fold S.of_kind S.of_place S.of_call S.of_expression a)))
      (behind tt tt (word_again (codes "valueof") q) (λ _ _. made v.ValueOf (λ b h. valueof_alike b a h) (bracketed_again d S.expression U.expression (E.expr_of (suc d) l) (E.expr_of (suc d) l') inner_again j a i r))))

  pub primary_again : Operands (E.primary d l) (E.primary d l')
  primary_again s a n (inl r) = as_language (λ t b n r. inl r) (expression_again (L.◌>>=◌ (T.number d) (λ n. L.give (v.Number n))) (L.◌>>=◌ (T.number d) (λ n. L.give (v.Number n))) (number_expression d) s a n r)
  primary_again s a n (inr (inl r)) =
      as_language (λ t b n r. inr (inl r)) (expression_again (L.◌>>◌ (T.word d (codes "NULL")) (L.give v.Null)) (L.◌>>◌ (T.word d (codes "NULL")) (L.give v.Null)) (null_expression d) s a n r)
  primary_again s a n (inr (inr (inl r))) =
      as_language (λ t b n r. inr (inr (inl r))) (expression_again (L.◌>>=◌ (T.name d) (λ n. L.give (v.Var n.text))) (L.◌>>=◌ (T.name d) (λ n. L.give (v.Var n.text))) (variable_expression d) s a n r)
  primary_again s a n (inr (inr (inr (inl r)))) = as_language (λ t b n r. inr (inr (inr (inl r)))) (call_expression_again d (E.expr_of (suc d) l) (E.expr_of (suc d) l') inner_again s a n r)
  primary_again s a n (inr (inr (inr (inr (inl r))))) = as_language (λ t b n r. inr (inr (inr (inr (inl r))))) (expression_again (parens l) (parens l') paren_expression s a n r)
  primary_again s a n (inr (inr (inr (inr (inr (inl r)))))) = as_language (λ t b n r. inr (inr (inr (inr (inr (inl r)))))) (expression_again (E.malloc d l) (E.malloc d l') (malloc_again d l l' H) s a n r)
  primary_again s a n (inr (inr (inr (inr (inr (inr r)))))) = as_language (λ t b n r. inr (inr (inr (inr (inr (inr r)))))) (expression_again (values l) (values l') value_expression s a n r)

-- ---- what stands behind operands

-- What is selected of the value before adds these kinds.
abbrev Selects : (Expr → Language ExprKind) → Expr → State → ExprKind → State → Type 0
Selects l a s x n = (ks : Kinds) × (tokens (phrase x) ≡ spoken a ++ ks) × ((a' : Expr) → U.expression a' ≡ U.expression a → Again true s n (l a') ks (λ y. U.kind y ≡ U.kind x))

module _ (d : ℕ) (l l' : Language Expr) (H : Operands l l') where
  abbrev indices : Language Expr → Expr → Language ExprKind
  indices z a = L.◌>>◌ (T.sign d m.OpenBracket) (L.◌>>=◌ (E.expr_of (suc d) z) (λ i. L.◌>>◌ (T.sign (suc d) m.CloseBracket) (L.give (v.Index a i))))

  index_selects : (a : Expr) (s : State) (x : ExprKind) (n : State) → indices l a limits s x n → Selects (indices l') a s x n
  index_selects a s x n (u, i, r, (b, j, q, (w, k, p, (e, f)))) = (
    t.Mark m.OpenBracket ∷ (spoken b ++ t.Mark m.CloseBracket ∷ []),
    ap (λ z. tokens (phrase z)) e ∙ ap tokens (tree.index_fold S.of_kind S.of_place S.of_call S.of_expression a b),
    λ a' h. settled (λ _. S.mark m.OpenBracket then S.expression b then S.mark m.CloseBracket) U.kind e f
        (behind tt tt (sign_again m.OpenBracket r) (λ _ _. behind b refl (inner_again d l l' H i b j q) (λ b' g. made (λ _. v.Index a' b') (λ _ _. index_alike a' a h b' b g) (sign_again m.CloseBracket p)))),
  )

abbrev fields : ℕ → Mark → (Expr → List ℕ → ExprKind) → Expr → Language ExprKind
fields d k make a = L.◌>>◌ (T.sign d k) (L.◌>>=◌ (T.name d) (λ x. L.give (make a x.text)))

field_selects : (d : ℕ) (k : Mark) (make : Expr → List ℕ → ExprKind) → ((a : Expr) (x : List ℕ) → phrase (make a x) ≡ (S.expression a then S.mark k then S.word x)) →
    ((a' a : Expr) → U.expression a' ≡ U.expression a → (x : List ℕ) → U.kind (make a' x) ≡ U.kind (make a x)) →
    (a : Expr) (s : State) (x : ExprKind) (n : State) → fields d k make a limits s x n → Selects (fields d k make) a s x n
field_selects d k make written alike a s x n (u, i, r, (y, j, q, (e, f))) = (
  t.Mark k ∷ (t.Word y.text ∷ []),
  ap (λ z. tokens (phrase z)) e ∙ ap tokens (written a y.text),
  λ a' h. settled (λ _. S.mark k then S.word y.text) U.kind e f
      (behind tt tt (sign_again k r) (λ _ _. made (λ z. make a' z.text) (λ z g. ap (λ w. U.kind (make a' w)) g ∙ alike a' a h y.text) (name_again q))),
)

module _ (d : ℕ) (l l' : Language Expr) (H : Operands l l') where
  abbrev selections : Language Expr → Expr → Language ExprKind
  selections z a = L.◌or◌ (indices d l l' H z a) (L.◌or◌ (fields d m.Arrow v.Arrow a) (fields d m.Dot v.Dot a))

  selects : (a : Expr) (s : State) (x : ExprKind) (n : State) → selections l a limits s x n → Selects (selections l') a s x n
  selects a s x n (inl r) = let (ks, e, g) = index_selects d l l' H a s x n r in (ks, e, λ a' h. as_language (λ t b n r. inl r) (g a' h))
  selects a s x n (inr (inl r)) =
      let (ks, e, g) = field_selects d m.Arrow v.Arrow (tree.arrow_fold S.of_kind S.of_place S.of_call S.of_expression) arrow_alike a s x n r in (ks, e, λ a' h. as_language (λ t b n r. inr (inl r)) (g a' h))
  selects a s x n (inr (inr r)) =
      let (ks, e, g) = field_selects d m.Dot v.Dot (tree.dot_fold S.of_kind S.of_place S.of_call S.of_expression) dot_alike a s x n r in (ks, e, λ a' h. as_language (λ t b n r. inr (inr r)) (g a' h))

  selected_grows : (s : State) (a b : Expr) (n : State) → E.selected d l a limits s b n → Grows true spoken U.expression (E.selected d l') s a b n
  selected_grows s a b n (x, i, r, (to, j, (e, f), (g, h))) =
      let (ks, w, again) = selects a s x i r in
      let at = L.span a.at.from to in (
        ks,
        ap spoken g ∙ ap tokens (said x at) ∙ w,
        λ a' k. to_state (h ∙ f)
            (mapped (λ t y o q c.
            (E.expression y (L.span a'.at.from o.end), (y, o, q, (o.end, o, (refl, refl), (refl, refl))), seen y x (L.span a'.at.from o.end) at c ∙ ap U.expression (sym g)))
            (again a' k)),
      )

  pub postfix_again : Operands (E.postfix d l) (E.postfix d l')
  postfix_again s a n (first, i, r, rs) =
      let g = turns_again spoken U.expression selected_grows i first a n rs in
      as_kinds (sym g.1) (behind first refl (primary_again d l l' H s first i r) g.2)

-- ---- prefixes

-- what is made of an operand is written with this mark before it
pub record Prefixed (k : Mark) (make : Expr → ExprKind) : Type 0 where
  pub written : (a : Expr) → phrase (make a) ≡ (S.mark k then S.expression a)
  alike : (a' a : Expr) → U.expression a' ≡ U.expression a → U.kind (make a') ≡ U.kind (make a)

prefixed_by : (k : Mark) (other make : Expr → ExprKind) → Prefixed k other → Some other ≡ Some make → Prefixed k make
prefixed_by k other make f e = let same : other ≡ make = cc in subst (λ z. Prefixed k z) same f

pub prefixed : (k : Mark) (make : Expr → ExprKind) → prefix_of k ≡ Some make → Prefixed k make
prefixed m.Minus make e = prefixed_by m.Minus (v.Unary Neg) make (record { written = tree.unary_fold S.of_kind S.of_place S.of_call S.of_expression Neg; alike = λ a' a h. unary_alike a' a h Neg }) e
prefixed m.Bang make e = prefixed_by m.Bang (v.Unary Not) make (record { written = tree.unary_fold S.of_kind S.of_place S.of_call S.of_expression Not; alike = λ a' a h. unary_alike a' a h Not }) e
prefixed m.Tilde make e = prefixed_by m.Tilde (v.Unary Inv) make (record { written = tree.unary_fold S.of_kind S.of_place S.of_call S.of_expression Inv; alike = λ a' a h. unary_alike a' a h Inv }) e
prefixed m.Star make e = prefixed_by m.Star v.Deref make (record { written = tree.deref_fold S.of_kind S.of_place S.of_call S.of_expression; alike = deref_alike }) e
prefixed _ make e = absurd (cc)

abbrev prefixes : ℕ → Language Expr → Language ExprKind
prefixes d z = L.◌>>=◌ (T.operator d (of_mark prefix_of)) (λ make. L.◌>>=◌ z (λ e. L.give (make e)))

prefix_again : (d : ℕ) (l l' : Language Expr) → Operands l l' → Mirrors true phrase U.kind (prefixes d l) (prefixes d l')
prefix_again d l l' H s x n (make, i, r, (a, j, q, (e, f))) =
    let (k, has, picks) = chosen_kind prefix_of r.token make r.picked in
    let fact = prefixed k make picks in
    settled phrase U.kind e f
    (as_kinds (ap tokens (sym (fact.written a)))
    (behind make refl (operator_again prefix_of make r k has) (λ make' w. made make' (λ a' h. ap (λ z. U.kind (z a')) w ∙ fact.alike a' a h) (H i a j q))))

abbrev addresses : ℕ → Language ExprKind
addresses d = L.◌>>◌ (T.sign d m.And) (L.◌>>=◌ (T.name (suc d)) (λ x. L.give (v.Address x.text)))

address_again : (d : ℕ) → Mirrors true phrase U.kind (addresses d) (addresses d)
address_again d s x n (u, i, r, (a, j, q, (e, f))) =
    settled phrase U.kind e f
    (as_kinds (ap tokens (sym (tree.address_fold S.of_kind S.of_place S.of_call S.of_expression a.text)))
    (behind tt tt (sign_again m.And r) (λ _ _. made (λ b. v.Address b.text) (λ b h. ap (λ w. U.kind (v.Address w)) h) (name_again q))))

-- ---- all together

pub unary_again : (nested d : ℕ) → Operands (E.unary nested d) (E.unary (suc nested) d)
unary_again zero d s a n r = absurd r
unary_again (suc nested) d s a n (inl r) =
    as_language (λ t b n r. inl r) (expression_again (prefixes d (E.unary nested (suc d))) (prefixes d (E.unary (suc nested) (suc d))) (prefix_again d (E.unary nested (suc d)) (E.unary (suc nested) (suc d)) (unary_again nested (suc d))) s a n r)
unary_again (suc nested) d s a n (inr (inl r)) = as_language (λ t b n r. inr (inl r)) (expression_again (addresses d) (addresses d) (address_again d) s a n r)
unary_again (suc nested) d s a n (inr (inr r)) = as_language (λ t b n r. inr (inr r)) (postfix_again d (E.unary nested (suc d)) (E.unary (suc nested) (suc d)) (unary_again nested (suc d)) s a n r)

pub expr_again : (nested d : ℕ) → Operands (E.expr nested d) (E.expr (suc nested) d)
expr_again nested d = levels_again d 10 (E.unary nested d) (E.unary (suc nested) d) (unary_again nested d)
