-- Simple statements, read again.
use Rattle.std.proofs.Common.{◌≡◌, refl, sym, ◌∙◌, ap, ap₂, inl, inr, ◌≤◌, subst, ℕ, suc, true, false, List, [], ◌∷◌, ◌++◌, map, length, codes, Option}
use Rattle.ec_base.specs.declared.token.Mark.TheVariants as m
use Rattle.ec_base.specs.declared.token.Span.{Span}
use Rattle.ec_base.specs.declared.token.TokenKind.TheVariants as t
use Rattle.ec_syntax.specs.Grammar.Expressions as E
use Rattle.ec_syntax.specs.Grammar.Language as L
use Rattle.ec_syntax.specs.Grammar.Language.{Language}
use Rattle.ec_syntax.specs.Grammar.Statements as Z
use Rattle.ec_syntax.specs.Grammar.State.{State, limits}
use Rattle.ec_syntax.specs.Grammar.Tokens as T
use Rattle.ec_syntax.specs.declared.expression.Expr.{Expr}
use Rattle.ec_syntax.specs.declared.quantity.Quantity.TheVariants.{Arguments}
use Rattle.ec_syntax.specs.declared.statement.Stmt.{roll-Stmt}
use Rattle.ec_syntax.specs.declared.statement.StmtKind.{StmtKind, fold-StmtKind, roll-StmtKind}
use Rattle.ec_syntax.specs.declared.statement.StmtKind.TheOpen.{StmtKind-F}
use Rattle.ec_syntax.specs.declared.statement.StmtKind.TheVariants as v
use Rattle.ec_print.specs.Phrase.{Phrase, token, tokens, ◌then◌}
use Rattle.ec_print.specs.Sentence as S
use Rattle.ec_print.specs.Unplaced as U
use Rattle.ec_print.proofs.Again.Readings.{Again, Kinds, as_kinds, as_language, given, behind}
use Rattle.ec_print.proofs.Again.Marks.{mark_again, word_again, sign_again, string_again}
use Rattle.ec_print.proofs.Again.Rules.{settled, made, maybe_again, part_again, placed_again, without_place, kth_again}
use Rattle.ec_print.proofs.Again.Levels.{Operands}
use Rattle.ec_print.proofs.Again.Lists.{Each, further_again}
use Rattle.ec_print.proofs.Again.Calls.{Mirrors, bracketed_again}
use Rattle.ec_print.proofs.Again.Primary.{call_again}
use Rattle.ec_print.proofs.Again.Expressions.{expr_again}
use Rattle.ec_print.proofs.Again.Assignments.{assignment_again}
use Rattle.ec_syntax.proofs.Folds.Statements as tree

-- the phrase of what a statement is
abbrev pub phrase : StmtKind → Phrase
phrase = fold-StmtKind Phrase Phrase Phrase S.of_statement_kind S.of_body S.of_statement

pub said : (x : StmtKind) (at : Span) → S.statement (Z.statement x at) ≡ phrase x
said = tree.stmt_fold S.of_statement_kind S.of_body S.of_statement

image_of : (x : StmtKind) (at : Span) → U.statement (Z.statement x at) ≡ roll-Stmt (record { kind = U.statement_kind x; at = U.nowhere })
image_of = tree.stmt_fold U.of_statement_kind U.of_body U.of_statement

pub seen : (x y : StmtKind) (at bt : Span) → U.statement_kind x ≡ U.statement_kind y → U.statement (Z.statement x at) ≡ U.statement (Z.statement y bt)
seen x y at bt h = image_of x at ∙ ap (λ z. roll-Stmt (record { kind = z; at = U.nowhere })) h ∙ sym (image_of y bt)

-- a statement at its place, read again
pub statement_again : (p p' : Language StmtKind) → Mirrors false phrase U.statement_kind p p' → Mirrors false S.statement U.statement (L.placed Z.statement p) (L.placed Z.statement p')
statement_again p p' H s a n r =
    let (x, at, q, e) = without_place Z.statement p s a n r in
    settled S.statement U.statement e refl (as_kinds (ap tokens (sym (said x at))) (placed_again Z.statement (λ y bt k. seen y x bt at k) (H s x n q)))

-- ---- statements with a semicolon

-- What is read but for its semicolon, again.
abbrev pub Begun : Language StmtKind → Language StmtKind → Type 0
Begun p p' = (s : State) (x : StmtKind) (n : State) → p limits s x n → (ks : Kinds) × (tokens (phrase x) ≡ ks ++ t.Mark m.Semicolon ∷ []) × Again false s n p' ks (λ y. U.statement_kind y ≡ U.statement_kind x)

module _ (d : ℕ) (p p' : Language StmtKind) (H : Begun p p') where
  abbrev ends : Language StmtKind → Language StmtKind
  ends z = L.◌>>=◌ z (λ kind. L.◌>>◌ (T.mark d m.Semicolon) (L.give kind))

  ends_again : Mirrors false phrase U.statement_kind (ends p) (ends p')
  ends_again s x n (y, i, r, (u, j, q, (e, f))) =
      let (ks, w, again) = H s y i r in
      settled phrase U.statement_kind e f (as_kinds (sym w) (behind y refl again (λ y' h. made (λ _. y') (λ _ _. h) (mark_again m.Semicolon q))))

  pub ended_again : Mirrors false S.statement U.statement (Z.ended d p) (Z.ended d p')
  ended_again = statement_again (ends p) (ends p') ends_again

  pub closed_again : Mirrors false S.statement U.statement (Z.closed d p) (Z.closed d p')
  closed_again s a n (b, i, r, (u, j, q, (e, f))) =
      let (x, at, o, k) = without_place Z.statement p s b i r in
      let (ks, w, again) = H s x i o in
      settled S.statement U.statement (e ∙ k) f
      (as_kinds (sym (ap tokens (said x at) ∙ w))
      (behind (Z.statement x at) refl (placed_again Z.statement (λ y bt k. seen y x bt at k) again) (λ b' h. made (λ _. b') (λ _ _. h) (mark_again m.Semicolon q))))

-- ---- one by one

empty_begun : Begun (L.give v.Empty) (L.give v.Empty)
empty_begun s x n (e, f) =
    ([], ap (λ z. tokens (phrase z)) e ∙ ap tokens (tree.empty_fold S.of_statement_kind S.of_body S.of_statement), settled {C = StmtKind} (λ _. Phrase.nothing) U.statement_kind e f (given refl))

abbrev sets : ℕ → ℕ → Language StmtKind
sets nested d = L.◌>>=◌ (L.part (Z.assignment nested d)) (λ a. L.give (v.Set a))

set_begun : (nested d : ℕ) → Begun (sets nested d) (sets (suc nested) d)
set_begun nested d s x n (a, i, r, (e, f)) = (
  tokens (S.assignment a),
  ap (λ z. tokens (phrase z)) e ∙ ap tokens (tree.set_fold S.of_statement_kind S.of_body S.of_statement a),
  settled {C = StmtKind} (λ _. S.assignment a) U.statement_kind e f
      (made v.Set (λ b h. tree.set_fold U.of_statement_kind U.of_body U.of_statement b ∙ ap (λ z. roll-StmtKind (StmtKind-F.Set z)) h ∙ sym (tree.set_fold U.of_statement_kind U.of_body U.of_statement a)) (assignment_again nested d s a i r)),
)

module _ (d : ℕ) (l l' : Language Expr) (H : Operands l l') where
  abbrev evals : Language Expr → Language StmtKind
  evals z = L.◌>>=◌ (L.part (E.call d z)) (λ c. L.give (v.Eval c))

  eval_begun : Begun (evals l) (evals l')
  eval_begun s x n (c, i, r, (e, f)) = (
    tokens (S.call c),
    ap (λ z. tokens (phrase z)) e ∙ ap tokens (tree.eval_fold S.of_statement_kind S.of_body S.of_statement c),
    settled {C = StmtKind} (λ _. S.call c) U.statement_kind e f
        (made v.Eval (λ b h. tree.eval_fold U.of_statement_kind U.of_body U.of_statement b ∙ ap (λ z. roll-StmtKind (StmtKind-F.Eval z)) h ∙ sym (tree.eval_fold U.of_statement_kind U.of_body U.of_statement c))
        (part_again (call_again d l l' H (record s { marks = 0 }) c i r))),
  )

-- ---- two values

abbrev paired : Expr × Expr → Phrase
paired p = S.expression p.0 then S.mark m.Comma then S.expression p.1

abbrev pair_image : Expr × Expr → Expr × Expr
pair_image p = (U.expression p.0, U.expression p.1)

pair_again : (d : ℕ) (l l' : Language Expr) → Operands l l' → Mirrors true paired pair_image (Z.pair d l) (Z.pair d l')
pair_again d l l' H s p n (a, i, r, (u, j, q, (b, k, o, (e, f)))) =
    settled paired pair_image e f
    (behind a refl (H s a i r) (λ a' h. behind tt tt (mark_again m.Comma q) (λ _ _. made (λ b'. (a', b')) (λ b' g. ap₂ (λ x y. let z : Expr × Expr = (x, y) in z) h g) (H j b k o))))

write_alike : (p' p : Expr × Expr) → pair_image p' ≡ pair_image p → U.statement_kind (v.WriteTo p'.0 p'.1) ≡ U.statement_kind (v.WriteTo p.0 p.1)
write_alike p' p h =
    tree.write_to_fold U.of_statement_kind U.of_body U.of_statement p'.0 p'.1 ∙ ap (λ (z : Expr × Expr). roll-StmtKind (StmtKind-F.WriteTo z.0 z.1)) h
    ∙ sym (tree.write_to_fold U.of_statement_kind U.of_body U.of_statement p.0 p.1)

add_alike : (p' p : Expr × Expr) → pair_image p' ≡ pair_image p → U.statement_kind (v.AddTo p'.0 p'.1) ≡ U.statement_kind (v.AddTo p.0 p.1)
add_alike p' p h =
    tree.add_to_fold U.of_statement_kind U.of_body U.of_statement p'.0 p'.1 ∙ ap (λ (z : Expr × Expr). roll-StmtKind (StmtKind-F.AddTo z.0 z.1)) h
    ∙ sym (tree.add_to_fold U.of_statement_kind U.of_body U.of_statement p.0 p.1)

abbrev sends : ℕ → List ℕ → (Expr → Expr → StmtKind) → Language Expr → Language StmtKind
sends d w make z = L.◌>>=◌ (L.part (L.◌>>◌ (T.word d w) (E.bracketed d (Z.pair (suc d) z)))) (λ p. L.give (make p.0 p.1))

send_begun : (d : ℕ) (w : List ℕ) (make : Expr → Expr → StmtKind) → ((a b : Expr) → phrase (make a b) ≡ (S.word w then S.pair a b then S.mark m.Semicolon)) →
    ((p' p : Expr × Expr) → pair_image p' ≡ pair_image p → U.statement_kind (make p'.0 p'.1) ≡ U.statement_kind (make p.0 p.1)) →
    (l l' : Language Expr) → Operands l l' → Begun (sends d w make l) (sends d w make l')
send_begun d w make written alike l l' H s x n (p, i, (u, j, q, r), (e, f)) = (
  t.Word w ∷ tokens (S.bracketed (paired p)),
  ap (λ z. tokens (phrase z)) e ∙ ap tokens (written p.0 p.1),
  settled {C = StmtKind} (λ _. S.word w then S.bracketed (paired p)) U.statement_kind e f
      (made (λ p. make p.0 p.1) (λ p' h. alike p' p h)
      (part_again (behind tt tt (word_again w q) (λ _ _. bracketed_again d paired pair_image (Z.pair (suc d) l) (Z.pair (suc d) l') (pair_again (suc d) l l' H) j p i r)))),
)

-- ---- printf

pub same_length : {A B : Type 0} (f : A → B) (xs ys : List A) → map f ys ≡ map f xs → length ys ≡ length xs
same_length f [] [] h = refl
same_length f [] (y ∷ ys) h = absurd (cc)
same_length f (x ∷ xs) [] h = absurd (cc)
same_length f (x ∷ xs) (y ∷ ys) h = let tail : map f ys ≡ map f xs = cc in ap suc (same_length f xs ys tail)

print_alike : (w o : List ℕ) (es fs : List Expr) → o ≡ w → map U.expression fs ≡ map U.expression es → U.statement_kind (v.Print o fs) ≡ U.statement_kind (v.Print w es)
print_alike w o es fs h g =
    tree.print_fold U.of_statement_kind U.of_body U.of_statement o fs ∙ ap₂ (λ y z. roll-StmtKind (StmtKind-F.Print y z)) h g ∙ sym (tree.print_fold U.of_statement_kind U.of_body U.of_statement w es)

abbrev nth_value : Language Expr → List Expr → Language Expr
nth_value z es = L.kth Arguments (suc (length es)) z

nth_again : (l l' : Language Expr) → Operands l l' → Each S.expression U.expression true (nth_value l) (nth_value l')
nth_again l l' H s xs a n (within, r) ys h = kth_again Arguments (suc (length ys)) (subst (λ k. suc k ≤ 8) (sym (same_length U.expression xs ys h)) within) (H s a n r)

abbrev prints : ℕ → Language Expr → Language StmtKind
prints d z = L.part (L.◌>>◌ (T.word d (codes "printf")) (E.bracketed d (Z.printed (suc d) z)))

print_begun : (d : ℕ) (l l' : Language Expr) → Operands l l' → Begun (prints d l) (prints d l')
print_begun d l l' H s x n (u', i', r', (u, i, r, (y, j, (w, j', q, (es, j'', q', (e', f'))), (o, k, p, (e, f))))) =
    let values = token (t.Str w) then S.further (map S.expression es) in (
      tokens (S.word (codes "printf") then S.bracketed values),
      ap (λ z. tokens (phrase z)) (e ∙ e') ∙ ap tokens (tree.print_fold S.of_statement_kind S.of_body S.of_statement w es),
      part_again {l = L.◌>>◌ (T.word d (codes "printf")) (E.bracketed d (Z.printed (suc d) l'))}
          (settled {C = StmtKind} (λ _. S.word (codes "printf") then S.bracketed values) U.statement_kind e f
          (behind tt tt (word_again (codes "printf") r') (λ _ _. behind tt tt (sign_again m.OpenParen r) (λ _ _.
          behind y refl
          (settled {C = StmtKind} (λ _. values) U.statement_kind e' f'
          (behind w refl (string_again q) (λ w' h. made (v.Print w') (λ fs g. print_alike w w' es fs h g) (further_again S.expression U.expression (nth_value l) (nth_value l') (nth_again l l' H) (suc d) j' es j'' q'))))
          (λ y' h. made (λ _. y') (λ _ _. h) (sign_again m.CloseParen p)))))),
    )

-- ---- return

return_alike : (a b : Option Expr) → U.optional U.expression b ≡ U.optional U.expression a → U.statement_kind (v.Return b) ≡ U.statement_kind (v.Return a)
return_alike a b h =
    tree.return_fold U.of_statement_kind U.of_body U.of_statement b ∙ ap (λ z. roll-StmtKind (StmtKind-F.Return z)) h ∙ sym (tree.return_fold U.of_statement_kind U.of_body U.of_statement a)

abbrev returns : ℕ → ℕ → Language StmtKind
returns nested d = L.◌>>=◌ (L.part (L.◌>>◌ (T.word d (codes "return")) (L.maybe (E.expr nested d)))) (λ e. L.give (v.Return e))

return_begun : (nested d : ℕ) → Begun (returns nested d) (returns (suc nested) d)
return_begun nested d s x n (a, i, (u, j, q, r), (e, f)) =
    let written = S.word (codes "return") then S.optional S.expression a in (
      tokens written,
      ap (λ z. tokens (phrase z)) e ∙ ap tokens (tree.return_fold S.of_statement_kind S.of_body S.of_statement a),
      settled {C = StmtKind} (λ _. written) U.statement_kind e f
          (made v.Return (λ b h. return_alike a b h)
          (part_again {l = L.◌>>◌ (T.word d (codes "return")) (L.maybe (E.expr (suc nested) d))}
          (behind tt tt (word_again (codes "return") q) (λ _ _. maybe_again S.expression U.expression (E.expr nested d) (expr_again nested d) j a i r)))),
    )

-- ---- all together

pub simple_again : (nested d : ℕ) (l l' : Language Expr) → Operands l l' → Mirrors false S.statement U.statement (Z.simple nested d l) (Z.simple (suc nested) d l')
simple_again nested d l l' H s a n (inl r) = as_language (λ t b n r. inl r) (ended_again d (L.give v.Empty) (L.give v.Empty) empty_begun s a n r)
simple_again nested d l l' H s a n (inr (inl r)) = as_language (λ t b n r. inr (inl r)) (ended_again d (sets nested d) (sets (suc nested) d) (set_begun nested d) s a n r)
simple_again nested d l l' H s a n (inr (inr (inl r))) = as_language (λ t b n r. inr (inr (inl r))) (ended_again d (evals d l l' H l) (evals d l l' H l') (eval_begun d l l' H) s a n r)
simple_again nested d l l' H s a n (inr (inr (inr (inl r)))) =
    as_language (λ t b n r. inr (inr (inr (inl r))))
    (closed_again d (sends d (codes "writeto") v.WriteTo l) (sends d (codes "writeto") v.WriteTo l') (send_begun d (codes "writeto") v.WriteTo (tree.write_to_fold S.of_statement_kind S.of_body S.of_statement) write_alike l l' H) s a n r)
simple_again nested d l l' H s a n (inr (inr (inr (inr (inl r))))) =
    as_language (λ t b n r. inr (inr (inr (inr (inl r)))))
    (closed_again d (sends d (codes "addto") v.AddTo l) (sends d (codes "addto") v.AddTo l') (send_begun d (codes "addto") v.AddTo (tree.add_to_fold S.of_statement_kind S.of_body S.of_statement) add_alike l l' H) s a n r)
simple_again nested d l l' H s a n (inr (inr (inr (inr (inr (inl r)))))) = as_language (λ t b n r. inr (inr (inr (inr (inr (inl r)))))) (closed_again d (prints d l) (prints d l') (print_begun d l l' H) s a n r)
simple_again nested d l l' H s a n (inr (inr (inr (inr (inr (inr r)))))) = as_language (λ t b n r. inr (inr (inr (inr (inr (inr r)))))) (ended_again d (returns nested d) (returns (suc nested) d) (return_begun nested d) s a n r)
