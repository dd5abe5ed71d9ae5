-- Brackets, calls and allocations, read again.
use Rattle.std.proofs.Common.{◌≡◌, refl, sym, ◌∙◌, ap, inl, inr, ℕ, Bool, true, List, [], ◌∷◌, map, codes}
use Rattle.ec_base.specs.declared.token.Mark.TheVariants as m
use Rattle.ec_base.specs.declared.token.TokenKind.TheVariants as t
use Rattle.ec_syntax.specs.Grammar.Expressions as E
use Rattle.ec_syntax.specs.Grammar.Language as L
use Rattle.ec_syntax.specs.Grammar.Language.{Language}
use Rattle.ec_syntax.specs.Grammar.State.{State, limits}
use Rattle.ec_syntax.specs.Grammar.Tokens as T
use Rattle.ec_syntax.specs.declared.expression.Expr.{Expr}
use Rattle.ec_syntax.specs.declared.expression.Placement.{Placement}
use Rattle.ec_syntax.specs.declared.expression.Placement.TheVariants.{OwnerOf, Home, Node, Anywhere}
use Rattle.ec_print.specs.Phrase.{Phrase, tokens, ◌then◌}
use Rattle.ec_print.specs.Sentence as S
use Rattle.ec_print.specs.Unplaced as U
use Rattle.ec_print.proofs.Again.Readings.{Again, Kinds, as_kinds, as_language, given, behind}
use Rattle.ec_print.proofs.Again.Marks.{word_again, sign_again}
use Rattle.ec_print.proofs.Again.Rules.{Repeats, settled, made}
use Rattle.ec_print.proofs.Again.Lists.{listed_again}
use Rattle.ec_print.proofs.Again.Levels.{Operands}
use Rattle.ec_print.proofs.Again.Folds.{owner_alike, node_alike}
use Rattle.ec_syntax.proofs.Folds.Expressions as tree

-- ---- brackets

-- What is read from s to n is read again.
abbrev pub Mirrors : {A C : Type 0} → Bool → (A → Phrase) → (A → C) → Language A → Language A → Type 0
Mirrors tight written image l l' = (s : State) (a : _) (n : State) → l limits s a n → Repeats tight written image l' s a n

pub bracketed_again : {A C : Type 0} (d : ℕ) (written : A → Phrase) (image : A → C) (l l' : Language A) → Mirrors true written image l l' → Mirrors true (λ a. S.bracketed (written a)) image (E.bracketed d l) (E.bracketed d l')
bracketed_again d written image l l' H s b n (u, i, r, (a, j, q, (v, k, p, (e, f)))) =
    settled (λ a. S.bracketed (written a)) image e f
    (behind tt tt (sign_again m.OpenParen r) (λ _ _. behind a refl (H i a j q) (λ a' h. made (λ _. a') (λ _ _. h) (sign_again m.CloseParen p))))

-- ---- calls

pub arguments_again : (d : ℕ) (l l' : Language Expr) → Operands l l' → Mirrors true (λ es. S.listed (map S.expression es)) (map U.expression) (E.arguments d l) (E.arguments d l')
arguments_again d l l' H s es n (inl (e, f)) = settled (λ es. S.listed (map S.expression es)) (map U.expression) e f (as_language (λ t b n r. inl r) (given refl))
arguments_again d l l' H s es n (inr r) =
    as_language (λ t b n r. inr r) (listed_again S.expression U.expression (λ _. l) (λ _. l') (λ s xs a n q ys h. H s a n q) d s es n r)

place_word : (s : State) (p : Placement) (n : State) (w : List ℕ) (q : Placement) (d : ℕ) → (tokens (S.placement q) ≡ t.Mark m.At ∷ (t.Word w ∷ [])) → L.◌>>◌ (T.word d w) (L.give q) limits s p n →
    (Again true s n (L.◌>>◌ (T.word d w) (L.give q)) (t.Word w ∷ []) (λ b. U.placement b ≡ U.placement p)) × (tokens (S.placement p) ≡ t.Mark m.At ∷ (t.Word w ∷ []))
place_word s p n w q d k (u, i, r, (e, f)) = (settled (λ _. S.word w) U.placement e f (made (λ _. q) (λ _ _. refl) (word_again w r)), ap (λ z. tokens (S.placement z)) e ∙ k)

module _ (d : ℕ) (l l' : Language Expr) (H : Operands l l') where
  place_at : (w : List ℕ) (make : Expr → Placement) → ((a : Expr) → S.placement (make a) ≡ (S.at w then S.bracketed (S.expression a))) →
      ((a' a : Expr) → U.expression a' ≡ U.expression a → U.placement (make a') ≡ U.placement (make a)) →
      (s : State) (p : Placement) (n : State) → L.◌>>◌ (T.word d w) (L.◌>>=◌ (E.bracketed d l) (λ a. L.give (make a))) limits s p n →
      (ks : Kinds) × (tokens (S.placement p) ≡ t.Mark m.At ∷ ks) × Again true s n (L.◌>>◌ (T.word d w) (L.◌>>=◌ (E.bracketed d l') (λ a. L.give (make a)))) ks (λ b. U.placement b ≡ U.placement p)
  place_at w make said alike s p n (u, i, r, (a, j, q, (e, f))) = (
    t.Word w ∷ tokens (S.bracketed (S.expression a)),
    ap (λ z. tokens (S.placement z)) e ∙ ap tokens (said a),
    settled (λ _. S.word w then S.bracketed (S.expression a)) U.placement e f
        (behind tt tt (word_again w r) (λ _ _. made make (λ a' h. alike a' a h) (bracketed_again d S.expression U.expression l l' H i a j q))),
  )

  abbrev placing : Language Expr → Language Placement
  placing z =
      L.◌or◌ (L.◌>>◌ (T.word d (codes "OWNER_OF")) (L.◌>>=◌ (E.bracketed d z) (λ a. L.give (OwnerOf a))))
      (L.◌or◌ (L.◌>>◌ (T.word d (codes "HOME")) (L.give Home))
      (L.◌or◌ (L.◌>>◌ (T.word d (codes "NODE")) (L.◌>>=◌ (E.bracketed d z) (λ a. L.give (Node a)))) (L.◌>>◌ (T.word d (codes "ANYWHERE")) (L.give Anywhere))))

  placing_again : (s : State) (p : Placement) (n : State) → placing l limits s p n → (ks : Kinds) × (tokens (S.placement p) ≡ t.Mark m.At ∷ ks) × Again true s n (placing l') ks (λ b. U.placement b ≡ U.placement p)
  unfolding S.at_owner
  placing_again s p n (inl r) =
      let (ks, e, g) = place_at (codes "OWNER_OF") OwnerOf (tree.owner_fold S.of_kind S.of_place S.of_call S.of_expression) owner_alike s p n r in (ks, e, as_language (λ t b n r. inl r) g)
  placing_again s p n (inr (inl r)) =
      let (g, e) = place_word s p n (codes "HOME") Home d (ap tokens (tree.home_fold S.of_kind S.of_place S.of_call S.of_expression)) r in (t.Word (codes "HOME") ∷ [], e, as_language (λ t b n r. inr (inl r)) g)
  placing_again s p n (inr (inr (inl r))) =
      let (ks, e, g) = place_at (codes "NODE") Node (tree.node_fold S.of_kind S.of_place S.of_call S.of_expression) node_alike s p n r in (ks, e, as_language (λ t b n r. inr (inr (inl r))) g)
  placing_again s p n (inr (inr (inr r))) =
      let (g, e) = place_word s p n (codes "ANYWHERE") Anywhere d (ap tokens (tree.anywhere_fold S.of_kind S.of_place S.of_call S.of_expression)) r in (t.Word (codes "ANYWHERE") ∷ [], e, as_language (λ t b n r. inr (inr (inr r))) g)

  pub place_again : Mirrors true S.placement U.placement (E.place d l) (E.place d l')
  place_again s p n (inl (e, f)) =
      settled S.placement U.placement e f (as_kinds (ap tokens (sym (tree.here_fold S.of_kind S.of_place S.of_call S.of_expression))) (as_language (λ t b n r. inl r) (given refl)))
  place_again s p n (inr (u, i, r, q)) =
      let (ks, e, g) = placing_again i p n q in
      as_kinds (sym e) (as_language (λ t b n r. inr r) (behind tt tt (sign_again m.At r) (λ _ _. g)))
