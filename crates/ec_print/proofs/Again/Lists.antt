-- Lists of what is read one behind the other, with and without commas, read again.
use Rattle.std.proofs.Common.{◌≡◌, refl, sym, ◌∙◌, ap, ℕ, Bool, List, [], ◌∷◌, ◌++◌, map, append_assoc, append-nil}
use mathlib.Core.List.{map-append}
use Rattle.ec_base.specs.declared.token.Mark.TheVariants as m
use Rattle.ec_base.specs.declared.token.TokenKind.TheVariants as t
use Rattle.ec_syntax.specs.Grammar.Language as L
use Rattle.ec_syntax.specs.Grammar.Language.{Language}
use Rattle.ec_syntax.specs.Grammar.State.{State, limits}
use Rattle.ec_syntax.specs.Grammar.Tokens as T
use Rattle.ec_print.specs.Phrase.{Phrase, tokens, ◌then◌}
use Rattle.ec_print.specs.Sentence as S
use Rattle.ec_print.proofs.Again.Readings.{Kinds, as_kinds, behind}
use Rattle.ec_print.proofs.Again.Marks.{mark_again}
use Rattle.ec_print.proofs.Again.Rules.{Repeats, Grows, settled, made, turns_again}

-- ---- phrases of lists

pub further-append : (xs ys : List Phrase) → tokens (S.further (xs ++ ys)) ≡ tokens (S.further xs) ++ tokens (S.further ys)
further-append [] ys = refl
further-append (x ∷ xs) ys =
    ap (λ z. t.Mark m.Comma ∷ (tokens x ++ z)) (further-append xs ys)
    ∙ ap (λ z. t.Mark m.Comma ∷ z) (sym (append_assoc (tokens x) (tokens (S.further xs)) (tokens (S.further ys))))

pub joined-append : (xs ys : List Phrase) → tokens (S.joined (xs ++ ys)) ≡ tokens (S.joined xs) ++ tokens (S.joined ys)
joined-append [] ys = refl
joined-append (x ∷ xs) ys = ap (λ z. tokens x ++ z) (joined-append xs ys) ∙ sym (append_assoc (tokens x) (tokens (S.joined xs)) (tokens (S.joined ys)))

-- what stands behind the first comma is the list
pub listed_tail : (xs : List Phrase) (ks : Kinds) → tokens (S.further xs) ≡ t.Mark m.Comma ∷ ks → tokens (S.listed xs) ≡ ks
listed_tail [] ks h = absurd (cc)
listed_tail (x ∷ xs) ks h = cc

module _ {A : Type 0} (phrase : A → Phrase) (image : A → A) where
  abbrev pub commas : List A → Kinds
  commas xs = tokens (S.further (map phrase xs))

  abbrev pub joins : List A → Kinds
  joins xs = tokens (S.joined (map phrase xs))

  pub commas-snoc : (xs : List A) (x : A) → commas (xs ++ x ∷ []) ≡ commas xs ++ t.Mark m.Comma ∷ tokens (phrase x)
  commas-snoc xs x =
      ap (λ z. tokens (S.further z)) (map-append phrase xs (x ∷ []))
      ∙ further-append (map phrase xs) (phrase x ∷ [])
      ∙ ap (λ z. commas xs ++ t.Mark m.Comma ∷ z) (append-nil (tokens (phrase x)))

  pub joins-append : (xs ys : List A) → joins (xs ++ ys) ≡ joins xs ++ joins ys
  joins-append xs ys = ap (λ z. tokens (S.joined z)) (map-append phrase xs ys) ∙ joined-append (map phrase xs) (map phrase ys)

  pub joins-snoc : (xs : List A) (x : A) → joins (xs ++ x ∷ []) ≡ joins xs ++ tokens (phrase x)
  joins-snoc xs x = joins-append xs (x ∷ []) ∙ ap (λ z. joins xs ++ z) (append-nil (tokens (phrase x)))

  pub images-snoc : (xs ys : List A) (x y : A) → map image ys ≡ map image xs → image y ≡ image x → map image (ys ++ y ∷ []) ≡ map image (xs ++ x ∷ [])
  images-snoc xs ys x y h k = map-append image ys (y ∷ []) ∙ ap (λ z. z ++ image y ∷ []) h ∙ ap (λ z. map image xs ++ z ∷ []) k ∙ sym (map-append image xs (x ∷ []))

  -- What one of a list is read as again, behind the same number of others.
  abbrev pub Each : Bool → (List A → Language A) → (List A → Language A) → Type 0
  Each tight l l' = (s : State) (xs : List A) (a : A) (n : State) → l xs limits s a n → (ys : List A) → map image ys ≡ map image xs → Repeats tight phrase image (l' ys) s a n

  abbrev pub more_of : (List A → Language A) → List A → Language (List A)
  more_of l xs = L.◌>>=◌ (l xs) (λ x. L.give (xs ++ x ∷ []))

  module _ {tight : Bool} (l l' : List A → Language A) (H : Each tight l l') where
    join_grows : (s : State) (xs ys : List A) (n : State) → more_of l xs limits s ys n → Grows tight joins (map image) (more_of l') s xs ys n
    join_grows s xs ys n (a, i, r, (e, f)) = (
      tokens (phrase a),
      ap joins e ∙ joins-snoc xs a,
      λ zs k. settled (λ _. phrase a) (map image) e f (made (λ x. zs ++ x ∷ []) (λ x h. images-snoc xs zs a x k h) (H s xs a i r zs k)),
    )

    pub joins_grow : (s : State) (xs ys : List A) (n : State) → L.turns (more_of l) xs limits s ys n → Grows tight joins (map image) (L.turns (more_of l')) s xs ys n
    joins_grow = turns_again joins (map image) join_grows

    pub joined_again : (s : State) (xs : List A) (n : State) → L.turns (more_of l) [] limits s xs n → Repeats tight (λ xs. S.joined (map phrase xs)) (map image) (L.turns (more_of l') []) s xs n
    joined_again s xs n r = let g = joins_grow s [] xs n r in as_kinds (sym g.1) (g.2 [] refl)

    abbrev pub comma_before : ℕ → (List A → Language A) → List A → Language (List A)
    comma_before d l xs = L.◌>>◌ (T.mark d m.Comma) (more_of l xs)

    comma_grows : (d : ℕ) (s : State) (xs ys : List A) (n : State) → comma_before d l xs limits s ys n → Grows tight commas (map image) (comma_before d l') s xs ys n
    comma_grows d s xs ys n (u, j, q, (a, i, r, (e, f))) = (
      t.Mark m.Comma ∷ tokens (phrase a),
      ap commas e ∙ commas-snoc xs a,
      λ zs k. settled (λ _. S.mark m.Comma then phrase a) (map image) e f
          (behind tt tt (mark_again m.Comma q) (λ _ _. made (λ x. zs ++ x ∷ []) (λ x h. images-snoc xs zs a x k h) (H j xs a i r zs k))),
    )

    pub commas_grow : (d : ℕ) (s : State) (xs ys : List A) (n : State) → L.turns (comma_before d l) xs limits s ys n → Grows tight commas (map image) (L.turns (comma_before d l')) s xs ys n
    commas_grow d = turns_again commas (map image) (comma_grows d)

    pub further_again : (d : ℕ) (s : State) (xs : List A) (n : State) → L.turns (comma_before d l) [] limits s xs n → Repeats tight (λ xs. S.further (map phrase xs)) (map image) (L.turns (comma_before d l') []) s xs n
    further_again d s xs n r = let g = commas_grow d s [] xs n r in as_kinds (sym g.1) (g.2 [] refl)

    -- one, and any number of others
    abbrev pub some_of : ℕ → (List A → Language A) → Language (List A)
    some_of d l = L.◌>>=◌ (l []) (λ x. L.turns (comma_before d l) (x ∷ []))

    pub listed_again : (d : ℕ) (s : State) (xs : List A) (n : State) → some_of d l limits s xs n → Repeats tight (λ xs. S.listed (map phrase xs)) (map image) (some_of d l') s xs n
    listed_again d s xs n (a, i, r, rs) =
        let g = commas_grow d i (a ∷ []) xs n rs in
        let whole = g.1 ∙ ap (λ z. t.Mark m.Comma ∷ (z ++ g.0)) (append-nil (tokens (phrase a))) in
        as_kinds (sym (listed_tail (map phrase xs) (tokens (phrase a) ++ g.0) whole))
        (behind a refl (H s [] a i r [] refl) (λ b h. g.2 (b ∷ []) (ap (λ z. z ∷ []) h)))
