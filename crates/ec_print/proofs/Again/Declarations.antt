-- Declarations, read again.
use Rattle.std.proofs.Common.{◌≡◌, refl, sym, ◌∙◌, ap, ap₂, subst, inl, inr, ℕ, Bool, false, List, [], ◌∷◌, ◌++◌, map, append_assoc, codes, Option}
use Rattle.ec_base.specs.declared.token.Mark.TheVariants as m
use Rattle.ec_base.specs.declared.token.TokenKind.TheVariants as t
use Rattle.ec_syntax.specs.Grammar.Language as L
use Rattle.ec_syntax.specs.Grammar.Language.{Language, Turns}
use Rattle.ec_syntax.specs.Grammar.Language.Turns.{over, more}
use Rattle.ec_syntax.specs.Grammar.State.{State, limits}
use Rattle.ec_syntax.specs.Grammar.Statements as Z
use Rattle.ec_syntax.specs.Grammar.Tokens as T
use Rattle.ec_syntax.specs.Grammar.Types as Y
use Rattle.ec_syntax.specs.declared.expression.Expr.{Expr}
use Rattle.ec_syntax.specs.declared.name.Base.{Base}
use Rattle.ec_syntax.specs.declared.name.Base.TheVariants.{Int, Struct}
use Rattle.ec_syntax.specs.declared.name.Mode.{Mode}
use Rattle.ec_syntax.specs.declared.name.Mode.TheVariants.{Plain, Local, Shared}
use Rattle.ec_syntax.specs.declared.name.Name.{Name}
use Rattle.ec_syntax.specs.declared.statement.Decl.{Decl}
use Rattle.ec_print.specs.Phrase.{Phrase, tokens, ◌then◌}
use Rattle.ec_print.specs.Sentence as S
use Rattle.ec_print.specs.Unplaced as U
use Rattle.ec_print.proofs.Again.Readings.{Again, Kinds, Quiet, as_kinds, as_language, behind}
use Rattle.ec_print.proofs.Again.Tokens.{mark_kind}
use Rattle.ec_print.proofs.Again.Marks.{anything, name_at, name_kind, mark_again, variable_again}
use Rattle.ec_print.proofs.Again.Rules.{settled, made, maybe_again, part_again}
use Rattle.ec_print.proofs.Again.Types.{int_again, struct_again, mode_again, stars_again}
use Rattle.ec_print.proofs.Again.Levels.{Operands}
use Rattle.ec_print.proofs.Again.Calls.{Mirrors}
use Rattle.ec_print.proofs.Again.Steps.{quiet_mark}
use Rattle.ec_print.proofs.Again.Assignments.{quiet_name}
use Rattle.ec_print.proofs.Again.Groups.{Free, free_plain, free_name, free_give, free_behind, free_or, group, groups_grow}

pub any_star : {tight : Bool} (d : ℕ) (s : State) (u : Unit {0}) (n : State) → T.mark d m.Star limits s u n → Again tight s n (T.mark d m.Star) (t.Mark m.Star ∷ []) anything
any_star d s u n r = mark_again m.Star r

-- ---- what stands before a list of declarators

abbrev bases : ℕ → Language Base
bases d = L.◌or◌ (Y.int_base d) (Y.struct_base d)

abbrev heads : ℕ → Language (Mode × Base)
heads d = L.◌>>=◌ (Y.mode d) (λ how. L.◌>>=◌ (bases d) (λ b. L.give (how, b)))

abbrev head_said : Mode × Base → Phrase
head_said v = S.mode v.0 then S.base v.1

abbrev head_image : Mode × Base → Mode × Base
head_image v = (v.0, U.base v.1)

bases_again : (d : ℕ) → Mirrors false S.base U.base (bases d) (bases d)
bases_again d s b n (inl r) = as_language (λ t b n r. inl r) (int_again s b n r)
bases_again d s b n (inr r) = as_language (λ t b n r. inr r) (struct_again s b n r)

heads_again : (d : ℕ) → Mirrors false head_said head_image (heads d) (heads d)
heads_again d s v n (how, i, r, (b, j, q, (e, f))) =
    settled head_said head_image e f
    (behind how refl (mode_again s how i r) (λ how' h. made (λ b'. (how', b')) (λ b' g. ap₂ (λ x y. let z : Mode × Base = (x, y) in z) h g) (bases_again d i b j q)))

pub free_word : (d : ℕ) (w : List ℕ) → Free (T.word d w)
free_word d w = free_plain d (T.only (T.is_word w))

heads_free : (d : ℕ) → Free (heads d)
heads_free d =
    free_behind (Y.mode d) (λ how. L.◌>>=◌ (bases d) (λ b. L.give (how, b)))
    (free_or (L.give Plain) (L.◌or◌ (L.◌>>◌ (T.word d (codes "local")) (L.give Local)) (L.◌>>◌ (T.word d (codes "shared")) (L.give Shared))) (free_give Plain)
    (free_or (L.◌>>◌ (T.word d (codes "local")) (L.give Local)) (L.◌>>◌ (T.word d (codes "shared")) (L.give Shared))
    (free_behind (T.word d (codes "local")) (λ _. L.give Local) (free_word d (codes "local")) (λ _. free_give Local))
    (free_behind (T.word d (codes "shared")) (λ _. L.give Shared) (free_word d (codes "shared")) (λ _. free_give Shared))))
    (λ how. free_behind (bases d) (λ b. L.give (how, b))
    (free_or (Y.int_base d) (Y.struct_base d)
    (free_behind (T.word d (codes "int")) (λ _. L.give Int) (free_word d (codes "int")) (λ _. free_give Int))
    (free_behind (T.word d (codes "struct")) (λ _. L.◌>>=◌ (T.name d) (λ n. L.give (Struct n))) (free_word d (codes "struct")) (λ _. free_behind (T.name d) (λ n. L.give (Struct n)) (free_name d) (λ n. free_give (Struct n)))))
    (λ b. free_give (how, b)))

-- ---- declarators

-- what begins with stars or a name begins with no `else`
pub stars_quiet : (d : ℕ) (s : State) (a k : ℕ) (i : State) → Y.stars (T.mark d m.Star) a limits s k i → Quiet i.left → Quiet s.left
stars_quiet d s a k i over h = h
stars_quiet d s a k i (more (u, j, r, q) rs) h = subst (λ z. Quiet z) (sym r.stands) (quiet_mark m.Star r.token (mark_kind m.Star r.token u r.picked))

declarator_said : Decl → Phrase
declarator_said x = S.stars x.ty.stars then S.word x.name.text then S.optional S.initialiser x.init

abbrev declarators : ℕ → Language Expr → Mode × Base → Language Decl
declarators d l v = Z.declarator d l v.0 v.1

abbrev declared : Name → Mode → Base → ℕ → Option Expr → Decl
declared x how b k init = record { name = x; mode = how; ty = Y.typed b k; init = init }

declared_alike : (x x' : Name) (v v' : Mode × Base) (k k' : ℕ) (i i' : Option Expr) → x'.text ≡ x.text → head_image v' ≡ head_image v → k' ≡ k → U.optional U.expression i' ≡ U.optional U.expression i →
    U.declaration (declared x' v'.0 v'.1 k' i') ≡ U.declaration (declared x v.0 v.1 k i)
declared_alike x x' v v' k k' i i' a b c d =
    ap (λ z. declared (name_at z U.nowhere) v'.0 (U.base v'.1) k' (U.optional U.expression i')) a
    ∙ ap (λ (z : Mode × Base). declared (name_at x.text U.nowhere) z.0 z.1 k' (U.optional U.expression i')) b
    ∙ ap₂ (λ y z. declared (name_at x.text U.nowhere) v.0 (U.base v.1) y z) c d

module _ (d : ℕ) (l l' : Language Expr) (H : Operands l l') where
  abbrev starts_with : Language Expr → Language Expr
  starts_with z = L.◌>>◌ (T.mark d m.Assign) (L.part z)

  initialiser_again : Mirrors false S.initialiser U.expression (starts_with l) (starts_with l')
  initialiser_again s a n (u, i, r, q) = behind tt tt (mark_again m.Assign r) (λ _ _. part_again (H (record i { marks = 0 }) a n q))

  declarator_again : (v v' : Mode × Base) → head_image v' ≡ head_image v → Mirrors false declarator_said U.declaration (declarators d l v) (declarators d l' v')
  unfolding declarator_said
  declarator_again v v' same s x n (k, i, r, (y, j, q, (init, o, p, (e, f)))) =
      settled declarator_said U.declaration e f
      (behind k refl (stars_again (T.mark d m.Star) (any_star d) s k i r) (λ k' h. behind y refl (variable_again q) (λ y' g.
      made (λ init'. declared y' v'.0 v'.1 k' init') (λ init' w. declared_alike y y' v v' k k' init init' g same h w)
      (maybe_again S.initialiser U.expression (starts_with l) initialiser_again j init o p))))

  declarator_written : (v : Mode × Base) (s : State) (x : Decl) (n : State) → declarators d l v limits s x n → (ks : Kinds) →
      tokens (S.declaration x) ++ ks ≡ tokens (head_said v) ++ (tokens (declarator_said x) ++ (t.Mark m.Semicolon ∷ ks))
  unfolding declarator_said
  declarator_written v s x n (k, i, r, (y, j, q, (init, o, p, (e, f)))) ks =
      subst (λ z. tokens (S.declaration z) ++ ks ≡ tokens (head_said v) ++ (tokens (declarator_said z) ++ (t.Mark m.Semicolon ∷ ks))) (sym e)
      (bracket (tokens (S.mode v.0)) (tokens (S.base v.1)) (tokens (S.stars k)) (tokens (S.optional S.initialiser init)) y.text)
    where
      bracket : (ms bs ss is : Kinds) (w : List ℕ) → ((ms ++ ((bs ++ ss) ++ (t.Word w ∷ []))) ++ (is ++ (t.Mark m.Semicolon ∷ []))) ++ ks ≡ (ms ++ bs) ++ ((ss ++ (t.Word w ∷ is)) ++ (t.Mark m.Semicolon ∷ ks))
      bracket ms bs ss is w = simp append_assoc

  declarator_quiet : (v : Mode × Base) (s : State) (x : Decl) (n : State) → declarators d l v limits s x n → Quiet s.left
  declarator_quiet v s x n (k, i, r, (y, j, q, p)) =
      let named = name_kind q.token y q.picked in
      stars_quiet d s 0 k i r (subst (λ z. Quiet z) (sym q.stands) (quiet_name y.text named.1 q.token named.0))

  -- ---- declarations

  to_group : (s : State) (xs ys : List Decl) (n : State) → Z.declaration d l xs limits s ys n → group d (heads d) (declarators d l) xs limits s ys n
  to_group s xs ys n (how, i, r, (b, j, q, rest)) = ((how, b), j, (how, i, r, (b, j, q, (refl, refl))), rest)

pub turns-map : {A : Type 0} {turn turn' : A → Language A} → ((s : State) (a b : A) (n : State) → turn a limits s b n → turn' a limits s b n) → (s : State) (a b : A) (n : State) → Turns turn limits s a b n → Turns turn' limits s a b n
turns-map f s a b n over = over
turns-map f s a b n (more {m = j} {b = x} r rs) = more (f s a x j r) (turns-map f j x b n rs)

abbrev rest_of : ℕ → Language Expr → List Decl → Mode × Base → State → List Decl → State → Type 0
rest_of d l xs v s ys n =
    L.◌>>=◌ (declarators d l v) (λ first. L.◌>>=◌ (L.turns (λ ds. L.◌>>◌ (T.mark d m.Comma) (L.◌>>=◌ (declarators d l v) (λ next. L.give (ds ++ next ∷ [])))) (xs ++ first ∷ [])) (λ all. L.◌>>◌ (T.mark d m.Semicolon) (L.give all))) limits s ys n

from_group : (d : ℕ) (l : Language Expr) (s : State) (xs ys : List Decl) (n : State) → group d (heads d) (declarators d l) xs limits s ys n → Z.declaration d l xs limits s ys n
from_group d l s xs ys n (v, j, (how, i, r, (b, j', q, (e, f))), rest) = (how, i, r, (b, j', q, subst (λ z. rest_of d l xs z j' ys n) e (subst (λ z. rest_of d l xs v z ys n) f rest)))

-- all the declarations of a body
pub declarations_again : (d : ℕ) (l l' : Language Expr) → Operands l l' → Mirrors false (λ ds. S.joined (map S.declaration ds)) (map U.declaration) (L.turns (Z.declaration d l) []) (L.turns (Z.declaration d l') [])
declarations_again d l l' H s ds n r =
    let g = groups_grow d (heads d) (declarators d l) (declarators d l') head_said head_image declarator_said S.declaration U.declaration (heads_free d) (heads_again d) (declarator_again d l l' H)
    (declarator_written d l l' H) (declarator_quiet d l l' H) s [] ds n (turns-map (to_group d l l' H) s [] ds n r) in
    as_kinds (sym g.1) (as_language (λ t b o q. turns-map (from_group d l') t [] b o q) (g.2 [] refl))
