-- Calls, allocations and what stands in operands, read again.
use Rattle.std.proofs.Common.{◌≡◌, refl, sym, ◌∙◌, ap, ap₂, ℕ, suc, true, List, [], ◌∷◌, map, Option, Some, None, codes}
use Rattle.ec_base.specs.declared.token.Mark.TheVariants as m
use Rattle.ec_base.specs.declared.token.Span.{Span}
use Rattle.ec_base.specs.declared.token.TokenKind.TheVariants as t
use Rattle.ec_syntax.specs.Grammar.Expressions as E
use Rattle.ec_syntax.specs.Grammar.Language as L
use Rattle.ec_syntax.specs.Grammar.Language.{Language}
use Rattle.ec_syntax.specs.Grammar.State.{State, limits}
use Rattle.ec_syntax.specs.Grammar.Tokens as T
use Rattle.ec_syntax.specs.Grammar.Types as Y
use Rattle.ec_syntax.specs.declared.expression.Call.{Call, roll-Call}
use Rattle.ec_syntax.specs.declared.expression.Expr.{Expr}
use Rattle.ec_syntax.specs.declared.expression.ExprKind.{ExprKind}
use Rattle.ec_syntax.specs.declared.expression.ExprKind.TheVariants as v
use Rattle.ec_syntax.specs.declared.expression.Placement.{Placement}
use Rattle.ec_syntax.specs.declared.name.Ty.{Ty}
use Rattle.ec_print.specs.Phrase.{Phrase, tokens, ◌then◌}
use Rattle.ec_print.specs.Sentence as S
use Rattle.ec_print.specs.Unplaced as U
use Rattle.ec_print.proofs.Again.Readings.{Again, Kinds, as_kinds, to_state, behind}
use Rattle.ec_print.proofs.Again.Marks.{name_at, word_again, sign_again, name_again}
use Rattle.ec_print.proofs.Again.Rules.{settled, made, maybe_again, placed_again, without_place}
use Rattle.ec_print.proofs.Again.Types.{type_again, pointer_again}
use Rattle.ec_print.proofs.Again.Levels.{Operands, levels_again}
use Rattle.ec_print.proofs.Again.Calls.{Mirrors, bracketed_again, arguments_again, place_again}
use Rattle.ec_print.proofs.Again.Folds.{phrase, said, seen, new_image, called_image, called_said, call_alike}
use Rattle.ec_syntax.proofs.Folds.Expressions as tree

-- ---- calls

-- A call without its place: its kinds, and its image wherever it stands.
record CalledAgain (d : ℕ) (l' : Language Expr) (s : State) (make : Span → Call) (n : State) : Type 0 where
  kinds : Kinds
  image : Call
  written : (at : Span) → tokens (S.call (make at)) ≡ kinds
  alike : (at : Span) → U.call (make at) ≡ image
  again : Again true s n (E.called d l') kinds (λ other. (at : Span) → U.call (other at) ≡ image)

rolled : List ℕ → List Expr → Placement → Call
rolled w es p = roll-Call (record { name = name_at w U.nowhere; args = es; place = p; at = U.nowhere })

rolled_alike : (w v : List ℕ) (es fs : List Expr) (p q : Placement) → w ≡ v → es ≡ fs → p ≡ q → rolled w es p ≡ rolled v fs q
rolled_alike w v es fs p q a b c = ap (λ z. rolled z es p) a ∙ ap (λ z. rolled v z p) b ∙ ap (λ z. rolled v fs z) c

called_again : (d : ℕ) (l l' : Language Expr) → Operands l l' → (s : State) (make : Span → Call) (n : State) → E.called d l limits s make n → CalledAgain d l' s make n
unfolding rolled
called_again d l l' H s make n (x, i, r, (es, j, q, (p, k, o, (e, f)))) =
    let call : Phrase = S.word x.text then S.bracketed (S.listed (map S.expression es)) then S.placement p in
    record {
      kinds = tokens call;
      image = rolled x.text (map U.expression es) (U.placement p);
      written = λ at. ap (λ z. tokens (S.call (z at))) e ∙ ap tokens (called_said x es p at);
      alike = λ at. ap (λ z. U.call (z at)) e ∙ called_image x es p at;
      again = to_state f
          (behind x refl (name_again r) (λ x' h.
          behind es refl (bracketed_again d (λ es. S.listed (map S.expression es)) (map U.expression) (E.arguments (suc d) l) (E.arguments (suc d) l') (arguments_again (suc d) l l' H) i es j q) (λ es' g.
          made (λ p' at. roll-Call (record { name = x'; args = es'; place = p'; at = at }))
          (λ p' w at. called_image x' es' p' at ∙ rolled_alike x'.text x.text (map U.expression es') (map U.expression es) (U.placement p') (U.placement p) h g w)
          (place_again d l l' H j p k o))));
    }

pub call_again : (d : ℕ) (l l' : Language Expr) → Operands l l' → Mirrors true S.call U.call (E.call d l) (E.call d l')
call_again d l l' H s c n r =
    let (make, at, q, e) = without_place (λ make at. make at) (E.called d l) s c n r in
    let k = called_again d l l' H s make n q in
    settled S.call U.call e refl (as_kinds (sym (k.written at)) (placed_again (λ make at. make at) (λ other bt h. h bt ∙ sym (k.alike at)) k.again))

-- a call as an expression
pub call_expression_again : (d : ℕ) (l l' : Language Expr) → Operands l l' →
    Mirrors true S.expression U.expression (L.placed (λ make at. E.expression (v.Call (make at)) at) (E.called d l)) (L.placed (λ make at. E.expression (v.Call (make at)) at) (E.called d l'))
call_expression_again d l l' H s a n r =
    let (make, at, q, e) = without_place (λ make at. E.expression (v.Call (make at)) at) (E.called d l) s a n r in
    let k = called_again d l l' H s make n q in
    settled S.expression U.expression e refl
    (as_kinds (sym (ap tokens (said (v.Call (make at)) at ∙ tree.call_fold S.of_kind S.of_place S.of_call S.of_expression (make at)) ∙ k.written at))
    (placed_again (λ make at. E.expression (v.Call (make at)) at)
    (λ other bt h. seen (v.Call (other bt)) (v.Call (make at)) bt at (call_alike (make at) (other bt) (h bt ∙ sym (k.alike at)))) k.again))

-- ---- allocations

star_again : (d : ℕ) (s : State) (u : Unit {0}) (n : State) → T.sign d m.Star limits s u n → Again true s n (T.sign d m.Star) (t.Mark m.Star ∷ []) (λ _. Unit {0})
star_again d s u n r = sign_again m.Star r

cast_again : (d : ℕ) → Mirrors true S.cast U.type (E.cast d) (E.cast d)
cast_again d = bracketed_again d S.type U.type (Y.pointer_with (suc d) (T.sign (suc d) m.Star)) (Y.pointer_with (suc d) (T.sign (suc d) m.Star)) (pointer_again (T.sign (suc d) m.Star) (star_again (suc d)) (suc d))

abbrev amount : Option Expr × Ty → Phrase
amount c = S.optional (λ e. S.factor (S.expression e)) c.0 then S.word (codes "sizeof") then S.bracketed (S.type c.1)

abbrev amount_image : Option Expr × Ty → Option Expr × Ty
amount_image c = (U.optional U.expression c.0, U.type c.1)

abbrev counts : ℕ → Language Expr → Language Expr
counts d l = L.◌>>=◌ (E.levels d 1 l) (λ e. L.◌>>◌ (T.sign d m.Star) (L.give e))

counts_again : (d : ℕ) (l l' : Language Expr) → Operands l l' → Mirrors true (λ e. S.factor (S.expression e)) U.expression (counts d l) (counts d l')
counts_again d l l' H s c n (a, i, r, (u, j, q, (e, f))) =
    settled (λ e. S.factor (S.expression e)) U.expression e f
    (behind a refl (levels_again d 1 l l' H s a i r) (λ a' h. made (λ _. a') (λ _ _. h) (sign_again m.Star q)))

abbrev element : ℕ → Language Ty
element d = E.bracketed d (Y.type_with (suc d) (T.sign (suc d) m.Star))

abbrev amounts : ℕ → Language Expr → Language (Option Expr × Ty)
amounts d l = L.◌>>=◌ (L.maybe (counts d l)) (λ c. L.◌>>◌ (T.word d (codes "sizeof")) (L.◌>>=◌ (element d) (λ ty. L.give (c, ty))))

amounts_again : (d : ℕ) (l l' : Language Expr) → Operands l l' → Mirrors true amount amount_image (amounts d l) (amounts d l')
amounts_again d l l' H s a n (c, i, r, (u, j, q, (ty, k, p, (e, f)))) =
    settled amount amount_image e f
    (behind c refl (maybe_again (λ e. S.factor (S.expression e)) U.expression (counts d l) (counts_again d l l' H) s c i r) (λ c' h.
    behind tt tt (word_again (codes "sizeof") q) (λ _ _.
    made (λ ty'. (c', ty')) (λ ty' g. ap₂ (λ x y. let z : Option Expr × Ty = (x, y) in z) h g)
    (bracketed_again d S.type U.type (Y.type_with (suc d) (T.sign (suc d) m.Star)) (Y.type_with (suc d) (T.sign (suc d) m.Star)) (type_again (T.sign (suc d) m.Star) (star_again (suc d)) (suc d)) j ty k p))))

new_said : (to : Option Ty) (c : Option Expr) (ty : Ty) → tokens (phrase (v.New to c ty)) ≡ tokens (S.optional S.cast to then S.word (codes "malloc") then S.bracketed (amount (c, ty)))
new_said to None ty = ap tokens (tree.single_fold S.of_kind S.of_place S.of_call S.of_expression to ty)
new_said to (Some a) ty = ap tokens (tree.counted_fold S.of_kind S.of_place S.of_call S.of_expression to a ty)

new_alike : (to to' : Option Ty) (c c' : Option Expr × Ty) → U.optional U.type to' ≡ U.optional U.type to → amount_image c' ≡ amount_image c → U.kind (v.New to' c'.0 c'.1) ≡ U.kind (v.New to c.0 c.1)
new_alike to to' c c' h g =
    new_image to' c'.0 c'.1 ∙ ap₂ (λ x y. let z : ExprKind = v.New x y.0 y.1 in z) h g ∙ sym (new_image to c.0 c.1)

pub malloc_again : (d : ℕ) (l l' : Language Expr) → Operands l l' → Mirrors true phrase U.kind (E.malloc d l) (E.malloc d l')
malloc_again d l l' H s x n (to, i, r, (u, j, q, (c, k, p, (e, f)))) =
    settled phrase U.kind e f
    (as_kinds (sym (new_said to c.0 c.1))
    (behind to refl (maybe_again S.cast U.type (E.cast d) (cast_again d) s to i r) (λ to' h.
    behind tt tt (word_again (codes "malloc") q) (λ _ _.
    made (λ c'. v.New to' c'.0 c'.1) (λ c' g. new_alike to to' c c' h g)
    (bracketed_again d amount amount_image (amounts (suc d) l) (amounts (suc d) l') (amounts_again (suc d) l l' H) j c k p)))))
