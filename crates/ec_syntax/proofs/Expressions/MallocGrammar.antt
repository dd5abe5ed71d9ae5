-- `malloc` as it is read has the words that it has in the grammar.
use Rattle.std.proofs.Common.{◌≡◌, refl, sym, ◌∙◌, ap, subst, subst₂, ◌⊎◌, inl, inr, ℕ, suc, Bool, true, false, codes, Option, Some, None}
use Rattle.ec_base.specs.declared.operator.BinOp.TheVariants as op
use Rattle.ec_base.specs.declared.token.Mark.TheVariants as m
use Rattle.ec_base.specs.declared.token.Token.{Token}
use Rattle.ec_syntax.specs.declared.expression.Expr.{Expr}
use Rattle.ec_syntax.specs.declared.expression.ExprKind.{ExprKind}
use Rattle.ec_syntax.specs.declared.expression.ExprKind.TheVariants.{New, Binary}
use Rattle.ec_syntax.specs.declared.name.Ty.{Ty}
use Rattle.ec_syntax.specs.Grammar.State.{State, Asked}
use Rattle.ec_syntax.specs.Grammar.Language as L
use Rattle.ec_syntax.specs.Grammar.Language.{Language, Turns}
use Rattle.ec_syntax.specs.Grammar.Language.Turns.{over as turned, more as turn_more}
use Rattle.ec_syntax.specs.Grammar.Tokens as T
use Rattle.ec_syntax.specs.Grammar.Tokens.{is_mark, is_word, only}
use Rattle.ec_syntax.specs.Grammar.Types as types
use Rattle.ec_syntax.specs.Grammar.Expressions as LE
use Rattle.ec_syntax.specs.Grammar.Expressions.{of_mark, at_level, joined}
use Rattle.ec_syntax.proofs.Lookahead.FirstTokens.{Into}
use Rattle.ec_syntax.proofs.Expressions.CountFactors.{Join, star, where_so}
use Rattle.ec_syntax.proofs.Expressions.CountTurns.{Counting}
use Rattle.ec_syntax.proofs.Expressions.CountTurns.Counting.{last, more}
use Rattle.ec_syntax.proofs.Expressions.Malloc.{element, read_amount, read_malloc}
use Rattle.ec_syntax.proofs.Tokens.Classes.{token_of, mark_kind, only_picks, only_passes}

-- ---- the last `*`

star_passes : {make : Join} (b : Bool) (o : Option Join) → where_so b o ≡ Some make → b ≡ true
star_passes true o h = refl
star_passes false o h = cc

abbrev times : Join
times = Binary op.Mul

star_picks : (x : Token) → is_mark m.Star x ≡ true → star x ≡ Some times
star_picks x h = subst (λ kind. star (token_of kind x.at) ≡ Some times) (sym (mark_kind m.Star x h)) refl

sign_star : (d : ℕ) (asked : Asked) (s : State) (u : Unit {0}) (k : State) → T.sign d m.Star asked s u k →
    T.operator d star asked s times k
sign_star d asked s u k h = record { token = h.token; rest = h.rest; stands = h.stands; picked = star_picks h.token (only_passes (is_mark m.Star) h.token u h.picked); nested = h.nested; within = h.within; next = h.next }

star_sign : (d : ℕ) (asked : Asked) (s : State) (make : Join) (k : State) → T.operator d star asked s make k →
    T.sign d m.Star asked s tt k
star_sign d asked s make k h =
    record {
      token = h.token;
      rest = h.rest;
      stands = h.stands;
      picked = only_picks (is_mark m.Star) h.token
          (star_passes (is_mark m.Star h.token) _ h.picked);
      nested = h.nested;
      within = h.within;
      next = h.next;
    }

-- ---- factors

abbrev turn : ℕ → Language Expr → Expr → Language Expr
turn d l a = L.◌>>=◌ (T.operator d (of_mark (at_level 0))) (λ make. L.◌>>=◌ l (λ b. L.give (joined make a b)))

abbrev ended : ℕ → Expr → Language Expr
ended d a = L.◌>>◌ (T.word d (codes "sizeof")) (L.give a)

counted_from : (d : ℕ) (l : Language Expr) (asked : Asked) {s : State} {a e : Expr} {k : State} (k' : State) (c : Expr)
    (s' : State) →
    Turns (turn d l) asked s a e k → T.sign d m.Star asked k tt k' → ended d e asked k' c s' →
    Counting d l asked s a c s'
counted_from d l asked k' c s' (turned {s = s}) st w = last (sign_star d asked s tt k' st) w
counted_from d l asked k' c s' (turn_more h rest) st w =
    let b = h.3 in
    more h.2 b.2 (subst₂ (λ j e. Counting d l asked j e c s') b.3.1 b.3.0 (counted_from d l asked k' c s' rest st w))

-- factors in turns, and the end behind them
record Counted (d : ℕ) (l : Language Expr) (asked : Asked) (s : State) (a c : Expr) (s' : State) : Type 0 where
  value : Expr
  before : State
  behind : State
  factors : Turns (turn d l) asked s a value before
  mark : T.sign d m.Star asked before tt behind
  end : ended d value asked behind c s'

counting_to : (d : ℕ) (l : Language Expr) (asked : Asked) {s : State} {a c : Expr} {s' : State} →
    Counting d l asked s a c s' → Counted d l asked s a c s'
counting_to d l asked (last {s = s} {m = k} {a = a} {make = make} o w) = record { value = a; before = s; behind = k; factors = turned; mark = star_sign d asked s make k o; end = w }
counting_to d l asked (more {m = k} {m' = k'} {b = b} {make = make} o w rest) =
    let h = counting_to d l asked rest in
    record {
      value = h.value;
      before = h.before;
      behind = h.behind;
      factors = turn_more
          (make, k, o, (b, k', w, (refl, refl))) h.factors;
      mark = h.mark;
      end = h.end;
    }

-- ---- inside the brackets

abbrev pub amount : ℕ → Language Expr → Language (Option Expr × Ty)
amount d operand = L.◌>>=◌ (L.maybe (L.◌>>=◌ (LE.levels d 1 operand) (λ e. L.◌>>◌ (T.sign d m.Star) (L.give e)))) (λ count.
    L.◌>>◌ (T.word d (codes "sizeof")) (L.◌>>=◌ (element d) (λ t. L.give (count, t))))

pub amount_to : (d : ℕ) (l : Language Expr) → Into (read_amount d l) (amount d l)
amount_to d l asked s v s' (inl h) = (None, s, inr (refl, refl), h)
amount_to d l asked s v s' (inr h) =
    let first = h.2 in let size = h.3 in
    let c = counting_to d l asked first.3 in
    let w = c.end in (
      Some c.value,
      c.behind,
      inl (c.value, c.behind, (c.value, c.before, (first.0, first.1, first.2, c.factors), (tt, c.behind, c.mark, (refl, refl))), (refl, refl)),
      (w.0, w.1, w.2, (size.0, size.1, subst (λ j. element d asked j size.0 size.1) w.3.1 size.2, (size.3.0 ∙ ap (λ e. (Some e, size.0)) w.3.0, size.3.1))),
    )

pub amount_from : (d : ℕ) (l : Language Expr) → Into (amount d l) (read_amount d l)
amount_from d l asked s v s' h = by h.2
  where
    by : L.maybe (L.◌>>=◌ (LE.levels d 1 l) (λ e. L.◌>>◌ (T.sign d m.Star) (L.give e))) asked s h.0 h.1 →
        read_amount d l asked s v s'
    by (inr e) = inl (subst₂ (λ c j. L.◌>>◌ (T.word d (codes "sizeof")) (L.◌>>=◌ (element d) (λ t. L.give (c, t))) asked j v s') e.0 e.1 h.3)
    by (inl g) =
        let w = h.3 in let size = w.3 in let x = g.2 in let first = x.2 in let star = x.3 in
        inr (
          x.0,
          w.1,
          (
            first.0,
            first.1,
            first.2,
            counted_from d l asked star.1 x.0 w.1 first.3 star.2
                (w.0, w.1, subst (λ j. T.word d (codes "sizeof") asked j w.0 w.1) (g.3.1 ∙ star.3.1) w.2, (refl, refl)),
          ),
          (size.0, size.1, size.2, (size.3.0 ∙ ap (λ c. (c, size.0)) (g.3.0 ∙ ap Some star.3.0), size.3.1)),
        )

-- ---- all of it

bracketed_into : {A : Type 0} (d : ℕ) {l other : Language A} → Into l other →
    Into (LE.bracketed d l) (LE.bracketed d other)
bracketed_into d into asked s a n h = let g = h.3 in (h.0, h.1, h.2, (g.0, g.1, into asked h.1 g.0 g.1 g.2, g.3))

-- from the word on, as in the grammar
abbrev pub malloc_of : ℕ → Language Expr → Option Ty → Language ExprKind
malloc_of d operand cast = L.◌>>◌ (T.word d (codes "malloc")) (L.◌>>=◌ (LE.bracketed d (amount (suc d) operand)) (λ c. L.give (New cast c.0 c.1)))

malloc_of_to : (d : ℕ) (l : Language Expr) (cast : Option Ty) → Into (read_malloc d l cast) (malloc_of d l cast)
malloc_of_to d l cast asked s v s' h = let g = h.3 in (h.0, h.1, h.2, (g.0, g.1, bracketed_into d (amount_to (suc d) l) asked h.1 g.0 g.1 g.2, g.3))

malloc_of_from : (d : ℕ) (l : Language Expr) (cast : Option Ty) → Into (malloc_of d l cast) (read_malloc d l cast)
malloc_of_from d l cast asked s v s' h = let g = h.3 in (h.0, h.1, h.2, (g.0, g.1, bracketed_into d (amount_from (suc d) l) asked h.1 g.0 g.1 g.2, g.3))

-- a cast, and what stands behind it
abbrev pub cast_malloc : ℕ → Language Expr → Language ExprKind
cast_malloc d l = L.◌>>◌ (T.sign d m.OpenParen) (L.◌>>=◌ (types.pointer_with (suc d) (T.sign (suc d) m.Star)) (λ t. L.◌>>◌ (T.sign (suc d) m.CloseParen) (read_malloc d l (Some t))))

pub bare_to : (d : ℕ) (l : Language Expr) → Into (read_malloc d l None) (LE.malloc d l)
bare_to d l asked s v s' h = (None, s, inr (refl, refl), malloc_of_to d l None asked s v s' h)

pub cast_to : (d : ℕ) (l : Language Expr) → Into (cast_malloc d l) (LE.malloc d l)
cast_to d l asked s v s' h =
    let t = h.3 in let close = t.3 in
    (Some t.0, close.1, inl (t.0, close.1, (h.0, h.1, h.2, (t.0, t.1, t.2, (close.0, close.1, close.2, (refl, refl)))), (refl, refl)), malloc_of_to d l (Some t.0) asked close.1 v s' close.3)

pub malloc_either : (d : ℕ) (l : Language Expr) (asked : Asked) (s : State) (v : ExprKind) (s' : State) →
    LE.malloc d l asked s v s' → read_malloc d l None asked s v s' ⊎ cast_malloc d l asked s v s'
malloc_either d l asked s v s' h = by h.2
  where
    by : L.maybe (LE.cast d) asked s h.0 h.1 → read_malloc d l None asked s v s' ⊎ cast_malloc d l asked s v s'
    by (inr e) = inl (malloc_of_from d l None asked s v s' (subst₂ (λ c j. malloc_of d l c asked j v s') e.0 e.1 h.3))
    by (inl g) =
        let c = g.2 in let t = c.3 in let close = t.3 in
        inr (
          c.0,
          c.1,
          c.2,
          (
            t.0,
            t.1,
            t.2,
            (
              close.0,
              close.1,
              close.2,
              malloc_of_from d l (Some t.0) asked close.1 v s' (subst₂ (λ c j. malloc_of d l c asked j v s') (g.3.0 ∙ ap Some close.3.0) (g.3.1 ∙ close.3.1) h.3),
            ),
          ),
        )
