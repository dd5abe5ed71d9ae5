-- Assignments, read again.
use Rattle.std.proofs.Common.{◌≡◌, refl, sym, ◌∙◌, ap, ap₂, inl, inr, true≢false, ℕ, suc, true, false, List, [], ◌∷◌, ◌++◌, pos, codes, Some}
use Rattle.std.specs.Cmp.Lexicographic.{bytes_decides}
use Rattle.std.proofs.lemmas.Bool.{false_from_ne_true}
use Rattle.ec_base.specs.declared.operator.BinOp.{BinOp}
use Rattle.ec_base.specs.declared.operator.BinOp.TheVariants.{Add, Sub}
use Rattle.ec_base.specs.declared.token.Mark.{Mark}
use Rattle.ec_base.specs.declared.token.Mark.TheVariants as m
use Rattle.ec_base.specs.declared.token.Span.{Span}
use Rattle.ec_base.specs.declared.token.Token.{Token}
use Rattle.ec_base.specs.declared.token.TokenKind.TheVariants as t
use Rattle.ec_syntax.specs.Grammar.Expressions as E
use Rattle.ec_syntax.specs.Grammar.Language as L
use Rattle.ec_syntax.specs.Grammar.Statements as Z
use Rattle.ec_syntax.specs.Grammar.Tokens as T
use Rattle.ec_syntax.specs.Grammar.Words.{is_name, same}
use Rattle.ec_syntax.specs.declared.expression.Expr.{Expr}
use Rattle.ec_syntax.specs.declared.expression.ExprKind.TheVariants as v
use Rattle.ec_syntax.specs.declared.name.Name.{Name}
use Rattle.ec_syntax.specs.declared.statement.Assign.{Assign}
use Rattle.ec_syntax.proofs.Tokens.Classes.{token_of}
use Rattle.ec_print.specs.Phrase.{token, tokens}
use Rattle.ec_print.specs.Sentence as S
use Rattle.ec_print.specs.Unplaced as U
use Rattle.ec_print.proofs.Again.Readings.{as_kinds, as_language, behind, is_else}
use Rattle.ec_print.proofs.Again.Marks.{name_kind, sign_again}
use Rattle.ec_print.proofs.Again.Rules.{settled, made, part_again, ends_at}
use Rattle.ec_print.proofs.Again.Calls.{Mirrors}
use Rattle.ec_print.proofs.Again.Expressions.{unary_again, expr_again}
use Rattle.ec_print.proofs.Again.Folds.{said}
use Rattle.ec_print.proofs.Again.Steps.{the_step, behind_marks}
use Rattle.ec_syntax.proofs.Folds.Expressions as tree

-- ---- names

name_not_else : (w : List ℕ) → is_name w ≡ true → same w (codes "else") ≡ false
name_not_else w free = false_from_ne_true (same w (codes "else")) (λ h. true≢false (sym free ∙ ap is_name ((bytes_decides w (codes "else")).0 h)))

-- no name is an `else`
pub quiet_name : (w : List ℕ) → is_name w ≡ true → (y : Token) → y.kind ≡ t.Word w → is_else y ≡ false
quiet_name w free y e = ap (λ z. is_else (token_of z y.at)) e ∙ name_not_else w free

-- ---- what is written of a step

pub var_said : (w : List ℕ) (at : Span) → S.expression (E.expression (v.Var w) at) ≡ S.word w
var_said w at = said (v.Var w) at ∙ tree.var_fold S.of_kind S.of_place S.of_call S.of_expression w

pub one_said : (at : Span) → S.expression (E.expression (v.Number (pos 1)) at) ≡ token (t.Number (pos 1))
one_said at = said (v.Number (pos 1)) at ∙ tree.number_fold S.of_kind S.of_place S.of_call S.of_expression (pos 1)

step_said : (o : BinOp) (x : Name) → tokens (S.assignment (Z.stepped o x)) ≡ t.Word x.text ∷ (t.Mark m.Assign ∷ (t.Word x.text ∷ (t.Mark (S.infix_mark o) ∷ (t.Number (pos 1) ∷ []))))
step_said o x =
    let var = E.expression (v.Var x.text) x.at in
    let one = E.expression (v.Number (pos 1)) x.at in
    ap₂ (λ y z. tokens y ++ (t.Mark m.Assign ∷ tokens z)) (var_said x.text x.at) (said (v.Binary o var one) x.at ∙ tree.binary_fold S.of_kind S.of_place S.of_call S.of_expression o var one)
    ∙ ap₂ (λ y z. t.Word x.text ∷ (t.Mark m.Assign ∷ (tokens y ++ (t.Mark (S.infix_mark o) ∷ tokens z)))) (var_said x.text x.at) (one_said x.at)

-- ---- assignments

abbrev steps : ℕ → Mark → BinOp → L.Language Assign
steps d k o = L.◌>>=◌ (T.name d) (λ x. L.◌>>◌ (T.sign d k) (L.give (Z.stepped o x)))

step_again : (nested d : ℕ) (k : Mark) (o : BinOp) → ((at : Span) → E.of_mark (E.at_level 1) (token_of (t.Mark (S.infix_mark o)) at) ≡ Some (v.Binary o)) →
    Mirrors false S.assignment U.assignment (L.part (steps d k o)) (L.part (Z.assignment (suc nested) d))
step_again nested d k o picks s a n (x, i, r, (u, j, q, (e, f))) =
    let named = name_kind r.token x r.picked in
    let quiet = quiet_name x.text named.1 in
    let vars : n.variables ≡ s.variables = ap (λ z. z.variables) (f ∙ q.next) ∙ ap (λ z. z.variables) r.next in
    let funs : n.functions ≡ s.functions = ap (λ z. z.functions) (f ∙ q.next) ∙ ap (λ z. z.functions) r.next in
    let strs : n.structs ≡ s.structs = ap (λ z. z.structs) (f ∙ q.next) ∙ ap (λ z. z.structs) r.next in
    let step = the_step nested d r.nested s n.left x.text x.at named.1 r.within.0 (λ y e _. quiet y e) quiet (S.infix_mark o) o picks in
    settled S.assignment U.assignment e refl
    (as_kinds (sym (step_said o x))
    (ends_at {m = behind_marks s 2 n.left} n (λ z. z)
    (λ t g. record { marks = λ h. absurd (true≢false (sym h)); variables = g.variables ∙ sym vars; functions = g.functions ∙ sym funs; structs = g.structs ∙ sym strs })
    (part_again step)))

make : Expr → Expr → Assign
make x y = record { left = x; right = y }

pub assignment_again : (nested d : ℕ) → Mirrors false S.assignment U.assignment (L.part (Z.assignment nested d)) (L.part (Z.assignment (suc nested) d))
unfolding make
assignment_again nested d s a n (inl (x, i, r, (u, j, q, (y, k, p, (e, f))))) =
    part_again {l = Z.assignment (suc nested) d}
    (settled S.assignment U.assignment e f
    (as_language (λ t b n r. inl r)
    (behind x refl (unary_again nested d (record s { marks = 0 }) x i r) (λ x' h. behind tt tt (sign_again m.Assign q) (λ _ _.
    made (make x') (λ y' g. ap₂ make h g) (expr_again nested d j y k p))))))
assignment_again nested d s a n (inr (inl r)) = step_again nested d m.Increment Add (λ at. refl) s a n r
assignment_again nested d s a n (inr (inr r)) = step_again nested d m.Decrement Sub (λ at. refl) s a n r
