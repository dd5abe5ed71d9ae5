-- Functions, read again. What was read from `(void)` is written as `()`.
use Rattle.std.proofs.Common.{◌≡◌, refl, sym, ◌∙◌, ap, ap₂, subst, inl, inr, true≢false, ℕ, suc, false, List, [], ◌∷◌, ◌++◌, map, length, append_assoc, None}
use Rattle.ec_base.specs.declared.token.Mark.TheVariants as m
use Rattle.ec_base.specs.declared.token.TokenKind.TheVariants as t
use Rattle.ec_syntax.specs.Grammar.Expressions as E
use Rattle.ec_syntax.specs.Grammar.Items as I
use Rattle.ec_syntax.specs.Grammar.Language as L
use Rattle.ec_syntax.specs.Grammar.Language.{Language}
use Rattle.ec_syntax.specs.Grammar.State.{State, limits}
use Rattle.ec_syntax.specs.Grammar.Statements as Z
use Rattle.ec_syntax.specs.Grammar.Tokens as T
use Rattle.ec_syntax.specs.Grammar.Types as Y
use Rattle.ec_syntax.specs.declared.item.Func.{Func}
use Rattle.ec_syntax.specs.declared.item.Item.{Item}
use Rattle.ec_syntax.specs.declared.item.Item.TheVariants.{Func as FuncItem}
use Rattle.ec_syntax.specs.declared.name.Base.{Base}
use Rattle.ec_syntax.specs.declared.name.Mode.{Mode}
use Rattle.ec_syntax.specs.declared.name.Name.{Name}
use Rattle.ec_syntax.specs.declared.name.Ty.{Ty}
use Rattle.ec_syntax.specs.declared.statement.Body.{Body}
use Rattle.ec_syntax.specs.declared.statement.Decl.{Decl}
use Rattle.ec_print.specs.Phrase.{Phrase, tokens, ◌then◌}
use Rattle.ec_print.specs.Sentence as S
use Rattle.ec_print.specs.Unplaced as U
use Rattle.ec_print.proofs.Again.Readings.{Kinds, as_kinds, as_language, mapped, given, behind}
use Rattle.ec_print.proofs.Again.Marks.{name_at, mark_again, parameter_again, function_again}
use Rattle.ec_print.proofs.Again.Rules.{Repeats, settled, made}
use Rattle.ec_print.proofs.Again.Types.{base_again, mode_again, stars_again, type_again}
use Rattle.ec_print.proofs.Again.Lists.{Each, listed_again}
use Rattle.ec_print.proofs.Again.Calls.{Mirrors}
use Rattle.ec_print.proofs.Again.Steps.{free_mark}
use Rattle.ec_print.proofs.Again.Simple.{same_length}
use Rattle.ec_print.proofs.Again.Expressions.{expr_again}
use Rattle.ec_print.proofs.Again.Declarations.{any_star}
use Rattle.ec_print.proofs.Again.Bodies.{braces_again}
use Rattle.ec_print.proofs.Again.Statements.{stmt_again}

-- ---- parameters

abbrev a_parameter : Name → Mode → Base → ℕ → Decl
a_parameter x how b k = record { name = x; mode = how; ty = Y.typed b k; init = None }

parameter_alike : (x x' : Name) (how how' : Mode) (b b' : Base) (k k' : ℕ) → x'.text ≡ x.text → how' ≡ how → U.base b' ≡ U.base b → k' ≡ k → U.declaration (a_parameter x' how' b' k') ≡ U.declaration (a_parameter x how b k)
parameter_alike x x' how how' b b' k k' h g w o =
    ap₂ (λ y z. a_parameter (name_at y U.nowhere) z (U.base b') k') h g ∙ ap₂ (λ y z. a_parameter (name_at x.text U.nowhere) how y z) w o

each_parameter : (before : ℕ) → Mirrors false S.variable U.declaration (I.parameter before) (I.parameter before)
each_parameter before s x n (how, s1, r1, (b, s2, r2, (k, s3, r3, (y, s4, r4, (e, f))))) =
    settled S.variable U.declaration e f
    (as_kinds (ap (λ z. tokens (S.mode how) ++ z) (sym (append_assoc (tokens (S.base b)) (tokens (S.stars k)) (t.Word y.text ∷ []))))
    (behind how refl (mode_again s how s1 r1) (λ how' g. behind b refl (base_again s1 b s2 r2) (λ b' w. behind k refl (stars_again (T.mark 1 m.Star) (any_star 1) s2 k s3 r3) (λ k' o.
    made (λ y'. a_parameter y' how' b' k') (λ y' h. parameter_alike y y' how how' b b' k k' h g w o) (parameter_again before r4))))))

abbrev nth_parameter : List Decl → Language Decl
nth_parameter ps = I.parameter (length ps)

nth_again : Each S.variable U.declaration false nth_parameter nth_parameter
nth_again s xs a n r ys h = subst (λ k. Repeats false S.variable U.declaration (I.parameter k) s a n) (sym (same_length U.declaration xs ys h)) (each_parameter (length xs) s a n r)

-- an opening bracket, and parameters inside
abbrev opened : Language (List Decl)
opened = L.◌>>◌ (T.mark 0 m.OpenParen) I.parameters

abbrev opened_said : List Decl → Phrase
opened_said ps = S.mark m.OpenParen then S.listed (map S.variable ps)

parameters_again : (s i : State) (u : Unit {0}) → T.mark 0 m.OpenParen limits s u i → (ps : List Decl) (n : State) → I.parameters limits i ps n → Repeats false opened_said (map U.declaration) opened s ps n
parameters_again s i u r ps n (inl (e, f)) =
    settled opened_said (map U.declaration) e f (behind tt tt (mark_again m.OpenParen r) (λ _ _. as_language {l = L.give []} {l' = I.parameters} (λ t b n r. inl r) (given refl)))
parameters_again s i u r ps n (inr (inl (w, j, q, (e, f)))) =
    let variables : n.variables ≡ s.variables = ap (λ z. z.variables) (f ∙ q.next) ∙ ap (λ z. z.variables) r.next in
    let functions : n.functions ≡ s.functions = ap (λ z. z.functions) (f ∙ q.next) ∙ ap (λ z. z.functions) r.next in
    let structs : n.structs ≡ s.structs = ap (λ z. z.structs) (f ∙ q.next) ∙ ap (λ z. z.structs) r.next in
    settled opened_said (map U.declaration) e refl
    (behind tt tt
    (free_mark r.nested {s = s} {n = n} m.OpenParen (λ at. refl)
    (λ t rest end a. record { marks = λ h. absurd (true≢false (sym h)); variables = a.variables ∙ sym variables; functions = a.functions ∙ sym functions; structs = a.structs ∙ sym structs }))
    (λ _ _. as_language {l = L.give []} {l' = I.parameters} (λ t b n r. inl r) (given refl)))
parameters_again s i u r ps n (inr (inr q)) =
    behind tt tt (mark_again m.OpenParen r) (λ _ _. as_language {l' = I.parameters} (λ t b n r. inr (inr r)) (listed_again S.variable U.declaration nth_parameter nth_parameter nth_again 1 i ps n q))

-- ---- functions

abbrev a_function : Name → Ty → List Decl → Body → Func
a_function x result ps body = record { name = x; result = result; params = ps; body = body }

function_alike : (x x' : Name) (a a' : Ty) (ps ps' : List Decl) (b b' : Body) → x'.text ≡ x.text → U.type a' ≡ U.type a → map U.declaration ps' ≡ map U.declaration ps → U.body b' ≡ U.body b →
    U.item (FuncItem (a_function x' a' ps' b')) ≡ U.item (FuncItem (a_function x a ps b))
function_alike x x' a a' ps ps' b b' h g w o =
    ap₂ (λ y z. FuncItem (a_function (name_at y U.nowhere) z (map U.declaration ps') (U.body b'))) h g ∙ ap₂ (λ y z. FuncItem (a_function (name_at x.text U.nowhere) (U.type a) y z)) w o

abbrev function_end : ℕ → Name → Ty → List Decl → Language Item
function_end nested x a ps = L.◌>>◌ (T.mark 1 m.CloseParen) (L.◌>>=◌ (Z.braces 0 (E.expr nested 1) (Z.stmt nested 1)) (λ b. L.give (FuncItem (a_function x a ps b))))

abbrev function_rest : ℕ → Name → Ty → Language Item
function_rest nested x a = L.◌>>◌ (T.mark 0 m.OpenParen) (L.◌>>=◌ I.parameters (function_end nested x a))

brackets : (ts : Kinds) (w : List ℕ) (ps bs : Kinds) → ts ++ (t.Word w ∷ ((t.Mark m.OpenParen ∷ ps) ++ (t.Mark m.CloseParen ∷ bs))) ≡ ts ++ (t.Word w ∷ ((t.Mark m.OpenParen ∷ (ps ++ (t.Mark m.CloseParen ∷ []))) ++ bs))
brackets ts w ps bs = ap (λ z. ts ++ (t.Word w ∷ (t.Mark m.OpenParen ∷ z))) (sym (append_assoc ps (t.Mark m.CloseParen ∷ []) bs))

pub procedure_again : (nested : ℕ) → Mirrors false S.item U.item (I.procedure nested) (I.procedure (suc nested))
procedure_again nested s x n (a, s1, r1, (y, s2, r2, (u3, s3, r3, (ps, s4, r4, (u5, s5, r5, (b, s6, r6, (e, f))))))) =
    settled S.item U.item e f
    (as_kinds (brackets (tokens (S.type a)) y.text (tokens (S.listed (map S.variable ps))) (tokens (S.body b)))
    (behind a refl (type_again (T.mark 0 m.Star) (any_star 0) 0 s a s1 r1) (λ a' g. behind y refl (function_again r2) (λ y' h.
    mapped {l' = function_rest (suc nested) y' a'} (λ t b o w k. (b, (let (ps', j, (u', j', r', q'), rest) = w in (u', j', r', (ps', j, q', rest))), k))
    (behind ps refl (parameters_again s2 s3 u3 r3 ps s4 r4) (λ ps' w. behind tt tt (mark_again m.CloseParen r5) (λ _ _.
    made (λ b'. FuncItem (a_function y' a' ps' b')) (λ b' o. function_alike y y' a a' ps ps' b b' h g w o)
    (braces_again 0 (E.expr nested 1) (E.expr (suc nested) 1) (expr_again nested 1) (Z.stmt nested 1) (Z.stmt (suc nested) 1) (stmt_again nested 1) s5 b s6 r6))))))))
