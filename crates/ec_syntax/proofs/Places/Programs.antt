-- Structs, functions and programs stand where they are read.
use Rattle.std.proofs.Common.{◌≡◌, refl, sym, ◌∙◌, ap, subst, true≢false, is_some, ℕ, Bool, true, false, List, [], ◌∷◌, ◌++◌, map, length, Some, None, codes, arith}
use Rattle.ec_base.specs.declared.token.Mark.TheVariants as m
use Rattle.ec_base.specs.declared.token.Span.{Span}
use Rattle.ec_base.specs.declared.token.Token.{Token}
use Rattle.ec_syntax.specs.declared.item.Field.{Field}
use Rattle.ec_syntax.specs.declared.item.Item.TheVariants.{Func as FuncItem}
use Rattle.ec_syntax.specs.declared.name.Base.{Base}
use Rattle.ec_syntax.specs.declared.statement.Decl.{Decl}
use Rattle.ec_syntax.specs.Grammar.Items as I
use Rattle.ec_syntax.specs.Grammar.Items.{place_if}
use Rattle.ec_syntax.specs.Grammar.Language as L
use Rattle.ec_syntax.specs.Grammar.Language.{Language, begin}
use Rattle.ec_syntax.specs.Grammar.Reading.{start}
use Rattle.ec_syntax.specs.Grammar.Tokens as T
use Rattle.ec_syntax.specs.Grammar.Tokens.{is_end}
use Rattle.ec_syntax.specs.Grammar.Types as Y
use Rattle.ec_syntax.specs.Parts as P
use Rattle.ec_syntax.specs.Parts.{Role, Parts, one, ◌ahead_of◌, joined}
use Rattle.ec_syntax.specs.Parts.Role.{Variable, Function, Structure, Member}
use Rattle.ec_syntax.specs.Places.{Stands, PartsStand}
use Rattle.ec_syntax.proofs.Places.Expressions.{expr_adds}
use Rattle.ec_syntax.proofs.Places.Placing.{rises_begin}
use Rattle.ec_syntax.proofs.Places.Rules.{Lays, lays_behind, given, behind, made, either, perhaps, function_lays, turned, token_lays}
use Rattle.ec_syntax.proofs.Places.Standing.{ahead_of_nothing, ahead_of_assoc, joined-more, stands_later, gives_self}
use Rattle.ec_syntax.proofs.Places.Statements.{braces_add, stmt_adds}
use Rattle.ec_syntax.proofs.Places.Tokens.{mark_inside, word_lays, mark_lays, number_lays, declared_lays, gives_none, gives_two, gives_three, stars_lay, base_lays, mode_lays, type_lays, Adds, sequence_lays, commas_lay}

-- ---- structs

field_adds : (b : Base) → Adds false (I.field_name b) P.field
field_adds b before =
    behind (stars_lay (T.mark 0 m.Star) (mark_lays m.Star) 0) (λ k. behind (declared_lays Member) (λ n.
    let us = before ahead_of one Member n.at Parts.nothing in
    made (λ size. let f : Field = record { name = n; ty = Y.typed b k; array = size } in f) (λ size. gives_self)
    (perhaps {f = λ _. us} {g = λ _. us} (λ _. gives_self) gives_self (behind (mark_lays m.OpenBracket) (λ _. behind number_lays (λ _. behind (mark_lays m.CloseBracket) (λ _. given gives_self)))))))

fields_lay : (us : Parts) (fs : List Field) → Lays false (us ahead_of joined (map P.field fs)) (I.fields fs)
    (λ all. us ahead_of joined (map P.field all))
fields_lay us fs =
    behind (base_lays 0) (λ b. behind (field_adds b (us ahead_of joined (map P.field fs))) (λ first.
    behind (lays_behind (ap (λ z. us ahead_of z) (joined-more P.field fs first) ∙ sym (ahead_of_assoc us (joined (map P.field fs)) (P.field first)))
    (commas_lay P.field (λ _. field_adds b) 0 us (fs ++ first ∷ []))) (λ all. behind (mark_lays m.Semicolon) (λ _. given gives_self))))

structure_adds : Adds false I.structure P.item
structure_adds before =
    behind (word_lays (codes "struct")) (λ _. behind (declared_lays Structure) (λ n.
    let us = before ahead_of one Structure n.at Parts.nothing in
    behind (token_lays (mark_inside m.OpenBrace)) (λ _. behind (lays_behind (ahead_of_nothing us) (fields_lay us [])) (λ first. behind (turned (fields_lay us) first) (λ all.
    behind (mark_lays m.CloseBrace) (λ _. behind (mark_lays m.Semicolon) (λ _. given (gives_two before (one Structure n.at Parts.nothing) (joined (map P.field all)) refl))))))))

-- ---- functions

parameter_adds : (k : ℕ) → Adds false (I.parameter k) P.declaration
parameter_adds k before =
    behind (mode_lays 1) (λ how. behind (base_lays 1) (λ b. behind (stars_lay (T.mark 1 m.Star) (mark_lays m.Star) 0) (λ stars.
    made (λ n. let p : Decl = record { name = n; mode = how; ty = Y.typed b stars; init = None } in p) (λ n. gives_self) (declared_lays Variable))))

parameters_add : Adds false I.parameters (λ ps. joined (map P.declaration ps))
parameters_add before =
    either (given (gives_none before refl))
    (either (behind (word_lays (codes "void")) (λ _. given (gives_none before refl)))
    (behind (parameter_adds 0 before) (λ p. lays_behind (ap (λ z. before ahead_of z) (ahead_of_nothing (P.declaration p)))
    (commas_lay P.declaration (λ ps. parameter_adds (length ps)) 1 before (p ∷ [])))))

procedure_adds : (nested : ℕ) → Adds false (I.procedure nested) P.item
procedure_adds nested before =
    behind (type_lays 0 (mark_lays m.Star)) (λ ty. behind (declared_lays Function) (λ n.
    let us = before ahead_of one Function n.at Parts.nothing in
    behind (mark_lays m.OpenParen) (λ _. behind (parameters_add us) (λ ps. behind (mark_lays m.CloseParen) (λ _.
    made (λ body. FuncItem (record { name = n; result = ty; params = ps; body = body })) (λ body. gives_three before (one Function n.at Parts.nothing) (joined (map P.declaration ps)) (P.body body) refl)
    (braces_add 0 (expr_adds nested 1) (stmt_adds nested 1) (us ahead_of joined (map P.declaration ps))))))))

-- ---- programs

items_add : (nested : ℕ) →
    Adds false (L.turns (λ is. L.◌>>=◌ (L.function (L.◌or◌ I.structure (I.procedure nested))) (λ i. L.give (is ++ i ∷ []))) []) (λ is. joined (map P.item is))
items_add nested = sequence_lays P.item (λ _ us. function_lays (either (structure_adds us) (procedure_adds nested us)))

-- the end stands where its token does
end_place : (b : Bool) (x : Token) (at : Span) → place_if b x ≡ Some at → x.at ≡ at
end_place true x at e = cc
end_place false x at e = absurd (true≢false (sym (ap is_some e)))

pub parts_stand : PartsStand
parts_stand tokens p are (nested, s, (items, i, r, (at, j, x, (e, f))), left) =
    let h = (items_add nested Parts.nothing).each 0 0 (start tokens) items i r are.rising (omega arith) in
    let b = rises_begin h.high i h.rising in
    let begins : begin i ≡ x.token.at.from = ap (λ ts. begin (record i { left = ts })) x.stands in
    let ends : x.token.at.from ≡ at.from = ap (λ z. z.from) (end_place (is_end x.token) x.token at x.picked) in
    let all = stands_later (joined (map P.item items)) 0 h.high at.from (omega (arith, b.0, begins, ends)) h.stands in
    subst (λ q. Stands 0 q.end.from (P.program q)) (sym e) all
