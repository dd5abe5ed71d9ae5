-- The sentence of a program that was read of tokens which a text can give has such tokens, and not their end.
use Rattle.std.proofs.Common.{refl, ℕ, List, [], ◌∷◌, ◌++◌, map, length, None}
use Rattle.ec_base.specs.Lexical.{AllLexical}
use Rattle.ec_base.specs.declared.token.Token.{Token}
use Rattle.ec_syntax.specs.Grammar.Items as I
use Rattle.ec_syntax.specs.Grammar.Reading.{start, Reads}
use Rattle.ec_syntax.specs.Grammar.Types as Y
use Rattle.ec_syntax.specs.declared.item.Field.{Field}
use Rattle.ec_syntax.specs.declared.item.Item.TheVariants.{Struct as StructItem, Func as FuncItem}
use Rattle.ec_syntax.specs.declared.item.Program.{Program}
use Rattle.ec_syntax.specs.declared.name.Base.{Base}
use Rattle.ec_syntax.specs.declared.statement.Decl.{Decl}
use Rattle.ec_print.specs.Relexed.{NoEnd}
use Rattle.ec_print.specs.Sentence as S
use Rattle.ec_print.proofs.Again.Readings.{kinds_of}
use Rattle.ec_print.proofs.Spellable.Rules.{Spellable, AllSpellable, one_more, listed_spellable, phrase_lexical, phrase_no_end, Yields, given, behind, as_good, made, either, perhaps, function_yields, turned, token_yields}
use Rattle.ec_print.proofs.Spellable.Tokens.{number_yields, some_name_yields, base_yields, mode_yields, stars_spellable, stars_yield, type_yields, commas_yield, sequence_yields}
use Rattle.ec_print.proofs.Spellable.Expressions.{expr_yields}
use Rattle.ec_print.proofs.Spellable.Statements.{braces_yields, stmt_yields}

-- ---- structs

field_yields : (b : Base) → Spellable (S.base b) → Yields (I.field_name b) (λ f. Spellable (S.field f))
field_yields b k =
    behind (stars_yield token_yields 0) (λ n _. behind some_name_yields (λ x w.
    made (λ size. let f : Field = record { name = x; ty = Y.typed b n; array = size } in f) (λ size o. ((k, stars_spellable n), (w, (o, refl))))
    (perhaps {good' = λ size. Spellable (S.optional S.length_of size)} (λ z o. (refl, (o, refl))) tt (behind token_yields (λ _ _. behind number_yields (λ z o. behind token_yields (λ _ _. given o)))))))

fields_yield : (before : List Field) → AllSpellable S.field before → Yields (I.fields before) (AllSpellable S.field)
fields_yield before all =
    behind (base_yields 0) (λ b k. behind (field_yields b k) (λ first f.
    behind (commas_yield S.field (λ _. field_yields b k) 0 (before ++ first ∷ []) (one_more S.field before first all f)) (λ fs w. behind token_yields (λ _ _. given w))))

structure_yields : Yields I.structure (λ i. Spellable (S.item i))
structure_yields =
    behind token_yields (λ _ _. behind some_name_yields (λ x k. behind (token_yields) (λ _ _. behind (fields_yield [] tt) (λ first f. behind (turned fields_yield first f) (λ all w.
    behind token_yields (λ _ _. behind token_yields (λ _ _. given {a = StructItem (record { name = x; fields = all })} (refl, (k, (refl, (w, (refl, refl))))))))))))

-- ---- functions

parameter_yields : (before : ℕ) → Yields (I.parameter before) (λ p. Spellable (S.variable p))
parameter_yields before =
    behind (mode_yields 1) (λ how k. behind (base_yields 1) (λ b g. behind (stars_yield token_yields 0) (λ n _.
    made (λ x. let p : Decl = record { name = x; mode = how; ty = Y.typed b n; init = None } in p) (λ x w. (k, ((g, stars_spellable n), w))) some_name_yields)))

parameters_yield : Yields I.parameters (λ ps. Spellable (S.listed (map S.variable ps)))
parameters_yield =
    either (given tt) (either (behind token_yields (λ _ _. given tt))
    (as_good (λ ps. listed_spellable (map S.variable ps)) (behind (parameter_yields 0) (λ p k. commas_yield S.variable (λ ps. parameter_yields (length ps)) 1 (p ∷ []) (k, tt)))))

procedure_yields : (nested : ℕ) → Yields (I.procedure nested) (λ i. Spellable (S.item i))
procedure_yields nested =
    behind (type_yields token_yields 0) (λ ty k. behind some_name_yields (λ x w. behind token_yields (λ _ _. behind parameters_yield (λ ps g. behind token_yields (λ _ _.
    made (λ body. FuncItem (record { name = x; result = ty; params = ps; body = body })) (λ body o. (k, (w, ((refl, (g, refl)), o)))) (braces_yields 0 (expr_yields nested 1) (stmt_yields nested 1)))))))

-- ---- programs

program_yields : (nested : ℕ) → Yields (I.program nested) (λ p. Spellable (S.program p))
program_yields nested =
    behind (sequence_yields S.item (λ _. function_yields (either structure_yields (procedure_yields nested)))) (λ is k.
    made (λ at. let p : Program = record { items = is; end = at } in p) (λ _ _. k) (token_yields))

program_spellable : (ts : List Token) (p : Program) → AllLexical (kinds_of ts) → Reads ts p → Spellable (S.program p)
program_spellable ts p lexical (nested, s, read, left) = ((program_yields nested).each (start ts) p s read lexical).0

pub sentence_lexical : (ts : List Token) (p : Program) → AllLexical (kinds_of ts) → Reads ts p → AllLexical (S.sentence p)
sentence_lexical ts p lexical reads = phrase_lexical (S.program p) (program_spellable ts p lexical reads)

pub sentence_no_end : (ts : List Token) (p : Program) → AllLexical (kinds_of ts) → Reads ts p → NoEnd (S.sentence p)
sentence_no_end ts p lexical reads = phrase_no_end (S.program p) (program_spellable ts p lexical reads)
