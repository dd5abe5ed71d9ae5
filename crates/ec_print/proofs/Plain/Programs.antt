-- Programs: the plain tokens of which they are read are their sentences.
use Rattle.std.proofs.Common.{◌≡◌, refl, sym, ◌∙◌, ap, ap₂, subst, inl, inr, true≢false, ℕ, List, [], ◌∷◌, ◌++◌, map, length, append_assoc, append-nil, codes, None}
use Rattle.ec_base.specs.declared.token.Mark.TheVariants as m
use Rattle.ec_base.specs.declared.token.TokenKind.TheVariants as t
use Rattle.ec_syntax.specs.Grammar.Expressions as E
use Rattle.ec_syntax.specs.Grammar.Items as I
use Rattle.ec_syntax.specs.Grammar.Language as L
use Rattle.ec_syntax.specs.Grammar.Language.{Language}
use Rattle.ec_syntax.specs.Grammar.Reading.{start}
use Rattle.ec_syntax.specs.Grammar.State.{State, limits}
use Rattle.ec_syntax.specs.Grammar.Statements as Z
use Rattle.ec_syntax.specs.Grammar.Tokens as T
use Rattle.ec_syntax.specs.Grammar.Types as Y
use Rattle.ec_syntax.specs.Grammar.Words.{is_name}
use Rattle.ec_syntax.specs.declared.item.Field.{Field}
use Rattle.ec_syntax.specs.declared.item.Item.{Item}
use Rattle.ec_syntax.specs.declared.item.Item.TheVariants.{Func as FuncItem}
use Rattle.ec_syntax.specs.declared.item.Program.{Program}
use Rattle.ec_syntax.specs.declared.name.Base.{Base}
use Rattle.ec_syntax.specs.declared.name.Name.{Name}
use Rattle.ec_syntax.specs.declared.name.Ty.{Ty}
use Rattle.ec_syntax.specs.declared.statement.Decl.{Decl}
use Rattle.ec_print.specs.Phrase.{tokens}
use Rattle.ec_print.specs.Plain.{PlainIsSentence, with_void}
use Rattle.ec_print.specs.Sentence as S
use Rattle.ec_print.proofs.Again.Readings.{Kinds, kinds_of}
use Rattle.ec_print.proofs.Again.Lists.{joins-snoc}
use Rattle.ec_print.proofs.Again.Marks.{name_kind}
use Rattle.ec_print.proofs.Again.Tokens.{mark_kind, word_kind}
use Rattle.ec_print.proofs.Again.Programs.{end_kind}
use Rattle.ec_print.proofs.Plain.Rules.{Clean, Read, Spelt, Spells, weaker, spelt, either, behind, ends, given, perhaps, function_spelt, turned, taken, stands, no_comma}
use Rattle.ec_print.proofs.Plain.Tokens.{mark_spelt, closing_spelt, word_spelt, no_mark, name_spelt, number_spelt, base_spelt, mode_spelt, stars_spelt, type_spelt, sequence_spelt, some_spelt}
use Rattle.ec_print.proofs.Plain.Expressions.{expr_spelt}
use Rattle.ec_print.proofs.Plain.Statements.{braces_spelt, stmt_spelt}

-- ---- structs

-- behind a base, and before a semicolon
Fields : Base → Field → Kinds → Type 0
Fields b f ks = tokens (S.base b) ++ (ks ++ t.Mark m.Semicolon ∷ []) ≡ tokens (S.field f)

field_said : (ty star name size : Kinds) → ty ++ ((star ++ (name ++ size)) ++ t.Mark m.Semicolon ∷ []) ≡ (ty ++ star) ++ (name ++ (size ++ t.Mark m.Semicolon ∷ []))
field_said ty star name size = simp append_assoc refl

length_spelt : Spells 0 (S.optional S.length_of) (L.maybe (L.◌>>◌ (T.mark 0 m.OpenBracket) (L.◌>>=◌ (T.number 1) (λ n. L.◌>>◌ (T.mark 1 m.CloseBracket) (L.give n)))))
length_spelt = perhaps (behind (mark_spelt m.OpenBracket (behind (number_spelt (λ n. behind (mark_spelt m.CloseBracket (given refl))))))) refl

field_spelt : (b : Base) → Spelt 0 0 (I.field_name b) (Fields b)
unfolding Fields
field_spelt b =
    behind (spelt S.stars (stars_spelt (mark_spelt m.Star refl)) (λ k. behind (name_spelt (λ x.
    ends (λ size. let f : Field = record { name = x; ty = Y.typed b k; array = size } in f)
    (spelt (S.optional S.length_of) length_spelt (λ size. field_said (tokens (S.base b)) (tokens (S.stars k)) (t.Word x.text ∷ []) (tokens (S.optional S.length_of size))))))))

fields_spelt : (before : List Field) (ks : Kinds) → ks ≡ tokens (S.joined (map S.field before)) → Spelt 0 0 (I.fields before) (λ fs ls. ks ++ ls ≡ tokens (S.joined (map S.field fs)))
unfolding Fields
fields_spelt before ks e =
    behind (spelt S.base (base_spelt 0) (λ b. behind (weaker (λ x ls f.
    behind (turned (λ _ _ _. behind {p = 0} (no_mark m.Comma no_comma)) (before ++ x ∷ []) [] (behind (mark_spelt m.Semicolon (given
    (ap₂ (λ y z. y ++ z) e f ∙ sym (joins-snoc S.field (λ z. z) before x)))))))
    (field_spelt b))))

structure_said : (x : List ℕ) (fs : List Field) (ks ls : Kinds) → ks ++ ls ≡ tokens (S.joined (map S.field fs)) →
    t.Word (codes "struct") ∷ (t.Word x ∷ (t.Mark m.OpenBrace ∷ (ks ++ (ls ++ (t.Mark m.CloseBrace ∷ (t.Mark m.Semicolon ∷ []))))))
    ≡ t.Word (codes "struct") ∷ (t.Word x ∷ (t.Mark m.OpenBrace ∷ (tokens (S.joined (map S.field fs)) ++ (t.Mark m.CloseBrace ∷ (t.Mark m.Semicolon ∷ [])))))
structure_said x fs ks ls e =
    ap (λ z. t.Word (codes "struct") ∷ (t.Word x ∷ (t.Mark m.OpenBrace ∷ z)))
    (sym (append_assoc ks ls (t.Mark m.CloseBrace ∷ (t.Mark m.Semicolon ∷ []))) ∙ ap (λ z. z ++ (t.Mark m.CloseBrace ∷ (t.Mark m.Semicolon ∷ []))) e)

structure_spelt : Spells 0 S.item I.structure
structure_spelt =
    behind (word_spelt (codes "struct") (behind (name_spelt (λ x. behind (mark_spelt m.OpenBrace (behind (weaker (λ first ks e. behind (weaker (λ fs ls w.
    behind (mark_spelt m.CloseBrace (behind (mark_spelt m.Semicolon (given (structure_said x.text fs ks ls w))))))
    (turned fields_spelt first ks e))) (fields_spelt [] [] refl))))))))

-- ---- functions

parameter_spelt : (before : ℕ) → Spells 1 S.variable (I.parameter before)
parameter_spelt before =
    behind (spelt S.mode (mode_spelt 1) (λ how. behind (spelt S.base (base_spelt 1) (λ b. behind (spelt S.stars (stars_spelt (mark_spelt m.Star refl)) (λ k.
    ends (λ x. let p : Decl = record { name = x; mode = how; ty = Y.typed b k; init = None } in p)
    (name_spelt (λ x. ap (λ z. tokens (S.mode how) ++ z) (sym (append_assoc (tokens (S.base b)) (tokens (S.stars k)) (t.Word x.text ∷ [])))))))))))

abbrev some_parameters : Language (List Decl)
some_parameters = L.◌>>=◌ (I.parameter 0) (λ p. L.turns (λ ps. L.◌>>◌ (T.mark 1 m.Comma) (L.◌>>=◌ (I.parameter (length ps)) (λ p. L.give (ps ++ p ∷ [])))) (p ∷ []))

parameters_spelt : Spells 1 (λ ps. S.listed (map S.variable ps)) some_parameters
parameters_spelt = some_spelt S.variable (λ ps. parameter_spelt (length ps)) 1

module _ (nested : ℕ) (result : Ty) where
  -- a function behind its type, with these parameters
  abbrev procedure_with : Language (List Decl) → Language Item
  procedure_with parameters =
      L.◌>>=◌ (T.function_name 0) (λ x. L.◌>>◌ (T.mark 0 m.OpenParen) (L.◌>>=◌ parameters (λ ps. L.◌>>◌ (T.mark 1 m.CloseParen)
      (L.◌>>=◌ (Z.braces 0 (E.expr nested 1) (Z.stmt nested 1)) (λ body. L.give (FuncItem (record { name = x; result = result; params = ps; body = body })))))))

  abbrev Functions : Item → Kinds → Type 0
  Functions i ks = tokens (S.type result) ++ ks ≡ tokens (S.item i)

  with_spelt : {parameters : Language (List Decl)} → Spells 1 (λ ps. S.listed (map S.variable ps)) parameters → Spelt 0 0 (procedure_with parameters) Functions
  with_spelt h =
      behind (name_spelt (λ x. behind (mark_spelt m.OpenParen (behind (spelt (λ ps. S.listed (map S.variable ps)) h (λ ps. behind (closing_spelt {o = 0}
      (ends (λ body. FuncItem (record { name = x; result = result; params = ps; body = body }))
      (spelt S.body (braces_spelt 0 (expr_spelt nested 1) (stmt_spelt nested 1)) (λ body.
      ap (λ z. tokens (S.type result) ++ (t.Word x.text ∷ (t.Mark m.OpenParen ∷ z))) (sym (append_assoc (tokens (S.listed (map S.variable ps))) (t.Mark m.CloseParen ∷ []) (tokens (S.body body))))))))))))))

  -- `void` alone is no list of parameters
  no_void : (s i j k n : State) (x : Name) (u w v : Unit {0}) → T.function_name 0 limits s x i → T.mark 0 m.OpenParen limits i u j → T.word 1 (codes "void") limits j w k → T.mark 1 m.CloseParen limits k v n →
      Clean 0 (kinds_of s.left) → ⊥
  no_void s i j k n x u w v named opened void closed c =
      let name = name_kind named.token x named.picked in
      let all : kinds_of s.left ≡ with_void x.text ++ kinds_of n.left =
      stands named name.0
      ∙ ap (λ z. t.Word x.text ∷ z) (stands opened (mark_kind m.OpenParen opened.token u opened.picked))
      ∙ ap (λ z. t.Word x.text ∷ (t.Mark m.OpenParen ∷ z)) (stands void (word_kind (codes "void") void.token w void.picked))
      ∙ ap (λ z. t.Word x.text ∷ (t.Mark m.OpenParen ∷ (t.Word (codes "void") ∷ z))) (stands closed (mark_kind m.CloseParen closed.token v closed.picked)) in
      let sizeof = c.plain.voids c.before x.text (kinds_of n.left, ap (λ z. c.before ++ z) all) in
      true≢false (sym name.1 ∙ ap is_name sizeof)

  rest_spelt : Spelt 0 0 (procedure_with I.parameters) Functions
  rest_spelt = record { each = go }
    where
      go : (s : State) (f : Item) (n : State) → procedure_with I.parameters limits s f n → Clean 0 (kinds_of s.left) → Read 0 s n (Functions f)
      go s f n (x, i, named, (u, j, opened, (ps, k, inl r, rest))) c = (with_spelt {parameters = L.give []} (given refl)).each s f n (x, i, named, (u, j, opened, (ps, k, r, rest))) c
      go s f n (x, i, named, (u, j, opened, (ps, k, inr (inl (w, k', void, (e, same))), (v, o, closed, rest)))) c =
          absurd (no_void s i j k' o x u w v named opened void (subst (λ z. T.mark 1 m.CloseParen limits z v o) same closed) c)
      go s f n (x, i, named, (u, j, opened, (ps, k, inr (inr r), rest))) c = (with_spelt parameters_spelt).each s f n (x, i, named, (u, j, opened, (ps, k, r, rest))) c

procedure_spelt : (nested : ℕ) → Spells 0 S.item (I.procedure nested)
procedure_spelt nested = behind (spelt S.type (type_spelt (mark_spelt m.Star refl) 0) (λ result. rest_spelt nested result))

-- ---- programs

program_spelt : (nested : ℕ) → Spelt 0 0 (I.program nested) (λ p ks. ks ≡ S.sentence p ++ t.End ∷ [])
program_spelt nested =
    behind (spelt (λ is. S.joined (map S.item is)) (sequence_spelt S.item (λ _. function_spelt (either structure_spelt (procedure_spelt nested)))) (λ is.
    ends (λ at. let p : Program = record { items = is; end = at } in p) (taken (λ x at e. (t.End, end_kind x at e, refl, refl)))))

pub plain_is_sentence : PlainIsSentence
plain_is_sentence ts p (nested, s, read, left) plain =
    let w = (program_spelt nested).each (start ts) p s read (record { before = []; depth = refl; plain = plain }) in
    w.is ∙ ap (λ z. w.kinds ++ kinds_of z) left ∙ append-nil w.kinds ∙ w.holds
