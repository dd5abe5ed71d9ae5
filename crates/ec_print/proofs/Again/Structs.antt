-- Structs, read again.
use Rattle.std.proofs.Common.{◌≡◌, refl, sym, ◌∙◌, ap, ap₂, subst, ◌≤◌, ℕ, ℤ, suc, false, List, [], ◌∷◌, ◌++◌, map, append_assoc, codes, Option, Some, None}
use Rattle.ec_base.specs.declared.token.Mark.TheVariants as m
use Rattle.ec_base.specs.declared.token.TokenKind.TheVariants as t
use Rattle.ec_syntax.specs.Grammar.Items as I
use Rattle.ec_syntax.specs.Grammar.Language as L
use Rattle.ec_syntax.specs.Grammar.Language.{Language}
use Rattle.ec_syntax.specs.Grammar.State.{State, limits}
use Rattle.ec_syntax.specs.Grammar.Tokens as T
use Rattle.ec_syntax.specs.Grammar.Types as Y
use Rattle.ec_syntax.specs.declared.item.Field.{Field}
use Rattle.ec_syntax.specs.declared.item.Item.{Item}
use Rattle.ec_syntax.specs.declared.item.Item.TheVariants.{Struct as StructItem}
use Rattle.ec_syntax.specs.declared.name.Base.{Base}
use Rattle.ec_syntax.specs.declared.name.Base.TheVariants.{Void, Int, Struct}
use Rattle.ec_syntax.specs.declared.name.Name.{Name}
use Rattle.ec_print.specs.Phrase.{Phrase, tokens, ◌then◌}
use Rattle.ec_print.specs.Sentence as S
use Rattle.ec_print.specs.Unplaced as U
use Rattle.ec_print.proofs.Again.Readings.{Again, Agree, Kinds, Quiet, as_kinds, mapped, behind}
use Rattle.ec_print.proofs.Again.Tokens.{mark_kind, by_kind, retaken}
use Rattle.ec_print.proofs.Again.Marks.{anything, name_at, name_kind, mark_again, word_again, name_again, number_again}
use Rattle.ec_print.proofs.Again.Rules.{Repeats, Grows, settled, made, maybe_again}
use Rattle.ec_print.proofs.Again.Types.{base_again, stars_again}
use Rattle.ec_print.proofs.Again.Lists.{joins}
use Rattle.ec_print.proofs.Again.Calls.{Mirrors}
use Rattle.ec_print.proofs.Again.Assignments.{quiet_name}
use Rattle.ec_print.proofs.Again.Groups.{Free, free_name, free_give, free_behind, free_or, groups, group_grows, groups_grow, turns-append}
use Rattle.ec_print.proofs.Again.Declarations.{any_star, free_word, stars_quiet}

-- ---- fields

abbrev lengths : Language ℤ
lengths = L.◌>>◌ (T.mark 0 m.OpenBracket) (L.◌>>=◌ (T.number 1) (λ z. L.◌>>◌ (T.mark 1 m.CloseBracket) (L.give z)))

length_again : Mirrors false S.length_of (λ z. z) lengths lengths
length_again s a n (u, i, r, (z, j, q, (u', k, p, (e, f)))) =
    settled S.length_of (λ z. z) e f
    (behind tt tt (mark_again m.OpenBracket r) (λ _ _. behind z refl (number_again q) (λ z' h. made (λ _. z') (λ _ _. h) (mark_again m.CloseBracket p))))

optional_id : {A : Type 0} (o : Option A) → U.optional (λ z. z) o ≡ o
optional_id None = refl
optional_id (Some a) = refl

field_said : Field → Phrase
field_said f = S.stars f.ty.stars then S.word f.name.text then S.optional S.length_of f.array

abbrev a_field : Name → Base → ℕ → Option ℤ → Field
a_field x b k size = record { name = x; ty = Y.typed b k; array = size }

field_alike : (x x' : Name) (b b' : Base) (k k' : ℕ) (i i' : Option ℤ) → x'.text ≡ x.text → U.base b' ≡ U.base b → k' ≡ k → i' ≡ i → U.field (a_field x' b' k' i') ≡ U.field (a_field x b k i)
field_alike x x' b b' k k' i i' h g w o =
    ap₂ (λ y z. a_field (name_at y U.nowhere) z k' i') h g ∙ ap₂ (λ y z. a_field (name_at x.text U.nowhere) (U.base b) y z) w o

each_field : (b b' : Base) → U.base b' ≡ U.base b → Mirrors false field_said U.field (I.field_name b) (I.field_name b')
unfolding field_said
each_field b b' same s x n (k, i, r, (y, j, q, (size, o, p, (e, f)))) =
    settled field_said U.field e f
    (behind k refl (stars_again (T.mark 0 m.Star) (any_star 0) s k i r) (λ k' h. behind y refl (name_again q) (λ y' g.
    made (λ size'. a_field y' b' k' size') (λ size' w. field_alike y y' b b' k k' size size' g same h (sym (optional_id size') ∙ w ∙ optional_id size))
    (maybe_again S.length_of (λ z. z) lengths length_again j size o p))))

field_written : (b : Base) (s : State) (x : Field) (n : State) → I.field_name b limits s x n → (ks : Kinds) → tokens (S.field x) ++ ks ≡ tokens (S.base b) ++ (tokens (field_said x) ++ (t.Mark m.Semicolon ∷ ks))
unfolding field_said
field_written b s x n (k, i, r, (y, j, q, (size, o, p, (e, f)))) ks =
    subst (λ z. tokens (S.field z) ++ ks ≡ tokens (S.base b) ++ (tokens (field_said z) ++ (t.Mark m.Semicolon ∷ ks))) (sym e)
    (bracket (tokens (S.base b)) (tokens (S.stars k)) (tokens (S.optional S.length_of size)) y.text)
  where
    bracket : (bs ss is : Kinds) (w : List ℕ) → ((bs ++ ss) ++ (t.Word w ∷ (is ++ (t.Mark m.Semicolon ∷ [])))) ++ ks ≡ bs ++ ((ss ++ (t.Word w ∷ is)) ++ (t.Mark m.Semicolon ∷ ks))
    bracket bs ss is w = simp append_assoc

field_quiet : (b : Base) (s : State) (x : Field) (n : State) → I.field_name b limits s x n → Quiet s.left
field_quiet b s x n (k, i, r, (y, j, q, p)) =
    let named = name_kind q.token y q.picked in
    stars_quiet 0 s 0 k i r (subst (λ z. Quiet z) (sym q.stands) (quiet_name y.text named.1 q.token named.0))

base_free : (d : ℕ) → Free (Y.base d)
base_free d =
    free_or (Y.int_base d) (L.◌or◌ (L.◌>>◌ (T.word d (codes "void")) (L.give Void)) (Y.struct_base d))
    (free_behind (T.word d (codes "int")) (λ _. L.give Int) (free_word d (codes "int")) (λ _. free_give Int))
    (free_or (L.◌>>◌ (T.word d (codes "void")) (L.give Void)) (Y.struct_base d)
    (free_behind (T.word d (codes "void")) (λ _. L.give Void) (free_word d (codes "void")) (λ _. free_give Void))
    (free_behind (T.word d (codes "struct")) (λ _. L.◌>>=◌ (T.name d) (λ n. L.give (Struct n))) (free_word d (codes "struct")) (λ _. free_behind (T.name d) (λ n. L.give (Struct n)) (free_name d) (λ n. free_give (Struct n)))))

fields_grow : (s : State) (xs ys : List Field) (n : State) → I.fields xs limits s ys n → Grows false (joins S.field U.field) (map U.field) (groups 0 (Y.base 0) I.field_name) s xs ys n
fields_grow = group_grows 0 (Y.base 0) I.field_name I.field_name S.base U.base field_said S.field U.field (base_free 0) (base_again) each_field field_written field_quiet

more_fields_grow : (s : State) (xs ys : List Field) (n : State) → L.turns I.fields xs limits s ys n → Grows false (joins S.field U.field) (map U.field) (L.turns I.fields) s xs ys n
more_fields_grow = groups_grow 0 (Y.base 0) I.field_name I.field_name S.base U.base field_said S.field U.field (base_free 0) (base_again) each_field field_written field_quiet

-- all the fields of a struct
abbrev all_fields : Language (List Field)
all_fields = L.◌>>=◌ (I.fields []) (L.turns I.fields)

fields_again : (s : State) (xs ys : List Field) (i n : State) → I.fields [] limits s xs i → L.turns I.fields xs limits i ys n → Repeats false (λ fs. S.joined (map S.field fs)) (map U.field) all_fields s ys n
fields_again s xs ys i n r q =
    let g = fields_grow s [] xs i r in
    let h = more_fields_grow i xs ys n q in
    as_kinds (sym (h.1 ∙ ap (λ z. z ++ h.0) g.1))
    (mapped (λ t b o w k. (b, (let (x, j, (x0, j0, r0, rs0), rs) = w in (x0, j0, r0, turns-append j0 x0 x b j o rs0 rs)), k)) (behind xs refl (g.2 [] refl) h.2))

-- ---- structs

structs_on : (s t : State) → Agree false s t → Agree false (I.with_struct s) (I.with_struct t)
structs_on s t a = record { marks = a.marks; variables = a.variables; functions = a.functions; structs = ap suc a.structs }

brace_again : (s : State) (u : Unit {0}) (n : State) → I.struct_brace limits s u n → Again false s n I.struct_brace (t.Mark m.OpenBrace ∷ []) anything
brace_again s u n h =
    let has = mark_kind m.OpenBrace h.token u h.picked in
    retaken h has
    (λ y e. record { value = u; picked = by_kind (T.only (T.is_mark m.OpenBrace)) u h.token y (λ j at bt. refl) (e ∙ sym has) h.picked; liked = tt; within = λ t a. (subst (λ k. suc k ≤ 256) (sym a.structs) h.within.0, tt) })
    (λ t a. structs_on s t a)

struct_of : List ℕ → List Field → Item
struct_of w fs = StructItem (record { name = name_at w U.nowhere; fields = fs })

abbrev struct_end : Name → List Field → Language Item
struct_end x all = L.◌>>◌ (T.mark 0 m.CloseBrace) (L.◌>>◌ (T.mark 0 m.Semicolon) (L.give (StructItem (record { name = x; fields = all }))))

abbrev struct_body : Name → Language Item
struct_body x = L.◌>>=◌ (I.fields []) (λ first. L.◌>>=◌ (L.turns I.fields first) (struct_end x))

pub structure_again : Mirrors false S.item U.item I.structure I.structure
unfolding struct_of
structure_again s x n (u1, s1, r1, (y, s2, r2, (u3, s3, r3, (first, s4, r4, (all, s5, r5, (u6, s6, r6, (u7, s7, r7, (e, f)))))))) =
    settled S.item U.item e f
    (behind tt tt (word_again (codes "struct") r1) (λ _ _. behind y refl (name_again r2) (λ y' h. behind tt tt (brace_again s2 u3 s3 r3) (λ _ _.
    mapped {l' = struct_body y'} (λ t b o w k. (b, (let (fs, j, (x0, j0, r0, rs0), rest) = w in (x0, j0, r0, (fs, j, rs0, rest))), k))
    (behind all refl (fields_again s3 first all s4 s5 r4 r5) (λ all' g. behind tt tt (mark_again m.CloseBrace r6) (λ _ _.
    made (λ _. StructItem (record { name = y'; fields = all' })) (λ _ _. ap₂ struct_of h g) (mark_again m.Semicolon r7))))))))
