-- Items and programs are decided.
use Rattle.std.proofs.Common.{◌≡◌, ◌≤◌, ℕ, Bool, true, false, List, [], ◌∷◌, ◌++◌, is_some, codes, refl, ap, sym, ◌∙◌, subst, inl, inr, arith}
use Rattle.ec_base.specs.declared.limits.TheConstants.{MAX_NESTING}
use Rattle.ec_base.specs.declared.token.Mark.TheVariants as m
use Rattle.ec_base.specs.declared.token.Span.{Span}
use Rattle.ec_base.specs.declared.token.Token.{Token}
use Rattle.ec_base.specs.declared.token.TokenKind.TheVariants as t
use Rattle.ec_syntax.specs.declared.item.Item.{Item}
use Rattle.ec_syntax.specs.declared.name.Base.{Base}
use Rattle.ec_syntax.specs.declared.name.Base.TheVariants.{Void, Int, Struct}
use Rattle.ec_syntax.specs.declared.name.Name.{Name}
use Rattle.ec_syntax.specs.Grammar.State.{State, Asked}
use Rattle.ec_syntax.specs.Grammar.Language as L
use Rattle.ec_syntax.specs.Grammar.Language.{Language, first_is, ◌or◌, ◌>>=◌, ◌>>◌}
use Rattle.ec_syntax.specs.Grammar.Tokens as LT
use Rattle.ec_syntax.specs.Grammar.Tokens.{is_word, is_mark, is_end}
use Rattle.ec_syntax.specs.Grammar.Types as LY
use Rattle.ec_syntax.specs.Grammar.Types.{typed}
use Rattle.ec_syntax.specs.Grammar.Items as LI
use Rattle.ec_syntax.specs.Descent.Reader as R
use Rattle.ec_syntax.specs.Descent.Reader.{Reader, and_then, when, ◌>>=◌ as ◌▸=◌, ◌>>◌ as ◌▸◌}
use Rattle.ec_syntax.specs.Descent.Tokens as RT
use Rattle.ec_syntax.specs.Descent.Tokens.{begins_base}
use Rattle.ec_syntax.specs.Descent.Items as RI
use Rattle.ec_syntax.proofs.Decision.Procedures.{is_else, Decides, Within, Apart, enough}
use Rattle.ec_syntax.proofs.Decision.Basics.{renamed, same_reader, same_language, reindexed}
use Rattle.ec_syntax.proofs.Decision.Sequencing.{followed_maybe}
use Rattle.ec_syntax.proofs.Decision.Alternatives.{either}
use Rattle.ec_syntax.proofs.Decision.Repetition.{turning}
use Rattle.ec_syntax.proofs.Nesting.Limits.{functioned}
use Rattle.ec_syntax.proofs.Lookahead.FirstSets.{one_of, itself, split, swapped, or_apart, apart_none, none_within}
use Rattle.ec_syntax.proofs.Items.Tokens.{is_int, void_word, is_struct, word_decides, name_decides}
use Rattle.ec_syntax.proofs.Decision.Equations.{bind_same, when_then, when_else, not_read, decided}
use Rattle.ec_syntax.proofs.Items.Structs.{after, made, star_or_name, structure, structure_decides, name_not_mark, mark_not_mark}
use Rattle.ec_syntax.proofs.Items.Parameters.{word_not_word}
use Rattle.ec_syntax.proofs.Items.Functions.{typed_procedure, procedure, procedure_decides}
use Rattle.ec_syntax.proofs.Tokens.Classes.{from_word}
use Rattle.ec_syntax.proofs.Tokens.Samples.{int_sample, void_sample, struct_sample, nowhere}
use Rattle.ec_syntax.proofs.Decision.OneToken.{Takable, taken}

-- ---- items as they are read

-- behind `struct` and a name
abbrev structured : ℕ → Name → Language Item
structured nested n = structure n or procedure nested (Struct n)

structured_decides : {X : Type 0} {goes : Token → Bool} (nested : ℕ) (n : X → Name) →
    Decides {X = X} (enough ≤ nested) 0 (λ x. RI.structured MAX_NESTING (n x))
    (λ x. structured nested (n x)) ⊥ (one_of (is_mark m.OpenBrace) star_or_name) goes
structured_decides nested n = either (is_mark m.OpenBrace) (structure_decides n) (procedure_decides nested (λ x. Struct (n x))) (itself _)
    (or_apart _ _ _ (mark_not_mark m.Star m.OpenBrace refl) (name_not_mark m.OpenBrace)) (λ e. absurd e)

-- "int" | "void"
abbrev simple : Language Base
simple = LY.int_base 0 or (LT.word 0 (codes "void") >> L.give Void)

abbrev int_reader : Reader Base
int_reader = RT.word (codes "int") ▸ R.give Int

abbrev void_reader : Reader Base
void_reader = RT.word (codes "void") ▸ R.give Void

abbrev simple_reader : Reader Base
simple_reader = when is_int int_reader void_reader

simple_decides : {X able : Type 0} {goes : Token → Bool} →
    Decides {X = X} able 0 (λ _. simple_reader) (λ _. simple) ⊥ (one_of is_int void_word) goes
simple_decides = either is_int (made (λ _ _. Int) (word_decides (omega arith) (codes "int") int_sample)) (made (λ _ _. Void) (word_decides (omega arith) (codes "void") void_sample))
    (itself _) (word_not_word (codes "void") (codes "int") refl) (λ e. absurd e)

-- an item, told by its first token
abbrev told : ℕ → Language Item
told nested = (LT.word 0 (codes "struct") >> (LT.name 0 >>= structured nested)) or (simple >>= procedure nested)

abbrev struct_reader : Reader Item
struct_reader = RT.word (codes "struct") ▸ (RT.name ▸= RI.structured MAX_NESTING)

abbrev told_reader : Reader Item
told_reader = when is_struct struct_reader (simple_reader ▸= RI.procedure MAX_NESTING)

abbrev begins_told : Token → Bool
begins_told = one_of is_struct (one_of is_int void_word)

told_decides : {X : Type 0} {goes : Token → Bool} (nested : ℕ) →
    Decides {X = X} (enough ≤ nested) 0 (λ _. told_reader) (λ _. told nested) ⊥ begins_told goes
told_decides nested = either is_struct (after _ (word_decides (omega arith) (codes "struct") struct_sample) (after _ (name_decides (omega arith)) (structured_decides nested (λ x. x.1))))
    (after _ simple_decides (procedure_decides nested (λ x. x.1))) (itself _)
    (or_apart _ _ _ (word_not_word (codes "int") (codes "struct") refl) (word_not_word (codes "void") (codes "struct") refl)) (λ e. absurd e)

-- ---- the same items as in the grammar

abbrev item : ℕ → Language Item
item nested = LI.structure or LI.procedure nested

told_to : (nested : ℕ) (asked : Asked) (s : State) (i : Item) (s' : State) → told nested asked s i s' →
    item nested asked s i s'
told_to nested asked s i s' (inl (u, m, word, (n, k, name, inl h))) = inl (u, m, word, (n, k, name, h))
told_to nested asked s i s' (inl (u, m, word, (n, k, name, inr (c, l, stars, h)))) =
    inr (typed (Struct n) c, l, (Struct n, k, inr (inr (u, m, word, (n, k, name, (refl, refl)))), (c, l, stars, (refl, refl))), h)
told_to nested asked s i s' (inr (b, m, inl int, (c, l, stars, h))) = inr (typed b c, l, (b, m, inl int, (c, l, stars, (refl, refl))), h)
told_to nested asked s i s' (inr (b, m, inr void, (c, l, stars, h))) = inr (typed b c, l, (b, m, inr (inl void), (c, l, stars, (refl, refl))), h)

-- a function's base tells which it is
based_from : (nested : ℕ) (asked : Asked) (s : State) (b : Base) (m : State) (i : Item) (s' : State) →
    LY.base 0 asked s b m → procedure nested b asked m i s' → told nested asked s i s'
based_from nested asked s b m i s' (inl int) h = inr (b, m, inl int, h)
based_from nested asked s b m i s' (inr (inl void)) h = inr (b, m, inr void, h)
based_from nested asked s b m i s' (inr (inr (u, k, word, (n, l, name, (e, f))))) h =
    inl (u, k, word, (n, l, name, inr (subst (λ z. procedure nested z asked l i s') e (subst (λ z. procedure nested b asked z i s') f h))))

told_from : (nested : ℕ) (asked : Asked) (s : State) (i : Item) (s' : State) → item nested asked s i s' →
    told nested asked s i s'
told_from nested asked s i s' (inl (u, m, word, (n, k, name, h))) = inl (u, m, word, (n, k, name, inl h))
told_from nested asked s i s' (inr (ty, l, (b, m, base, (c, k, stars, (e, f))), h)) =
    based_from nested asked s b m i s' base (c, k, stars, subst (λ z. typed_procedure nested z asked k i s') e (subst (λ z. typed_procedure nested ty asked z i s') f h))

-- ---- the same reader

read_base : (s : State) → first_is is_struct s.left ≡ false → simple_reader s ≡ RT.base s
read_base s h = decided (first_is is_int s.left)
    (λ i. when_then is_int int_reader void_reader s i ∙ sym (when_then is_int int_reader (when void_word void_reader RT.struct_base) s i))
    (λ i. when_else is_int int_reader void_reader s i ∙ void_base ∙ sym (when_else is_int int_reader (when void_word void_reader RT.struct_base) s i))
  where
    void_base : void_reader s ≡ when void_word void_reader RT.struct_base s
    void_base = decided (first_is void_word s.left)
        (λ v. sym (when_then void_word void_reader RT.struct_base s v))
        (λ v. ap (λ o. and_then o (λ _. R.give Void)) (not_read void_word s v)
        ∙ sym (when_else void_word void_reader RT.struct_base s v ∙ ap (λ o. and_then o (λ _. RT.name ▸= (λ n. R.give (Struct n)))) (not_read is_struct s h)))

abbrev item_reader : Reader Item
item_reader = when is_struct struct_reader (RT.base ▸= RI.procedure MAX_NESTING)

read_item : (s : State) → told_reader s ≡ item_reader s
read_item s = decided (first_is is_struct s.left)
    (λ h. when_then is_struct struct_reader (simple_reader ▸= RI.procedure MAX_NESTING) s h ∙ sym (when_then is_struct struct_reader (RT.base ▸= RI.procedure MAX_NESTING) s h))
    (λ h. when_else is_struct struct_reader (simple_reader ▸= RI.procedure MAX_NESTING) s h ∙ bind_same simple_reader RT.base (RI.procedure MAX_NESTING) s (read_base s h)
    ∙ sym (when_else is_struct struct_reader (RT.base ▸= RI.procedure MAX_NESTING) s h))

told_within : Within begins_told begins_base
told_within x = split _ _ (from_word (codes "struct") begins_base true (λ at. refl) x) (split _ _ (from_word (codes "int") begins_base true (λ at. refl) x) (from_word (codes "void") begins_base true (λ at. refl) x))

base_within : Within begins_base begins_told
base_within x = split _ _ (split _ _ (from_word (codes "int") begins_told true (λ at. refl) x) (from_word (codes "void") begins_told true (λ at. refl) x)) (from_word (codes "struct") begins_told true (λ at. refl) x)

pub item_decides : {X : Type 0} {goes : Token → Bool} (nested : ℕ) →
    Decides {X = X} (enough ≤ nested) 0 (λ _. RI.item MAX_NESTING) (λ _. L.function (item nested)) ⊥ begins_base goes
item_decides nested = functioned (renamed told_within base_within (same_reader (λ _. read_item) (same_language (λ _. told_to nested) (λ _. told_from nested) (told_decides nested))))

-- ---- programs

end_told : (x : Token) → is_end x ≡ is_some (LI.at_end x)
end_told x = by (is_end x)
  where
    by : (b : Bool) → b ≡ is_some (LI.place_if b x)
    by true = refl
    by false = refl

end_takable : {X : Type 0} → Takable {X = X} {A = Span} LI.at_end (λ _ s a. []) (λ s. s) is_end
end_takable = record {
  shallow = λ x s a. refl;
  counts_still = λ x s ts a. refl;
  counted_still = λ s ts. refl;
  told = end_told;
  token = record { kind = t.End; at = nowhere };
  value = nowhere;
  picked = refl;
  lexical = refl;
  no_else = refl;
}

end_decides : {X able : Type 0} {goes : Token → Bool} → Decides {X = X} able 0 (λ _. RI.end) (λ _. LI.end) ⊥ is_end goes
end_decides = taken _ 0 _ (omega arith) end_takable

abbrev next : ℕ → List Item → Language (List Item)
next nested is = L.function (item nested) >>= (λ i. L.give (is ++ i ∷ []))

abbrev next_reader : List Item → Reader (List Item)
next_reader is = RI.item MAX_NESTING ▸= (λ i. R.give (is ++ i ∷ []))

next_decides : {X : Type 0} {goes : Token → Bool} (nested : ℕ) (is : X → List Item) →
    Decides {X = X} (enough ≤ nested) 0 (λ x. next_reader (is x)) (λ x. next nested (is x)) ⊥ begins_base goes
next_decides nested is = made (λ x i. is x ++ i ∷ []) (item_decides nested)

items_decide : {X : Type 0} (nested : ℕ) →
    Decides {X = X} (enough ≤ nested) 0 (λ _. R.turns RI.begins_item next_reader []) (λ _. L.turns (next nested) [])
    (Unit {0}) begins_base begins_base
items_decide nested = reindexed (λ _. (tt, [])) (turning {X = Unit {0}} (λ _. next_reader) (λ _. next nested) (next_decides nested (λ x. x.1)) (apart_none _) (none_within _) (itself _))

abbrev pub begins_program : Token → Bool
begins_program = one_of begins_base is_end

-- no word is the end
end_word : (w : List ℕ) → Apart (is_word w) is_end
end_word w = from_word w is_end false (λ at. refl)

pub program_decides : (nested : ℕ) → Decides {X = Unit {0}} (enough ≤ nested) 0 (λ _. RI.read)
    (λ _. LI.program nested) ⊥ begins_program (λ x. false)
program_decides nested = followed_maybe _ (items_decide nested) (made (λ x at. record { items = x.1; end = at }) end_decides)
    (swapped begins_base is_end (λ x. split _ _ (split _ _ (end_word (codes "int") x) (end_word (codes "void") x)) (end_word (codes "struct") x))) (λ e. absurd e)
    (swapped is_else is_end (end_word (codes "else"))) tt
