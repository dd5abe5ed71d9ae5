-- Tables of sizes.
use Rattle.std.proofs.Common.{◌≡◌, refl, sym, ◌∙◌, ap, ℕ, ◌-◌, ◌^◌, ◌≤◌, min, Bool, true, false, true≢false, ◌&&◌, nat_le, Vec, Global, Option, Some, None, is_some, if◌then◌else◌, arith}
use Rattle.std.proofs.lemmas.Bool.Decides.{nat_tests}
use Rattle.std.specs.Cmp.Lexicographic.{nat_list_eq_equiv}
use Rattle.std.specs.Map.{KeepsOthers}
use Rattle.std.specs.Option.{option_or}
use Rattle.ec_base.specs.declared.text.Text.{Text}
use Rattle.ec_syntax.specs.declared.item.StructDef.{StructDef}
use Rattle.ec_syntax.specs.Grammar.Words.{same}
use Rattle.indexmap.specs.IndexMap.{IndexMap, Updates}
use Rattle.ec_types.specs.Sizes.{cells, is_small}
use Rattle.ec_types.specs.Tables.{size_in}
use Rattle.ec_types.proofs.Places.{same_is}

-- ---- a struct is noted

-- where its name stood before
pub keeps_size :
    {S : Type 0} (table : IndexMap (Vec ℕ Global) ℕ S) (s : StructDef) → is_some (size_in table s.name.text) ≡ true → (name : Text) (later : Option ℕ)
    → option_or (size_in table name) later ≡ option_or (size_in table name) (if same s.name.text name then Some (cells s) else later)
keeps_size table s there name later = by (same s.name.text name) refl
  where
    both : (o : Option ℕ) (x y : Option ℕ) → is_some o ≡ true → option_or o x ≡ option_or o y
    both None x y e = absurd (true≢false (sym e))
    both (Some n) x y e = refl

    by : (b : Bool) → same s.name.text name ≡ b → option_or (size_in table name) later ≡ option_or (size_in table name) (if b then Some (cells s) else later)
    by true e = both (size_in table name) later (Some (cells s)) (ap (λ n. is_some (size_in table n)) (sym (same_is s.name.text name e)) ∙ there)
    by false e = refl

-- a look-up of another name finds what it found before
finds_others :
    {S : Type 0} (old new : IndexMap (Vec ℕ Global) ℕ S) (key : Vec ℕ Global) (name : Text)
    → KeepsOthers (λ a b. same a.items b.items) (λ k. same key.items k.items) old.entries new.entries → same key.items name ≡ false
    → size_in new name ≡ size_in old name
unfolding KeepsOthers
finds_others old new key name kept other =
    kept (λ k. same name k.items) (λ x y. nat_list_eq_equiv.congr name x.items y.items)
    (λ k e. nat_list_eq_equiv.symm name k.items ∙ sym (nat_list_eq_equiv.congr key.items k.items name e) ∙ other)

-- and where it did not
pub adds_size :
    {S : Type 0} (old new : IndexMap (Vec ℕ Global) ℕ S) (s : StructDef) (key : Vec ℕ Global) → key.items ≡ s.name.text
    → is_some (size_in old s.name.text) ≡ false → Updates (λ a b. same a.items b.items) old new key (Some (cells s)) → (name : Text) (later : Option ℕ)
    → option_or (size_in new name) later ≡ option_or (size_in old name) (if same s.name.text name then Some (cells s) else later)
adds_size old new s key is fresh added name later = by (same s.name.text name) refl
  where
    none : (o : Option ℕ) (x : Option ℕ) → is_some o ≡ false → x ≡ option_or o x
    none None x e = refl
    none (Some n) x e = absurd (true≢false e)

    by : (b : Bool) → same s.name.text name ≡ b →
        option_or (size_in new name) later ≡ option_or (size_in old name) (if b then Some (cells s) else later)
    by true e =
        let found : size_in new name ≡ Some (cells s) = ap (size_in new) (sym (is ∙ same_is s.name.text name e)) ∙ added.1 in
        ap (λ o. option_or o later) found
        ∙ none (size_in old name) (Some (cells s)) (ap (λ n. is_some (size_in old n)) (sym (same_is s.name.text name e)) ∙ fresh)
    by false e = ap (λ o. option_or o later) (finds_others old new key name added.3 (ap (λ n. same n name) is ∙ e))

-- ---- small structs

test_holds : (a b : Bool) → (a && b) ≡ true → a ≡ true
test_holds true b e = refl
test_holds false b e = absurd (true≢false (sym e))

le_from : (m n : ℕ) → nat_le m n ≡ true → m ≤ n
le_from m n e = grind (arith, nat_tests)

pub few_cells : (s : StructDef) → is_small s ≡ true → cells s ≤ 64
few_cells s e = le_from (cells s) 64 (test_holds _ _ e)

-- the cells of a small struct can be counted
pub exactly : (s : StructDef) (n : ℕ) → is_small s ≡ true → n ≡ min (cells s) (2 ^ 64 - 1) → n ≡ cells s
exactly s n e is = within (cells s) n (few_cells s e) is
  where
    within : (m k : ℕ) → m ≤ 64 → k ≡ min m (2 ^ 64 - 1) → k ≡ m
    within m k few same = omega arith
