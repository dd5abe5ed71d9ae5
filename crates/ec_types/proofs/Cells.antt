-- Cells that are counted.
use Rattle.std.proofs.Common.{◌≡◌, refl, sym, ◌∙◌, ap, subst, ℕ, zero, suc, ◌+◌, ◌-◌, ◌^◌, ◌≤◌, min, List, [], ◌∷◌, length, drop, sum_by, arith}
use Rattle.ec_syntax.specs.declared.item.Field.{Field}
use Rattle.ec_types.specs.Sizes.{cells_of}

drop_past : {A : Type 0} (xs : List A) (k : ℕ) → length xs ≤ k → drop k xs ≡ []
drop_past [] zero h = refl
drop_past [] (suc k) h = refl
drop_past (x ∷ xs) zero h = absurd (omega arith)
drop_past (x ∷ xs) (suc k) h = drop_past xs k (omega arith)

at_most : (n whole : ℕ) → n ≤ 2 ^ 64 - 1 → min (n + 0) (2 ^ 64 - 1) ≡ whole → n ≡ whole
at_most n whole fits e = omega arith

-- all cells are counted where the loop ends
pub counted :
    (fs gs : List Field) (k sum whole : ℕ) → gs ≡ fs → length gs ≤ k → sum ≤ 2 ^ 64 - 1
    → min (sum + sum_by (λ f. cells_of f.array) (drop k fs)) (2 ^ 64 - 1) ≡ whole → sum ≡ whole
counted fs gs k sum whole same past fits e =
    at_most sum whole fits (ap (λ l. min (sum + sum_by (λ f. cells_of f.array) l) (2 ^ 64 - 1)) (sym (drop_past fs k (subst (λ l. length l ≤ k) same past))) ∙ e)
