-- Cells of elements that are made.
use Rattle.std.proofs.Common.{◌≡◌, ◌<◌, ◌≤◌, ◌+◌, ◌-◌, ◌*◌, ◌/◌, ◌%◌, ◌==◌, if◌then◌else◌, ℕ, pos, zero, suc, List, [], ◌∷◌, ◌++◌, refl, arith, append_assoc, append-nil}
use Rattle.ec_base.specs.declared.value.Value.{Value}
use Rattle.ec_base.specs.declared.value.Value.TheVariants as v
use Rattle.ec_cells.specs.Blocks.{fresh_element, fresh_cells}

-- one cell more of those that are to come
pub element_more : (xs : List Value) (x : Value) (i n nils : ℕ) → i < n → x ≡ (if nils % 2 == 1 then v.Null else v.Int (pos 0)) →
    (xs ++ x ∷ []) ++ fresh_element (n - (i + 1)) (nils / 2) ≡ xs ++ fresh_element (n - i) nils
element_more xs x i n nils h is =
    let e : n - i ≡ suc (n - (i + 1)) = omega arith in
    rw (e, ← is) (append_assoc xs (x ∷ []) (fresh_element (n - (i + 1)) (nils / 2)))

pub element_done : (xs : List Value) (i n nils : ℕ) → n ≤ i → xs ++ fresh_element (n - i) nils ≡ xs
element_done xs i n nils h = let e : n - i ≡ 0 = omega arith in rw e (append-nil xs)

-- one element more of those that are to come
pub cells_more : (xs : List Value) (i n size nils : ℕ) → i < n →
    (xs ++ fresh_element size nils) ++ fresh_cells (n - (i + 1)) size nils ≡ xs ++ fresh_cells (n - i) size nils
cells_more xs i n size nils h =
    let e : n - i ≡ suc (n - (i + 1)) = omega arith in
    rw e (append_assoc xs (fresh_element size nils) (fresh_cells (n - (i + 1)) size nils))

pub cells_done : (xs : List Value) (i n size nils : ℕ) → n ≤ i → xs ++ fresh_cells (n - i) size nils ≡ xs
cells_done xs i n size nils h = let e : n - i ≡ 0 = omega arith in rw e (append-nil xs)

-- no elements, or elements without cells
pub no_cells : (count size nils : ℕ) → count * size ≡ 0 → fresh_cells count size nils ≡ []
no_cells zero size nils h = refl
no_cells (suc count) zero nils h = no_cells count zero nils (omega arith)
no_cells (suc count) (suc size) nils h = absurd (omega arith)

pub ruleset fills = (element_more, element_done, cells_more, cells_done, no_cells)
