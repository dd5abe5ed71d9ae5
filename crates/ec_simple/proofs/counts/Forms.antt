-- The simple form of a typed program keeps the counts where the program does.
use Rattle.std.proofs.Common.{◌≡◌, refl, ◌∙◌, ℕ, suc, ◌+◌, ◌≤◌, arith, Bool, true, ◌&&◌, List, [], ◌∷◌, ◌++◌, length, map, slice_get, Some}
use Rattle.std.proofs.lemmas.Bool.{and_parts}
use Rattle.std.proofs.lemmas.List.{length-map}
use Rattle.std.proofs.lemmas.List.Folds.{list_all-map}
use Rattle.std.specs.List.{list_all}
use Rattle.std.specs.Prelude.{nat_le}
use Rattle.ec_base.specs.declared.limits.TheConstants.{MAX_SOURCE, MAX_STRUCT_CELLS, MAX_STRUCTS}
use Rattle.ec_base.specs.declared.text.Text.{Text}
use Rattle.ec_calls.specs.Items.{functions, structs}
use Rattle.ec_simple.specs.declared.form.SFunc.{SFunc}
use Rattle.ec_simple.specs.Counts.{is_code_name, is_short_name, keeps, sizes, FunctionKeeps, ProgramKeeps, KeepsCounts}
use Rattle.ec_simple.specs.Lower.{of_struct, shapes, scope_of, own_variables, low_body, written, all_written, all_outlined, lowered}
use Rattle.ec_simple.specs.Statements.{low_declarations, low_stmts}
use Rattle.ec_simple.proofs.Same.{names}
use Rattle.ec_simple.proofs.counts.Bodies.{Kept, function_keeps, behind, all_kept}
use Rattle.ec_simple.proofs.counts.Code.{declarations_keep}
use Rattle.ec_simple.proofs.counts.Names.{short, short_code}
use Rattle.ec_simple.proofs.formed.Code.{both_true}
use Rattle.ec_simple.proofs.formed.Tests.{all_both}
use Rattle.ec_simple.proofs.lockstep.Statements.{declarations_none}
use Rattle.ec_simple.proofs.sound.Each.{Each}
use Rattle.ec_simple.proofs.sound.Programs.{typed_items}
use Rattle.ec_syntax.specs.declared.item.Program.{Program as Source}
use Rattle.ec_syntax.specs.declared.item.StructDef.{StructDef}
use Rattle.ec_types.specs.Meaning.Resolution as resolution
use Rattle.ec_types.specs.Meaning.Tree.{Function}
use Rattle.ec_types.specs.Programs.{IsTyped}
use Rattle.ec_types.specs.Sizes.{cells, is_length, is_small}

-- ---- functions

room : (g n : ℕ) → n ≤ MAX_SOURCE + 1 → g + suc n ≤ g + (MAX_SOURCE + 2)
room g n h = omega (arith, h)

abbrev All_keep : List SFunc → Type 0
All_keep fs = list_all function_keeps fs ≡ true

module _ (all : List Function) where
  body_kept : (name : Text) (f : Function) (g : ℕ) → is_short_name name ≡ true → FunctionKeeps f →
      Kept (suc (sizes f.body)) (low_body all name f g)
  body_kept name f g s k =
      let c = scope_of all name f g in
      let t = length (own_variables f) in
      let ld = low_declarations c f.decls t in
      let u = t + length ld.vars in
      behind (suc (sizes f.body)) ld (low_stmts c f.body u g) (declarations_none c f.decls t)
      (declarations_keep c f.decls t)
      (all_kept f.body c (short name s) u g (room g (sizes f.body) k.few) k.body)

  all_functions_keep : (ns : List Text) (fs : List Function) (g : ℕ) → list_all is_short_name ns ≡ true →
      ((i : ℕ) (f : Function) → slice_get fs i ≡ Some f → FunctionKeeps f) →
      All_keep (all_written all ns fs g) × All_keep (all_outlined all ns fs g)
  all_functions_keep [] fs g s k = (refl, refl)
  all_functions_keep (n ∷ ns) [] g s k = (refl, refl)
  all_functions_keep (n ∷ ns) (f ∷ fs) g s k =
      let own = (low_body all n f g).funcs in
      let rest = all_outlined all ns fs (g + length own) in
      let parts = and_parts (is_short_name n) (list_all is_short_name ns) s in
      let one = body_kept n f g parts.0 (k 0 f refl) in
      let others = all_functions_keep ns fs (g + length own) parts.1 (λ i h e. k (suc i) h e) in (
        both_true (function_keeps (written all n f g)) _
            (both_true (is_code_name n) _ (short_code n (short n parts.0)) one.code) others.0,
        all_both function_keeps own rest one.funcs others.1,
      )

-- two tests in each
all_parts : (p q : SFunc → Bool) (fs : List SFunc) → list_all (λ f. p f && q f) fs ≡ true →
    (list_all p fs ≡ true) × (list_all q fs ≡ true)
all_parts p q [] h = (refl, refl)
all_parts p q (f ∷ fs) h =
    let parts = and_parts (p f && q f) (list_all (λ x. p x && q x) fs) h in
    let one = and_parts (p f) (q f) parts.0 in
    let others = all_parts p q fs parts.1 in
    (both_true (p f) (list_all p fs) one.0 others.0, both_true (q f) (list_all q fs) one.1 others.1)

-- ---- shapes

small_cells : (ds : List StructDef) → Each (λ d. is_small d ≡ true) ds →
    list_all (λ s. nat_le s.cells MAX_STRUCT_CELLS) (map of_struct ds) ≡ true
small_cells [] h = refl
small_cells (d ∷ ds) h =
    both_true (nat_le (cells d) MAX_STRUCT_CELLS) _
    (and_parts (nat_le (cells d) MAX_STRUCT_CELLS) (list_all (λ f. is_length f.array) d.fields) h.0).0
    (small_cells ds h.1)

few_shapes : (ds : List StructDef) → length ds ≤ MAX_STRUCTS → length (shapes ds) ≤ MAX_STRUCTS + 2
few_shapes ds h = let same = length-map ds of_struct in omega (arith, h, same)

-- ---- programs

pub form_keeps : (p : Source) → IsTyped p → ProgramKeeps p → KeepsCounts (lowered p)
form_keeps p t k =
    let fs = resolution.program p in
    let n = length fs in
    let ws = all_written fs (names p) fs n in
    let os = all_outlined fs (names p) fs n in
    let all = all_functions_keep fs (names p) fs n
    (list_all-map is_short_name (λ f. f.name.text) (functions p) ∙ k.names) k.functions_keep in
    let parts = all_parts (λ f. is_code_name f.name) (λ f. list_all keeps f.body) (ws ++ os)
    (all_both function_keeps ws os all.0 all.1) in
    record {
      names = parts.0;
      shapes = few_shapes (structs p) k.structs_few;
      cells = small_cells (structs p) (typed_items p t).small;
      code = parts.1;
    }
