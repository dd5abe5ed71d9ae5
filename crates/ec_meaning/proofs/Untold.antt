-- Where blocks are in order, numbers stand for paths: a block's for its own, and further ones for paths of no block.
use Rattle.std.proofs.Common.{◌≡◌, ℕ, zero, suc, ◌<◌, ◌≤◌, List, [], ◌∷◌, ◌++◌, length, get_or, Option, None, Some, is_some, unwrap_or, slice_get, option_map, refl, sym, ap, subst, ◌∙◌, ◌⊎◌, inl, inr, arith, nat_cmp, true≢false}
use Rattle.std.specs.Cmp.Lexicographic.{slice_cmp}
use Rattle.std.proofs.Math.ListN.{get_or-eq_default}
use Rattle.std.proofs.lemmas.Bool.{cases_lt}
use Rattle.std.proofs.lemmas.List.{get_or_default}
use Rattle.std.proofs.lemmas.Map.Keys.{Less-from_sorted}
use Rattle.std.proofs.lemmas.Option.{get_or_from_slice_get, slice_get-map}
use Rattle.ec_types.specs.Meaning.Values.{Path}
use Rattle.ec_types.specs.Meaning.State.{Placed, Fork}
use Rattle.ec_meaning.specs.declared.value.Block.{Block}
use Rattle.ec_meaning.specs.declared.shared_state.Core.{Core}
use Rattle.ec_meaning.specs.Seen.{Untold, Tells}
use Rattle.ec_meaning.specs.Order.{IsBefore, paths, next_path, InOrder}
use Rattle.ec_meaning.proofs.Order.{IsBefore_trans, IsBefore_irrefl, IsBefore-inner, IsBefore-later}

path_at : (blocks : List Block) (k : ℕ) (b : Block) → slice_get blocks k ≡ Some b
    → slice_get (paths blocks) k ≡ Some b.path
path_at blocks k b is = slice_get-map (λ block. block.path) blocks k ∙ ap (option_map (λ block. block.path)) is

-- further numbers stand for births within the next one
pub told : Core → ℕ → Path
told c k = get_or (paths c.blocks.items) k (next_path c ++ k ∷ [])

abbrev pub untold : Core → List Placed → List Fork → Untold
untold c placed forks = record { paths = told c; places = placed; forks = forks }

module _ (c : Core) where
  abbrev all : List Path
  all = paths c.blocks.items

  within : (k : ℕ) → k < length all → told c k ≡ get_or all k []
  unfolding told
  within k l = get_or_default all k (next_path c ++ k ∷ []) [] l

  behind : (k : ℕ) → length all ≤ k → told c k ≡ next_path c ++ k ∷ []
  unfolding told
  behind k l = get_or-eq_default all (next_path c ++ k ∷ []) l

  further : (i j : ℕ) → i < j → length all ≤ i → IsBefore (told c i) (told c j)
  further i j l past = rw (behind i past, behind j (omega arith)) (IsBefore-later (next_path c) [] i j l)

  module _ (o : InOrder c) where
    of_blocks : (i j : ℕ) → i < j → j < length all → IsBefore (told c i) (told c j)
    of_blocks i j l last =
        rw (within i (omega arith), within j last) (Less-from_sorted (slice_cmp nat_cmp) all i j [] o.rising l last)

    of_block_and_further : (i j : ℕ) → i < length all → length all ≤ j → IsBefore (told c i) (told c j)
    of_block_and_further i j l past =
        let born = subst (λ p. IsBefore p (next_path c)) (sym (within i l)) (o.below i [] l) in
        let inner = IsBefore_trans (told c i) (next_path c) _ born (IsBefore-inner (next_path c) j) in
        subst (IsBefore (told c i)) (sym (behind j past)) inner

    -- the paths rise with their numbers
    pub told-rises : (i j : ℕ) → i < j → IsBefore (told c i) (told c j)
    told-rises i j l = by (cases_lt i (length all)) (cases_lt j (length all))
      where
        by : (i < length all) ⊎ (length all ≤ i) → (j < length all) ⊎ (length all ≤ j) → IsBefore (told c i) (told c j)
        by (inl before) (inl last) = of_blocks i j l last
        by (inl before) (inr past) = of_block_and_further i j before past
        by (inr past) last = further i j l past

    differ : (i j : ℕ) → i < j → (told c i ≡ told c j → ⊥)
    differ i j l e = IsBefore_irrefl (told c j) (subst (λ p. IsBefore p (told c j)) e (told-rises i j l))

    apart : (i j : ℕ) → told c i ≡ told c j → i ≡ j
    apart i j e = by (cases_lt i j) (cases_lt j i)
      where
        by : (i < j) ⊎ (j ≤ i) → (j < i) ⊎ (i ≤ j) → i ≡ j
        by (inl l) other = absurd (differ i j l e)
        by (inr l) (inl less) = absurd (differ j i less (sym e))
        by (inr l) (inr le) = omega arith

    pub Tells-told : (placed : List Placed) (forks : List Fork) → Tells (untold c placed forks) c
    unfolding told
    Tells-told placed forks = record {
      blocks = λ k b is. get_or_from_slice_get all k b.path (next_path c ++ k ∷ []) (path_at c.blocks.items k b is);
      apart = apart;
    }

-- ---- earlier cores

slice_get-append : (ps more : List Path) (k : ℕ) (p : Path) → slice_get ps k ≡ Some p
    → slice_get (ps ++ more) k ≡ Some p
slice_get-append [] more k p e = absurd (true≢false (sym (ap is_some e)))
slice_get-append (q ∷ ps) more zero p e = e
slice_get-append (q ∷ ps) more (suc k) p e = slice_get-append ps more k p e

-- the block of a path
of_path : (found : Option Block) (p : Path) → option_map (λ block. block.path) found ≡ Some p
    → (b : Block) × ((found ≡ Some b) × (b.path ≡ p))
of_path None p e = absurd (true≢false (sym (ap is_some e)))
of_path (Some b) p e = (b, (refl, ap (λ o. unwrap_or o p) e))

-- what tells a later core, which only has more blocks, tells an earlier one
pub Tells-earlier : (u : Untold) (c d : Core) (more : List Path) → paths d.blocks.items ≡ paths c.blocks.items ++ more
    → Tells u d → Tells u c
Tells-earlier u c d more e tells = record { blocks = blocks; apart = tells.apart }
  where
    stays : (k : ℕ) (p : Path) → slice_get (paths c.blocks.items) k ≡ Some p → slice_get (paths d.blocks.items) k ≡ Some p
    stays k p is = ap (λ ps. slice_get ps k) e ∙ slice_get-append (paths c.blocks.items) more k p is

    found : (k : ℕ) (p : Path) → slice_get (paths c.blocks.items) k ≡ Some p
        → (b : Block) × ((slice_get d.blocks.items k ≡ Some b) × (b.path ≡ p))
    found k p is = of_path _ p (sym (slice_get-map (λ block. block.path) d.blocks.items k) ∙ stays k p is)

    blocks : (k : ℕ) (b : Block) → slice_get c.blocks.items k ≡ Some b → u.paths k ≡ b.path
    blocks k b is =
        let block = found k b.path (path_at c.blocks.items k b is) in
        tells.blocks k block.0 block.1.0 ∙ block.1.1
