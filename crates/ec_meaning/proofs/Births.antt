-- Blocks that come to be, and what a `malloc` does.
use Rattle.std.proofs.Common.{◌≡◌, refl, sym, ap, ◌∙◌, ℕ, suc, Bool, true, false, if◌then◌else◌, List, [], ◌∷◌, ◌++◌, map, length, drop, get_or, Option, Some, None, option_map, Result, Ok, Err, ℤ, pos, negsuc, ◌<◌, arith, add-one}
use Rattle.std.specs.Prelude.{slice_get}
use Rattle.std.proofs.Math.Path.{fun_ext}
use Rattle.std.proofs.lemmas.List.{map-append}
use Rattle.std.proofs.lemmas.Option.{same_Some}
use Rattle.std.specs.Cmp.Lexicographic.{same_text, other_text}
use Rattle.ec_base.specs.Words.{same}
use Rattle.ec_types.specs.Meaning.Values as values
use Rattle.ec_types.specs.Meaning.Values.{Path, Val, zero_value}
use Rattle.ec_types.specs.Meaning.State as state
use Rattle.ec_types.specs.Meaning.State.{Out, With, next_path, trap}
use Rattle.ec_types.specs.Meaning.Memory as memory
use Rattle.ec_types.specs.Meaning.Memory.{put_block}
use Rattle.ec_meaning.specs.declared.value.Block.{Block}
use Rattle.ec_meaning.specs.declared.shared_state.Core.{Core}
use Rattle.ec_meaning.specs.declared.value.Value.TheVariants.{To}
use Rattle.ec_meaning.specs.Reached.{Born, Bears, first_of}
use Rattle.ec_resolve.specs.Erased.{first_value}
use Rattle.ec_meaning.specs.Kept.{Kept}
use Rattle.ec_meaning.specs.declared.value.Value.{Value}
use Rattle.ec_base.specs.declared.fail.Fail.{Fail}
use Rattle.ec_base.specs.declared.fail.Fail.TheVariants.{Memory, Refused}
use Rattle.ec_base.specs.declared.token.Span.{Span}
use Rattle.ec_base.specs.declared.trap.Trap.{Trap}
use Rattle.ec_base.specs.declared.trap.TrapKind.TheVariants.{BadSize}
use Rattle.ec_meaning.specs.Order.{InOrder, paths}
use Rattle.ec_meaning.specs.Seen.{Untold, Tells, Performs, val, cells, store, core}
use Rattle.ec_meaning.proofs.Blocks.{unlike, find_pushed, got_pushed, stays_pushed, store_numbered}
use Rattle.ec_meaning.proofs.Order.{InOrder-born}

module _ (u : Untold) where
  module _ (b : Block) (old new : Core) (n : Born b old new) where
    got_born : slice_get new.blocks.items (length old.blocks.items) ≡ Some b
    got_born = rw n.blocks (got_pushed old.blocks.items b)

    pub born_tells : Tells u new → Tells u old
    born_tells t = record {
      blocks = λ k x e. t.blocks k x (rw n.blocks (stays_pushed old.blocks.items b k x e));
      apart = t.apart;
    }

    born_store :
        Tells u new → (q : Path) →
        store u new.blocks.items q ≡ (if same q b.path then Some (cells u b) else store u old.blocks.items q)
    born_store t q = decided (same q b.path) refl
      where
        decided : (yes : Bool) → yes ≡ same q b.path →
            store u new.blocks.items q ≡ (if yes then Some (cells u b) else store u old.blocks.items q)
        decided true e =
            ap (store u new.blocks.items) (same_text q b.path e ∙ sym (t.blocks (length old.blocks.items) b got_born))
            ∙ store_numbered u new t (length old.blocks.items) ∙ ap (option_map (cells u)) got_born
        decided false e =
            rw n.blocks (ap (option_map (cells u)) (find_pushed old.blocks.items b q
            (unlike b.path q (λ f. other_text q b.path e (sym f)))))

    -- a block at the next birth, of which a pointer is given
    pub born_done :
        Tells u new → (r : ℕ) →
        memory.born (cells u b) (core u old) r ≡ (With (val u (To (length old.blocks.items))), core u new, r)
    born_done t r =
        rw (n.births, n.most, n.output, t.blocks (length old.blocks.items) b got_born, n.path)
        (ap made (fun_ext λ q. ap (λ p. if same q p then Some (cells u b) else store u old.blocks.items q) (sym n.path)
        ∙ sym (born_store t q)))
      where
        made : (Path → Option (List Val)) → Out Val
        made s = (With (values.To (next_path (core u old))), record (core u old) { births = suc (get_or old.births 0 0); store = s }, r)

-- blocks stay in order
born_ordered : (b : Block) (old new : Core) → Born b old new → InOrder old → InOrder new
born_ordered b old new n o = by old.births refl
  where
    by : (births : List ℕ) → births ≡ old.births → InOrder new
    by [] e = absurd (o.running (sym e))
    by (x ∷ xs) e =
        InOrder-born old new o x xs (sym e)
        (n.births ∙ ap (λ bs. suc (get_or bs 0 0) ∷ drop 1 bs) (sym e) ∙ ap (λ k. k ∷ xs) (sym (add-one x)))
        (ap paths n.blocks ∙ map-append (λ c. c.path) old.blocks.items (b ∷ [])
        ∙ ap (λ p. paths old.blocks.items ++ p ∷ []) n.path)

-- ---- answers of births

pub bears_kept : (held : List Value) (old new : Core) (result : Result Value (Fail Trap)) → Bears held old new result → Kept result old new
bears_kept held old new (Ok v) b = record {
  tells = λ u t. born_tells u b.block old new b.born t;
  above = ap (drop 1) b.born.births;
  open_ones = λ h. open_still old.births h (ap length b.born.births);
  most = b.born.most;
  ordered = born_ordered b.block old new b.born;
}
  where
    open_still : (births : List ℕ) → 0 < length births →
        length new.births ≡ length (suc (get_or births 0 0) ∷ drop 1 births) → length new.births ≡ length births
    open_still [] h e = absurd (omega arith)
    open_still (x ∷ xs) h e = e
bears_kept held old new (Err Memory) b = tt
bears_kept held old new (Err (Refused x)) b = absurd b

pub bears_done :
    (u : Untold) (held : List Value) (old new : Core) (result : Result Value (Fail Trap)) → Bears held old new result →
    Tells u new → (r : ℕ) → Performs (val u) result (memory.born (map (val u) held) (core u old) r) (core u new) r
bears_done u held old new (Ok v) b t r =
    ap (λ vs. memory.born (map (val u) vs) (core u old) r) (sym b.holds)
    ∙ born_done u b.block old new b.born t r
    ∙ ap (λ w. let out : Out Val = (With (val u w), core u new, r) in out) (sym b.pointer)
bears_done u held old new (Err Memory) b t r = tt
bears_done u held old new (Err (Refused x)) b t r = absurd b

-- ---- allocations

-- a count and its test, and what a `malloc` does then
pub allocate_done :
    (at : Span) (element : List Val) (count : Val) (c : state.Core) (r : ℕ) (n : ℕ) →
    (if memory.is_count (values.number count) (length element) then Some (memory.natural (values.number count)) else None) ≡ Some n →
    memory.allocate at element count c r ≡ memory.born (memory.repeated n element) c r
allocate_done at element count c r n is = by_number (values.number count) is
  where
    by_number : (z : ℤ) →
        (if memory.is_count z (length element) then Some (memory.natural z) else None) ≡ Some n →
        (if memory.is_count z (length element) then memory.born (memory.times z element) else trap BadSize at) c r ≡
        memory.born (memory.repeated n element) c r
    by_number (negsuc m) e = cc
    by_number (pos m) e = tested (memory.is_count (pos m) (length element)) e
      where
        tested : (b : Bool) → (if b then Some m else None) ≡ Some n →
            (if b then memory.born (memory.repeated m element) else trap BadSize at) c r ≡ memory.born (memory.repeated n element) c r
        tested false e = cc
        tested true e = ap (λ k. memory.born (memory.repeated k element) c r) (same_Some m n e)

pub firsts : (u : Untold) (pointers : List Bool) → map (val u) (map first_of pointers) ≡ map first_value pointers
firsts u [] = refl
firsts u (true ∷ ps) = ap (λ vs. values.Null ∷ vs) (firsts u ps)
firsts u (false ∷ ps) = ap (λ vs. zero_value ∷ vs) (firsts u ps)
