-- A memory whose cells hold only values of one kind, to which numbers and NULL belong, keeps to it.
use Rattle.std.proofs.Common.{◌≡◌, ◌≤◌, ◌+◌, ◌-◌, ◌∙◌, ◌/◌, ◌%◌, ℕ, zero, suc, true, List, [], ◌∷◌, ◌++◌, length, length-take, length-drop, take, drop, replicate, refl, Option, Some, None, slice_get, slice_set, arith, ℤ, pos}
use Rattle.std.specs.Prelude.{◌==◌, if◌then◌else◌}
use Rattle.std.specs.List.{All}
use Rattle.std.proofs.lemmas.List.Elements.{All-nil, All-cons, All-tail, All-set, All-push, All-append, All-replicate, All-take, All-drop}
use Rattle.ec_base.specs.declared.value.Birth.{Birth}
use Rattle.ec_base.specs.declared.value.Value.{Value}
use Rattle.ec_base.specs.declared.value.Value.TheVariants as v
use Rattle.ec_cells.specs.declared.node.Frame.{Frame}
use Rattle.ec_cells.specs.Accesses.{add, add_to, cell_place, element, element_from, element_start, load, load_from, put_element, put_from, read_at, replaced_at, store, store_to, taken_at, with_cells, write_at}
use Rattle.ec_cells.specs.Blocks.{fresh_cells, fresh_element, with_block}
use Rattle.ec_cells.specs.Frames.{cell_at, cells_in, end_frame, ended, or_zero, put_cell, put_in, took_birth, took_in, with_frame}
use Rattle.ec_cells.specs.Memory.{Memory}
use Rattle.ec_world_laws.proofs.Units.Values.{Perhaps, either, perhaps_at, starts_within}

abbrev pub IsFrame : (Value → Type 0) → Frame → Type 0
IsFrame V f = All V f.cells

-- all cells of frames and blocks hold such values
pub record IsHeld (V : Value → Type 0) (m : Memory) : Type 0 where
  pub cells : All (IsFrame V) m.frames
  pub blocks : All (All V) m.blocks

module _ (V : Value → Type 0) (int : (k : ℤ) → V (v.Int k)) (null : V v.Null) where
  -- ---- frames

  with_frame_at : (k : ℕ) (f : Frame) (m : Memory) → IsFrame V f → IsHeld V m → IsHeld V (record m { frames = slice_set m.frames k f })
  with_frame_at k f m h p =
      record { cells = All-set (IsFrame V) m.frames k f h p.cells; blocks = p.blocks }

  zeros : (count : ℕ) → All V (replicate count (v.Int (pos 0)))
  zeros count = All-replicate V count (v.Int (pos 0)) (int (pos 0))

  pub with_frame_held : (count : ℕ) (birth : Option Birth) (m : Memory) → IsHeld V m → IsHeld V (with_frame count birth m)
  with_frame_held count birth m p = record {
    cells =
        All-push (IsFrame V) m.frames (record { live = true; cells = replicate count (v.Int (pos 0)); taken = [] }) p.cells (zeros count);
    blocks = p.blocks;
  }

  pub end_frame_held : (k : ℕ) (m : Memory) → IsHeld V m → IsHeld V (end_frame k m)
  end_frame_held k m p = with_frame_at k ended m (All-nil V) p

  cells_in_held : (o : Option Frame) → Perhaps (IsFrame V) o → All V (cells_in o)
  cells_in_held None h = All-nil V
  cells_in_held (Some f) h = h

  or_zero_held : (o : Option Value) → Perhaps V o → V (or_zero o)
  or_zero_held None h = int (pos 0)
  or_zero_held (Some x) h = h

  pub cell_held : (k c : ℕ) (m : Memory) → IsHeld V m → V (cell_at k c m)
  cell_held k c m p =
      let o : Option Frame = slice_get m.frames k in
      let cells : All V (cells_in o) = cells_in_held o (perhaps_at (IsFrame V) m.frames k o refl p.cells) in
      or_zero_held (slice_get (cells_in o) c) (perhaps_at V (cells_in o) c _ refl cells)

  put_in_held : (o : Option Frame) (k c : ℕ) (x : Value) (m : Memory) → Perhaps (IsFrame V) o → V x → IsHeld V m →
      IsHeld V (put_in o k c x m)
  put_in_held None k c x m f h p = p
  put_in_held (Some f) k c x m g h p =
      with_frame_at k (record f { cells = slice_set f.cells c x }) m (All-set V f.cells c x h g) p

  pub put_cell_held : (k c : ℕ) (x : Value) (m : Memory) → V x → IsHeld V m → IsHeld V (put_cell k c x m)
  put_cell_held k c x m h p = put_in_held (slice_get m.frames k) k c x m (perhaps_at (IsFrame V) m.frames k _ refl p.cells) h p

  took_in_held : (o : Option Frame) (k : ℕ) (m : Memory) → Perhaps (IsFrame V) o → IsHeld V m → IsHeld V (took_in o k m)
  took_in_held None k m f p = p
  took_in_held (Some f) k m g p = with_frame_at k (record f { taken = f.taken ++ 0 ∷ [] }) m g p

  pub took_birth_held : (k : ℕ) (m : Memory) → IsHeld V m → IsHeld V (took_birth k m)
  took_birth_held k m p = took_in_held (slice_get m.frames k) k m (perhaps_at (IsFrame V) m.frames k _ refl p.cells) p

  -- ---- blocks

  pub with_block_held : (k : ℕ) (cells : List Value) (m : Memory) → All V cells → IsHeld V m → IsHeld V (with_block k cells m)
  with_block_held k cells m h p =
      let took : IsHeld V (took_birth k m) = took_birth_held k m p in
      record { cells = took.cells; blocks = All-push (All V) m.blocks cells p.blocks h }

  fresh_element_held : (size nils : ℕ) → All V (fresh_element size nils)
  fresh_element_held zero nils = All-nil V
  fresh_element_held (suc size) nils =
      All-cons V (if nils % 2 == 1 then v.Null else v.Int (pos 0)) (fresh_element size (nils / 2))
      (either V (nils % 2 == 1) v.Null (v.Int (pos 0)) null (int (pos 0)))
      (fresh_element_held size (nils / 2))

  pub fresh_cells_held : (count size nils : ℕ) → All V (fresh_cells count size nils)
  fresh_cells_held zero size nils = All-nil V
  fresh_cells_held (suc count) size nils =
      All-append V (fresh_element size nils) (fresh_cells count size nils) (fresh_element_held size nils)
      (fresh_cells_held count size nils)

  with_cells_held : (block : ℕ) (cells : List Value) (m : Memory) → All V cells → IsHeld V m → IsHeld V (with_cells block cells m)
  with_cells_held block cells m h p =
      record { cells = p.cells; blocks = All-set (All V) m.blocks block cells h p.blocks }

  block_held : (block : ℕ) (m : Memory) → IsHeld V m → Perhaps (All V) (slice_get m.blocks block)
  block_held block m p = perhaps_at (All V) m.blocks block _ refl p.blocks

  -- ---- accesses

  read_held : (o : Option ℕ) (cells : List Value) → All V cells → Perhaps V (read_at o cells)
  read_held None cells h = tt
  read_held (Some place) cells h = perhaps_at V cells place _ refl h

  load_from_held : (o : Option (List Value)) (index : ℤ) (size : ℕ) (off : ℤ) → Perhaps (All V) o →
      Perhaps V (load_from o index size off)
  load_from_held None index size off h = tt
  load_from_held (Some cells) index size off h = read_held (cell_place index size off cells) cells h

  pub load_held : (block : ℕ) (index : ℤ) (size : ℕ) (off : ℤ) (m : Memory) → IsHeld V m →
      Perhaps V (load block index size off m)
  load_held block index size off m p = load_from_held (slice_get m.blocks block) index size off (block_held block m p)

  write_held : (o : Option ℕ) (block : ℕ) (cells : List Value) (x : Value) (m : Memory) → All V cells → V x → IsHeld V m →
      Perhaps (IsHeld V) (write_at o block cells x m)
  write_held None block cells x m c h p = tt
  write_held (Some place) block cells x m c h p =
      with_cells_held block (slice_set cells place x) m (All-set V cells place x h c) p

  store_to_held : (o : Option (List Value)) (block : ℕ) (index : ℤ) (size : ℕ) (off : ℤ) (x : Value) (m : Memory) →
      Perhaps (All V) o → V x → IsHeld V m → Perhaps (IsHeld V) (store_to o block index size off x m)
  store_to_held None block index size off x m c h p = tt
  store_to_held (Some cells) block index size off x m c h p = write_held (cell_place index size off cells) block cells x m c h p

  pub store_held : (block : ℕ) (index : ℤ) (size : ℕ) (off : ℤ) (x : Value) (m : Memory) → V x → IsHeld V m →
      Perhaps (IsHeld V) (store block index size off x m)
  store_held block index size off x m h p =
      store_to_held (slice_get m.blocks block) block index size off x m (block_held block m p) h p

  add_to_held : (o : Option (List Value)) (block : ℕ) (by : ℤ) (m : Memory) → Perhaps (All V) o → IsHeld V m →
      Perhaps (IsHeld V) (add_to o block by m)
  add_to_held None block by m c p = tt
  add_to_held (Some []) block by m c p = tt
  add_to_held (Some (x ∷ xs)) block by m c p =
      with_cells_held block _ m (All-cons V _ xs (int _) (All-tail V x xs c)) p

  pub add_held : (block : ℕ) (by : ℤ) (m : Memory) → IsHeld V m → Perhaps (IsHeld V) (add block by m)
  add_held block by m p = add_to_held (slice_get m.blocks block) block by m (block_held block m p) p

  replaced_held : (o : Option ℕ) (new cells : List Value) (block : ℕ) (m : Memory) → All V new → All V cells → IsHeld V m →
      Perhaps (IsHeld V) (replaced_at o new cells block m)
  replaced_held None new cells block m h c p = tt
  replaced_held (Some start) new cells block m h c p =
      let front : List Value = take start cells in
      let rest : List Value = drop (start + length new) cells in
      let before : All V (front ++ new) =
      All-append V front new (All-take V start cells c) h in
      with_cells_held block (front ++ new ++ rest) m
      (All-append V (front ++ new) rest before (All-drop V (start + length new) cells c))
      p

  put_from_held : (o : Option (List Value)) (block : ℕ) (index : ℤ) (new : List Value) (m : Memory) → Perhaps (All V) o →
      All V new → IsHeld V m → Perhaps (IsHeld V) (put_from o block index new m)
  put_from_held None block index new m c h p = tt
  put_from_held (Some cells) block index new m c h p =
      replaced_held (element_start index (length new) cells) new cells block m h c p

  pub put_element_held : (block : ℕ) (index : ℤ) (new : List Value) (m : Memory) → All V new → IsHeld V m →
      Perhaps (IsHeld V) (put_element block index new m)
  put_element_held block index new m h p = put_from_held (slice_get m.blocks block) block index new m (block_held block m p) h p

  -- ---- elements

  -- the cells of an element: as many as its size, and in place
  abbrev pub IsElement : ℕ → List Value → Type 0
  IsElement size cells = (length cells ≡ size) × All V cells

  taken_held : (index : ℤ) (o : Option ℕ) (size : ℕ) (cells : List Value) → element_start index size cells ≡ o → All V cells →
      Perhaps (IsElement size) (taken_at o size cells)
  taken_held index None size cells e h = tt
  taken_held index (Some start) size cells e h =
      let within : start + size ≤ length cells = starts_within index size start cells e in
      let long : length (drop start cells) ≡ length cells - start = length-drop start cells in (
        length-take size (drop start cells) ∙ omega (arith, within, long),
        All-take V size (drop start cells) (All-drop V start cells h),
      )

  element_from_held : (o : Option (List Value)) (index : ℤ) (size : ℕ) → Perhaps (All V) o →
      Perhaps (IsElement size) (element_from o index size)
  element_from_held None index size h = tt
  element_from_held (Some cells) index size h = taken_held index (element_start index size cells) size cells refl h

  pub element_held : (block : ℕ) (index : ℤ) (size : ℕ) (m : Memory) → IsHeld V m →
      Perhaps (IsElement size) (element block index size m)
  element_held block index size m p = element_from_held (slice_get m.blocks block) index size (block_held block m p)
