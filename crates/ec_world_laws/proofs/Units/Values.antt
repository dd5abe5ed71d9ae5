-- Values, frames and blocks of a memory that are in place, and stay so.
use Rattle.std.proofs.Common.{◌≡◌, ◌<◌, ◌≤◌, ◌+◌, ◌-◌, ◌∙◌, ◌*◌, ◌/◌, ◌%◌, ℕ, zero, suc, Bool, true, false, List, [], ◌∷◌, ◌++◌, length, length-take, length-drop, suc-mul, take, drop, replicate, refl, Option, Some, None, slice_get, slice_set, subst, arith, ℤ, pos, negsuc}
use Rattle.std.specs.Prelude.{◌==◌, if◌then◌else◌, nat_lt, nat_le}
use Rattle.std.specs.List.{All}
use Rattle.std.proofs.lemmas.Bool.{and_parts, leb-true}
use Rattle.std.proofs.lemmas.List.Elements.{All-nil, All-cons, All-head, All-tail, All-set, All-push, All-append, All-replicate, All-take, All-drop}
use Rattle.std.proofs.lemmas.Option.{same_Some}
use Rattle.ec_base.specs.declared.value.Birth.{Birth}
use Rattle.ec_base.specs.declared.value.Value.{Value}
use Rattle.ec_base.specs.declared.value.Value.TheVariants as v
use Rattle.ec_cells.specs.declared.node.Frame.{Frame}
use Rattle.ec_cells.specs.Accesses.{add, add_to, cell_place, element, element_from, element_start, has_element, load, load_from, put_element, put_from, read_at, replaced_at, store, store_to, taken_at, with_cells, write_at}
use Rattle.ec_cells.specs.Blocks.{fresh_cells, fresh_element, with_block}
use Rattle.ec_cells.specs.Frames.{cell_at, cells_in, end_frame, ended, or_zero, put_cell, put_in, took_birth, took_in, with_frame}
use Rattle.ec_cells.specs.Memory.{Memory}
use Rattle.ec_code.specs.InPlace.{IsValue}
use Rattle.ec_world_laws.specs.Units.{AreValues, IsFrame}

-- ---- lists

pub all_at : {A : Type 0} (P : A → Type 0) (xs : List A) (i : ℕ) (x : A) → All P xs → slice_get xs i ≡ Some x → P x
all_at P [] i x h e = cc
all_at P (y ∷ xs) zero x h e = subst P (same_Some _ _ e) (All-head P y xs h)
all_at P (y ∷ xs) (suc i) x h e = all_at P xs i x (All-tail P y xs h) e

-- what holds of both ways holds of the one that is taken
pub either : {A : Type 0} (P : A → Type 0) (test : Bool) (t u : A) → P t → P u → P (if test then t else u)
either P true t u h k = h
either P false t u h k = k

-- the way that is taken on a test may rest on it
pub chosen : {A : Type 0} (P : A → Type 0) (test : Bool) (t u : A) → (test ≡ true → P t) → P u → P (if test then t else u)
chosen P true t u h k = h refl
chosen P false t u h k = k

-- what holds of what may be there
abbrev pub Perhaps : {A : Type 0} → (A → Type 0) → Option A → Type 0
Perhaps P None = Unit {0}
Perhaps P (Some x) = P x

pub perhaps_at : {A : Type 0} (P : A → Type 0) (xs : List A) (i : ℕ) (o : Option A) → slice_get xs i ≡ o → All P xs → Perhaps P o
perhaps_at P xs i None e h = tt
perhaps_at P xs i (Some x) e h = all_at P xs i x h e

-- ---- elements

starts_at : (test : Bool) (at start : ℕ) → (if test then Some at else None) ≡ Some start → (test ≡ true) × (at ≡ start)
starts_at true at start e = (refl, same_Some at start e)
starts_at false at start e = cc

-- an element that a block has lies within it
pub starts_within : (index : ℤ) (size start : ℕ) (cells : List Value) → element_start index size cells ≡ Some start →
    start + size ≤ length cells
starts_within (pos i) size start cells e =
    let p = starts_at (has_element i size cells) (i * size) start e in
    let q = and_parts (nat_lt 0 size) (nat_le (suc i * size) (length cells)) p.0 in
    let fits : suc i * size ≤ length cells = leb-true (suc i * size) (length cells) q.1 in
    let more : suc i * size ≡ i * size + size = suc-mul i size in
    let here : i * size ≡ start = p.1 in
    omega (arith, fits, more, here)
starts_within (negsuc i) size start cells e = cc

-- ---- a memory that is in place

pub record IsHeld (n : ℕ) (m : Memory) : Type 0 where
  pub node : m.node < n
  pub cells : All (IsFrame n) m.frames
  pub blocks : All (AreValues n) m.blocks

module _ (n : ℕ) where
  -- ---- frames

  with_frame_at : (k : ℕ) (f : Frame) (m : Memory) → IsFrame n f → IsHeld n m → IsHeld n (record m { frames = slice_set m.frames k f })
  with_frame_at k f m h p =
      record { node = p.node; cells = All-set (IsFrame n) m.frames k f h p.cells; blocks = p.blocks }

  zeros : (count : ℕ) → AreValues n (replicate count (v.Int (pos 0)))
  zeros count = All-replicate (IsValue n) count (v.Int (pos 0)) tt

  pub with_frame_held : (count : ℕ) (birth : Option Birth) (m : Memory) → IsHeld n m → IsHeld n (with_frame count birth m)
  with_frame_held count birth m p = record {
    node = p.node;
    cells =
        All-push (IsFrame n) m.frames (record { live = true; cells = replicate count (v.Int (pos 0)); taken = [] }) p.cells (zeros count);
    blocks = p.blocks;
  }

  pub end_frame_held : (k : ℕ) (m : Memory) → IsHeld n m → IsHeld n (end_frame k m)
  end_frame_held k m p = with_frame_at k ended m (All-nil (IsValue n)) p

  cells_in_held : (o : Option Frame) → Perhaps (IsFrame n) o → AreValues n (cells_in o)
  cells_in_held None h = All-nil (IsValue n)
  cells_in_held (Some f) h = h

  or_zero_held : (o : Option Value) → Perhaps (IsValue n) o → IsValue n (or_zero o)
  or_zero_held None h = tt
  or_zero_held (Some x) h = h

  pub cell_held : (k c : ℕ) (m : Memory) → IsHeld n m → IsValue n (cell_at k c m)
  cell_held k c m p =
      let o : Option Frame = slice_get m.frames k in
      let cells : AreValues n (cells_in o) = cells_in_held o (perhaps_at (IsFrame n) m.frames k o refl p.cells) in
      or_zero_held (slice_get (cells_in o) c) (perhaps_at (IsValue n) (cells_in o) c _ refl cells)

  put_in_held : (o : Option Frame) (k c : ℕ) (x : Value) (m : Memory) → Perhaps (IsFrame n) o → IsValue n x → IsHeld n m →
      IsHeld n (put_in o k c x m)
  put_in_held None k c x m f h p = p
  put_in_held (Some f) k c x m g h p =
      with_frame_at k (record f { cells = slice_set f.cells c x }) m (All-set (IsValue n) f.cells c x h g) p

  pub put_cell_held : (k c : ℕ) (x : Value) (m : Memory) → IsValue n x → IsHeld n m → IsHeld n (put_cell k c x m)
  put_cell_held k c x m h p = put_in_held (slice_get m.frames k) k c x m (perhaps_at (IsFrame n) m.frames k _ refl p.cells) h p

  took_in_held : (o : Option Frame) (k : ℕ) (m : Memory) → Perhaps (IsFrame n) o → IsHeld n m → IsHeld n (took_in o k m)
  took_in_held None k m f p = p
  took_in_held (Some f) k m g p = with_frame_at k (record f { taken = f.taken ++ 0 ∷ [] }) m g p

  pub took_birth_held : (k : ℕ) (m : Memory) → IsHeld n m → IsHeld n (took_birth k m)
  took_birth_held k m p = took_in_held (slice_get m.frames k) k m (perhaps_at (IsFrame n) m.frames k _ refl p.cells) p

  -- ---- blocks

  pub with_block_held : (k : ℕ) (cells : List Value) (m : Memory) → AreValues n cells → IsHeld n m → IsHeld n (with_block k cells m)
  with_block_held k cells m h p =
      let took : IsHeld n (took_birth k m) = took_birth_held k m p in
      record { node = took.node; cells = took.cells; blocks = All-push (AreValues n) m.blocks cells p.blocks h }

  fresh_element_held : (size nils : ℕ) → AreValues n (fresh_element size nils)
  fresh_element_held zero nils = All-nil (IsValue n)
  fresh_element_held (suc size) nils =
      All-cons (IsValue n) (if nils % 2 == 1 then v.Null else v.Int (pos 0)) (fresh_element size (nils / 2))
      (either (IsValue n) (nils % 2 == 1) v.Null (v.Int (pos 0)) tt tt)
      (fresh_element_held size (nils / 2))

  pub fresh_cells_held : (count size nils : ℕ) → AreValues n (fresh_cells count size nils)
  fresh_cells_held zero size nils = All-nil (IsValue n)
  fresh_cells_held (suc count) size nils =
      All-append (IsValue n) (fresh_element size nils) (fresh_cells count size nils) (fresh_element_held size nils)
      (fresh_cells_held count size nils)

  with_cells_held : (block : ℕ) (cells : List Value) (m : Memory) → AreValues n cells → IsHeld n m → IsHeld n (with_cells block cells m)
  with_cells_held block cells m h p =
      record { node = p.node; cells = p.cells; blocks = All-set (AreValues n) m.blocks block cells h p.blocks }

  block_held : (block : ℕ) (m : Memory) → IsHeld n m → Perhaps (AreValues n) (slice_get m.blocks block)
  block_held block m p = perhaps_at (AreValues n) m.blocks block _ refl p.blocks

  -- ---- accesses

  read_held : (o : Option ℕ) (cells : List Value) → AreValues n cells → Perhaps (IsValue n) (read_at o cells)
  read_held None cells h = tt
  read_held (Some place) cells h = perhaps_at (IsValue n) cells place _ refl h

  load_from_held : (o : Option (List Value)) (index : ℤ) (size : ℕ) (off : ℤ) → Perhaps (AreValues n) o →
      Perhaps (IsValue n) (load_from o index size off)
  load_from_held None index size off h = tt
  load_from_held (Some cells) index size off h = read_held (cell_place index size off cells) cells h

  pub load_held : (block : ℕ) (index : ℤ) (size : ℕ) (off : ℤ) (m : Memory) → IsHeld n m →
      Perhaps (IsValue n) (load block index size off m)
  load_held block index size off m p = load_from_held (slice_get m.blocks block) index size off (block_held block m p)

  write_held : (o : Option ℕ) (block : ℕ) (cells : List Value) (x : Value) (m : Memory) → AreValues n cells → IsValue n x → IsHeld n m →
      Perhaps (IsHeld n) (write_at o block cells x m)
  write_held None block cells x m c h p = tt
  write_held (Some place) block cells x m c h p =
      with_cells_held block (slice_set cells place x) m (All-set (IsValue n) cells place x h c) p

  store_to_held : (o : Option (List Value)) (block : ℕ) (index : ℤ) (size : ℕ) (off : ℤ) (x : Value) (m : Memory) →
      Perhaps (AreValues n) o → IsValue n x → IsHeld n m → Perhaps (IsHeld n) (store_to o block index size off x m)
  store_to_held None block index size off x m c h p = tt
  store_to_held (Some cells) block index size off x m c h p = write_held (cell_place index size off cells) block cells x m c h p

  pub store_held : (block : ℕ) (index : ℤ) (size : ℕ) (off : ℤ) (x : Value) (m : Memory) → IsValue n x → IsHeld n m →
      Perhaps (IsHeld n) (store block index size off x m)
  store_held block index size off x m h p =
      store_to_held (slice_get m.blocks block) block index size off x m (block_held block m p) h p

  add_to_held : (o : Option (List Value)) (block : ℕ) (by : ℤ) (m : Memory) → Perhaps (AreValues n) o → IsHeld n m →
      Perhaps (IsHeld n) (add_to o block by m)
  add_to_held None block by m c p = tt
  add_to_held (Some []) block by m c p = tt
  add_to_held (Some (x ∷ xs)) block by m c p =
      with_cells_held block _ m (All-cons (IsValue n) _ xs tt (All-tail (IsValue n) x xs c)) p

  pub add_held : (block : ℕ) (by : ℤ) (m : Memory) → IsHeld n m → Perhaps (IsHeld n) (add block by m)
  add_held block by m p = add_to_held (slice_get m.blocks block) block by m (block_held block m p) p

  replaced_held : (o : Option ℕ) (new cells : List Value) (block : ℕ) (m : Memory) → AreValues n new → AreValues n cells → IsHeld n m →
      Perhaps (IsHeld n) (replaced_at o new cells block m)
  replaced_held None new cells block m h c p = tt
  replaced_held (Some start) new cells block m h c p =
      let front : List Value = take start cells in
      let rest : List Value = drop (start + length new) cells in
      let before : AreValues n (front ++ new) =
      All-append (IsValue n) front new (All-take (IsValue n) start cells c) h in
      with_cells_held block (front ++ new ++ rest) m
      (All-append (IsValue n) (front ++ new) rest before (All-drop (IsValue n) (start + length new) cells c))
      p

  put_from_held : (o : Option (List Value)) (block : ℕ) (index : ℤ) (new : List Value) (m : Memory) → Perhaps (AreValues n) o →
      AreValues n new → IsHeld n m → Perhaps (IsHeld n) (put_from o block index new m)
  put_from_held None block index new m c h p = tt
  put_from_held (Some cells) block index new m c h p =
      replaced_held (element_start index (length new) cells) new cells block m h c p

  pub put_element_held : (block : ℕ) (index : ℤ) (new : List Value) (m : Memory) → AreValues n new → IsHeld n m →
      Perhaps (IsHeld n) (put_element block index new m)
  put_element_held block index new m h p = put_from_held (slice_get m.blocks block) block index new m (block_held block m p) h p

  -- ---- elements

  -- the cells of an element: as many as its size, and in place
  abbrev pub IsElement : ℕ → List Value → Type 0
  IsElement size cells = (length cells ≡ size) × AreValues n cells

  taken_held : (index : ℤ) (o : Option ℕ) (size : ℕ) (cells : List Value) → element_start index size cells ≡ o → AreValues n cells →
      Perhaps (IsElement size) (taken_at o size cells)
  taken_held index None size cells e h = tt
  taken_held index (Some start) size cells e h =
      let within : start + size ≤ length cells = starts_within index size start cells e in
      let long : length (drop start cells) ≡ length cells - start = length-drop start cells in (
        length-take size (drop start cells) ∙ omega (arith, within, long),
        All-take (IsValue n) size (drop start cells) (All-drop (IsValue n) start cells h),
      )

  element_from_held : (o : Option (List Value)) (index : ℤ) (size : ℕ) → Perhaps (AreValues n) o →
      Perhaps (IsElement size) (element_from o index size)
  element_from_held None index size h = tt
  element_from_held (Some cells) index size h = taken_held index (element_start index size cells) size cells refl h

  pub element_held : (block : ℕ) (index : ℤ) (size : ℕ) (m : Memory) → IsHeld n m →
      Perhaps (IsElement size) (element block index size m)
  element_held block index size m p = element_from_held (slice_get m.blocks block) index size (block_held block m p)
