-- Instructions of a frame that is there name only what is there.
use Rattle.std.proofs.Common.{◌<◌, ◌∙◌, ℕ, List, [], ◌∷◌, ◌++◌, length, length-set, length-append, refl, sym, Option, Some, None, slice_get, slice_set, arith, ℤ}
use Rattle.std.specs.Prelude.{unsigned_abs}
use Rattle.std.specs.List.{All}
use Rattle.std.proofs.lemmas.List.Elements.{All-set}
use Rattle.ec_base.specs.Arithmetic.{binary}
use Rattle.ec_base.specs.Format.{formatted}
use Rattle.ec_base.specs.declared.operator.BinOp.TheVariants as bin
use Rattle.ec_base.specs.declared.token.Span.{Span}
use Rattle.ec_base.specs.declared.value.Block.{Block}
use Rattle.ec_base.specs.declared.value.Value.{Value}
use Rattle.ec_base.specs.declared.value.Value.TheVariants as v
use Rattle.ec_cells.specs.declared.node.Frame.{Frame}
use Rattle.ec_cells.specs.Accesses.{add, add_to, put_element, put_from, replaced_at, store, store_to, write_at, cell_place, element_start}
use Rattle.ec_cells.specs.Blocks.{fresh_cells, with_block}
use Rattle.ec_cells.specs.Frames.{ended, next_birth, took_birth, took_in}
use Rattle.ec_cells.specs.Memory.{Memory}
use Rattle.ec_code.specs.declared.call_place.CallPlace.{CallPlace}
use Rattle.ec_code.specs.declared.instr.Instr.{Instr}
use Rattle.ec_code.specs.declared.instr.Instr.TheVariants as i
use Rattle.ec_code.specs.declared.message.Back.{Back}
use Rattle.ec_code.specs.declared.message.Entry.{Entry}
use Rattle.ec_code.specs.declared.message.Entry.TheVariants as e
use Rattle.ec_code.specs.declared.message.Message.{Message}
use Rattle.ec_code.specs.declared.message.Message.TheVariants as m
use Rattle.ec_eu.specs.declared.state.Activation.{Activation}
use Rattle.ec_eu.specs.Cells.{int_at, ints_at, pointer_at, put, value_at, values_at}
use Rattle.ec_eu.specs.Instructions as one
use Rattle.ec_eu.specs.Instructions.{Did, activation_of, allocates, answers, asks, back_to, call_entry, copies, ends_frame, ends_function, invokes, keeps_stored, loaded, loads, makes_block, next_block, node_of, puts_loaded, puts_quotient, spawns, stored, stores}
use Rattle.ec_eu.specs.State.{Exec, says, with_memory}
use Rattle.ec_world_laws.specs.Rooted.{IsBack, IsBlock, IsCaller, IsEntry, IsValue, Made}
use Rattle.ec_world_laws.proofs.Rooted.Held.{IsHeld, end_frame_held, fresh_cells_held, load_held, store_held, took_birth_held, with_block_held}
use Rattle.ec_world_laws.proofs.Rooted.Runs.{Covers, IsAsLong, Runs, Shows, held, pointer_named, put_runs, says_runs, stays, twice, value_named, values_named, with_memory_runs}
use Rattle.ec_world_laws.proofs.Units.Values.{Perhaps, either}

-- ---- memories that stay as long

same_long : (n : Memory) → IsAsLong n n
same_long n = record { node = refl; frames = refl; blocks = refl; births = refl }

frame_set_long : (k : ℕ) (f : Frame) (n : Memory) → IsAsLong n (record n { frames = slice_set n.frames k f })
frame_set_long k f n = record { node = refl; frames = length-set n.frames k f; blocks = refl; births = refl }

block_set_long : (k : ℕ) (cells : List Value) (n : Memory) → IsAsLong n (record n { blocks = slice_set n.blocks k cells })
block_set_long k cells n = record { node = refl; frames = refl; blocks = length-set n.blocks k cells; births = refl }

took_in_long : (o : Option Frame) (k : ℕ) (n : Memory) → IsAsLong n (took_in o k n)
took_in_long None k n = same_long n
took_in_long (Some f) k n = frame_set_long k (record f { taken = f.taken ++ 0 ∷ [] }) n

took_long : (k : ℕ) (n : Memory) → IsAsLong n (took_birth k n)
took_long k n = took_in_long (slice_get n.frames k) k n

write_long : (o : Option ℕ) (block : ℕ) (cells : List Value) (x : Value) (n : Memory) →
    Perhaps (IsAsLong n) (write_at o block cells x n)
write_long None block cells x n = tt
write_long (Some place) block cells x n = block_set_long block (slice_set cells place x) n

store_to_long : (o : Option (List Value)) (block : ℕ) (index : ℤ) (size : ℕ) (off : ℤ) (x : Value) (n : Memory) →
    Perhaps (IsAsLong n) (store_to o block index size off x n)
store_to_long None block index size off x n = tt
store_to_long (Some cells) block index size off x n = write_long (cell_place index size off cells) block cells x n

pub store_long : (block : ℕ) (index : ℤ) (size : ℕ) (off : ℤ) (x : Value) (n : Memory) →
    Perhaps (IsAsLong n) (store block index size off x n)
store_long block index size off x n = store_to_long (slice_get n.blocks block) block index size off x n

add_to_long : (o : Option (List Value)) (block : ℕ) (by : ℤ) (n : Memory) → Perhaps (IsAsLong n) (add_to o block by n)
add_to_long None block by n = tt
add_to_long (Some []) block by n = tt
add_to_long (Some (x ∷ xs)) block by n = block_set_long block _ n

pub add_long : (block : ℕ) (by : ℤ) (n : Memory) → Perhaps (IsAsLong n) (add block by n)
add_long block by n = add_to_long (slice_get n.blocks block) block by n

replaced_long : (o : Option ℕ) (new cells : List Value) (block : ℕ) (n : Memory) →
    Perhaps (IsAsLong n) (replaced_at o new cells block n)
replaced_long None new cells block n = tt
replaced_long (Some start) new cells block n = block_set_long block _ n

put_to_long : (o : Option (List Value)) (block : ℕ) (index : ℤ) (new : List Value) (n : Memory) →
    Perhaps (IsAsLong n) (put_from o block index new n)
put_to_long None block index new n = tt
put_to_long (Some cells) block index new n = replaced_long (element_start index (length new) cells) new cells block n

pub put_element_long : (block : ℕ) (index : ℤ) (new : List Value) (n : Memory) →
    Perhaps (IsAsLong n) (put_element block index new n)
put_element_long block index new n = put_to_long (slice_get n.blocks block) block index new n

module _ (Given : Made → Type 0) where
  -- a change of memory that may not be there
  abbrev pub Changes : Exec → Option Memory → Type 0
  Changes u o = Perhaps (IsAsLong u.memory) o × Shows Given u (λ made. Perhaps (IsHeld (IsValue made)) o)

module _ (Given : Made → Type 0) (k : ℕ) where
  -- an instruction leads to a unit that names only what is there
  abbrev pub DidRun : Exec → Did → Type 0
  DidRun u d = Runs Given u d.0

  -- ---- numbers

  number_runs : (d : ℕ) (x : ℤ) (u : Exec) → Runs Given u (put k d (v.Int x) u)
  number_runs d x u = put_runs Given k d (v.Int x) u (λ made c g p. tt)

  quotient_runs : (d : ℕ) (at : Span) (o : Option ℤ) (u : Exec) → DidRun u (puts_quotient k d at o u)
  quotient_runs d at None u = stays Given u
  quotient_runs d at (Some x) u = number_runs d x u

  -- ---- blocks of the own node

  more_runs : (cells : List Value) (u : Exec) → Shows Given u (λ made. All (IsValue made) cells) →
      Runs Given u (with_memory (with_block k cells u.memory) u)
  more_runs cells u h =
      let long : IsAsLong u.memory (took_birth k u.memory) = took_long k u.memory in
      let more = length-append u.memory.blocks (cells ∷ []) in
      record {
        node = long.node;
        frames = let a = long.frames in omega (arith, a);
        blocks = omega (arith, more);
        counts = λ c. record {
          first = c.first;
          frames = c.frames ∙ sym long.frames;
          blocks = let a = length-append u.memory.births.blocks (next_birth k u.memory ∷ []) in let b = c.blocks in omega (arith, a, b, more);
          activations = c.activations ∙ sym long.frames;
        };
        naming = λ made c g p.
            let before : Covers made u = record {
              frames = rw (sym long.node) (let a = long.frames in let b = c.frames in omega (arith, a, b));
              blocks = rw (sym long.node) (let b = c.blocks in omega (arith, more, b));
            } in
            let q = with_block_held (IsValue made) (λ x. tt) tt k cells u.memory (h made before g p) (held made u p) in
            record { cells = q.cells; blocks = q.blocks; callers = p.callers; outbox = p.outbox };
      }

  makes_runs : (d : ℕ) (cells : List Value) (u : Exec) → Shows Given u (λ made. All (IsValue made) cells) →
      Runs Given u (makes_block k d cells u)
  makes_runs d cells u h =
      let t : Exec = with_memory (with_block k cells u.memory) u in
      let long : IsAsLong u.memory (took_birth k u.memory) = took_long k u.memory in
      let more = length-append u.memory.blocks (cells ∷ []) in
      twice Given u t (put k d (next_block u.memory) t) (more_runs cells u h)
      (put_runs Given k d (next_block u.memory) t
      (λ made c g p. rw (sym long.node) (let b = c.blocks in omega (arith, more, b))))

  allocates_runs : (d : ℕ) (count : ℤ) (size nils : ℕ) (at : Span) (u : Exec) → DidRun u (allocates k d count size nils at u)
  allocates_runs d count size nils at u =
      let cells : List Value = fresh_cells (unsigned_abs count) size nils in
      either (DidRun u) (one.is_count size count) _ _
      (makes_runs d cells u (λ made c g p. fresh_cells_held (IsValue made) (λ x. tt) tt (unsigned_abs count) size nils))
      (stays Given u)

  puts_loaded_runs : (d : ℕ) (at : Span) (o : Option Value) (u : Exec) → Shows Given u (λ made. Perhaps (IsValue made) o) →
      DidRun u (puts_loaded k d at o u)
  puts_loaded_runs d at None u h = stays Given u
  puts_loaded_runs d at (Some x) u h = put_runs Given k d x u h

  loads_runs : (d : ℕ) (o : Option Block) (index : ℤ) (size : ℕ) (off : ℤ) (at : Span) (u : Exec) →
      DidRun u (loads k d o index size off at u)
  loads_runs d None index size off at u = stays Given u
  loads_runs d (Some b) index size off at u =
      puts_loaded_runs d at (loaded b index size off u) u
      (λ made c g p. either (Perhaps (IsValue made)) (one.is_own u b) _ _
      (load_held (IsValue made) (λ x. tt) tt b.number index size off u.memory (held made u p)) tt)

  keeps_runs : (at : Span) (o : Option Memory) (u : Exec) → Changes Given u o → DidRun u (keeps_stored at o u)
  keeps_runs at None u h = stays Given u
  keeps_runs at (Some n) u h = with_memory_runs Given n u h.0 h.1

  stores_runs : (o : Option Block) (index : ℤ) (size : ℕ) (off : ℤ) (x : Value) (at : Span) (u : Exec) →
      Shows Given u (λ made. IsValue made x) → DidRun u (stores o index size off x at u)
  stores_runs None index size off x at u h = stays Given u
  stores_runs (Some b) index size off x at u h =
      keeps_runs at (stored b index size off x u) u (
        either (Perhaps (IsAsLong u.memory)) (one.is_own u b) _ _ (store_long b.number index size off x u.memory) tt,
        λ made c g p. either (Perhaps (IsHeld (IsValue made))) (one.is_own u b) _ _
            (store_held (IsValue made) (λ y. tt) tt b.number index size off x u.memory (h made c g p) (held made u p)) tt,
      )

  -- ---- blocks of any node

  asks_runs : (o : Option Block) (at : Span) (entry : Block → Entry) (u : Exec) → Shows Given u (λ made. Perhaps (IsBlock made) o) →
      ((b : Block) → Shows Given u (λ made. IsBlock made b → IsEntry made (entry b))) → DidRun u (asks o at entry u)
  asks_runs None at entry u h f = stays Given u
  asks_runs (Some b) at entry u h f =
      says_runs Given (m.Work b.node (entry b)) u (λ made c g p. f b made c g p (h made c g p))

  copies_runs : (o : Option Block) (index : ℤ) (q : Option Block) (to_index : ℤ) (size : ℕ) (at at_to : Span) (back : Back)
      (u : Exec) → Shows Given u (λ made. Perhaps (IsBlock made) o) → Shows Given u (λ made. Perhaps (IsBlock made) q) →
      Shows Given u (λ made. IsBack made back) → DidRun u (copies o index q to_index size at at_to back u)
  copies_runs None index q to_index size at at_to back u h l b = stays Given u
  copies_runs (Some x) index None to_index size at at_to back u h l b = stays Given u
  copies_runs (Some x) index (Some to) to_index size at at_to back u h l b =
      says_runs Given (m.Work x.node (e.CopyOut x index size to to_index at at_to back)) u
      (λ made c g p. (h made c g p, l made c g p, b made c g p))

  -- ---- calls and ends

  back_named : (cell : Option ℕ) (slot : ℕ) (u : Exec) → k < length u.memory.frames →
      Shows Given u (λ made. IsBack made (back_to k cell slot u))
  back_named cell slot u l made c g p = let a = c.frames in omega (arith, a, l)

  took_runs : (u : Exec) → Runs Given u (with_memory (took_birth k u.memory) u)
  took_runs u =
      with_memory_runs Given (took_birth k u.memory) u (took_long k u.memory)
      (λ made c g p. took_birth_held (IsValue made) (λ x. tt) tt k u.memory (held made u p))

  invokes_runs : (f : ℕ) (x : CallPlace) (results : List ℕ) (slot : ℕ) (args : List ℕ) (u : Exec) → k < length u.memory.frames →
      Runs Given u (invokes k f x results slot args u)
  invokes_runs f x results slot args u l =
      let t : Exec = with_memory (took_birth k u.memory) u in
      let call : Entry = call_entry k f results slot args u in
      let first : Exec = says (m.Work (node_of k x u) call) u in
      let said : Runs Given u first = says_runs Given (m.Work (node_of k x u) call) u
      (λ made c g p. (values_named Given k args u made c g p, let a = c.frames in omega (arith, a, l))) in
      twice Given u first (with_memory (took_birth k u.memory) first) said (took_runs first)

  ends_runs : (u : Exec) → Runs Given u (ends_frame k u)
  ends_runs u =
      let frames = length-set u.memory.frames k ended in
      let acts = length-set u.activations k None in
      record {
        node = refl;
        frames = omega (arith, frames);
        blocks = omega arith;
        counts = λ c. record {
          first = c.first;
          frames = c.frames ∙ sym frames;
          blocks = c.blocks;
          activations = acts ∙ (c.activations ∙ sym frames);
        };
        naming = λ made c g p.
            let q = end_frame_held (IsValue made) (λ x. tt) tt k u.memory (held made u p) in
            record {
              cells = q.cells;
              blocks = q.blocks;
              callers = All-set (IsCaller made) u.activations k None tt p.callers;
              outbox = p.outbox;
            };
      }

  answers_runs : (o : Option Activation) (xs : List Value) (u : Exec) → Shows Given u (λ made. All (IsValue made) xs) →
      Runs Given u (answers o k xs u)
  answers_runs None xs u h = stays Given u
  answers_runs (Some a) xs u h =
      let results : Message = m.Work a.caller.node (e.Fill a.caller.frame a.caller.slot a.caller.cells xs) in
      let told : Exec = says results u in
      twice Given u told (ends_frame k (says (m.EndFrame k) told)) (says_runs Given results u h)
      (twice Given told (says (m.EndFrame k) told) (ends_frame k (says (m.EndFrame k) told))
      (says_runs Given (m.EndFrame k) told (λ made c g p. tt)) (ends_runs (says (m.EndFrame k) told)))

  spawns_runs : (fiber : ℕ) (u : Exec) → Runs Given u (spawns k fiber u)
  spawns_runs fiber u = record {
    node = refl;
    frames = omega arith;
    blocks = omega arith;
    counts = λ c. record { first = c.first; frames = c.frames; blocks = c.blocks; activations = c.activations };
    naming = λ made c g p. record { cells = p.cells; blocks = p.blocks; callers = p.callers; outbox = p.outbox };
  }

  -- ---- the table

  pub one_runs : (x : Instr) (u : Exec) → k < length u.memory.frames → DidRun u (one.one k x u)
  one_runs (i.Const d c) u l = number_runs d c u
  one_runs (i.Nil d) u l = put_runs Given k d v.Null u (λ made c g p. tt)
  one_runs (i.Copy d a) u l = put_runs Given k d (value_at k a u) u (value_named Given k a u)
  one_runs (i.Neg d a) u l = number_runs d _ u
  one_runs (i.Inv d a) u l = number_runs d _ u
  one_runs (i.Not d a) u l = number_runs d _ u
  one_runs (i.Add d a b) u l = number_runs d _ u
  one_runs (i.Sub d a b) u l = number_runs d _ u
  one_runs (i.Mul d a b) u l = number_runs d _ u
  one_runs (i.And d a b) u l = number_runs d _ u
  one_runs (i.Or d a b) u l = number_runs d _ u
  one_runs (i.Xor d a b) u l = number_runs d _ u
  one_runs (i.Shl d a b) u l = number_runs d _ u
  one_runs (i.Shr d a b) u l = number_runs d _ u
  one_runs (i.Eq d a b) u l = number_runs d _ u
  one_runs (i.Ne d a b) u l = number_runs d _ u
  one_runs (i.Lt d a b) u l = number_runs d _ u
  one_runs (i.Le d a b) u l = number_runs d _ u
  one_runs (i.Gt d a b) u l = number_runs d _ u
  one_runs (i.Ge d a b) u l = number_runs d _ u
  one_runs (i.Div d a b at) u l = quotient_runs d at (binary bin.Div (int_at k a u) (int_at k b u)) u
  one_runs (i.Rem d a b at) u l = quotient_runs d at (binary bin.Rem (int_at k a u) (int_at k b u)) u
  one_runs (i.Same d a b) u l = number_runs d _ u
  one_runs (i.IsNil d a) u l = number_runs d _ u
  one_runs (i.Check a long at) u l = stays Given u
  one_runs (i.Alloc d a size nils at) u l = allocates_runs d (int_at k a u) size nils at u
  one_runs (i.Load d q x size off at) u l = loads_runs d (pointer_at k q u) (int_at k x u) size (int_at k off u) at u
  one_runs (i.Store q x size off a at) u l =
      stores_runs (pointer_at k q u) (int_at k x u) size (int_at k off u) (value_at k a u) at u (value_named Given k a u)
  one_runs (i.Jump to) u l = stays Given u
  one_runs (i.JumpZ a to) u l = stays Given u
  one_runs (i.InitSync slot count reset fiber) u l = says_runs Given (m.Init k slot count reset fiber) u (λ made c g p. tt)
  one_runs (i.Sync slot) u l = says_runs Given (m.Sync u.memory.node k slot) u (λ made c g p. tt)
  one_runs (i.IncrSync slot) u l = says_runs Given (m.Incr k slot) u (λ made c g p. tt)
  one_runs (i.GetSync q x size off d slot at) u l =
      asks_runs (pointer_at k q u) at
      (λ b. e.Load b (int_at k x u) size (int_at k off u) at (back_to k (Some d) slot u)) u (pointer_named Given k q u)
      (λ b made c g p h. (h, back_named (Some d) slot u l made c g p))
  one_runs (i.DataSync a q x size off slot at) u l =
      asks_runs (pointer_at k q u) at
      (λ b. e.Store b (int_at k x u) size (int_at k off u) (value_at k a u) at (back_to k None slot u)) u
      (pointer_named Given k q u)
      (λ b made c g p h. (h, value_named Given k a u made c g p, back_named None slot u l made c g p))
  one_runs (i.BlkmovSync q x to y size slot at at_to) u l =
      copies_runs (pointer_at k q u) (int_at k x u) (pointer_at k to u) (int_at k y u) size at at_to (back_to k None slot u) u
      (pointer_named Given k q u) (pointer_named Given k to u) (back_named None slot u l)
  one_runs (i.AddSync a q slot at) u l =
      asks_runs (pointer_at k q u) at (λ b. e.Add b (value_at k a u) at (back_to k None slot u)) u (pointer_named Given k q u)
      (λ b made c g p h. (h, value_named Given k a u made c g p, back_named None slot u l made c g p))
  one_runs (i.PrintSync string cells slot) u l =
      says_runs Given (m.Work 0 (e.Print (formatted string (ints_at k cells u)) (back_to k None slot u))) u (back_named None slot u l)
  one_runs (i.Invoke g x results slot args) u l = invokes_runs g x results slot args u l
  one_runs (i.Spawn fiber) u l = spawns_runs fiber u
  one_runs (i.EndFunction cells) u l =
      answers_runs (activation_of k u) (values_at k cells u) u (values_named Given k cells u)
  one_runs i.EndFiber u l = stays Given u
