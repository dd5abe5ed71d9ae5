-- Which births instructions and fibers of a live frame bring.
use Rattle.std.proofs.Common.{◌≡◌, ◌+◌, ◌∙◌, ℕ, suc, true, List, [], ◌∷◌, drop, length, map, refl, ap, is_some, Option, Some, None, slice_get, slice_set, arith, ℤ}
use Rattle.std.specs.Prelude.{nat_lt, unsigned_abs}
use Rattle.std.specs.List.{sum_by}
use Rattle.std.proofs.lemmas.List.{map-append}
use Rattle.std.proofs.lemmas.List.Sums.{sum_by_push}
use Rattle.ec_base.specs.Arithmetic.{binary}
use Rattle.ec_base.specs.Format.{formatted}
use Rattle.ec_base.specs.declared.operator.BinOp.TheVariants as bin
use Rattle.ec_base.specs.declared.token.Span.{Span}
use Rattle.ec_base.specs.declared.trap.Trap.{Trap}
use Rattle.ec_base.specs.declared.value.Birth.{Birth}
use Rattle.ec_base.specs.declared.value.Block.{Block}
use Rattle.ec_base.specs.declared.value.Value.{Value}
use Rattle.ec_base.specs.declared.value.Value.TheVariants as v
use Rattle.ec_cells.specs.declared.node.Births.{Births}
use Rattle.ec_cells.specs.declared.node.Frame.{Frame}
use Rattle.ec_cells.specs.Accesses.{add, add_to, cell_place, element_start, put_element, replaced_at, store, store_to, write_at}
use Rattle.ec_cells.specs.Accesses as access
use Rattle.ec_cells.specs.Blocks.{fresh_cells, with_block}
use Rattle.ec_cells.specs.Frames.{cell_count, ended, lives, next_birth, put_cell, put_in, took_in}
use Rattle.ec_cells.specs.Memory.{Memory}
use Rattle.ec_code.specs.declared.call_place.CallPlace.{CallPlace}
use Rattle.ec_code.specs.declared.code.Code.{Code}
use Rattle.ec_code.specs.declared.code.Fiber.{Fiber}
use Rattle.ec_code.specs.declared.code.Function.{Function}
use Rattle.ec_code.specs.declared.instr.Instr.{Instr}
use Rattle.ec_code.specs.declared.instr.Instr.TheVariants as i
use Rattle.ec_code.specs.declared.message.Back.{Back}
use Rattle.ec_code.specs.declared.message.Entry.{Entry}
use Rattle.ec_code.specs.declared.message.Entry.TheVariants as e
use Rattle.ec_code.specs.declared.message.Message.{Message}
use Rattle.ec_code.specs.declared.message.Message.TheVariants as m
use Rattle.ec_eu.specs.declared.state.Activation.{Activation}
use Rattle.ec_eu.specs.declared.state.Next.TheVariants as next
use Rattle.ec_eu.specs.Cells.{int_at, ints_at, pointer_at, put, put_all, put_from, value_at, values_at}
use Rattle.ec_eu.specs.Fibers.{does, does_fiber, function_in, goes_on, kept, place_after, runs_fiber, runs_in, suits}
use Rattle.ec_eu.specs.Instructions as one
use Rattle.ec_eu.specs.Instructions.{Did, activation_in, activation_of, allocates, answers, asks, back_to, call_entry, copies, ends_frame, invokes, keeps_stored, loaded, loads, makes_block, next_block, node_of, puts_loaded, puts_quotient, spawns, stored, stores}
use Rattle.ec_eu.specs.State.{Exec, says, traps, with_memory}
use Rattle.ec_world_laws.specs.Rooted.{IsActive}
use Rattle.ec_world_laws.proofs.Rooted.Births.{Bears, Quiet, bears_twice, ends_bears, mark, mark_at, mark_in, marks, marks_set, of_births, quiet_bears, quiet_stays, quiet_twice, set_same, then_quiet, took_bears}
use Rattle.ec_world_laws.proofs.Rooted.Weights.{of_message}
use Rattle.ec_world_laws.proofs.Units.Fibers.{one_leaves}
use Rattle.ec_world_laws.proofs.Units.Values.{Perhaps, chosen, either}

-- ---- memories that births don't change

pub record IsStill (n new : Memory) : Type 0 where
  pub node : new.node ≡ n.node
  pub marks : marks new ≡ marks n
  pub births : new.births ≡ n.births

still : (n : Memory) → IsStill n n
still n = record { node = refl; marks = refl; births = refl }

put_in_still : (o : Option Frame) (k c : ℕ) (x : Value) (n : Memory) → slice_get n.frames k ≡ o → IsStill n (put_in o k c x n)
put_in_still None k c x n h = still n
put_in_still (Some f) k c x n h = record {
  node = refl;
  marks =
      marks_set n.frames k (record f { cells = slice_set f.cells c x }) ∙
      set_same (marks n) k (mark f) (mark_at n.frames k ∙ ap mark_in h);
  births = refl;
}

block_still : (k : ℕ) (cells : List Value) (n : Memory) → IsStill n (record n { blocks = slice_set n.blocks k cells })
block_still k cells n = record { node = refl; marks = refl; births = refl }

write_still : (o : Option ℕ) (block : ℕ) (cells : List Value) (x : Value) (n : Memory) → Perhaps (IsStill n) (write_at o block cells x n)
write_still None block cells x n = tt
write_still (Some place) block cells x n = block_still block (slice_set cells place x) n

store_to_still : (o : Option (List Value)) (block : ℕ) (index : ℤ) (size : ℕ) (off : ℤ) (x : Value) (n : Memory) →
    Perhaps (IsStill n) (store_to o block index size off x n)
store_to_still None block index size off x n = tt
store_to_still (Some cells) block index size off x n = write_still (cell_place index size off cells) block cells x n

pub store_still : (block : ℕ) (index : ℤ) (size : ℕ) (off : ℤ) (x : Value) (n : Memory) → Perhaps (IsStill n) (store block index size off x n)
store_still block index size off x n = store_to_still (slice_get n.blocks block) block index size off x n

add_to_still : (o : Option (List Value)) (block : ℕ) (by : ℤ) (n : Memory) → Perhaps (IsStill n) (add_to o block by n)
add_to_still None block by n = tt
add_to_still (Some []) block by n = tt
add_to_still (Some (x ∷ xs)) block by n = block_still block _ n

pub add_still : (block : ℕ) (by : ℤ) (n : Memory) → Perhaps (IsStill n) (add block by n)
add_still block by n = add_to_still (slice_get n.blocks block) block by n

replaced_still : (o : Option ℕ) (new cells : List Value) (block : ℕ) (n : Memory) → Perhaps (IsStill n) (replaced_at o new cells block n)
replaced_still None new cells block n = tt
replaced_still (Some start) new cells block n = block_still block _ n

put_to_still : (o : Option (List Value)) (block : ℕ) (index : ℤ) (new : List Value) (n : Memory) →
    Perhaps (IsStill n) (access.put_from o block index new n)
put_to_still None block index new n = tt
put_to_still (Some cells) block index new n = replaced_still (element_start index (length new) cells) new cells block n

pub put_element_still : (block : ℕ) (index : ℤ) (new : List Value) (n : Memory) → Perhaps (IsStill n) (put_element block index new n)
put_element_still block index new n = put_to_still (slice_get n.blocks block) block index new n

-- ---- runs that bring none

pub with_memory_quiet : (n : Memory) (u : Exec) → IsStill u.memory n → Quiet u (with_memory n u)
with_memory_quiet n u s = record {
  node = s.node;
  marks = s.marks;
  births = s.births;
  activations = refl;
  weighs = λ h.
      let a = ap (λ (b : Births). sum_by h (drop 1 b.frames) + sum_by h (map Some b.blocks)) s.births in omega (arith, a);
}

pub says_quiet : (x : Message) (u : Exec) → ((h : Option Birth → ℕ) → of_message (of_births h) x ≡ 0) → Quiet u (says x u)
says_quiet x u z = record {
  node = refl;
  marks = refl;
  births = refl;
  activations = refl;
  weighs = λ h. let a = sum_by_push (of_message (of_births h)) u.outbox x in let b = z h in omega (arith, a, b);
}

pub traps_quiet : (t : Trap) (u : Exec) → Quiet u (traps t u)
traps_quiet t u = record { node = refl; marks = refl; births = refl; activations = refl; weighs = λ h. omega arith }

pub put_quiet : (k c : ℕ) (x : Value) (u : Exec) → Quiet u (put k c x u)
put_quiet k c x u = with_memory_quiet (put_cell k c x u.memory) u (put_in_still (slice_get u.memory.frames k) k c x u.memory refl)

pub put_all_quiet : (k : ℕ) (cs : List ℕ) (xs : List Value) (u : Exec) → Quiet u (put_all k cs xs u)
put_all_quiet k [] xs u = quiet_stays u
put_all_quiet k (c ∷ cs) [] u = quiet_stays u
put_all_quiet k (c ∷ cs) (x ∷ xs) u =
    quiet_twice u (put k c x u) (put_all k cs xs (put k c x u)) (put_quiet k c x u) (put_all_quiet k cs xs (put k c x u))

pub put_from_quiet : (k c : ℕ) (xs : List Value) (u : Exec) → Quiet u (put_from k c xs u)
put_from_quiet k c [] u = quiet_stays u
put_from_quiet k c (x ∷ xs) u =
    quiet_twice u (put k c x u) (put_from k (suc c) xs (put k c x u)) (put_quiet k c x u) (put_from_quiet k (suc c) xs (put k c x u))

quotient_quiet : (k d : ℕ) (at : Span) (o : Option ℤ) (u : Exec) → Quiet u (puts_quotient k d at o u).0
quotient_quiet k d at None u = quiet_stays u
quotient_quiet k d at (Some x) u = put_quiet k d (v.Int x) u

puts_loaded_quiet : (k d : ℕ) (at : Span) (o : Option Value) (u : Exec) → Quiet u (puts_loaded k d at o u).0
puts_loaded_quiet k d at None u = quiet_stays u
puts_loaded_quiet k d at (Some x) u = put_quiet k d x u

loads_quiet : (k d : ℕ) (o : Option Block) (index : ℤ) (size : ℕ) (off : ℤ) (at : Span) (u : Exec) →
    Quiet u (loads k d o index size off at u).0
loads_quiet k d None index size off at u = quiet_stays u
loads_quiet k d (Some b) index size off at u = puts_loaded_quiet k d at (loaded b index size off u) u

keeps_quiet : (at : Span) (o : Option Memory) (u : Exec) → Perhaps (IsStill u.memory) o → Quiet u (keeps_stored at o u).0
keeps_quiet at None u h = quiet_stays u
keeps_quiet at (Some n) u h = with_memory_quiet n u h

stores_quiet : (o : Option Block) (index : ℤ) (size : ℕ) (off : ℤ) (x : Value) (at : Span) (u : Exec) →
    Quiet u (stores o index size off x at u).0
stores_quiet None index size off x at u = quiet_stays u
stores_quiet (Some b) index size off x at u =
    keeps_quiet at (stored b index size off x u) u
    (either (Perhaps (IsStill u.memory)) (one.is_own u b) _ _ (store_still b.number index size off x u.memory) tt)

asks_quiet : (o : Option Block) (at : Span) (entry : Block → Entry) (u : Exec) →
    ((b : Block) (h : Option Birth → ℕ) → of_births h (entry b) ≡ 0) → Quiet u (asks o at entry u).0
asks_quiet None at entry u z = quiet_stays u
asks_quiet (Some b) at entry u z = says_quiet (m.Work b.node (entry b)) u (λ h. let a = z b h in omega (arith, a))

copies_quiet : (o : Option Block) (index : ℤ) (q : Option Block) (to_index : ℤ) (size : ℕ) (at at_to : Span) (back : Back) (u : Exec) →
    Quiet u (copies o index q to_index size at at_to back u).0
copies_quiet None index q to_index size at at_to back u = quiet_stays u
copies_quiet (Some x) index None to_index size at at_to back u = quiet_stays u
copies_quiet (Some x) index (Some to) to_index size at at_to back u =
    says_quiet (m.Work x.node (e.CopyOut x index size to to_index at at_to back)) u (λ h. refl)

-- ---- runs that bring births

took_in_rest : (o : Option Frame) (k : ℕ) (n : Memory) → ((took_in o k n).node ≡ n.node) × ((took_in o k n).births ≡ n.births)
took_in_rest None k n = (refl, refl)
took_in_rest (Some f) k n = (refl, refl)

module _ (k : ℕ) where
  makes_bears : (d : ℕ) (cells : List Value) (u : Exec) → lives k u.memory ≡ true → Bears k u (makes_block k d cells u)
  makes_bears d cells u l =
      let t : Exec = with_memory (with_block k cells u.memory) u in
      let rest = took_in_rest (slice_get u.memory.frames k) k u.memory in
      then_quiet k u t (put k d (next_block u.memory) t)
      (took_bears k u t l rest.0 refl refl refl
      (λ h.
      let blocks : List Birth = u.memory.births.blocks in
      let a = ap (sum_by h) (map-append Some blocks (next_birth k u.memory ∷ [])) in
      let b = sum_by_push h (map Some blocks) (Some (next_birth k u.memory)) in
      omega (arith, a, b)))
      (put_quiet k d (next_block u.memory) t)

  allocates_bears : (d : ℕ) (count : ℤ) (size nils : ℕ) (at : Span) (u : Exec) → lives k u.memory ≡ true →
      Bears k u (allocates k d count size nils at u).0
  allocates_bears d count size nils at u l =
      either (λ (did : Did). Bears k u did.0) (one.is_count size count) _ _
      (makes_bears d (fresh_cells (unsigned_abs count) size nils) u l)
      (quiet_bears k u u l (quiet_stays u))

  invokes_bears : (f : ℕ) (x : CallPlace) (results : List ℕ) (slot : ℕ) (args : List ℕ) (u : Exec) → lives k u.memory ≡ true →
      Bears k u (invokes k f x results slot args u)
  invokes_bears f x results slot args u l =
      let rest = took_in_rest (slice_get u.memory.frames k) k u.memory in
      let call : Message = m.Work (node_of k x u) (call_entry k f results slot args u) in
      took_bears k u (invokes k f x results slot args u) l rest.0 refl (ap (λ b. b.frames) rest.1) refl
      (λ h.
      let a = ap (λ (b : Births). sum_by h (drop 1 b.frames) + sum_by h (map Some b.blocks)) rest.1 in
      let b = sum_by_push (of_message (of_births h)) u.outbox call in
      omega (arith, a, b))

  answers_bears : (o : Option Activation) (xs : List Value) (u : Exec) → lives k u.memory ≡ true → Bears k u (answers o k xs u)
  answers_bears None xs u l = quiet_bears k u u l (quiet_stays u)
  answers_bears (Some a) xs u l =
      let results : Message = m.Work a.caller.node (e.Fill a.caller.frame a.caller.slot a.caller.cells xs) in
      let told : Exec = says results u in
      ends_bears k u (ends_frame k (says (m.EndFrame k) told)) l refl (marks_set u.memory.frames k ended) refl refl
      (λ h.
      let b = sum_by_push (of_message (of_births h)) u.outbox results in
      let c = sum_by_push (of_message (of_births h)) told.outbox (m.EndFrame k) in
      omega (arith, b, c))

  -- ---- the table

  number : (d : ℕ) (x : Value) (u : Exec) → lives k u.memory ≡ true → Bears k u (put k d x u)
  number d x u l = quiet_bears k u (put k d x u) l (put_quiet k d x u)

  one_bears : (x : Instr) (u : Exec) → lives k u.memory ≡ true → Bears k u (one.one k x u).0
  one_bears (i.Const d c) u l = number d _ u l
  one_bears (i.Nil d) u l = number d _ u l
  one_bears (i.Copy d a) u l = number d _ u l
  one_bears (i.Neg d a) u l = number d _ u l
  one_bears (i.Inv d a) u l = number d _ u l
  one_bears (i.Not d a) u l = number d _ u l
  one_bears (i.Add d a b) u l = number d _ u l
  one_bears (i.Sub d a b) u l = number d _ u l
  one_bears (i.Mul d a b) u l = number d _ u l
  one_bears (i.And d a b) u l = number d _ u l
  one_bears (i.Or d a b) u l = number d _ u l
  one_bears (i.Xor d a b) u l = number d _ u l
  one_bears (i.Shl d a b) u l = number d _ u l
  one_bears (i.Shr d a b) u l = number d _ u l
  one_bears (i.Eq d a b) u l = number d _ u l
  one_bears (i.Ne d a b) u l = number d _ u l
  one_bears (i.Lt d a b) u l = number d _ u l
  one_bears (i.Le d a b) u l = number d _ u l
  one_bears (i.Gt d a b) u l = number d _ u l
  one_bears (i.Ge d a b) u l = number d _ u l
  one_bears (i.Div d a b at) u l = quiet_bears k u _ l (quotient_quiet k d at (binary bin.Div (int_at k a u) (int_at k b u)) u)
  one_bears (i.Rem d a b at) u l = quiet_bears k u _ l (quotient_quiet k d at (binary bin.Rem (int_at k a u) (int_at k b u)) u)
  one_bears (i.Same d a b) u l = number d _ u l
  one_bears (i.IsNil d a) u l = number d _ u l
  one_bears (i.Check a long at) u l = quiet_bears k u u l (quiet_stays u)
  one_bears (i.Alloc d a size nils at) u l = allocates_bears d (int_at k a u) size nils at u l
  one_bears (i.Load d q x size off at) u l =
      quiet_bears k u _ l (loads_quiet k d (pointer_at k q u) (int_at k x u) size (int_at k off u) at u)
  one_bears (i.Store q x size off a at) u l =
      quiet_bears k u _ l (stores_quiet (pointer_at k q u) (int_at k x u) size (int_at k off u) (value_at k a u) at u)
  one_bears (i.Jump to) u l = quiet_bears k u u l (quiet_stays u)
  one_bears (i.JumpZ a to) u l = quiet_bears k u u l (quiet_stays u)
  one_bears (i.InitSync slot count reset fiber) u l =
      quiet_bears k u _ l (says_quiet (m.Init k slot count reset fiber) u (λ h. refl))
  one_bears (i.Sync slot) u l = quiet_bears k u _ l (says_quiet (m.Sync u.memory.node k slot) u (λ h. refl))
  one_bears (i.IncrSync slot) u l = quiet_bears k u _ l (says_quiet (m.Incr k slot) u (λ h. refl))
  one_bears (i.GetSync q x size off d slot at) u l =
      quiet_bears k u _ l (asks_quiet (pointer_at k q u) at
      (λ b. e.Load b (int_at k x u) size (int_at k off u) at (back_to k (Some d) slot u)) u (λ b h. refl))
  one_bears (i.DataSync a q x size off slot at) u l =
      quiet_bears k u _ l (asks_quiet (pointer_at k q u) at
      (λ b. e.Store b (int_at k x u) size (int_at k off u) (value_at k a u) at (back_to k None slot u)) u (λ b h. refl))
  one_bears (i.BlkmovSync q x to y size slot at at_to) u l =
      quiet_bears k u _ l
      (copies_quiet (pointer_at k q u) (int_at k x u) (pointer_at k to u) (int_at k y u) size at at_to (back_to k None slot u) u)
  one_bears (i.AddSync a q slot at) u l =
      quiet_bears k u _ l (asks_quiet (pointer_at k q u) at (λ b. e.Add b (value_at k a u) at (back_to k None slot u)) u (λ b h. refl))
  one_bears (i.PrintSync string cells slot) u l =
      quiet_bears k u _ l
      (says_quiet (m.Work 0 (e.Print (formatted string (ints_at k cells u)) (back_to k None slot u))) u (λ h. refl))
  one_bears (i.Invoke g x results slot args) u l = invokes_bears g x results slot args u l
  one_bears (i.Spawn fiber) u l =
      quiet_bears k u (spawns k fiber u) l
      (record { node = refl; marks = refl; births = refl; activations = refl; weighs = λ h. omega arith })
  one_bears (i.EndFunction cells) u l = answers_bears (activation_of k u) (values_at k cells u) u l
  one_bears i.EndFiber u l = quiet_bears k u u l (quiet_stays u)

  -- ---- fibers

  kept_bears : (u : Exec) (d : Did) → Bears k u d.0 → Bears k u (kept d)
  kept_bears u (t, next.On) r = r
  kept_bears u (t, next.To target) r = r
  kept_bears u (t, next.Ends) r = r
  kept_bears u (t, next.Traps x) r = then_quiet k u t (traps x t) r (traps_quiet x t)

  -- the frame was made for something, and what was made for something is live
  abbrev pub Acts : Exec → Type 0
  Acts u = (is_some (activation_of k u) ≡ true) × IsActive u

  goes_acts : (x : Instr) (u : Exec) → goes_on (one.one k x u).1 ≡ true → Acts u → Bears k u (one.one k x u).0 → Acts (one.one k x u).0
  goes_acts x u g a r = (
    ap (λ (acts : List (Option Activation)). is_some (activation_in (slice_get acts k))) (one_leaves k x u g) ∙ a.0,
    r.active a.1,
  )

  pub does_bears : (place first : ℕ) (xs : List Instr) (u : Exec) → Acts u → Bears k u (does k place first xs u)
  does_bears place first [] u a = quiet_bears k u u (a.1 k a.0) (quiet_stays u)
  does_bears place first (x ∷ xs) u a =
      let d : Did = one.one k x u in
      let r : Bears k u d.0 = one_bears x u (a.1 k a.0) in
      either (Bears k u) (nat_lt place first) _ _
      (does_bears (suc place) first xs u a)
      (chosen (Bears k u) (goes_on d.1) _ _
      (λ g.
      let b : Acts d.0 = goes_acts x u g a r in
      bears_twice k u d.0 (does k (suc place) (place_after place d.1) xs d.0) (b.1 k b.0) r
      (does_bears (suc place) (place_after place d.1) xs d.0 b))
      (kept_bears u d r))

  does_fiber_bears : (o : Option Fiber) (u : Exec) → Acts u → Bears k u (does_fiber k o u)
  does_fiber_bears None u a = quiet_bears k u u (a.1 k a.0) (quiet_stays u)
  does_fiber_bears (Some fiber) u a = does_bears 0 0 fiber.instrs u a

  runs_in_bears : (fiber : ℕ) (o : Option Function) (u : Exec) → Acts u → Bears k u (runs_in k fiber o u)
  runs_in_bears fiber None u a = quiet_bears k u u (a.1 k a.0) (quiet_stays u)
  runs_in_bears fiber (Some f) u a =
      either (Bears k u) (suits f (cell_count k u.memory) (activation_of k u)) _ _ (does_fiber_bears (slice_get f.fibers fiber) u a)
      (quiet_bears k u u (a.1 k a.0) (quiet_stays u))

  pub runs_fiber_bears : (code : Code) (fiber : ℕ) (u : Exec) → Acts u → Bears k u (runs_fiber code k fiber u)
  runs_fiber_bears code fiber u a = runs_in_bears fiber (function_in code (activation_of k u)) u a
