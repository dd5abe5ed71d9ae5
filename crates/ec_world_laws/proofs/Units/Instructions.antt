-- Instructions of valid code leave a unit in place.
use Rattle.std.proofs.Common.{◌≡◌, ◌<◌, ℕ, suc, true, List, [], ◌∷◌, length, refl, ap, sym, ◌∙◌, Option, Some, None, slice_get, subst, arith, ℤ, pos, negsuc}
use Rattle.std.specs.Prelude.{unsigned_abs}
use Rattle.std.specs.Int.{int_rem_euclid}
use Rattle.std.proofs.lemmas.Bool.{and_parts, eqb-true}
use Rattle.std.proofs.lemmas.List.Elements.{All-set}
use Rattle.std.proofs.lemmas.Nat.{mod_below}
use Rattle.ec_base.specs.Arithmetic.{binary}
use Rattle.ec_base.specs.Format.{formatted}
use Rattle.ec_base.specs.declared.operator.BinOp.TheVariants as bin
use Rattle.ec_base.specs.declared.token.Span.{Span}
use Rattle.ec_base.specs.declared.value.Block.{Block}
use Rattle.ec_base.specs.declared.value.Value.{Value}
use Rattle.ec_base.specs.declared.value.Value.TheVariants as v
use Rattle.ec_cells.specs.Blocks.{fresh_cells, with_block}
use Rattle.ec_cells.specs.Frames.{end_frame, took_birth}
use Rattle.ec_cells.specs.Memory.{Memory}
use Rattle.ec_code.specs.declared.call_place.CallPlace.{CallPlace}
use Rattle.ec_code.specs.declared.call_place.CallPlace.TheVariants as place
use Rattle.ec_code.specs.declared.code.Function.{Function}
use Rattle.ec_code.specs.declared.instr.Instr.{Instr}
use Rattle.ec_code.specs.declared.instr.Instr.TheVariants as i
use Rattle.ec_code.specs.declared.message.Back.{Back}
use Rattle.ec_code.specs.declared.message.Entry.{Entry}
use Rattle.ec_code.specs.declared.message.Entry.TheVariants as e
use Rattle.ec_code.specs.declared.message.Message.{Message}
use Rattle.ec_code.specs.declared.message.Message.TheVariants as m
use Rattle.ec_code.specs.InPlace.{IsBack, IsBlock, IsEntry, IsValue}
use Rattle.ec_code.specs.Valid.{has_results, has_sizes, is_count, is_size}
use Rattle.ec_eu.specs.declared.state.Activation.{Activation}
use Rattle.ec_eu.specs.Cells.{int_at, ints_at, pointer_at, put, value_at, values_at}
use Rattle.ec_eu.specs.Instructions as one
use Rattle.ec_eu.specs.Instructions.{Did, activation_in, activation_of, allocates, answers, asks, back_to, call_entry, copies, divides, ends_frame, ends_function, invokes, keeps_stored, loaded, loads, makes_block, next_block, node_of, on, owner_or, puts_loaded, puts_quotient, stored, stores, trapping}
use Rattle.ec_world_laws.specs.Units.{AreValues, IsAnswering, IsPlaced}
use Rattle.ec_eu.specs.State.{Exec, says, with_memory}
use Rattle.ec_world_laws.proofs.Units.Cells.{held, pointer_placed, put_placed, says_placed, value_placed, values_placed, with_memory_placed}
use Rattle.ec_world_laws.proofs.Units.Values.{IsHeld, Perhaps, either, end_frame_held, fresh_cells_held, load_held, perhaps_at, store_held, took_birth_held, with_block_held}

-- a frame whose caller, where it has one, has cells for so many results
abbrev pub HasCells : ℕ → Option Activation → Type 0
HasCells results None = Unit {0}
HasCells results (Some a) = length a.caller.cells ≡ results

-- a number modulo a number is below it
rem_below : (z : ℤ) (n : ℕ) → 0 < n → unsigned_abs (int_rem_euclid z (pos n)) < n
rem_below (pos a) n h = mod_below a n h
rem_below (negsuc a) n h = omega arith

module _ (n : ℕ) where
  -- a unit that has done an instruction, in place
  abbrev pub DidPlaced : Did → Type 0
  DidPlaced d = IsPlaced n d.0

  -- ---- numbers

  number_placed : (k d : ℕ) (x : ℤ) (s : Exec) → IsPlaced n s → IsPlaced n (put k d (v.Int x) s)
  number_placed k d x s p = put_placed n k d (v.Int x) s tt p

  quotient_placed : (k d : ℕ) (at : Span) (o : Option ℤ) (s : Exec) → IsPlaced n s → DidPlaced (puts_quotient k d at o s)
  quotient_placed k d at None s p = p
  quotient_placed k d at (Some x) s p = number_placed k d x s p

  -- ---- blocks of the own node

  block_placed : (k d : ℕ) (cells : List Value) (s : Exec) → AreValues n cells → IsPlaced n s → IsPlaced n (makes_block k d cells s)
  block_placed k d cells s h p =
      let more : Memory = with_block k cells s.memory in
      put_placed n k d (next_block s.memory) (with_memory more s) p.node
      (with_memory_placed n more s (with_block_held n k cells s.memory h (held n s p)) p)

  allocates_placed : (k d : ℕ) (count : ℤ) (size nils : ℕ) (at : Span) (s : Exec) → IsPlaced n s →
      DidPlaced (allocates k d count size nils at s)
  allocates_placed k d count size nils at s p =
      let cells : List Value = fresh_cells (unsigned_abs count) size nils in
      either DidPlaced (one.is_count size count) _ _ (block_placed k d cells s (fresh_cells_held n (unsigned_abs count) size nils) p) p

  puts_loaded_placed : (k d : ℕ) (at : Span) (o : Option Value) (s : Exec) → Perhaps (IsValue n) o → IsPlaced n s →
      DidPlaced (puts_loaded k d at o s)
  puts_loaded_placed k d at None s h p = p
  puts_loaded_placed k d at (Some x) s h p = put_placed n k d x s h p

  loads_placed : (k d : ℕ) (o : Option Block) (index : ℤ) (size : ℕ) (off : ℤ) (at : Span) (s : Exec) → IsPlaced n s →
      DidPlaced (loads k d o index size off at s)
  loads_placed k d None index size off at s p = p
  loads_placed k d (Some b) index size off at s p =
      puts_loaded_placed k d at (loaded b index size off s) s
      (either (Perhaps (IsValue n)) (one.is_own s b) _ _ (load_held n b.number index size off s.memory (held n s p)) tt)
      p

  keeps_placed : (at : Span) (o : Option Memory) (s : Exec) → Perhaps (IsHeld n) o → IsPlaced n s → DidPlaced (keeps_stored at o s)
  keeps_placed at None s h p = p
  keeps_placed at (Some m) s h p = with_memory_placed n m s h p

  stores_placed : (o : Option Block) (index : ℤ) (size : ℕ) (off : ℤ) (x : Value) (at : Span) (s : Exec) → IsValue n x →
      IsPlaced n s → DidPlaced (stores o index size off x at s)
  stores_placed None index size off x at s h p = p
  stores_placed (Some b) index size off x at s h p =
      keeps_placed at (stored b index size off x s) s
      (either (Perhaps (IsHeld n)) (one.is_own s b) _ _ (store_held n b.number index size off x s.memory h (held n s p)) tt)
      p

  -- ---- blocks of any node

  asks_placed : (o : Option Block) (at : Span) (entry : Block → Entry) (s : Exec) → Perhaps (IsBlock n) o →
      ((b : Block) → IsBlock n b → IsEntry n (entry b)) → IsPlaced n s → DidPlaced (asks o at entry s)
  asks_placed None at entry s h f p = p
  asks_placed (Some b) at entry s h f p = says_placed n (m.Work b.node (entry b)) s (h, f b h) p

  copies_placed : (o : Option Block) (index : ℤ) (q : Option Block) (to_index : ℤ) (size : ℕ) (at at_to : Span) (back : Back)
      (s : Exec) → Perhaps (IsBlock n) o → Perhaps (IsBlock n) q → is_size size ≡ true → IsBack n back → IsPlaced n s →
      DidPlaced (copies o index q to_index size at at_to back s)
  copies_placed None index q to_index size at at_to back s h g z b p = p
  copies_placed (Some x) index None to_index size at at_to back s h g z b p = p
  copies_placed (Some x) index (Some to) to_index size at at_to back s h g z b p =
      says_placed n (m.Work x.node (e.CopyOut x index size to to_index at at_to back)) s (h, (h, z, g, b)) p

  -- ---- calls and ends

  owner_placed : (o : Option Block) (me : ℕ) → Perhaps (IsBlock n) o → me < n → owner_or o me < n
  owner_placed None me h l = l
  owner_placed (Some b) me h l = h

  node_placed : (k : ℕ) (x : CallPlace) (s : Exec) → IsPlaced n s → node_of k x s < n
  node_placed k place.Here s p = p.node
  node_placed k place.Home s p = omega (arith, p.node)
  node_placed k (place.Node a) s p =
      let some : 0 < n = omega (arith, p.node) in
      subst (λ count. unsigned_abs (int_rem_euclid (int_at k a s) (pos count)) < n) (sym p.nodes) (rem_below (int_at k a s) n some)
  node_placed k (place.Owner a) s p = owner_placed (pointer_at k a s) s.memory.node (pointer_placed n k a s p) p.node

  invokes_placed : (k f : ℕ) (x : CallPlace) (results : List ℕ) (slot : ℕ) (args : List ℕ) (s : Exec) → IsPlaced n s →
      IsPlaced n (invokes k f x results slot args s)
  invokes_placed k f x results slot args s p =
      let took : Memory = took_birth k s.memory in
      says_placed n (m.Work (node_of k x s) (call_entry k f results slot args s)) (with_memory took s)
      (node_placed k x s p, record { node = p.node; birth = p.node; args = values_placed n k args s p })
      (with_memory_placed n took s (took_birth_held n k s.memory (held n s p)) p)

  ends_frame_placed : (k : ℕ) (s : Exec) → IsPlaced n s → IsPlaced n (ends_frame k s)
  ends_frame_placed k s p =
      let h : IsHeld n (end_frame k s.memory) = end_frame_held n k s.memory (held n s p) in
      record {
        node = h.node;
        nodes = p.nodes;
        cells = h.cells;
        blocks = h.blocks;
        callers = All-set (IsAnswering n) s.activations k None tt p.callers;
        outbox = p.outbox;
      }

  answers_placed : (o : Option Activation) (k : ℕ) (xs : List Value) (s : Exec) → IsAnswering n o → HasCells (length xs) o →
      AreValues n xs → IsPlaced n s → IsPlaced n (answers o k xs s)
  answers_placed None k xs s a l h p = p
  answers_placed (Some a) k xs s c l h p =
      let results : Message = m.Work a.caller.node (e.Fill a.caller.frame a.caller.slot a.caller.cells xs) in
      ends_frame_placed k (says (m.EndFrame k) (says results s))
      (says_placed n (m.EndFrame k) (says results s) tt (says_placed n results s (c, (l, h)) p))

  answering : (o : Option (Option Activation)) → Perhaps (IsAnswering n) o → IsAnswering n (activation_in o)
  answering None h = tt
  answering (Some a) h = h

  activation_placed : (k : ℕ) (s : Exec) → IsPlaced n s → IsAnswering n (activation_of k s)
  activation_placed k s p = answering (slice_get s.activations k) (perhaps_at (IsAnswering n) s.activations k _ refl p.callers)

  values_long : (k : ℕ) (cells : List ℕ) (s : Exec) → length (values_at k cells s) ≡ length cells
  values_long k [] s = refl
  values_long k (c ∷ cells) s = ap suc (values_long k cells s)

  has_cells_of : (o : Option Activation) (a b : ℕ) → a ≡ b → HasCells a o → HasCells b o
  has_cells_of o a b h = subst (λ x. HasCells x o) h

  ends_placed : (k : ℕ) (f : Function) (cells : List ℕ) (s : Exec) → length cells ≡ f.results → HasCells f.results (activation_of k s) →
      IsPlaced n s → IsPlaced n (ends_function k cells s)
  ends_placed k f cells s l h p =
      answers_placed (activation_of k s) k (values_at k cells s) s (activation_placed k s p)
      (has_cells_of (activation_of k s) f.results (length (values_at k cells s)) (sym (values_long k cells s ∙ l)) h)
      (values_placed n k cells s p)
      p

  -- ---- the table

  back_placed : (k : ℕ) (cell : Option ℕ) (slot : ℕ) (s : Exec) → IsPlaced n s → IsBack n (back_to k cell slot s)
  back_placed k cell slot s p = p.node

  pub one_placed : (k : ℕ) (functions : List Function) (f : Function) (x : Instr) (s : Exec) → has_sizes x ≡ true →
      has_results functions f x ≡ true → HasCells f.results (activation_of k s) → IsPlaced n s → DidPlaced (one.one k x s)
  one_placed k fs f (i.Const d c) s z r h p = number_placed k d c s p
  one_placed k fs f (i.Nil d) s z r h p = put_placed n k d v.Null s tt p
  one_placed k fs f (i.Copy d a) s z r h p = put_placed n k d (value_at k a s) s (value_placed n k a s p) p
  one_placed k fs f (i.Neg d a) s z r h p = number_placed k d _ s p
  one_placed k fs f (i.Inv d a) s z r h p = number_placed k d _ s p
  one_placed k fs f (i.Not d a) s z r h p = number_placed k d _ s p
  one_placed k fs f (i.Add d a b) s z r h p = number_placed k d _ s p
  one_placed k fs f (i.Sub d a b) s z r h p = number_placed k d _ s p
  one_placed k fs f (i.Mul d a b) s z r h p = number_placed k d _ s p
  one_placed k fs f (i.And d a b) s z r h p = number_placed k d _ s p
  one_placed k fs f (i.Or d a b) s z r h p = number_placed k d _ s p
  one_placed k fs f (i.Xor d a b) s z r h p = number_placed k d _ s p
  one_placed k fs f (i.Shl d a b) s z r h p = number_placed k d _ s p
  one_placed k fs f (i.Shr d a b) s z r h p = number_placed k d _ s p
  one_placed k fs f (i.Eq d a b) s z r h p = number_placed k d _ s p
  one_placed k fs f (i.Ne d a b) s z r h p = number_placed k d _ s p
  one_placed k fs f (i.Lt d a b) s z r h p = number_placed k d _ s p
  one_placed k fs f (i.Le d a b) s z r h p = number_placed k d _ s p
  one_placed k fs f (i.Gt d a b) s z r h p = number_placed k d _ s p
  one_placed k fs f (i.Ge d a b) s z r h p = number_placed k d _ s p
  one_placed k fs f (i.Div d a b at) s z r h p = quotient_placed k d at (binary bin.Div (int_at k a s) (int_at k b s)) s p
  one_placed k fs f (i.Rem d a b at) s z r h p = quotient_placed k d at (binary bin.Rem (int_at k a s) (int_at k b s)) s p
  one_placed k fs f (i.Same d a b) s z r h p = number_placed k d _ s p
  one_placed k fs f (i.IsNil d a) s z r h p = number_placed k d _ s p
  one_placed k fs f (i.Check a long at) s z r h p = p
  one_placed k fs f (i.Alloc d a size nils at) s z r h p = allocates_placed k d (int_at k a s) size nils at s p
  one_placed k fs f (i.Load d q x size off at) s z r h p =
      loads_placed k d (pointer_at k q s) (int_at k x s) size (int_at k off s) at s p
  one_placed k fs f (i.Store q x size off a at) s z r h p =
      stores_placed (pointer_at k q s) (int_at k x s) size (int_at k off s) (value_at k a s) at s (value_placed n k a s p) p
  one_placed k fs f (i.Jump t) s z r h p = p
  one_placed k fs f (i.JumpZ a t) s z r h p = p
  one_placed k fs f (i.InitSync slot count reset fiber) s z r h p =
      let q = and_parts (is_count count) (is_count reset) z in
      says_placed n (m.Init k slot count reset fiber) s (q.0, q.1) p
  one_placed k fs f (i.Sync slot) s z r h p = says_placed n (m.Sync s.memory.node k slot) s p.node p
  one_placed k fs f (i.IncrSync slot) s z r h p = says_placed n (m.Incr k slot) s tt p
  one_placed k fs f (i.GetSync q x size off d slot at) s z r h p =
      asks_placed (pointer_at k q s) at
      (λ b. e.Load b (int_at k x s) size (int_at k off s) at (back_to k (Some d) slot s)) s (pointer_placed n k q s p)
      (λ b l. (l, z, p.node, refl)) p
  one_placed k fs f (i.DataSync a q x size off slot at) s z r h p =
      asks_placed (pointer_at k q s) at
      (λ b. e.Store b (int_at k x s) size (int_at k off s) (value_at k a s) at (back_to k None slot s)) s
      (pointer_placed n k q s p)
      (λ b l. (l, z, value_placed n k a s p, p.node)) p
  one_placed k fs f (i.BlkmovSync q x to y size slot at at_to) s z r h p =
      copies_placed (pointer_at k q s) (int_at k x s) (pointer_at k to s) (int_at k y s) size at at_to (back_to k None slot s) s
      (pointer_placed n k q s p) (pointer_placed n k to s p) z p.node p
  one_placed k fs f (i.AddSync a q slot at) s z r h p =
      asks_placed (pointer_at k q s) at (λ b. e.Add b (value_at k a s) at (back_to k None slot s)) s (pointer_placed n k q s p)
      (λ b l. (l, value_placed n k a s p, p.node)) p
  one_placed k fs f (i.PrintSync string cells slot) s z r h p =
      says_placed n (m.Work 0 (e.Print (formatted string (ints_at k cells s)) (back_to k None slot s))) s
      (omega (arith, p.node), p.node) p
  one_placed k fs f (i.Invoke g x results slot args) s z r h p = invokes_placed k g x results slot args s p
  one_placed k fs f (i.Spawn fiber) s z r h p = record {
    node = p.node;
    nodes = p.nodes;
    cells = p.cells;
    blocks = p.blocks;
    callers = p.callers;
    outbox = p.outbox;
  }
  one_placed k fs f (i.EndFunction cells) s z r h p = ends_placed k f cells s (eqb-true (length cells) f.results r) h p
  one_placed k fs f i.EndFiber s z r h p = p
