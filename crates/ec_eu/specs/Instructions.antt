-- What one instruction does in frame n, and what comes next.
use Rattle.std.specs.Prelude.{ℕ, ◌*◌, ◌==◌, ◌&&◌, Bool, false, if◌then◌else◌, nat_lt, nat_le, List, [], ◌∷◌, ◌++◌, length, Option, Some, None, ℤ, pos, negsuc, slice_get, slice_set, unsigned_abs}
use Rattle.std.specs.Int.{int_rem_euclid}
use Rattle.ec_base.specs.Arithmetic.{binary, unary, is_zero, one_if}
use Rattle.ec_base.specs.Format.{formatted}
use Rattle.ec_base.specs.declared.limits.TheConstants.{MAX_BLOCK}
use Rattle.ec_base.specs.declared.operator.BinOp.{BinOp}
use Rattle.ec_base.specs.declared.operator.BinOp.TheVariants as bin
use Rattle.ec_base.specs.declared.operator.UnOp.{UnOp}
use Rattle.ec_base.specs.declared.operator.UnOp.TheVariants as un
use Rattle.ec_base.specs.declared.token.Span.{Span}
use Rattle.ec_base.specs.declared.trap.TrapKind.{TrapKind}
use Rattle.ec_base.specs.declared.trap.TrapKind.TheVariants as kind
use Rattle.ec_base.specs.declared.value.Block.{Block}
use Rattle.ec_base.specs.declared.value.Value.{Value}
use Rattle.ec_base.specs.declared.value.Value.TheVariants as v
use Rattle.ec_cells.specs.Accesses.{load, store}
use Rattle.ec_cells.specs.Blocks.{fresh_cells, with_block}
use Rattle.ec_cells.specs.Frames.{end_frame, next_birth, took_birth}
use Rattle.ec_cells.specs.Memory.{Memory}
use Rattle.ec_code.specs.declared.call_place.CallPlace.{CallPlace}
use Rattle.ec_code.specs.declared.call_place.CallPlace.TheVariants as place
use Rattle.ec_code.specs.declared.instr.Instr.{Instr}
use Rattle.ec_code.specs.declared.instr.Instr.TheVariants as i
use Rattle.ec_code.specs.declared.message.Back.{Back}
use Rattle.ec_code.specs.declared.message.Entry.{Entry}
use Rattle.ec_code.specs.declared.message.Entry.TheVariants as e
use Rattle.ec_code.specs.declared.message.Message.TheVariants as m
use Rattle.ec_eu.specs.declared.state.Activation.{Activation}
use Rattle.ec_eu.specs.declared.state.Next.{Next}
use Rattle.ec_eu.specs.declared.state.Next.TheVariants as next
use Rattle.ec_eu.specs.Cells.{int_at, ints_at, pointer_at, put, same_block, value_at, values_at}
use Rattle.ec_eu.specs.State.{Exec, says, with_memory}

-- the unit after an instruction, and what comes next
abbrev pub Did : Type 0
Did = Exec × Next

-- what comes next is the instruction behind it
abbrev pub on : Exec → Did
on s = (s, next.On)

abbrev pub trap_at : TrapKind → Span → Next
trap_at kind at = next.Traps (record { kind = kind; at = at })

abbrev pub trapping : TrapKind → Span → Exec → Did
trapping kind at s = (s, trap_at kind at)

-- ---- numbers and pointers

abbrev pub puts_number : ℕ → ℕ → ℤ → Exec → Did
puts_number n d k s = on (put n d (v.Int k) s)

abbrev pub puts_unary : ℕ → UnOp → ℕ → ℕ → Exec → Did
puts_unary n op d a s = puts_number n d (unary op (int_at n a s)) s

abbrev pub number_or_zero : Option ℤ → ℤ
number_or_zero None = pos 0
number_or_zero (Some k) = k

-- an operator that doesn't divide
abbrev pub puts_binary : ℕ → BinOp → ℕ → ℕ → ℕ → Exec → Did
puts_binary n op d a b s = puts_number n d (number_or_zero (binary op (int_at n a s) (int_at n b s))) s

abbrev pub puts_quotient : ℕ → ℕ → Span → Option ℤ → Exec → Did
puts_quotient n d at None s = trapping kind.DivZero at s
puts_quotient n d at (Some k) s = puts_number n d k s

-- an operator that divides traps where the divisor is 0
abbrev pub divides : ℕ → BinOp → ℕ → ℕ → ℕ → Span → Exec → Did
divides n op d a b at s = puts_quotient n d at (binary op (int_at n a s) (int_at n b s)) s

abbrev pub puts_truth : ℕ → ℕ → Bool → Exec → Did
puts_truth n d test s = puts_number n d (one_if test) s

abbrev pub is_below : ℕ → ℤ → Bool
is_below length (pos k) = nat_lt k length
is_below length (negsuc k) = false

-- what comes next where an index is looked at before an array of this length is accessed
abbrev pub checked : ℕ → ℤ → Span → Next
checked length index at = if is_below length index then next.On else trap_at kind.Bounds at

-- what comes next at a jump that is taken where the test holds
abbrev pub jump_if : Bool → ℕ → Next
jump_if test k = if test then next.To k else next.On

-- ---- blocks of the own node

-- at least one element, and no more cells than the limit
abbrev pub is_count : ℕ → ℤ → Bool
is_count size (pos count) = nat_lt 0 count && nat_le (count * size) MAX_BLOCK
is_count size (negsuc count) = false

-- the pointer to the next block of a node
abbrev pub next_block : Memory → Value
next_block m = v.Ptr (record { node = m.node; number = length m.blocks })

abbrev pub makes_block : ℕ → ℕ → List Value → Exec → Exec
makes_block n d cells s = put n d (next_block s.memory) (with_memory (with_block n cells s.memory) s)

abbrev pub allocates : ℕ → ℕ → ℤ → ℕ → ℕ → Span → Exec → Did
allocates n d count size nils at s =
    if is_count size count then on (makes_block n d (fresh_cells (unsigned_abs count) size nils) s)
    else trapping kind.BadSize at s

abbrev pub puts_loaded : ℕ → ℕ → Span → Option Value → Exec → Did
puts_loaded n d at None s = trapping kind.Bounds at s
puts_loaded n d at (Some x) s = on (put n d x s)

abbrev pub is_own : Exec → Block → Bool
is_own s b = b.node == s.memory.node

-- what a block of the own node holds; none of another node's
abbrev pub loaded : Block → ℤ → ℕ → ℤ → Exec → Option Value
loaded b index size off s = if is_own s b then load b.number index size off s.memory else None

-- NULL is looked at first
abbrev pub loads : ℕ → ℕ → Option Block → ℤ → ℕ → ℤ → Span → Exec → Did
loads n d None index size off at s = trapping kind.Null at s
loads n d (Some b) index size off at s = puts_loaded n d at (loaded b index size off s) s

abbrev pub keeps_stored : Span → Option Memory → Exec → Did
keeps_stored at None s = trapping kind.Bounds at s
keeps_stored at (Some m) s = on (with_memory m s)

abbrev pub stored : Block → ℤ → ℕ → ℤ → Value → Exec → Option Memory
stored b index size off x s = if is_own s b then store b.number index size off x s.memory else None

abbrev pub stores : Option Block → ℤ → ℕ → ℤ → Value → Span → Exec → Did
stores None index size off x at s = trapping kind.Null at s
stores (Some b) index size off x at s = keeps_stored at (stored b index size off x s) s

-- ---- blocks of any node: the access is asked of the block's node, and the slot is synced once it is done

abbrev pub back_to : ℕ → Option ℕ → ℕ → Exec → Back
back_to n cell slot s = record { node = s.memory.node; frame = n; cell = cell; slot = slot }

-- work for the node of a block that a pointer names
abbrev pub asks : Option Block → Span → (Block → Entry) → Exec → Did
asks None at entry s = trapping kind.Null at s
asks (Some b) at entry s = on (says (m.Work b.node (entry b)) s)

-- a copy of an element to another: NULL of the source is looked at before NULL of the target
abbrev pub copies : Option Block → ℤ → Option Block → ℤ → ℕ → Span → Span → Back → Exec → Did
copies None index to to_index size at at_to back s = trapping kind.Null at s
copies (Some b) index None to_index size at at_to back s = trapping kind.Null at_to s
copies (Some b) index (Some to) to_index size at at_to back s =
    on (says (m.Work b.node (e.CopyOut b index size to to_index at at_to back)) s)

-- ---- calls

abbrev pub owner_or : Option Block → ℕ → ℕ
owner_or None me = me
owner_or (Some b) me = b.node

-- the node on which a call's frame is made
abbrev pub node_of : ℕ → CallPlace → Exec → ℕ
node_of n place.Here s = s.memory.node
node_of n place.Home s = 0
node_of n (place.Node a) s = unsigned_abs (int_rem_euclid (int_at n a s) (pos s.nodes))
node_of n (place.Owner a) s = owner_or (pointer_at n a s) s.memory.node

-- a call whose birth is the frame's next one
abbrev pub call_entry : ℕ → ℕ → List ℕ → ℕ → List ℕ → Exec → Entry
call_entry n f results slot args s = e.Enter (record {
  function = f;
  args = values_at n args s;
  birth = Some (next_birth n s.memory);
  node = s.memory.node;
  frame = n;
  cells = results;
  slot = slot;
})

abbrev pub invokes : ℕ → ℕ → CallPlace → List ℕ → ℕ → List ℕ → Exec → Exec
invokes n f place results slot args s =
    says (m.Work (node_of n place s) (call_entry n f results slot args s)) (with_memory (took_birth n s.memory) s)

-- ---- ends

abbrev pub activation_in : Option (Option Activation) → Option Activation
activation_in None = None
activation_in (Some a) = a

-- what a frame was made for
abbrev pub activation_of : ℕ → Exec → Option Activation
activation_of n s = activation_in (slice_get s.activations n)

-- the frame is dead, and nothing goes to its caller any more
abbrev pub ends_frame : ℕ → Exec → Exec
ends_frame n s = record s { memory = end_frame n s.memory; activations = slice_set s.activations n None }

-- the values go to the caller, and the frame ends; nothing happens to a frame without a caller
abbrev pub answers : Option Activation → ℕ → List Value → Exec → Exec
answers None n xs s = s
answers (Some a) n xs s =
    ends_frame n (says (m.EndFrame n) (says (m.Work a.caller.node (e.Fill a.caller.frame a.caller.slot a.caller.cells xs)) s))

-- the frame answers with what these cells hold
abbrev pub ends_function : ℕ → List ℕ → Exec → Exec
ends_function n cells s = answers (activation_of n s) n (values_at n cells s) s

abbrev pub prints : ℕ → List ℕ → List ℕ → ℕ → Exec → Exec
prints n string cells slot s =
    says (m.Work 0 (e.Print (formatted string (ints_at n cells s)) (back_to n None slot s))) s

abbrev pub spawns : ℕ → ℕ → Exec → Exec
spawns n fiber s = record s { spawned = s.spawned ++ record { frame = n; fiber = fiber } ∷ [] }

-- ---- the table

abbrev pub one : ℕ → Instr → Exec → Did
one n (i.Const d k) s = puts_number n d k s
one n (i.Nil d) s = on (put n d v.Null s)
one n (i.Copy d a) s = on (put n d (value_at n a s) s)
one n (i.Neg d a) s = puts_unary n un.Neg d a s
one n (i.Inv d a) s = puts_unary n un.Inv d a s
one n (i.Not d a) s = puts_unary n un.Not d a s
one n (i.Add d a b) s = puts_binary n bin.Add d a b s
one n (i.Sub d a b) s = puts_binary n bin.Sub d a b s
one n (i.Mul d a b) s = puts_binary n bin.Mul d a b s
one n (i.And d a b) s = puts_binary n bin.And d a b s
one n (i.Or d a b) s = puts_binary n bin.Or d a b s
one n (i.Xor d a b) s = puts_binary n bin.Xor d a b s
one n (i.Shl d a b) s = puts_binary n bin.Shl d a b s
one n (i.Shr d a b) s = puts_binary n bin.Shr d a b s
one n (i.Eq d a b) s = puts_binary n bin.Eq d a b s
one n (i.Ne d a b) s = puts_binary n bin.Ne d a b s
one n (i.Lt d a b) s = puts_binary n bin.Lt d a b s
one n (i.Le d a b) s = puts_binary n bin.Le d a b s
one n (i.Gt d a b) s = puts_binary n bin.Gt d a b s
one n (i.Ge d a b) s = puts_binary n bin.Ge d a b s
one n (i.Div d a b at) s = divides n bin.Div d a b at s
one n (i.Rem d a b at) s = divides n bin.Rem d a b at s
one n (i.Same d a b) s = puts_truth n d (same_block (pointer_at n a s) (pointer_at n b s)) s
one n (i.IsNil d a) s = puts_truth n d (same_block (pointer_at n a s) None) s
one n (i.Check a length at) s = (s, checked length (int_at n a s) at)
one n (i.Alloc d a size nils at) s = allocates n d (int_at n a s) size nils at s
one n (i.Load d p x size off at) s = loads n d (pointer_at n p s) (int_at n x s) size (int_at n off s) at s
one n (i.Store p x size off a at) s =
    stores (pointer_at n p s) (int_at n x s) size (int_at n off s) (value_at n a s) at s
one n (i.Jump k) s = (s, next.To k)
one n (i.JumpZ a k) s = (s, jump_if (is_zero (int_at n a s)) k)
one n (i.InitSync slot count reset fiber) s = on (says (m.Init n slot count reset fiber) s)
one n (i.Sync slot) s = on (says (m.Sync s.memory.node n slot) s)
one n (i.IncrSync slot) s = on (says (m.Incr n slot) s)
one n (i.GetSync p x size off d slot at) s =
    asks (pointer_at n p s) at (λ q. e.Load q (int_at n x s) size (int_at n off s) at (back_to n (Some d) slot s)) s
one n (i.DataSync a p x size off slot at) s =
    asks (pointer_at n p s) at
    (λ q. e.Store q (int_at n x s) size (int_at n off s) (value_at n a s) at (back_to n None slot s)) s
one n (i.BlkmovSync p x q y size slot at at_to) s =
    copies (pointer_at n p s) (int_at n x s) (pointer_at n q s) (int_at n y s) size at at_to (back_to n None slot s) s
one n (i.AddSync a p slot at) s = asks (pointer_at n p s) at (λ q. e.Add q (value_at n a s) at (back_to n None slot s)) s
one n (i.PrintSync string cells slot) s = on (prints n string cells slot s)
one n (i.Invoke f place results slot args) s = on (invokes n f place results slot args s)
one n (i.Spawn fiber) s = on (spawns n fiber s)
one n (i.EndFunction cells) s = (ends_function n cells s, next.Ends)
one n i.EndFiber s = (s, next.Ends)
