-- Instructions behind messages that wait.
use Rattle.std.proofs.Common.{◌≡◌, ℕ, List, refl, ap, ◌∙◌, Option, Some, None, ℤ}
use Rattle.ec_base.specs.Arithmetic.{binary}
use Rattle.ec_base.specs.Format.{formatted}
use Rattle.ec_base.specs.declared.operator.BinOp.TheVariants as bin
use Rattle.ec_base.specs.declared.token.Span.{Span}
use Rattle.ec_base.specs.declared.value.Block.{Block}
use Rattle.ec_base.specs.declared.value.Value.{Value}
use Rattle.ec_cells.specs.Frames.{took_birth}
use Rattle.ec_cells.specs.Memory.{Memory}
use Rattle.ec_code.specs.declared.call_place.CallPlace.{CallPlace}
use Rattle.ec_code.specs.declared.call_place.CallPlace.TheVariants as place
use Rattle.ec_code.specs.declared.instr.Instr.{Instr}
use Rattle.ec_code.specs.declared.instr.Instr.TheVariants as i
use Rattle.ec_code.specs.declared.message.Back.{Back}
use Rattle.ec_code.specs.declared.message.Entry.{Entry}
use Rattle.ec_code.specs.declared.message.Entry.TheVariants as e
use Rattle.ec_code.specs.declared.message.Message.{Message}
use Rattle.ec_code.specs.declared.message.Message.TheVariants as m
use Rattle.ec_eu.specs.declared.state.Activation.{Activation}
use Rattle.ec_eu.specs.declared.state.Next.TheVariants as next
use Rattle.ec_eu.specs.Alone.{behind}
use Rattle.ec_eu.specs.Cells.{int_at, ints_at, pointer_at, value_at, values_at}
use Rattle.ec_eu.specs.Instructions.{Did, activation_of, allocates, answers, asks, back_to, call_entry, copies, ends_frame, invokes, is_count, keeps_stored, loaded, loads, node_of, on, one, puts_loaded, puts_quotient, stored, stores}
use Rattle.ec_eu.specs.State.{Exec, says, with_memory}
use Rattle.ec_eu.proofs.Alone.Cells.{either_way, says_behind}

-- what an instruction did, its messages behind these
abbrev pub moved : List Message → Did → Did
moved ms d = (behind ms d.0, d.1)

says_moved : (ms : List Message) (message : Message) (s : Exec) → on (says message (behind ms s)) ≡ moved ms (on (says message s))
says_moved ms message s = ap on (says_behind ms message s)

-- ---- numbers, and blocks of the own node

quotient_moved : (ms : List Message) (n d : ℕ) (at : Span) (o : Option ℤ) (s : Exec) →
    puts_quotient n d at o (behind ms s) ≡ moved ms (puts_quotient n d at o s)
quotient_moved ms n d at None s = refl
quotient_moved ms n d at (Some k) s = refl

allocates_moved : (ms : List Message) (n d : ℕ) (count : ℤ) (size nils : ℕ) (at : Span) (s : Exec) →
    allocates n d count size nils at (behind ms s) ≡ moved ms (allocates n d count size nils at s)
allocates_moved ms n d count size nils at s = either_way (moved ms) (is_count size count) _ _ _ _ refl refl

puts_loaded_moved : (ms : List Message) (n d : ℕ) (at : Span) (o : Option Value) (s : Exec) →
    puts_loaded n d at o (behind ms s) ≡ moved ms (puts_loaded n d at o s)
puts_loaded_moved ms n d at None s = refl
puts_loaded_moved ms n d at (Some x) s = refl

loads_moved : (ms : List Message) (n d : ℕ) (o : Option Block) (index : ℤ) (size : ℕ) (off : ℤ) (at : Span) (s : Exec) →
    loads n d o index size off at (behind ms s) ≡ moved ms (loads n d o index size off at s)
loads_moved ms n d None index size off at s = refl
loads_moved ms n d (Some b) index size off at s = puts_loaded_moved ms n d at (loaded b index size off s) s

keeps_stored_moved : (ms : List Message) (at : Span) (o : Option Memory) (s : Exec) →
    keeps_stored at o (behind ms s) ≡ moved ms (keeps_stored at o s)
keeps_stored_moved ms at None s = refl
keeps_stored_moved ms at (Some m) s = refl

stores_moved : (ms : List Message) (o : Option Block) (index : ℤ) (size : ℕ) (off : ℤ) (x : Value) (at : Span) (s : Exec) →
    stores o index size off x at (behind ms s) ≡ moved ms (stores o index size off x at s)
stores_moved ms None index size off x at s = refl
stores_moved ms (Some b) index size off x at s = keeps_stored_moved ms at (stored b index size off x s) s

-- ---- blocks of any node

asks_moved : (ms : List Message) (o : Option Block) (at : Span) (entry : Block → Entry) (s : Exec) →
    asks o at entry (behind ms s) ≡ moved ms (asks o at entry s)
asks_moved ms None at entry s = refl
asks_moved ms (Some b) at entry s = says_moved ms (m.Work b.node (entry b)) s

copies_moved : (ms : List Message) (o : Option Block) (index : ℤ) (p : Option Block) (to_index : ℤ) (size : ℕ) (at at_to : Span)
    (back : Back) (s : Exec) →
    copies o index p to_index size at at_to back (behind ms s) ≡ moved ms (copies o index p to_index size at at_to back s)
copies_moved ms None index p to_index size at at_to back s = refl
copies_moved ms (Some b) index None to_index size at at_to back s = refl
copies_moved ms (Some b) index (Some to) to_index size at at_to back s =
    says_moved ms (m.Work b.node (e.CopyOut b index size to to_index at at_to back)) s

-- ---- calls and ends

node_of_behind : (ms : List Message) (n : ℕ) (x : CallPlace) (s : Exec) → node_of n x (behind ms s) ≡ node_of n x s
node_of_behind ms n place.Here s = refl
node_of_behind ms n place.Home s = refl
node_of_behind ms n (place.Node a) s = refl
node_of_behind ms n (place.Owner a) s = refl

invokes_behind : (ms : List Message) (n f : ℕ) (x : CallPlace) (results : List ℕ) (slot : ℕ) (args : List ℕ) (s : Exec) →
    invokes n f x results slot args (behind ms s) ≡ behind ms (invokes n f x results slot args s)
invokes_behind ms n f x results slot args s =
    let call : Entry = call_entry n f results slot args s in
    let born : Exec = with_memory (took_birth n s.memory) s in
    ap (λ node. says (m.Work node call) (behind ms born)) (node_of_behind ms n x s)
    ∙ says_behind ms (m.Work (node_of n x s) call) born

answers_behind : (ms : List Message) (o : Option Activation) (n : ℕ) (xs : List Value) (s : Exec) →
    answers o n xs (behind ms s) ≡ behind ms (answers o n xs s)
answers_behind ms None n xs s = refl
answers_behind ms (Some a) n xs s =
    let results : Message = m.Work a.caller.node (e.Fill a.caller.frame a.caller.slot a.caller.cells xs) in
    ap (λ u. ends_frame n (says (m.EndFrame n) u)) (says_behind ms results s)
    ∙ ap (λ u. ends_frame n u) (says_behind ms (m.EndFrame n) (says results s))

-- ---- the table

pub one_moved : (ms : List Message) (n : ℕ) (x : Instr) (s : Exec) → one n x (behind ms s) ≡ moved ms (one n x s)
one_moved ms n (i.Div d a b at) s = quotient_moved ms n d at (binary bin.Div (int_at n a s) (int_at n b s)) s
one_moved ms n (i.Rem d a b at) s = quotient_moved ms n d at (binary bin.Rem (int_at n a s) (int_at n b s)) s
one_moved ms n (i.Alloc d a size nils at) s = allocates_moved ms n d (int_at n a s) size nils at s
one_moved ms n (i.Load d p x size off at) s = loads_moved ms n d (pointer_at n p s) (int_at n x s) size (int_at n off s) at s
one_moved ms n (i.Store p x size off a at) s =
    stores_moved ms (pointer_at n p s) (int_at n x s) size (int_at n off s) (value_at n a s) at s
one_moved ms n (i.InitSync slot count reset fiber) s = says_moved ms (m.Init n slot count reset fiber) s
one_moved ms n (i.Sync slot) s = says_moved ms (m.Sync s.memory.node n slot) s
one_moved ms n (i.IncrSync slot) s = says_moved ms (m.Incr n slot) s
one_moved ms n (i.GetSync p x size off d slot at) s =
    asks_moved ms (pointer_at n p s) at
    (λ q. e.Load q (int_at n x s) size (int_at n off s) at (back_to n (Some d) slot s)) s
one_moved ms n (i.DataSync a p x size off slot at) s =
    asks_moved ms (pointer_at n p s) at
    (λ q. e.Store q (int_at n x s) size (int_at n off s) (value_at n a s) at (back_to n None slot s)) s
one_moved ms n (i.BlkmovSync p x q y size slot at at_to) s =
    copies_moved ms (pointer_at n p s) (int_at n x s) (pointer_at n q s) (int_at n y s) size at at_to (back_to n None slot s) s
one_moved ms n (i.AddSync a p slot at) s =
    asks_moved ms (pointer_at n p s) at (λ q. e.Add q (value_at n a s) at (back_to n None slot s)) s
one_moved ms n (i.PrintSync string cells slot) s =
    says_moved ms (m.Work 0 (e.Print (formatted string (ints_at n cells s)) (back_to n None slot s))) s
one_moved ms n (i.Invoke f x results slot args) s = ap on (invokes_behind ms n f x results slot args s)
one_moved ms n (i.EndFunction cells) s =
    ap (λ u. (u, next.Ends)) (answers_behind ms (activation_of n s) n (values_at n cells s) s)
-- the others say nothing
one_moved ms n x s = refl
