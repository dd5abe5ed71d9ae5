-- Entries behind messages that wait.
use Rattle.std.proofs.Common.{◌≡◌, ℕ, List, ◌∷◌, [], ◌++◌, length, refl, ap, ◌∙◌, Option, Some, None, slice_get}
use Rattle.ec_base.specs.declared.token.Span.{Span}
use Rattle.ec_base.specs.declared.value.Block.{Block}
use Rattle.ec_base.specs.declared.value.Value.{Value}
use Rattle.ec_cells.specs.Accesses.{add, as_int, element, load, put_element, store}
use Rattle.ec_cells.specs.Frames.{lives, with_frame}
use Rattle.ec_cells.specs.Memory.{Memory}
use Rattle.ec_code.specs.declared.code.Code.{Code}
use Rattle.ec_code.specs.declared.code.Function.{Function}
use Rattle.ec_code.specs.declared.message.Back.{Back}
use Rattle.ec_code.specs.declared.message.Call.{Call}
use Rattle.ec_code.specs.declared.message.Entry.{Entry}
use Rattle.ec_code.specs.declared.message.Entry.TheVariants as e
use Rattle.ec_code.specs.declared.message.Message.{Message}
use Rattle.ec_code.specs.declared.message.Message.TheVariants as m
use Rattle.ec_eu.specs.Alone.{EntriesStandAlone, behind, silent}
use Rattle.ec_eu.specs.Cells.{put_all}
use Rattle.ec_eu.specs.Entries.{activation_for, answers_change, answers_value, cells_of, copies_out, entered, entry, fills, makes_frame, says_done, takes}
use Rattle.ec_eu.specs.Fibers.{runs_fiber}
use Rattle.ec_eu.specs.State.{Exec, says, with_memory}
use Rattle.ec_eu.proofs.Alone.Cells.{either_way, put_all_behind, put_from_behind, says_behind}
use Rattle.ec_eu.proofs.Alone.Fibers.{runs_fiber_behind, waits_behind}

-- ---- calls

makes_frame_behind : (ms : List Message) (f : Function) (c : Call) (s : Exec) →
    makes_frame f c (behind ms s) ≡ behind ms (makes_frame f c s)
makes_frame_behind ms f c s =
    let more : Exec = record s { memory = with_frame f.cells c.birth s.memory; activations = s.activations ++ Some (activation_for c) ∷ [] } in
    put_from_behind ms (length s.memory.frames) 0 c.args more

entered_behind : (ms : List Message) (code : Code) (c : Call) (o : Option Function) (s : Exec) →
    entered code c o (behind ms s) ≡ behind ms (entered code c o s)
entered_behind ms code c None s = refl
entered_behind ms code c (Some f) s =
    let n : ℕ = length s.memory.frames in
    either_way (behind ms) (takes f c) _ _ _ _
    (ap (λ u. runs_fiber code n 0 u) (makes_frame_behind ms f c s) ∙ runs_fiber_behind ms code n 0 (makes_frame f c s))
    refl

-- ---- answers of memory

done_behind : (ms : List Message) (back : Back) (s : Exec) → says_done back (behind ms s) ≡ behind ms (says_done back s)
done_behind ms back s = says_behind ms (m.Sync back.node back.frame back.slot) s

value_behind : (ms : List Message) (o : Option Value) (at : Span) (back : Back) (s : Exec) →
    answers_value o at back (behind ms s) ≡ behind ms (answers_value o at back s)
value_behind ms None at back s = refl
value_behind ms (Some x) at back s =
    says_behind ms (m.Work back.node (e.Fill back.frame back.slot (cells_of back.cell) (x ∷ []))) s

change_behind : (ms : List Message) (o : Option Memory) (at : Span) (back : Back) (s : Exec) →
    answers_change o at back (behind ms s) ≡ behind ms (answers_change o at back s)
change_behind ms None at back s = refl
change_behind ms (Some m) at back s = done_behind ms back (with_memory m s)

copies_out_behind : (ms : List Message) (o : Option (List Value)) (to : Block) (at : Span) (entry : List Value → Entry) (s : Exec) →
    copies_out o to at entry (behind ms s) ≡ behind ms (copies_out o to at entry s)
copies_out_behind ms None to at entry s = refl
copies_out_behind ms (Some cells) to at entry s = says_behind ms (m.Work to.node (entry cells)) s

fills_behind : (ms : List Message) (frame slot : ℕ) (cells : List ℕ) (values : List Value) (s : Exec) →
    fills frame slot cells values (behind ms s) ≡ behind ms (fills frame slot cells values s)
fills_behind ms frame slot cells values s =
    let message : Message = m.Sync s.memory.node frame slot in
    either_way (behind ms) (lives frame s.memory) _ _ _ _
    (ap (λ u. says message u) (put_all_behind ms frame cells values s) ∙ says_behind ms message (put_all frame cells values s))
    refl

-- ---- the table

pub entry_behind : (ms : List Message) (code : Code) (x : Entry) (s : Exec) →
    entry code x (behind ms s) ≡ behind ms (entry code x s)
entry_behind ms code (e.Start frame fiber slot filling) s = runs_fiber_behind ms code frame fiber s
entry_behind ms code (e.Enter call) s = entered_behind ms code call (slice_get code.functions call.function) s
entry_behind ms code (e.Load block index size off at back) s =
    value_behind ms (load block.number index size off s.memory) at back s
entry_behind ms code (e.Store block index size off value at back) s =
    change_behind ms (store block.number index size off value s.memory) at back s
entry_behind ms code (e.Add block value at back) s = change_behind ms (add block.number (as_int value) s.memory) at back s
entry_behind ms code (e.CopyOut block index size to to_index at at_to back) s =
    copies_out_behind ms (element block.number index size s.memory) to at (λ cells. e.CopyIn to to_index cells at_to back) s
entry_behind ms code (e.CopyIn block index cells at back) s =
    change_behind ms (put_element block.number index cells s.memory) at back s
entry_behind ms code (e.Fill frame slot cells values) s = fills_behind ms frame slot cells values s
entry_behind ms code (e.Print bytes back) s = done_behind ms back (record s { output = s.output ++ bytes })

pub entries_stand_alone : EntriesStandAlone
entries_stand_alone code x s = ap (λ u. entry code x u) (waits_behind s) ∙ entry_behind s.outbox code x (silent s)
