-- Entries that are in place leave a unit in place.
use Rattle.std.proofs.Common.{◌≡◌, ℕ, true, List, [], ◌∷◌, ◌++◌, length, refl, sym, Option, Some, None, slice_get, subst}
use Rattle.std.specs.Prelude.{IsSome}
use Rattle.std.proofs.lemmas.List.Elements.{All-nil, All-cons, All-push}
use Rattle.std.proofs.lemmas.Option.{same_Some}
use Rattle.ec_base.specs.declared.token.Span.{Span}
use Rattle.ec_base.specs.declared.trap.TrapKind.TheVariants as kind
use Rattle.ec_base.specs.declared.value.Block.{Block}
use Rattle.ec_base.specs.declared.value.Value.{Value}
use Rattle.ec_cells.specs.Accesses.{add, as_int, element, load, put_element, store}
use Rattle.ec_cells.specs.Frames.{lives, with_frame}
use Rattle.ec_cells.specs.Memory.{Memory, new_node}
use Rattle.ec_code.specs.declared.code.Code.{Code}
use Rattle.ec_code.specs.declared.code.Function.{Function}
use Rattle.ec_code.specs.declared.message.Back.{Back}
use Rattle.ec_code.specs.declared.message.Call.{Call}
use Rattle.ec_code.specs.declared.message.Entry.{Entry}
use Rattle.ec_code.specs.declared.message.Entry.TheVariants as e
use Rattle.ec_code.specs.declared.message.Message.TheVariants as m
use Rattle.ec_code.specs.InPlace.{IsBack, IsBlock, IsCall, IsEntry, IsMessage, IsValue}
use Rattle.ec_code.specs.Valid.{is_size, valid}
use Rattle.ec_eu.specs.declared.state.Spawned.{Spawned}
use Rattle.ec_eu.specs.Cells.{put_all}
use Rattle.ec_eu.specs.Entries.{activation_for, answers_change, answers_value, cells_of, copies_out, entered, entry, fills, makes_frame, says_done, spawned_in, takes}
use Rattle.ec_world_laws.specs.Units.{AreValues, EntriesStayPlaced, IsAnswering, IsFrame, IsPlaced, NewIsPlaced, SpawnedStayPlaced}
use Rattle.ec_eu.specs.State.{Exec, with_memory}
use Rattle.ec_world_laws.proofs.Units.Cells.{held, put_all_placed, put_from_placed, says_placed, traps_placed, with_memory_placed}
use Rattle.ec_world_laws.proofs.Units.Fibers.{runs_fiber_placed}
use Rattle.ec_world_laws.proofs.Units.Values.{IsElement, IsHeld, Perhaps, add_held, either, element_held, load_held, put_element_held, store_held, with_frame_held}

module _ (n : ℕ) where
  -- ---- calls

  more_placed : (f : Function) (c : Call) (s : Exec) → IsCall n c → IsPlaced n s →
      IsPlaced n (record s {
        memory = with_frame f.cells c.birth s.memory;
        activations = s.activations ++ Some (activation_for c) ∷ [];
      })
  more_placed f c s h p =
      let more : IsHeld n (with_frame f.cells c.birth s.memory) = with_frame_held n f.cells c.birth s.memory (held n s p) in
      record {
        node = more.node;
        nodes = p.nodes;
        cells = more.cells;
        blocks = more.blocks;
        callers = All-push (IsAnswering n) s.activations (Some (activation_for c)) p.callers h.node;
        outbox = p.outbox;
      }

  makes_placed : (f : Function) (c : Call) (s : Exec) → IsCall n c → IsPlaced n s → IsPlaced n (makes_frame f c s)
  makes_placed f c s h p = put_from_placed n (length s.memory.frames) 0 c.args _ h.args (more_placed f c s h p)

  entered_placed : (code : Code) (c : Call) (o : Option Function) (s : Exec) → valid code ≡ true → IsCall n c → IsPlaced n s →
      IsPlaced n (entered code c o s)
  entered_placed code c None s v h p = p
  entered_placed code c (Some f) s v h p =
      either (IsPlaced n) (takes f c) _ _
      (runs_fiber_placed n code (length s.memory.frames) 0 (makes_frame f c s) v (makes_placed f c s h p))
      p

  -- ---- answers of memory

  done_placed : (back : Back) (s : Exec) → IsBack n back → IsPlaced n s → IsPlaced n (says_done back s)
  done_placed back s b p = says_placed n (m.Sync back.node back.frame back.slot) s b p

  one_cell : (o : Option ℕ) → IsSome o → length (cells_of o) ≡ 1
  one_cell None h = absurd (cc)
  one_cell (Some c) h = refl

  value_answered : (o : Option Value) (at : Span) (back : Back) (s : Exec) → Perhaps (IsValue n) o → IsBack n back → IsSome back.cell →
      IsPlaced n s → IsPlaced n (answers_value o at back s)
  value_answered None at back s h b c p = traps_placed n (record { kind = kind.Bounds; at = at }) s p
  value_answered (Some x) at back s h b c p =
      says_placed n (m.Work back.node (e.Fill back.frame back.slot (cells_of back.cell) (x ∷ []))) s
      (b, (one_cell back.cell c, All-cons (IsValue n) x [] h (All-nil (IsValue n))))
      p

  change_answered : (o : Option Memory) (at : Span) (back : Back) (s : Exec) → Perhaps (IsHeld n) o → IsBack n back → IsPlaced n s →
      IsPlaced n (answers_change o at back s)
  change_answered None at back s h b p = traps_placed n (record { kind = kind.Bounds; at = at }) s p
  change_answered (Some new) at back s h b p = done_placed back (with_memory new s) b (with_memory_placed n new s h p)

  copied_out : (o : Option (List Value)) (size : ℕ) (to : Block) (at : Span) (entry : List Value → Entry) (s : Exec) →
      Perhaps (IsElement n size) o → IsBlock n to → ((cells : List Value) → IsElement n size cells → IsEntry n (entry cells)) →
      IsPlaced n s → IsPlaced n (copies_out o to at entry s)
  copied_out None size to at entry s h t f p = traps_placed n (record { kind = kind.Bounds; at = at }) s p
  copied_out (Some cells) size to at entry s h t f p = says_placed n (m.Work to.node (entry cells)) s (t, f cells h) p

  filled : (frame slot : ℕ) (cells : List ℕ) (values : List Value) (s : Exec) → AreValues n values → IsPlaced n s →
      IsPlaced n (fills frame slot cells values s)
  filled frame slot cells values s h p =
      either (IsPlaced n) (lives frame s.memory) _ _
      (says_placed n (m.Sync s.memory.node frame slot) (put_all frame cells values s)
      p.node (put_all_placed n frame cells values s h p))
      p

  printed : (bytes : List ℕ) (s : Exec) → IsPlaced n s → IsPlaced n (record s { output = s.output ++ bytes })
  printed bytes s p = record {
    node = p.node;
    nodes = p.nodes;
    cells = p.cells;
    blocks = p.blocks;
    callers = p.callers;
    outbox = p.outbox;
  }

  -- ---- the table

  pub entry_placed : (code : Code) (x : Entry) (s : Exec) → valid code ≡ true → IsEntry n x → IsPlaced n s →
      IsPlaced n (entry code x s)
  entry_placed code (e.Start frame fiber slot filling) s v h p = runs_fiber_placed n code frame fiber s v p
  entry_placed code (e.Enter call) s v h p = entered_placed code call (slice_get code.functions call.function) s v h p
  entry_placed code (e.Load block index size off at back) s v h p =
      value_answered (load block.number index size off s.memory) at back s
      (load_held n block.number index size off s.memory (held n s p)) h.2 h.3 p
  entry_placed code (e.Store block index size off value at back) s v h p =
      change_answered (store block.number index size off value s.memory) at back s
      (store_held n block.number index size off value s.memory h.2 (held n s p)) h.3 p
  entry_placed code (e.Add block value at back) s v h p =
      change_answered (add block.number (as_int value) s.memory) at back s
      (add_held n block.number (as_int value) s.memory (held n s p)) h.2 p
  entry_placed code (e.CopyOut block index size to to_index at at_to back) s v h p =
      copied_out (element block.number index size s.memory) size to at (λ cells. e.CopyIn to to_index cells at_to back) s
      (element_held n block.number index size s.memory (held n s p)) h.2
      (λ cells q. (h.2, subst (λ count. is_size count ≡ true) (sym q.0) h.1, q.1, h.3)) p
  entry_placed code (e.CopyIn block index cells at back) s v h p =
      change_answered (put_element block.number index cells s.memory) at back s
      (put_element_held n block.number index cells s.memory h.2 (held n s p)) h.3 p
  entry_placed code (e.Fill frame slot cells values) s v h p = filled frame slot cells values s h.1 p
  entry_placed code (e.Print bytes back) s v h p = done_placed back (record s { output = s.output ++ bytes }) h (printed bytes s p)

  -- ---- spawned fibers

  spawned_placed : (code : Code) (xs : List Spawned) (s t : Exec) → valid code ≡ true → IsPlaced n s → spawned_in code xs s ≡ Some t →
      IsPlaced n t
  spawned_placed code [] s t v p h = cc
  spawned_placed code (x ∷ rest) s t v p h =
      let waits : Exec = record s { spawned = rest } in
      let placed : IsPlaced n waits = record {
        node = p.node;
        nodes = p.nodes;
        cells = p.cells;
        blocks = p.blocks;
        callers = p.callers;
        outbox = p.outbox;
      } in
      subst (IsPlaced n) (same_Some _ t h) (runs_fiber_placed n code x.frame x.fiber waits v placed)

pub entries_stay_placed : EntriesStayPlaced
entries_stay_placed n code x s v h p = entry_placed n code x s v h p

pub spawned_stay_placed : SpawnedStayPlaced
spawned_stay_placed n code s t v p h = spawned_placed n code s.spawned s t v p h

-- ---- the start

pub new_placed : NewIsPlaced
new_placed n node h =
    let fresh : IsHeld n (new_node node) = record { node = h; cells = All-nil (IsFrame n); blocks = All-nil (AreValues n) } in
    let first : IsHeld n (with_frame 1 None (new_node node)) = with_frame_held n 1 None (new_node node) fresh in
    record {
      node = h;
      nodes = refl;
      cells = first.cells;
      blocks = first.blocks;
      callers = All-cons (IsAnswering n) None [] tt (All-nil (IsAnswering n));
      outbox = All-nil (IsMessage n);
    }
