-- Fibers of frames that are there, and entries that name what is there, leave a unit that does so.
use Rattle.std.proofs.Common.{◌≡◌, ◌<◌, ℕ, suc, true, List, [], ◌∷◌, ◌++◌, length, length-append, replicate, refl, Option, Some, None, slice_get, subst, arith, pos}
use Rattle.std.specs.Prelude.{nat_lt}
use Rattle.std.specs.List.{All}
use Rattle.std.proofs.lemmas.List.Elements.{All-cons, All-nil, All-push}
use Rattle.std.proofs.lemmas.Option.{same_Some, slice_get_within}
use Rattle.ec_base.specs.declared.token.Span.{Span}
use Rattle.ec_base.specs.declared.trap.TrapKind.TheVariants as kind
use Rattle.ec_base.specs.declared.value.Birth.{Birth}
use Rattle.ec_base.specs.declared.value.Block.{Block}
use Rattle.ec_base.specs.declared.value.Value.{Value}
use Rattle.ec_base.specs.declared.value.Value.TheVariants as v
use Rattle.ec_cells.specs.Accesses.{add, as_int, element, load, put_element, store}
use Rattle.ec_cells.specs.Frames.{cell_count, lives, with_frame}
use Rattle.ec_cells.specs.Memory.{Memory}
use Rattle.ec_code.specs.declared.code.Code.{Code}
use Rattle.ec_code.specs.declared.code.Fiber.{Fiber}
use Rattle.ec_code.specs.declared.code.Function.{Function}
use Rattle.ec_code.specs.declared.instr.Instr.{Instr}
use Rattle.ec_code.specs.declared.message.Back.{Back}
use Rattle.ec_code.specs.declared.message.Call.{Call}
use Rattle.ec_code.specs.declared.message.Entry.{Entry}
use Rattle.ec_code.specs.declared.message.Entry.TheVariants as e
use Rattle.ec_code.specs.declared.message.Message.TheVariants as m
use Rattle.ec_eu.specs.declared.state.Activation.{Activation}
use Rattle.ec_eu.specs.declared.state.Next.TheVariants as next
use Rattle.ec_eu.specs.declared.state.Spawned.{Spawned}
use Rattle.ec_eu.specs.Cells.{put_all}
use Rattle.ec_eu.specs.Entries.{activation_for, answers_change, answers_value, cells_of, copies_out, entered, entry, fills, makes_frame, says_done, spawned_in, takes}
use Rattle.ec_eu.specs.Fibers.{does, does_fiber, function_in, goes_on, kept, place_after, runs_fiber, runs_in, suits}
use Rattle.ec_eu.specs.Instructions as one
use Rattle.ec_eu.specs.Instructions.{Did, activation_in, activation_of}
use Rattle.ec_eu.specs.State.{Exec, says, traps, with_memory}
use Rattle.ec_world_laws.specs.Rooted.{Begins, IsCaller, IsCounted, IsEntry, IsValue, Made}
use Rattle.ec_world_laws.proofs.Rooted.Held.{IsElement, add_held, element_held, load_held, put_element_held, store_held, with_frame_held}
use Rattle.ec_world_laws.proofs.Rooted.Instructions.{Changes, add_long, one_runs, put_element_long, store_long}
use Rattle.ec_world_laws.proofs.Rooted.Runs.{Runs, Shows, held, put_all_runs, put_from_runs, says_runs, stays, traps_runs, twice, with_memory_runs}
use Rattle.ec_world_laws.proofs.Units.Values.{Perhaps, either}

-- ---- fibers

module _ (Given : Made → Type 0) where
  kept_runs : (u : Exec) (d : Did) → Runs Given u d.0 → Runs Given u (kept d)
  kept_runs u (t, next.On) r = r
  kept_runs u (t, next.To target) r = r
  kept_runs u (t, next.Ends) r = r
  kept_runs u (t, next.Traps x) r = twice Given u t (traps x t) r (traps_runs Given x t)

  pub does_runs : (k place first : ℕ) (xs : List Instr) (u : Exec) → k < length u.memory.frames →
      Runs Given u (does k place first xs u)
  does_runs k place first [] u l = stays Given u
  does_runs k place first (x ∷ xs) u l =
      let d : Did = one.one k x u in
      let r : Runs Given u d.0 = one_runs Given k x u l in
      let on : Exec = does k (suc place) (place_after place d.1) xs d.0 in
      let rest : Runs Given d.0 on = does_runs k (suc place) (place_after place d.1) xs d.0
      (let a = r.frames in omega (arith, a, l)) in
      either (Runs Given u) (nat_lt place first) _ _
      (does_runs k (suc place) first xs u l)
      (either (Runs Given u) (goes_on d.1) on (kept d) (twice Given u d.0 on r rest) (kept_runs u d r))

  does_fiber_runs : (k : ℕ) (o : Option Fiber) (u : Exec) → k < length u.memory.frames → Runs Given u (does_fiber k o u)
  does_fiber_runs k None u l = stays Given u
  does_fiber_runs k (Some fiber) u l = does_runs k 0 0 fiber.instrs u l

  runs_in_runs : (k fiber : ℕ) (o : Option Function) (u : Exec) → ((f : Function) → o ≡ Some f → k < length u.memory.frames) →
      Runs Given u (runs_in k fiber o u)
  runs_in_runs k fiber None u l = stays Given u
  runs_in_runs k fiber (Some f) u l =
      either (Runs Given u) (suits f (cell_count k u.memory) (activation_of k u)) _ _
      (does_fiber_runs k (slice_get f.fibers fiber) u (l f refl))
      (stays Given u)

-- a frame that was made for something is there
there_in : (code : Code) (k : ℕ) (o : Option (Option Activation)) (f : Function) (u : Exec) → slice_get u.activations k ≡ o →
    function_in code (activation_in o) ≡ Some f → k < length u.activations
there_in code k None f u h g = cc
there_in code k (Some a) f u h g = slice_get_within u.activations k a h

pub runs_fiber_runs : (Given : Made → Type 0) (code : Code) (k fiber : ℕ) (u : Exec) → IsCounted u →
    Runs Given u (runs_fiber code k fiber u)
runs_fiber_runs Given code k fiber u c =
    runs_in_runs Given k fiber (function_in code (activation_of k u)) u
    (λ f g. let a = there_in code k (slice_get u.activations k) f u refl g in let b = c.activations in omega (arith, a, b))

-- ---- calls

begins_more : (births more : List (Option Birth)) → Begins births → Begins (births ++ more)
begins_more [] more h = absurd h
begins_more (x ∷ xs) more h = h

abbrev framed : Function → Call → Exec → Exec
framed f c u = record u {
  memory = with_frame f.cells c.birth u.memory;
  activations = u.activations ++ Some (activation_for c) ∷ [];
}

module _ (c : Call) where
  abbrev Enters : Made → Type 0
  Enters made = IsEntry made (e.Enter c)

  framed_runs : (f : Function) (u : Exec) → Runs Enters u (framed f c u)
  framed_runs f u =
      let frames = length-append u.memory.frames (record { live = true; cells = replicate f.cells (v.Int (pos 0)); taken = [] } ∷ []) in
      let births = length-append u.memory.births.frames (c.birth ∷ []) in
      let acts = length-append u.activations (Some (activation_for c) ∷ []) in
      record {
        node = refl;
        frames = omega (arith, frames);
        blocks = omega arith;
        counts = λ h. record {
          first = begins_more u.memory.births.frames (c.birth ∷ []) h.first;
          frames = let a = h.frames in omega (arith, a, frames, births);
          blocks = h.blocks;
          activations = let a = h.activations in omega (arith, a, frames, acts);
        };
        naming = λ made d g p.
            let q = with_frame_held (IsValue made) (λ x. tt) tt f.cells c.birth u.memory (held made u p) in
            record {
              cells = q.cells;
              blocks = q.blocks;
              callers = All-push (IsCaller made) u.activations (Some (activation_for c)) p.callers g.1;
              outbox = p.outbox;
            };
      }

  makes_runs : (f : Function) (u : Exec) → Runs Enters u (makes_frame f c u)
  makes_runs f u =
      twice Enters u (framed f c u) (makes_frame f c u) (framed_runs f u)
      (put_from_runs Enters (length u.memory.frames) 0 c.args (framed f c u) (λ made g. g.0))

  entered_runs : (code : Code) (o : Option Function) (u : Exec) → IsCounted u → Runs Enters u (entered code c o u)
  entered_runs code None u h = stays Enters u
  entered_runs code (Some f) u h =
      let t : Exec = makes_frame f c u in
      let r : Runs Enters u t = makes_runs f u in
      either (Runs Enters u) (takes f c) _ _
      (twice Enters u t (runs_fiber code (length u.memory.frames) 0 t) r
      (runs_fiber_runs Enters code (length u.memory.frames) 0 t (r.counts h)))
      (stays Enters u)

-- ---- answers of memory

module _ (Given : Made → Type 0) where
  value_answered : (o : Option Value) (at : Span) (back : Back) (u : Exec) → Shows Given u (λ made. Perhaps (IsValue made) o) →
      Runs Given u (answers_value o at back u)
  value_answered None at back u h = traps_runs Given (record { kind = kind.Bounds; at = at }) u
  value_answered (Some x) at back u h =
      says_runs Given (m.Work back.node (e.Fill back.frame back.slot (cells_of back.cell) (x ∷ []))) u
      (λ made d g p. All-cons (IsValue made) x [] (h made d g p) (All-nil (IsValue made)))

  done_runs : (back : Back) (u : Exec) → Runs Given u (says_done back u)
  done_runs back u = says_runs Given (m.Sync back.node back.frame back.slot) u (λ made d g p. tt)

  change_answered : (o : Option Memory) (at : Span) (back : Back) (u : Exec) → Changes Given u o →
      Runs Given u (answers_change o at back u)
  change_answered None at back u h = traps_runs Given (record { kind = kind.Bounds; at = at }) u
  change_answered (Some n) at back u h =
      twice Given u (with_memory n u) (says_done back (with_memory n u)) (with_memory_runs Given n u h.0 h.1)
      (done_runs back (with_memory n u))

  copied_out : (o : Option (List Value)) (to : Block) (at : Span) (entry : List Value → Entry) (u : Exec) →
      ((cells : List Value) → o ≡ Some cells → Shows Given u (λ made. IsEntry made (entry cells))) →
      Runs Given u (copies_out o to at entry u)
  copied_out None to at entry u h = traps_runs Given (record { kind = kind.Bounds; at = at }) u
  copied_out (Some cells) to at entry u h = says_runs Given (m.Work to.node (entry cells)) u (h cells refl)

  filled : (frame slot : ℕ) (cells : List ℕ) (values : List Value) (u : Exec) →
      ((made : Made) → Given made → All (IsValue made) values) → Runs Given u (fills frame slot cells values u)
  filled frame slot cells values u h =
      let t : Exec = put_all frame cells values u in
      either (Runs Given u) (lives frame u.memory) _ _
      (twice Given u t (says (m.Sync u.memory.node frame slot) t) (put_all_runs Given frame cells values u h)
      (says_runs Given (m.Sync u.memory.node frame slot) t (λ made d g p. tt)))
      (stays Given u)

  printed : (bytes : List ℕ) (u : Exec) → Runs Given u (record u { output = u.output ++ bytes })
  printed bytes u = record {
    node = refl;
    frames = omega arith;
    blocks = omega arith;
    counts = λ c. record { first = c.first; frames = c.frames; blocks = c.blocks; activations = c.activations };
    naming = λ made c g p. record { cells = p.cells; blocks = p.blocks; callers = p.callers; outbox = p.outbox };
  }

  waits : (rest : List Spawned) (u : Exec) → Runs Given u (record u { spawned = rest })
  waits rest u = record {
    node = refl;
    frames = omega arith;
    blocks = omega arith;
    counts = λ c. record { first = c.first; frames = c.frames; blocks = c.blocks; activations = c.activations };
    naming = λ made c g p. record { cells = p.cells; blocks = p.blocks; callers = p.callers; outbox = p.outbox };
  }

-- ---- the table

cells_held : (made : Made) (size : ℕ) (o : Option (List Value)) (cells : List Value) → o ≡ Some cells →
    Perhaps (IsElement (IsValue made) (λ x. tt) tt size) o → All (IsValue made) cells
cells_held made size None cells a h = cc
cells_held made size (Some xs) cells a h = subst (λ ys. All (IsValue made) ys) (same_Some xs cells a) h.1

pub entry_runs : (code : Code) (x : Entry) (u : Exec) → IsCounted u → Runs (λ made. IsEntry made x) u (entry code x u)
entry_runs code (e.Start frame fiber slot filling) u c = runs_fiber_runs _ code frame fiber u c
entry_runs code (e.Enter call) u c = entered_runs call code (slice_get code.functions call.function) u c
entry_runs code (e.Load block index size off at back) u c =
    value_answered _ (load block.number index size off u.memory) at back u
    (λ made d g p. load_held (IsValue made) (λ x. tt) tt block.number index size off u.memory (held made u p))
entry_runs code (e.Store block index size off value at back) u c =
    change_answered _ (store block.number index size off value u.memory) at back u (
      store_long block.number index size off value u.memory,
      λ made d g p. store_held (IsValue made) (λ x. tt) tt block.number index size off value u.memory g.1 (held made u p),
    )
entry_runs code (e.Add block value at back) u c =
    change_answered _ (add block.number (as_int value) u.memory) at back u (
      add_long block.number (as_int value) u.memory,
      λ made d g p. add_held (IsValue made) (λ x. tt) tt block.number (as_int value) u.memory (held made u p),
    )
entry_runs code (e.CopyOut block index size to to_index at at_to back) u c =
    copied_out _ (element block.number index size u.memory) to at (λ cells. e.CopyIn to to_index cells at_to back) u
    (λ cells q made d g p. (
      g.1,
      cells_held made size (element block.number index size u.memory) cells q
          (element_held (IsValue made) (λ x. tt) tt block.number index size u.memory (held made u p)),
      g.2,
    ))
entry_runs code (e.CopyIn block index cells at back) u c =
    change_answered _ (put_element block.number index cells u.memory) at back u (
      put_element_long block.number index cells u.memory,
      λ made d g p. put_element_held (IsValue made) (λ x. tt) tt block.number index cells u.memory g.1 (held made u p),
    )
entry_runs code (e.Fill frame slot cells values) u c = filled _ frame slot cells values u (λ made g. g)
entry_runs code (e.Print bytes back) u c =
    twice _ u (record u { output = u.output ++ bytes }) _ (printed _ bytes u) (done_runs _ back (record u { output = u.output ++ bytes }))

-- ---- spawned fibers

pub spawned_runs : (Given : Made → Type 0) (code : Code) (xs : List Spawned) (u t : Exec) → IsCounted u →
    spawned_in code xs u ≡ Some t → Runs Given u t
spawned_runs Given code [] u t c h = cc
spawned_runs Given code (x ∷ rest) u t c h =
    let left : Exec = record u { spawned = rest } in
    let r : Runs Given u left = waits Given rest u in
    subst (Runs Given u) (same_Some _ t h)
    (twice Given u left (runs_fiber code x.frame x.fiber left) r (runs_fiber_runs Given code x.frame x.fiber left (r.counts c)))
