-- What a run of an execution unit leaves: the node, what it has made, and what is named.
use Rattle.std.proofs.Common.{◌≡◌, ◌≤◌, ◌∙◌, ℕ, suc, List, [], ◌∷◌, length, length-set, refl, sym, Option, Some, None, slice_get, slice_set, arith}
use Rattle.std.specs.List.{All}
use Rattle.std.proofs.lemmas.List.Elements.{All-nil, All-cons, All-head, All-tail, All-push}
use Rattle.ec_base.specs.declared.trap.Trap.{Trap}
use Rattle.ec_base.specs.declared.value.Value.{Value}
use Rattle.ec_base.specs.declared.value.Value.TheVariants as v
use Rattle.ec_cells.specs.declared.node.Frame.{Frame}
use Rattle.ec_cells.specs.Frames.{put_cell, put_in}
use Rattle.ec_cells.specs.Memory.{Memory}
use Rattle.ec_code.specs.declared.message.Message.{Message}
use Rattle.ec_eu.specs.Cells.{as_pointer, pointer_at, put, put_all, put_from, value_at, values_at}
use Rattle.ec_eu.specs.State.{Exec, says, traps, with_memory}
use Rattle.ec_world_laws.specs.Rooted.{IsBlock, IsCounted, IsMessage, IsNaming, IsValue, Made}
use Rattle.ec_world_laws.proofs.Rooted.Held.{IsHeld, cell_held, put_cell_held}
use Rattle.ec_world_laws.proofs.Units.Values.{Perhaps}

-- ---- runs

-- all that a unit has made is there
pub record Covers (made : Made) (u : Exec) : Type 0 where
  pub frames : length u.memory.frames ≤ made.frames u.memory.node
  pub blocks : length u.memory.blocks ≤ made.blocks u.memory.node

-- a unit that comes to another, which has made no less, and names what is there where what it is given does
pub record Runs (Given : Made → Type 0) (u t : Exec) : Type 0 where
  pub node : t.memory.node ≡ u.memory.node
  pub frames : length u.memory.frames ≤ length t.memory.frames
  pub blocks : length u.memory.blocks ≤ length t.memory.blocks
  pub counts : IsCounted u → IsCounted t
  pub naming : (made : Made) → Covers made t → Given made → IsNaming made u → IsNaming made t

-- a memory with as many frames and blocks, and the same births
pub record IsAsLong (m n : Memory) : Type 0 where
  pub node : n.node ≡ m.node
  pub frames : length n.frames ≡ length m.frames
  pub blocks : length n.blocks ≡ length m.blocks
  pub births : n.births ≡ m.births

put_in_long : (o : Option Frame) (k c : ℕ) (x : Value) (m : Memory) → IsAsLong m (put_in o k c x m)
put_in_long None k c x m = record { node = refl; frames = refl; blocks = refl; births = refl }
put_in_long (Some f) k c x m = record {
  node = refl;
  frames = length-set m.frames k (record f { cells = slice_set f.cells c x });
  blocks = refl;
  births = refl;
}

as_pointer_named : (made : Made) (x : Value) → IsValue made x → Perhaps (IsBlock made) (as_pointer x)
as_pointer_named made (v.Int k) h = tt
as_pointer_named made v.Null h = tt
as_pointer_named made (v.Ptr b) h = h

pub held : (made : Made) (u : Exec) → IsNaming made u → IsHeld (IsValue made) u.memory
held made u p = record { cells = p.cells; blocks = p.blocks }

module _ (Given : Made → Type 0) where
  -- what a unit that names only what is there shows
  abbrev pub Shows : Exec → (Made → Type 0) → Type 0
  Shows u Shown = (made : Made) → Covers made u → Given made → IsNaming made u → Shown made

  covers_before : (made : Made) (u t : Exec) → Runs Given u t → Covers made t → Covers made u
  covers_before made u t r c = record {
    frames = rw (sym r.node) (let a = r.frames in let b = c.frames in omega (arith, a, b));
    blocks = rw (sym r.node) (let a = r.blocks in let b = c.blocks in omega (arith, a, b));
  }

  pub stays : (u : Exec) → Runs Given u u
  stays u = record { node = refl; frames = omega arith; blocks = omega arith; counts = λ c. c; naming = λ made c g p. p }

  pub twice : (s t u : Exec) → Runs Given s t → Runs Given t u → Runs Given s u
  twice s t u a b = record {
    node = b.node ∙ a.node;
    frames = let x = a.frames in let y = b.frames in omega (arith, x, y);
    blocks = let x = a.blocks in let y = b.blocks in omega (arith, x, y);
    counts = λ c. b.counts (a.counts c);
    naming = λ made c g p. b.naming made c g (a.naming made (covers_before made t u b c) g p);
  }

  -- ---- messages and traps

  pub says_runs : (x : Message) (u : Exec) → Shows u (λ made. IsMessage made x) → Runs Given u (says x u)
  says_runs x u h = record {
    node = refl;
    frames = omega arith;
    blocks = omega arith;
    counts = λ c. record { first = c.first; frames = c.frames; blocks = c.blocks; activations = c.activations };
    naming = λ made c g p. record {
      cells = p.cells;
      blocks = p.blocks;
      callers = p.callers;
      outbox =
          All-push (IsMessage made) u.outbox x p.outbox (h made (record { frames = c.frames; blocks = c.blocks }) g p);
    };
  }

  pub traps_runs : (t : Trap) (u : Exec) → Runs Given u (traps t u)
  traps_runs t u = record {
    node = refl;
    frames = omega arith;
    blocks = omega arith;
    counts = λ c. record { first = c.first; frames = c.frames; blocks = c.blocks; activations = c.activations };
    naming = λ made c g p. record { cells = p.cells; blocks = p.blocks; callers = p.callers; outbox = p.outbox };
  }

  -- ---- memory

  pub with_memory_runs : (m : Memory) (u : Exec) → IsAsLong u.memory m → Shows u (λ made. IsHeld (IsValue made) m) →
      Runs Given u (with_memory m u)
  with_memory_runs m u a h = record {
    node = a.node;
    frames = let x = a.frames in omega (arith, x);
    blocks = let x = a.blocks in omega (arith, x);
    counts = λ c. record {
      first = rw a.births c.first;
      frames = rw a.births (c.frames ∙ sym a.frames);
      blocks = rw a.births (c.blocks ∙ sym a.blocks);
      activations = c.activations ∙ sym a.frames;
    };
    naming = λ made c g p.
        let before : Covers made u = record {
          frames = rw (sym a.node) (let x = a.frames in let y = c.frames in omega (arith, x, y));
          blocks = rw (sym a.node) (let x = a.blocks in let y = c.blocks in omega (arith, x, y));
        } in
        let q = h made before g p in
        record { cells = q.cells; blocks = q.blocks; callers = p.callers; outbox = p.outbox };
  }

  -- ---- cells that are read

  pub value_named : (k c : ℕ) (u : Exec) → Shows u (λ made. IsValue made (value_at k c u))
  value_named k c u made d g p = cell_held (IsValue made) (λ i. tt) tt k c u.memory (held made u p)

  pub values_named : (k : ℕ) (cs : List ℕ) (u : Exec) → Shows u (λ made. All (IsValue made) (values_at k cs u))
  values_named k [] u made d g p = All-nil (IsValue made)
  values_named k (c ∷ cs) u made d g p =
      All-cons (IsValue made) (value_at k c u) (values_at k cs u) (value_named k c u made d g p) (values_named k cs u made d g p)

  pub pointer_named : (k c : ℕ) (u : Exec) → Shows u (λ made. Perhaps (IsBlock made) (pointer_at k c u))
  pointer_named k c u made d g p = as_pointer_named made (value_at k c u) (value_named k c u made d g p)

  -- ---- cells that are set

  pub put_runs : (k c : ℕ) (x : Value) (u : Exec) → Shows u (λ made. IsValue made x) → Runs Given u (put k c x u)
  put_runs k c x u h =
      with_memory_runs (put_cell k c x u.memory) u (put_in_long (slice_get u.memory.frames k) k c x u.memory)
      (λ made d g p. put_cell_held (IsValue made) (λ i. tt) tt k c x u.memory (h made d g p) (held made u p))

  pub put_all_runs : (k : ℕ) (cs : List ℕ) (xs : List Value) (u : Exec) → ((made : Made) → Given made → All (IsValue made) xs) →
      Runs Given u (put_all k cs xs u)
  put_all_runs k [] xs u h = stays u
  put_all_runs k (c ∷ cs) [] u h = stays u
  put_all_runs k (c ∷ cs) (x ∷ xs) u h =
      twice u (put k c x u) (put_all k cs xs (put k c x u))
      (put_runs k c x u (λ made d g p. All-head (IsValue made) x xs (h made g)))
      (put_all_runs k cs xs (put k c x u) (λ made g. All-tail (IsValue made) x xs (h made g)))

  pub put_from_runs : (k c : ℕ) (xs : List Value) (u : Exec) → ((made : Made) → Given made → All (IsValue made) xs) →
      Runs Given u (put_from k c xs u)
  put_from_runs k c [] u h = stays u
  put_from_runs k c (x ∷ xs) u h =
      twice u (put k c x u) (put_from k (suc c) xs (put k c x u))
      (put_runs k c x u (λ made d g p. All-head (IsValue made) x xs (h made g)))
      (put_from_runs k (suc c) xs (put k c x u) (λ made g. All-tail (IsValue made) x xs (h made g)))
