-- Units in place whose cells are read and set, and that say what is in place.
use Rattle.std.proofs.Common.{ℕ, suc, List, [], ◌∷◌}
use Rattle.std.proofs.lemmas.List.Elements.{All-nil, All-cons, All-head, All-tail, All-push}
use Rattle.ec_base.specs.declared.trap.Trap.{Trap}
use Rattle.ec_base.specs.declared.value.Value.{Value}
use Rattle.ec_base.specs.declared.value.Value.TheVariants as v
use Rattle.ec_cells.specs.Frames.{put_cell}
use Rattle.ec_cells.specs.Memory.{Memory}
use Rattle.ec_code.specs.declared.message.Message.{Message}
use Rattle.ec_code.specs.InPlace.{IsBlock, IsMessage, IsValue}
use Rattle.ec_eu.specs.Cells.{as_pointer, pointer_at, put, put_all, put_from, value_at, values_at}
use Rattle.ec_world_laws.specs.Units.{AreValues, IsPlaced}
use Rattle.ec_eu.specs.State.{Exec, says, traps, with_memory}
use Rattle.ec_world_laws.proofs.Units.Values.{IsHeld, Perhaps, cell_held, put_cell_held}

module _ (n : ℕ) where
  -- ---- the memory of a unit

  pub held : (s : Exec) → IsPlaced n s → IsHeld n s.memory
  held s p = record { node = p.node; cells = p.cells; blocks = p.blocks }

  pub with_memory_placed : (m : Memory) (s : Exec) → IsHeld n m → IsPlaced n s → IsPlaced n (with_memory m s)
  with_memory_placed m s h p = record {
    node = h.node;
    nodes = p.nodes;
    cells = h.cells;
    blocks = h.blocks;
    callers = p.callers;
    outbox = p.outbox;
  }

  pub says_placed : (x : Message) (s : Exec) → IsMessage n x → IsPlaced n s → IsPlaced n (says x s)
  says_placed x s h p = record {
    node = p.node;
    nodes = p.nodes;
    cells = p.cells;
    blocks = p.blocks;
    callers = p.callers;
    outbox = All-push (IsMessage n) s.outbox x p.outbox h;
  }

  pub traps_placed : (t : Trap) (s : Exec) → IsPlaced n s → IsPlaced n (traps t s)
  traps_placed t s p = record {
    node = p.node;
    nodes = p.nodes;
    cells = p.cells;
    blocks = p.blocks;
    callers = p.callers;
    outbox = p.outbox;
  }

  -- ---- cells that are read

  pub value_placed : (k c : ℕ) (s : Exec) → IsPlaced n s → IsValue n (value_at k c s)
  value_placed k c s p = cell_held n k c s.memory (held s p)

  pub values_placed : (k : ℕ) (cs : List ℕ) (s : Exec) → IsPlaced n s → AreValues n (values_at k cs s)
  values_placed k [] s p = All-nil (IsValue n)
  values_placed k (c ∷ cs) s p =
      All-cons (IsValue n) (value_at k c s) (values_at k cs s) (value_placed k c s p) (values_placed k cs s p)

  as_pointer_placed : (x : Value) → IsValue n x → Perhaps (IsBlock n) (as_pointer x)
  as_pointer_placed (v.Int k) h = tt
  as_pointer_placed v.Null h = tt
  as_pointer_placed (v.Ptr b) h = h

  pub pointer_placed : (k c : ℕ) (s : Exec) → IsPlaced n s → Perhaps (IsBlock n) (pointer_at k c s)
  pointer_placed k c s p = as_pointer_placed (value_at k c s) (value_placed k c s p)

  -- ---- cells that are set

  pub put_placed : (k c : ℕ) (x : Value) (s : Exec) → IsValue n x → IsPlaced n s → IsPlaced n (put k c x s)
  put_placed k c x s h p =
      with_memory_placed (put_cell k c x s.memory) s (put_cell_held n k c x s.memory h (held s p)) p

  pub put_all_placed : (k : ℕ) (cs : List ℕ) (xs : List Value) (s : Exec) → AreValues n xs → IsPlaced n s →
      IsPlaced n (put_all k cs xs s)
  put_all_placed k [] xs s h p = p
  put_all_placed k (c ∷ cs) [] s h p = p
  put_all_placed k (c ∷ cs) (x ∷ xs) s h p =
      put_all_placed k cs xs (put k c x s) (All-tail (IsValue n) x xs h)
      (put_placed k c x s (All-head (IsValue n) x xs h) p)

  pub put_from_placed : (k c : ℕ) (xs : List Value) (s : Exec) → AreValues n xs → IsPlaced n s → IsPlaced n (put_from k c xs s)
  put_from_placed k c [] s h p = p
  put_from_placed k c (x ∷ xs) s h p =
      put_from_placed k (suc c) xs (put k c x s) (All-tail (IsValue n) x xs h)
      (put_placed k c x s (All-head (IsValue n) x xs h) p)
