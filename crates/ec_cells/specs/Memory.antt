-- The memory of a node.
use Rattle.std.specs.Prelude.{ℕ, List, []}
use Rattle.ec_base.specs.declared.value.Value.{Value}
use Rattle.ec_cells.specs.declared.node.Births.{Births}
use Rattle.ec_cells.specs.declared.node.Frame.{Frame}

-- The node's number; frames and blocks by number, a block being its cells; and the births of both.
pub record Memory : Type 0 where
  pub node : ℕ
  pub frames : List Frame
  pub blocks : List (List Value)
  pub births : Births

abbrev pub new_node : ℕ → Memory
new_node node =
    record { node = node; frames = []; blocks = []; births = record { frames = []; blocks = [] } }
