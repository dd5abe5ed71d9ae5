-- What is seen of a world at its end.
use Rattle.std.specs.Prelude.{ℕ, ℤ, List, []}
use Rattle.ec_base.specs.declared.value.Value.{Value}
use Rattle.ec_core.specs.declared.node.Node.{Node}
use Rattle.ec_core.specs.Run.{output, result}

-- the output, the result, and the cells of each block by its birth path
pub record Observed : Type 0 where
  pub output : List ℕ
  pub result : ℤ
  pub store : List (List ℕ × List Value)

-- no instruction makes a block yet, so the store is empty
abbrev pub observed : List Node → Observed
observed w = record { output = output w; result = result w; store = [] }
