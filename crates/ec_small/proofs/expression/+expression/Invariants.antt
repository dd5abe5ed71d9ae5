use Rattle.std.proofs.Common.{◌≤◌, drop, length, ◌+◌, ◌-◌, ◌*◌}
use Rattle.ec_small.specs.Grammar.{kinds}
use Rattle.ec_small.specs.Descent.{item, product_by, product_on, sum_by, sum_on}
use Rattle.ec_small.proofs.Levels.{Reaches}
use Rattle.ec_small.proofs.expression.+expression.Given as goal

abbrev pub decreases-read_item : goal.decreases-read_item
decreases-read_item l = 3 * l.nesting

abbrev pub decreases-read_product : goal.decreases-read_product
decreases-read_product l = 3 * l.nesting + 1

abbrev pub decreases-read_sum : goal.decreases-read_sum
decreases-read_sum l = 3 * l.nesting + 2

abbrev pub invariant-read_product-loop-operator : goal.invariant-read_product-loop-operator
invariant-read_product-loop-operator l = record {
  within : l.next ≤ length l.fn.tokens;
  reaches : Reaches (product_by (item l.fn.nesting l.fn.names)) (product_on (item l.fn.nesting l.fn.names)) l.fn.room (kinds (drop l.fn.at l.fn.tokens)) (l.product, l.left) (kinds (drop l.next l.fn.tokens));
}

abbrev pub decreases-read_product-loop-operator : goal.decreases-read_product-loop-operator
decreases-read_product-loop-operator l = length l.fn.tokens - l.next

abbrev pub invariant-read_sum-loop-operator : goal.invariant-read_sum-loop-operator
invariant-read_sum-loop-operator l = record {
  within : l.next ≤ length l.fn.tokens;
  reaches : Reaches (sum_by (item l.fn.nesting l.fn.names)) (sum_on (product_by (item l.fn.nesting l.fn.names))) l.fn.room (kinds (drop l.fn.at l.fn.tokens)) (l.sum, l.left) (kinds (drop l.next l.fn.tokens));
}

abbrev pub decreases-read_sum-loop-operator : goal.decreases-read_sum-loop-operator
decreases-read_sum-loop-operator l = length l.fn.tokens - l.next
