use Rattle.std.proofs.Common.{◌≡◌, ◌+◌, ◌++◌, map, sum, drop}
use Rattle.ec_small.specs.Meaning.{value, nodes}
use Rattle.ec_small.specs.Counting.{counted}
use Rattle.ec_small.proofs.meaning.Progress.evaluate_all.Given as goal

abbrev pub invariant-loop-e : goal.invariant-loop-e
invariant-loop-e l = record {
  vars : l.self.vars ≡ l.fn.self.vars;
  output : l.self.output ≡ l.fn.self.output;
  values : l.values ++ map (value l.self.vars) (drop l.e-index l.es) ≡ map (value l.fn.self.vars) l.es;
  ticks : counted (l.self.ticks + sum (map nodes (drop l.e-index l.es))) ≡ counted (l.fn.self.ticks + sum (map nodes l.es));
}
