use Rattle.std.proofs.Common.{◌≡◌, ◌++◌, [], map, drop}
use Rattle.ec_types.specs.Judged.{Gives}
use Rattle.ec_types.specs.Names as names
use Rattle.ec_types.proofs.distinct.distinct.Given as goal

abbrev pub invariant-loop-n : goal.invariant-loop-n
invariant-loop-n l = record {
  seen : l.declared ++ map (λ n. n.now) (drop l.n-index l.all) ≡ map (λ n. n.now) l.all;
  so_far : Gives l.so_far (names.distinct [] l.declared);
}
