use Rattle.std.proofs.Common.{◌≡◌, ◌++◌, map, drop, length}
use Rattle.ec_resolve.specs.Erased as erased
use Rattle.ec_simple.specs.Lower.{all_written, all_outlined}
use Rattle.ec_simple.proofs.lowering.functions.Given as goal

abbrev pub invariant-loop-k : goal.invariant-loop-k
invariant-loop-k l =
    let all = map erased.function l.all in
    let names = map (λ f. f.name.text) (map (λ f. f.now) l.named) in
    let rest_names = map (λ f. f.name.text) (map (λ f. f.now) (drop l.k l.named)) in
    let rest = map erased.function (drop l.k l.all) in
    record {
      written : l.functions ++ all_written all rest_names rest l.outlined.next ≡ all_written all names all (length l.all);
      outlined : l.outlined.all ++ all_outlined all rest_names rest l.outlined.next ≡ all_outlined all names all (length l.all);
    }
