use Rattle.std.proofs.Common.{◌≡◌, filter_map, map, drop}
use Rattle.std.specs.Prelude.{fold}
use Rattle.ec_calls.specs.Items.{as_function}
use Rattle.ec_calls.specs.Seen.{added, firsts, names_of}
use Rattle.ec_calls.proofs.functions.Functions.of.Given as goal

abbrev pub invariant-loop-item : goal.invariant-loop-item
invariant-loop-item l = record {
  firsts : fold added (map (λ f. f.now) l.all.firsts.items) (filter_map as_function (drop l.item-index l.items))
      ≡ firsts (filter_map as_function l.items);
  names : l.all.names ≡ names_of (map (λ f. f.now) l.all.firsts.items);
}
