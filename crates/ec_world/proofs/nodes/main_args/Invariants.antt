use Rattle.std.proofs.Common.{◌≡◌, ◌++◌, ◌-◌, replicate, pos}
use Rattle.ec_base.specs.declared.value.Value.TheVariants.{Int}
use Rattle.ec_world.specs.Run.{main_args}
use Rattle.ec_world.proofs.nodes.main_args.Given as goal

abbrev pub invariant-loop : goal.invariant-loop
invariant-loop l = l.args.items ++ replicate (l.count - l.counter) (Int (pos 0)) ≡ main_args l.count l.words
