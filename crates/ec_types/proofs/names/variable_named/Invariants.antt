use Rattle.std.proofs.Common.{◌≡◌, map, drop}
use Rattle.ec_types.specs.Names as names
use Rattle.ec_types.proofs.names.variable_named.Given as goal

abbrev pub invariant-loop-d : goal.invariant-loop-d
invariant-loop-d l = names.variable_named (map (λ d. d.now) l.scope) l.name ≡ names.variable_named (map (λ d. d.now) (drop l.d-index l.scope)) l.name
