use Rattle.std.proofs.Common.{◌≡◌, ◌++◌, map, drop}
use Rattle.ec_types.specs.Meaning.Resolution as resolution
use Rattle.ec_resolve.specs.Erased.{function}
use Rattle.ec_resolve.proofs.resolving.all_functions.Given as goal

abbrev pub invariant-loop-f : goal.invariant-loop-f
invariant-loop-f l =
    map function l.all ++ map (resolution.function l.structs l.functions) (map (λ f. f.now) (drop l.f-index l.f-items))
    ≡ map (resolution.function l.structs l.functions) (map (λ f. f.now) l.f-items)
