use Rattle.std.proofs.Common.{◌≡◌, map, take, ◌++◌}
use Rattle.ec_types.proofs.judge.Judge.with_all.Given as goal

abbrev pub invariant-loop-d : goal.invariant-loop-d
invariant-loop-d l = map (λ d. d.now) l.scope.items ≡ map (λ d. d.now) l.self.scope.items ++ take l.d-index l.decls
