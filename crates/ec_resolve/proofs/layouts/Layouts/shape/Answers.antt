use Rattle.std.proofs.Common.{arith}
use Rattle.ec_resolve.proofs.Within.{found_within}
use Rattle.ec_resolve.proofs.layouts.Layouts.shape.Goals as goal

pub overflow_cast-result : goal.overflow_cast-result
overflow_cast-result c =
    omega (
      arith,
      c.self.invariant.1.1,
      found_within (λ s. s.name.text) c.self.inside.structs c.args.name.now c.place.result c.in-Some.at c.place.ensures c.in-Some.is,
    )

pub overflow_add-result : goal.overflow_add-result
overflow_add-result c =
    omega (
      arith,
      c.self.invariant.1.1,
      found_within (λ s. s.name.text) c.self.inside.structs c.args.name.now c.place.result c.in-Some.at c.place.ensures c.in-Some.is,
    )
