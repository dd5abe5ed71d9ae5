use Rattle.std.proofs.Common.{◌≡◌, ◌∙◌, ap, rules, to_z, of_z, w64}
use Rattle.ec_small.specs.Meaning.{value}
use Rattle.ec_small.proofs.Valued.{binary_of}
use Rattle.ec_small.proofs.meaning.Progress.+evaluate.Goals as goal

pub returns-in-Binary-clause-value : goal.returns-in-Binary-clause-value
returns-in-Binary-clause-value t c =
    let left : to_z w64 (of_z w64 c.evaluate-left.result) ≡ value c.args.self.now.vars c.in-Binary.a =
    (search rules) ∙ c.evaluate-left.ensures.value ∙ ap (λ vs. value vs c.get.result.now) c.tick.ensures.spent.vars ∙
    ap (value c.args.self.now.vars) c.get.ensures in
    let right : to_z w64 (of_z w64 c.evaluate-right.result) ≡ value c.evaluate-left.new.self.vars c.in-Binary.b =
    (search rules) ∙ c.evaluate-right.ensures.value ∙ ap (value c.evaluate-left.new.self.vars) c.get-in-Binary.ensures in
    (search rules) ∙ c.combine.ensures ∙
    binary_of c.args.self.now.vars c.evaluate-left.new.self.vars c.in-Binary.op c.args.e.now c.in-Binary.a c.in-Binary.b _ _ c.in-Binary.is left right
    (c.evaluate-left.ensures.spent.vars ∙ c.tick.ensures.spent.vars)
