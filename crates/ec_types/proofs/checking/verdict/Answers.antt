use Rattle.std.proofs.Common.{◌∙◌, ap, subst, filter_map}
use Rattle.ec_calls.specs.Items.{as_function, as_struct}
use Rattle.ec_calls.specs.Prints.{ArePrints, printed}
use Rattle.ec_types.proofs.Verdicts.{decided}
use Rattle.ec_types.proofs.checking.verdict.Goals as goal

pub returns : goal.returns
returns c =
    let prints = printed c.in_ok-first_prints.field-0 in
    decided c.args.p.now c.in_ok-of.field-0 c.in_ok-of-2.field-0 prints c.program.result
    (c.in_ok-of.ensures ∙ ap (filter_map as_function) c.as_slice-items.ensures)
    (c.in_ok-of-2.ensures ∙ ap (filter_map as_struct) c.as_slice-items.ensures)
    (subst (λ l. ArePrints (filter_map as_function l) prints) c.as_slice-items.ensures c.in_ok-first_prints.ensures)
    c.program.ensures
