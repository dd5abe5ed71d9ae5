use Rattle.std.proofs.Common.{◌∙◌, ap, option_copied, option_map, arith}
use Rattle.ec_types.proofs.ArgumentLists.{found}
use Rattle.ec_resolve.specs.Seen as seen
use Rattle.ec_resolve.proofs.Places.{none_named, none_standing, one_standing}
use Rattle.ec_resolve.proofs.Within.{found_within, few_fields}
use Rattle.ec_resolve.proofs.fields.found_in.Goals as goal

pub overflow_cast-number : goal.overflow_cast-number
overflow_cast-number c =
    omega (
      arith,
      few_fields c.args.s.now c.requires,
      found_within (λ f. f.name.text) c.args.s.now.fields c.args.name.now c.place.result c.in_ok-at.at c.place.ensures c.in_ok-at.was,
    )

pub returns-in_err-at-clause-field : goal.returns-in_err-at-clause-field
returns-in_err-at-clause-field c =
    ap (option_map seen.found) c.from_residual.ensures
    ∙ none_named c.args.s.now.fields c.args.name.now c.place.result c.place.ensures c.in_err-at.was

pub returns-in_err-field-clause-field : goal.returns-in_err-field-clause-field
returns-in_err-field-clause-field c =
    ap (option_map seen.found) c.from_residual-in_err-field.ensures
    ∙ none_standing c.args.s.now.fields c.as_slice-fields.result.now c.args.name.now c.place.result c.in_ok-at.at (option_copied c.get.result)
    c.place.ensures c.in_ok-at.was (c.as_slice-fields.ensures ∙ ap (λ s. s.fields) c.def.ensures)
    (found c.as_slice-fields.result.now c.in_ok-at.at c.get.result (c.get.ensures.lookup).3) (ap option_copied c.in_err-field.was)

pub returns-clause-field : goal.returns-clause-field
returns-clause-field c =
    one_standing c.args.s.now.fields c.as_slice-fields.result.now c.args.name.now c.place.result c.in_ok-at.at c.cells-first.result (option_copied c.get.result) _
    c.place.ensures c.in_ok-at.was (c.as_slice-fields.ensures ∙ ap (λ s. s.fields) c.def.ensures)
    (found c.as_slice-fields.result.now c.in_ok-at.at c.get.result (c.get.ensures.lookup).3) (ap option_copied c.in_ok-field.was) c.cells-first.ensures
