use Rattle.std.proofs.Common.{◌∙◌, sym, ap, option_map, arith}
use Rattle.ec_calls.specs.Effects.{statement_doing, or_nothing}
use Rattle.ec_calls.specs.Seen.{earlier, earliest}
use Rattle.ec_calls.proofs.Earliest.{all_printed, earliest-append, of_body, of_If, one_later}
use Rattle.ec_calls.proofs.printed.+printed.Goals as goal

pub first_of-returns-in-If : goal.first_of-returns-in-If
first_of-returns-in-If t c =
    let it = c.in-If in
    let rest = (or_nothing (option_map statement_doing it.b)).prints in
    c.earlier.ensures
    ∙ ap (λ v. earlier v c.first_of_other.result)
    (c.first_of.ensures ∙ ap (λ v. earliest (statement_doing v).prints) c.get.ensures)
    ∙ ap (earlier (earliest (statement_doing it.a).prints)) c.first_of_other.ensures
    ∙ earliest-append (statement_doing it.a).prints rest
    ∙ ap earliest (sym (of_If c.args.s.now it.field-0 it.a it.b it.is))

pub first_of_all-loop-s-preserved : goal.first_of_all-loop-s-preserved
first_of_all-loop-s-preserved t c =
    one_later c.args.statements.now c.loop-s.s-index _ c.s-item.result c.loop-s.first _ _ (omega arith)
    c.loop-s-test.true c.s-item.is
    (c.earlier-first.ensures ∙ ap (earlier c.loop-s.first) c.first_of.ensures) c.loop-s.invariant

pub first_of_body-returns : goal.first_of_body-returns
first_of_body-returns t c =
    c.first_of_all.ensures ∙ ap (λ v. earliest (all_printed v)) c.as_slice.ensures
    ∙ ap earliest (sym (of_body c.args.body.now))
