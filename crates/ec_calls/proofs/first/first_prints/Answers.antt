use Rattle.std.proofs.Common.{◌∙◌, ap, sym, subst, map, Bor}
use Rattle.std.proofs.lemmas.List.{with_items_is}
use Rattle.std.specs.Prelude.{filter_map}
use Rattle.ec_syntax.specs.declared.item.Func.{Func}
use Rattle.ec_calls.specs.Items.{as_function}
use Rattle.ec_calls.specs.Prints.{ArePrints, printed}
use Rattle.ec_calls.proofs.Reached.{within, tabled}
use Rattle.ec_calls.proofs.first.first_prints.Goals as goal

pub settle-requires : goal.settle-requires
settle-requires c =
    within (filter_map as_function c.args.items.now) (map (λ (f : Bor Func). f.now) c.as_slice.result.now)
    c.in_ok-names.field-0.names
    c.as_slice-2.result.now c.deref_mut.result.now
    (ap (map (λ (f : Bor Func). f.now)) c.as_slice.ensures.value ∙ c.in_ok-names.ensures.firsts)
    c.in_ok-names.ensures.names (c.as_slice-2.ensures.value ∙ c.in_ok-calls.ensures.calls)
    (c.deref_mut.ensures.value ∙ c.in_ok-calls.ensures.places)

pub returns : goal.returns
returns c =
    let fs = filter_map as_function c.args.items.now in
    let places = c.in_ok-calls.field-0.places in
    subst (λ v. ArePrints fs (printed (record { names = c.in_ok-names.field-0.names; places = v })))
    (sym (with_items_is places c.settle.new.places (c.settle.ensures.lowers.many ∙ c.deref_mut.ensures.len)))
    (tabled fs (map (λ (f : Bor Func). f.now) c.as_slice.result.now) c.in_ok-names.field-0.names
    c.as_slice-2.result.now c.deref_mut.result.now
    (ap (map (λ (f : Bor Func). f.now)) c.as_slice.ensures.value ∙ c.in_ok-names.ensures.firsts)
    c.in_ok-names.ensures.names (c.as_slice-2.ensures.value ∙ c.in_ok-calls.ensures.calls)
    (c.deref_mut.ensures.value ∙ c.in_ok-calls.ensures.places)
    c.settle.new.places c.settle.ensures.lowers c.settle.ensures.kept)
