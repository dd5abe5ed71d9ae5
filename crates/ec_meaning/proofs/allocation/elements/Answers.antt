use Rattle.std.proofs.Common.{◌≡◌, sym, ◌∙◌, length}
use Rattle.std.proofs.lemmas.Bool.{eqb-true}
use Rattle.ec_meaning.specs.Reached.{first_of}
use Rattle.ec_meaning.proofs.Lists.{repeat_none}
use Rattle.ec_meaning.proofs.allocation.elements.Goals as goal

pub returns-then-is_empty : goal.returns-then-is_empty
returns-then-is_empty c =
    let none : length c.args.pointers.now ≡ 0 =
    eqb-true (length c.args.pointers.now) 0 (sym c.is_empty.ensures ∙ c.if-is_empty.true) in
    c.new-cells.ensures.items ∙ sym (repeat_none first_of c.args.count c.args.pointers.now none)
