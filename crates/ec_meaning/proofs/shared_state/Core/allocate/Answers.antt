use Rattle.std.proofs.Common.{rules, ◌≡◌, sym, ap, subst, ◌∙◌, map}
use Rattle.std.proofs.lemmas.List.{length-map}
use Rattle.ec_resolve.specs.Erased.{first_value}
use Rattle.ec_types.specs.Meaning.Memory.{repeated, born}
use Rattle.ec_meaning.specs.Reached.{first_of}
use Rattle.ec_meaning.specs.Seen.{Performs, val, core}
use Rattle.ec_meaning.proofs.Lists.{map-repeat}
use Rattle.ec_meaning.proofs.Births.{allocate_done, firsts}
use Rattle.ec_meaning.proofs.shared_state.Core.allocate.Goals as goal

pub returns-clause-does : goal.returns-clause-does
returns-clause-does c = λ u r t.
    let element = map first_value c.args.pointers.now in
    let cells_are : map (val u) c.in_ok-cells.cells.items ≡ repeated c.in-Some.count element =
    ap (map (val u)) c.in_ok-cells.ensures ∙ map-repeat (val u) c.in-Some.count (map first_of c.args.pointers.now)
    ∙ ap (repeated c.in-Some.count) (firsts u c.args.pointers.now) in
    subst (λ out. Performs (val u) c.born.result out (core u c.born.new.self) r)
    (ap (λ cells. born cells (core u c.args.self.now) r) cells_are
    ∙ sym (allocate_done c.args.at element (val u c.args.count) (core u c.args.self.now) r c.in-Some.count
    (rw (c.number.ensures.is u, length-map c.args.pointers.now first_value) (search rules))))
    (c.born.ensures.does u r t)
