use Rattle.std.proofs.Common.{ℕ, ℤ, Bool, List}
use Rattle.ec_syntax.specs.declared.item.Program.{Program as Source}
use Rattle.ec_meaning.specs.Steps.{Reaches}
use Rattle.ec_meaning.proofs.machine.Machine.run.Given as goal

abbrev pub invariant-loop : goal.invariant-loop
invariant-loop l =
    (s : Source) (args : List ℤ) (pointer : Bool) (total : ℕ) →
    Reaches s args pointer total l.fn.self → Reaches s args pointer total l.self
