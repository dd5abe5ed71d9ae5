use Rattle.ec_meaning.proofs.Births.{bears_kept, bears_done}
use Rattle.ec_meaning.proofs.shared_state.Core.born.Goals as goal

pub returns-clause-kept : goal.returns-clause-kept
returns-clause-kept c = bears_kept c.args.cells.items c.args.self.now c.bear.new.self c.bear.result c.bear.ensures

pub returns-clause-does : goal.returns-clause-does
returns-clause-does c = λ u r t.
    bears_done u c.args.cells.items c.args.self.now c.bear.new.self c.bear.result c.bear.ensures t r
