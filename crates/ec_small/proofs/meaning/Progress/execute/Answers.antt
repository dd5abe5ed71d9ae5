use Rattle.ec_small.specs.Counting.{state, Alike}
use Rattle.ec_small.specs.Meaning.{done}
use Rattle.ec_small.specs.declared.tree.Stmt.TheVariants.{Set}
use Rattle.ec_small.proofs.Counted.{set_alike}
use Rattle.ec_small.proofs.meaning.Progress.execute.Goals as goal

pub returns-in-Set : goal.returns-in-Set
returns-in-Set c =
    let set : Alike (state c.assign.new.self) (done (Set c.in-Set.variable c.in-Set.e) (state c.args.self.now)) =
    set_alike c.in-Set.variable c.in-Set.e (state c.args.self.now) (state c.tick.new.self) (state c.assign.new.self) c.tick.ensures.spent c.assign.ensures in
    rw c.in-Set.is set
