use Rattle.std.proofs.Common.{◌≤◌, [], length}
use Rattle.ec_syntax.specs.Descent.Reader.{turns}
use Rattle.ec_syntax.specs.Descent.Items.{begins_item}
use Rattle.ec_reader.specs.Another.{another_item}
use Rattle.ec_reader.specs.Going.{Going}
use Rattle.ec_reader.proofs.cursor.Cursor.items.Given as goal

abbrev pub invariant-loop-alloc : goal.invariant-loop-alloc
invariant-loop-alloc l = record {
  stays : length l.self.left ≤ length l.fn.self.left;
  goes : Going begins_item (another_item l.fn.room) (turns begins_item (another_item l.fn.room) [] l.fn.self) l.all l.self;
}

abbrev pub decreases-loop-alloc : goal.decreases-loop-alloc
decreases-loop-alloc l = length l.self.left
