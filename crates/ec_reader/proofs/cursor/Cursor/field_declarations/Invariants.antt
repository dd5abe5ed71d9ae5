use Rattle.std.proofs.Common.{◌≤◌, length}
use Rattle.ec_syntax.specs.Descent.Reader.{turns}
use Rattle.ec_syntax.specs.Descent.Tokens.{begins_base}
use Rattle.ec_syntax.specs.Descent.Items.{fields}
use Rattle.ec_reader.specs.Going.{Going}
use Rattle.ec_reader.proofs.cursor.Cursor.field_declarations.Given as goal

abbrev pub invariant-loop-alloc : goal.invariant-loop-alloc
invariant-loop-alloc l = record {
  stays : length l.self.left ≤ length l.fn.self.left;
  goes : Going begins_base fields (turns begins_base fields l.fn.first l.fn.self) l.all l.self;
}

abbrev pub decreases-loop-alloc : goal.decreases-loop-alloc
decreases-loop-alloc l = length l.self.left
