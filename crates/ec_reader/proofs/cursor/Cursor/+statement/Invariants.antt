use Rattle.std.proofs.Common.{◌≤◌, ◌+◌, ◌-◌, ◌*◌, [], length}
use Rattle.ec_syntax.specs.Descent.Reader.{turns}
use Rattle.ec_syntax.specs.Descent.Tokens.{begins_stmt}
use Rattle.ec_syntax.specs.Descent.Statements.{branch, stmt}
use Rattle.ec_reader.specs.Going.{Going}
use Rattle.ec_reader.specs.Sentences.{another_statement}
use Rattle.ec_reader.proofs.cursor.Cursor.+statement.Given as goal

abbrev pub decreases-statement : goal.decreases-statement
decreases-statement l = 16 * l.room

abbrev pub decreases-another_statement : goal.decreases-another_statement
decreases-another_statement l = 16 * l.room + 1

abbrev pub decreases-sequence : goal.decreases-sequence
decreases-sequence l = 16 * l.room + 2

abbrev pub decreases-contents : goal.decreases-contents
decreases-contents l = 16 * l.room + 3

abbrev pub decreases-braces : goal.decreases-braces
decreases-braces l = 16 * l.room + 4

abbrev pub decreases-block : goal.decreases-block
decreases-block l = 16 * l.room + 5

abbrev pub decreases-next_branch : goal.decreases-next_branch
decreases-next_branch l = 16 * l.room + 1

abbrev pub decreases-another_branch : goal.decreases-another_branch
decreases-another_branch l = 16 * l.room + 2

abbrev pub decreases-branches : goal.decreases-branches
decreases-branches l = 16 * l.room + 3

abbrev pub decreases-parallel_statement : goal.decreases-parallel_statement
decreases-parallel_statement l = 16 * l.room + 5

abbrev pub decreases-body : goal.decreases-body
decreases-body l = 16 * l.room + 6

abbrev pub decreases-else_branch : goal.decreases-else_branch
decreases-else_branch l = 16 * l.room + 7

abbrev pub decreases-if_statement : goal.decreases-if_statement
decreases-if_statement l = 16 * l.room + 8

abbrev pub decreases-while_statement : goal.decreases-while_statement
decreases-while_statement l = 16 * l.room + 7

abbrev pub decreases-for_statement : goal.decreases-for_statement
decreases-for_statement l = 16 * l.room + 7

abbrev pub decreases-forall_statement : goal.decreases-forall_statement
decreases-forall_statement l = 16 * l.room + 7

abbrev pub decreases-bare_statement : goal.decreases-bare_statement
decreases-bare_statement l = 16 * (l.room - 1) + 9

abbrev pub invariant-sequence-loop-alloc : goal.invariant-sequence-loop-alloc
invariant-sequence-loop-alloc l = record {
  stays : length l.self.left ≤ length l.fn.self.left;
  goes : Going begins_stmt (another_statement l.fn.room) (turns begins_stmt (another_statement l.fn.room) [] l.fn.self) l.all l.self;
}

abbrev pub decreases-sequence-loop-alloc : goal.decreases-sequence-loop-alloc
decreases-sequence-loop-alloc l = length l.self.left

abbrev pub invariant-branches-loop-alloc : goal.invariant-branches-loop-alloc
invariant-branches-loop-alloc l = record {
  stays : length l.self.left ≤ length l.fn.self.left;
  goes : Going begins_stmt (branch l.fn.room (stmt l.fn.room)) (turns begins_stmt (branch l.fn.room (stmt l.fn.room)) [] l.fn.self) l.all l.self;
}

abbrev pub decreases-branches-loop-alloc : goal.decreases-branches-loop-alloc
decreases-branches-loop-alloc l = length l.self.left
