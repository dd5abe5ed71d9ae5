use Rattle.std.proofs.Common.{◌≤◌, length}
use Rattle.ec_base.specs.declared.token.Mark.TheVariants as m
use Rattle.ec_syntax.specs.Grammar.Tokens.{is_mark}
use Rattle.ec_syntax.specs.Descent.Items.{further}
use Rattle.ec_reader.specs.Another.{another_parameter}
use Rattle.ec_reader.specs.Going.{Going}
use Rattle.ec_reader.proofs.cursor.Cursor.further_parameters.Given as goal

abbrev pub invariant-loop-alloc : goal.invariant-loop-alloc
invariant-loop-alloc l = record {
  stays : length l.self.left ≤ length l.fn.self.left;
  goes : Going (is_mark m.Comma) another_parameter (further l.fn.before l.fn.self) l.all l.self;
}

abbrev pub decreases-loop-alloc : goal.decreases-loop-alloc
decreases-loop-alloc l = length l.self.left
