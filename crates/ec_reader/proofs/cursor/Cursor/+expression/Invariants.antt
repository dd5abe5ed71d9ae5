use Rattle.std.proofs.Common.{◌<◌, ◌+◌, ◌*◌, length}
use Rattle.ec_base.specs.declared.token.Mark.TheVariants as m
use Rattle.ec_syntax.specs.Grammar.Tokens.{is_mark}
use Rattle.ec_syntax.specs.Descent.Expressions.{unary, expr_of, levels, operation, is_at_level, is_selector, selected, postfix, arguments, count}
use Rattle.ec_reader.specs.Going.{Going}
use Rattle.ec_reader.specs.Inside.{another_argument}
use Rattle.ec_reader.specs.Counting.{Counting}
use Rattle.ec_reader.proofs.cursor.Cursor.+expression.Given as goal

abbrev pub decreases-unary : goal.decreases-unary
decreases-unary l = 64 * l.room

abbrev pub decreases-level : goal.decreases-level
decreases-level l = 64 * l.room + 2 * l.level + 1

abbrev pub decreases-count : goal.decreases-count
decreases-count l = 64 * l.room + 1

abbrev pub decreases-amount : goal.decreases-amount
decreases-amount l = 64 * l.room + 2

abbrev pub decreases-nested_amount : goal.decreases-nested_amount
decreases-nested_amount l = 64 * l.room + 3

abbrev pub decreases-malloc : goal.decreases-malloc
decreases-malloc l = 64 * l.room + 4

abbrev pub decreases-operation : goal.decreases-operation
decreases-operation l = 64 * l.room + 2 * l.level + 2

abbrev pub decreases-another_argument : goal.decreases-another_argument
decreases-another_argument l = 64 * l.room + 23

abbrev pub decreases-nested_expression : goal.decreases-nested_expression
decreases-nested_expression l = 64 * l.room + 22

abbrev pub decreases-arguments : goal.decreases-arguments
decreases-arguments l = 64 * l.room + 24

abbrev pub decreases-nested_arguments : goal.decreases-nested_arguments
decreases-nested_arguments l = 64 * l.room + 25

abbrev pub decreases-value : goal.decreases-value
decreases-value l = 64 * l.room + 23

abbrev pub decreases-indexed : goal.decreases-indexed
decreases-indexed l = 64 * l.room + 24

abbrev pub decreases-selected : goal.decreases-selected
decreases-selected l = 64 * l.room + 25

abbrev pub decreases-behind_parenthesis : goal.decreases-behind_parenthesis
decreases-behind_parenthesis l = 64 * l.room + 22

abbrev pub decreases-nested_parenthesis : goal.decreases-nested_parenthesis
decreases-nested_parenthesis l = 64 * l.room + 23

abbrev pub decreases-parenthesised : goal.decreases-parenthesised
decreases-parenthesised l = 64 * l.room + 24

abbrev pub decreases-placement : goal.decreases-placement
decreases-placement l = 64 * l.room + 24

abbrev pub decreases-call_from : goal.decreases-call_from
decreases-call_from l = 64 * l.room + 26

abbrev pub decreases-name_or_call : goal.decreases-name_or_call
decreases-name_or_call l = 64 * l.room + 27

abbrev pub decreases-primary : goal.decreases-primary
decreases-primary l = 64 * l.room + 28

abbrev pub decreases-postfix : goal.decreases-postfix
decreases-postfix l = 64 * l.room + 29

abbrev pub decreases-prefixed : goal.decreases-prefixed
decreases-prefixed l = 64 * l.room + 1

abbrev pub invariant-postfix-loop-alloc : goal.invariant-postfix-loop-alloc
invariant-postfix-loop-alloc l = record {
  stays : length l.self.left < length l.fn.self.left;
  goes : Going is_selector (selected l.fn.room (unary l.fn.room)) (postfix l.fn.room (unary l.fn.room) l.fn.self) l.operand l.self;
}

abbrev pub decreases-postfix-loop-alloc : goal.decreases-postfix-loop-alloc
decreases-postfix-loop-alloc l = length l.self.left

abbrev pub invariant-level-loop-alloc : goal.invariant-level-loop-alloc
invariant-level-loop-alloc l = record {
  stays : length l.self.left < length l.fn.self.left;
  goes : Going (is_at_level l.below) (operation l.below (levels l.below (unary l.fn.room))) (levels l.fn.level (unary l.fn.room) l.fn.self) l.left l.self;
}

abbrev pub decreases-level-loop-alloc : goal.decreases-level-loop-alloc
decreases-level-loop-alloc l = length l.self.left

abbrev pub invariant-arguments-loop-alloc : goal.invariant-arguments-loop-alloc
invariant-arguments-loop-alloc l = record {
  stays : length l.self.left < length l.fn.self.left;
  goes : Going (is_mark m.Comma) (another_argument (expr_of (unary l.fn.room))) (arguments (expr_of (unary l.fn.room)) l.fn.self) l.args l.self;
}

abbrev pub decreases-arguments-loop-alloc : goal.decreases-arguments-loop-alloc
decreases-arguments-loop-alloc l = length l.self.left

abbrev pub invariant-count-factors : goal.invariant-count-factors
invariant-count-factors l = record {
  stays : length l.self.left < length l.fn.self.left;
  goes : Counting (unary l.fn.room) (count (unary l.fn.room) l.fn.self) l.left l.self;
}

abbrev pub decreases-count-factors : goal.decreases-count-factors
decreases-count-factors l = length l.self.left
