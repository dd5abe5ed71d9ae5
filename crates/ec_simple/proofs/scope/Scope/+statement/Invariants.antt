use Rattle.std.proofs.Common.{drop}
use Rattle.ec_resolve.specs.Erased.{statements}
use Rattle.ec_simple.specs.Seen.{scope}
use Rattle.ec_simple.specs.Statements.{low_stmts, low_branches}
use Rattle.ec_simple.proofs.puts.Sequences.{Goes, GoesOn}
use Rattle.ec_simple.proofs.scope.Scope.+statement.Given as goal

abbrev pub invariant-statements-loop-s : goal.invariant-statements-loop-s
invariant-statements-loop-s l =
    Goes (low_stmts (scope l.self) (statements (drop l.s-index l.all)) l.vars.next l.funcs.next) l.code l.vars l.funcs
    (low_stmts (scope l.self) (statements l.all) l.fn.vars.next l.fn.funcs.next) l.fn.code l.fn.vars l.fn.funcs

abbrev pub invariant-branches-loop-s : goal.invariant-branches-loop-s
invariant-branches-loop-s l =
    GoesOn (low_branches (scope l.self) l.at (statements (drop l.s-index l.all)) l.vars.next l.funcs.next) l.branches l.vars l.funcs
    (low_branches (scope l.self) l.at (statements l.all) l.fn.vars.next l.fn.funcs.next) l.fn.vars l.fn.funcs
