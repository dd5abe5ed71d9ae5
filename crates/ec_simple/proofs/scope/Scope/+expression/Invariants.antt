use Rattle.std.proofs.Common.{◌≡◌, ◌++◌, drop}
use Rattle.ec_resolve.specs.Erased.{expressions}
use Rattle.ec_simple.specs.Expressions.{low_list}
use Rattle.ec_simple.specs.Puts.{more}
use Rattle.ec_simple.specs.Seen.{scope}
use Rattle.ec_simple.proofs.scope.Scope.+expression.Given as goal

abbrev pub invariant-expressions-loop-e : goal.invariant-expressions-loop-e
invariant-expressions-loop-e l =
    let rest = low_list (scope l.self) (expressions (drop l.e-index l.all)) l.vars.next in
    let whole = low_list (scope l.self) (expressions l.all) l.fn.vars.next in
    record {
      code : l.code ++ rest.code ≡ l.fn.code ++ whole.code;
      vars : more l.vars rest.vars ≡ more l.fn.vars whole.vars;
      to : l.numbers ++ rest.to ≡ whole.to;
    }
