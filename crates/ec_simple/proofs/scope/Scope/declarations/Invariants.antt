use Rattle.std.proofs.Common.{◌≡◌, ◌++◌, map, drop}
use Rattle.ec_resolve.specs.Erased.{declaration}
use Rattle.ec_simple.specs.Puts.{more}
use Rattle.ec_simple.specs.Seen.{scope}
use Rattle.ec_simple.specs.Statements.{low_declarations}
use Rattle.ec_simple.proofs.scope.Scope.declarations.Given as goal

abbrev pub invariant-loop-d : goal.invariant-loop-d
invariant-loop-d l =
    let rest = low_declarations (scope l.self) (map declaration (drop l.d-index l.all)) l.vars.next in
    let whole = low_declarations (scope l.self) (map declaration l.all) l.fn.vars.next in
    record {
      code : l.code ++ rest.code ≡ l.fn.code ++ whole.code;
      vars : more l.vars rest.vars ≡ more l.fn.vars whole.vars;
    }
