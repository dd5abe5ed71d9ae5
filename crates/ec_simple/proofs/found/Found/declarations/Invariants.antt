use Rattle.std.proofs.Common.{◌≡◌, ◌++◌, map, drop}
use Rattle.ec_resolve.specs.Erased.{declaration}
use Rattle.ec_simple.specs.Used.{used}
use Rattle.ec_simple.specs.Uses.{of_all, decl_reads, declared}
use Rattle.ec_simple.proofs.found.Found.declarations.Given as goal

abbrev pub invariant-loop-d : goal.invariant-loop-d
invariant-loop-d l =
    let rest = map declaration (drop l.d-index l.fn.all) in
    let whole = map declaration l.fn.all in
    record {
      reads : used l.self.reads ++ of_all decl_reads rest ≡ used l.fn.self.reads ++ of_all decl_reads whole;
      writes : used l.self.writes ≡ used l.fn.self.writes;
      declares : l.self.declared ++ map declared rest ≡ l.fn.self.declared ++ map declared whole;
    }
