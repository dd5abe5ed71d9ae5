use Rattle.std.proofs.Common.{◌≡◌, ◌++◌, drop}
use Rattle.ec_resolve.specs.Erased.{statements}
use Rattle.ec_simple.specs.Used.{used}
use Rattle.ec_simple.specs.Uses.{stmts_reads, stmts_writes, all_declare}
use Rattle.ec_simple.proofs.found.Found.+found.Given as goal

abbrev pub invariant-statements-loop-s : goal.invariant-statements-loop-s
invariant-statements-loop-s l =
    let rest = statements (drop l.s-index l.fn.all) in
    let whole = statements l.fn.all in
    record {
      reads : used l.self.reads ++ stmts_reads rest ≡ used l.fn.self.reads ++ stmts_reads whole;
      writes : used l.self.writes ++ stmts_writes rest ≡ used l.fn.self.writes ++ stmts_writes whole;
      declares : l.self.declared ++ all_declare rest ≡ l.fn.self.declared ++ all_declare whole;
    }
