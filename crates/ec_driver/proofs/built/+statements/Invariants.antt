use Rattle.std.proofs.Common.{◌≡◌, map, drop}
use Rattle.ec_driver.specs.Built as built
use Rattle.ec_driver.proofs.built.+statements.Given as goal

abbrev pub invariant-in_statements-loop-statement : goal.invariant-in_statements-loop-statement
invariant-in_statements-loop-statement l =
    built.first_of (map built.in_statement l.statements)
    ≡ built.first_of (map built.in_statement (drop l.statement-index l.statements))
