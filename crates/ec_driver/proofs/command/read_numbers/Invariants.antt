use Rattle.std.proofs.Common.{◌≡◌, drop}
use Rattle.ec_driver.specs.Command.{numbers}
use Rattle.ec_driver.proofs.Words.{behind}
use Rattle.ec_driver.proofs.command.read_numbers.Given as goal

abbrev pub invariant-loop-word : goal.invariant-loop-word
invariant-loop-word l = numbers l.words ≡ behind l.numbers (numbers (drop l.word-index l.words))
