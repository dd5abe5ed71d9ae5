use Rattle.std.proofs.Common.{◌≤◌, ◌-◌, length, suc}
use Rattle.ec_base.specs.declared.token.Mark.TheVariants as m
use Rattle.ec_syntax.specs.Grammar.Tokens.{is_mark}
use Rattle.ec_syntax.specs.Descent.Reader.{give, ◌>>◌}
use Rattle.ec_syntax.specs.Descent.Tokens.{mark, stars}
use Rattle.ec_reader.specs.Going.{Going}
use Rattle.ec_reader.proofs.cursor.Cursor.stars.Given as goal

abbrev pub invariant-loop-self : goal.invariant-loop-self
invariant-loop-self l = record {
  counted : l.stars ≤ 1048577 - length l.self.left;
  stays : length l.self.left ≤ length l.fn.self.left;
  goes : Going (is_mark m.Star) (λ k. mark m.Star >> give (suc k)) (stars (mark m.Star) 0 l.fn.self) l.stars l.self;
}

abbrev pub decreases-loop-self : goal.decreases-loop-self
decreases-loop-self l = length l.self.left
