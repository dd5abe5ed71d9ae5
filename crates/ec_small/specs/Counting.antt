-- How a meaning is run: ticks are counted in 64 bits, and the count stands still at its greatest value.
use Rattle.std.specs.Prelude.{◌≡◌, ℕ, ◌-◌, ◌^◌, ◌++◌, min, List, map, sum}
use Rattle.ec_base.specs.Format.{formatted}
use Rattle.ec_small.specs.declared.tree.Expr.{Expr}
use Rattle.ec_small.specs.declared.meaning.Progress.{Progress}
use Rattle.ec_small.specs.Meaning.{State, spent, nodes, value}

-- the state that a run has come to
abbrev pub state : Progress → State
state p = record { vars = p.vars; output = p.output; ticks = p.ticks }

-- a number of ticks in 64 bits
abbrev pub counted : ℕ → ℕ
counted n = min n (2 ^ 64 - 1)

-- states that are the same but for ticks that 64 bits do not count
pub record Alike (s t : State) : Type 0 where
  pub vars : s.vars ≡ t.vars
  pub output : s.output ≡ t.output
  pub ticks : counted s.ticks ≡ counted t.ticks

-- what a `printf` does beside the tick of its statement
abbrev pub printed : List ℕ → List Expr → State → State
printed string es s =
    spent (sum (map nodes es)) (record s { output = s.output ++ formatted string (map (value s.vars) es) })
