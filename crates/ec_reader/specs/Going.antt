-- Where a loop stands that reads turns.
use Rattle.std.specs.Prelude.{◌≡◌, ◌≤◌, ℕ, Bool, length}
use Rattle.ec_base.specs.declared.token.Token.{Token}
use Rattle.ec_syntax.specs.Grammar.State.{State}
use Rattle.ec_syntax.specs.Descent.Reader.{Reader, Outcome, turns_by}

-- the turns are told what they would be from this value and state on, with turns enough
pub record Going {A : Type 0} (test : Token → Bool) (turn : A → Reader A) (told : Outcome A) (a : A) (s : State) : Type 0 where
  pub fuel : ℕ
  pub enough : length s.left ≤ fuel
  pub goes : told ≡ turns_by fuel test turn a s
