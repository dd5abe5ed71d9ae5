-- What a program means: how it ends, what it prints and gives, its memory, the ticks that it spends, how many activations are
-- open at once, where they are placed, and what is forked.
use Rattle.std.specs.Prelude.{◌≡◌, ℕ, ◌-◌, true, false, List, [], map, Option, Some, None, slice_get, ℤ, pos}
use Rattle.ec_base.specs.declared.trap.Trap.{Trap}
use Rattle.ec_syntax.specs.declared.item.Program.{Program as Source}
use Rattle.ec_types.specs.Meaning.Values.{Path, Val, Num, number}
use Rattle.ec_types.specs.Meaning.State.{Here, Placed, Fork, Core, Out, With, Returns, Traps, Going, activate}
use Rattle.ec_types.specs.Meaning.Tree.{Function, End}
use Rattle.ec_types.specs.Meaning.Evaluation.{Program, body, calls}
use Rattle.ec_types.specs.Meaning.Resolution as resolution

pub data Ending : Type 0 where
  Ended : Ending
  Trapped : Trap → Ending
  Unfinished : Ending

pub record Meaning : Type 0 where
  pub ending : Ending
  pub output : List ℕ
  pub result : ℤ
  pub store : Path → Option (List Val)
  pub ticks : ℕ
  pub most : ℕ
  pub places : List Placed
  pub forks : List Fork

-- ---- main's activation, the root

abbrev pub root : Core
root = record { path = []; births = 0; most = 0; output = []; store = λ p. None; places = []; forks = [] }

-- a main without function doesn't occur in typed programs
abbrev pub main_or : Option Function → Function
main_or None = record { params = []; variables = []; void = true; pointer = false; shape = 0; decls = []; body = End }
main_or (Some f) = f

-- main with these arguments and at most k ticks
abbrev pub run : Program → ℕ → List ℤ → ℕ → Out Val
run p main args k =
    activate true Here (body true true (calls true true p k) k (main_or (slice_get p main)) (map Num args)) root k

-- ---- meanings

abbrev pub meant : Ending → ℤ → Core → ℕ → Meaning
meant ending result c ticks =
    record { ending = ending; output = c.output; result = result; store = c.store; ticks = ticks; most = c.most; places = c.places; forks = c.forks }

abbrev pub told : ℕ → Out Val → Meaning
told k (With v, c, left) = meant Ended (number v) c (k - left)
told k (Returns v, c, left) = meant Ended (number v) c (k - left)
told k (Traps t, c, left) = meant (Trapped t) (pos 0) c (k - left)
told k (Going, c, left) = meant Unfinished (pos 0) c (k - left)

abbrev pub run_source : Source → List ℤ → ℕ → Out Val
run_source p args k = run (resolution.program p) (resolution.main_number p) args k

-- what a typed program means with these arguments and at most k ticks
abbrev pub mean : Source → List ℤ → ℕ → Meaning
mean p args k = told k (run_source p args k)

abbrev pub HasEnded : Ending → Type 0
HasEnded Ended = Unit {0}
HasEnded (Trapped t) = Unit {0}
HasEnded Unfinished = ⊥

-- the meaning without a bound, where there is one
pub record IsFinal (p : Source) (args : List ℤ) (m : Meaning) : Type 0 where
  pub ticks : ℕ
  pub means : mean p args ticks ≡ m
  pub ended : HasEnded m.ending
