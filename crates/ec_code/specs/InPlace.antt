-- Which calls, entries and messages may stand at a node of n: every node that they name is one of the n, and their counts, sizes
-- and backs are such as units make.
use Rattle.std.specs.Prelude.{◌≡◌, ◌<◌, ℕ, true, length, Option, Some, None, IsSome}
use Rattle.std.specs.List.{All}
use Rattle.ec_base.specs.declared.value.Birth.{Birth}
use Rattle.ec_base.specs.declared.value.Block.{Block}
use Rattle.ec_base.specs.declared.value.Value.{Value}
use Rattle.ec_base.specs.declared.value.Value.TheVariants as v
use Rattle.ec_code.specs.declared.message.Back.{Back}
use Rattle.ec_code.specs.declared.message.Call.{Call}
use Rattle.ec_code.specs.declared.message.Entry.{Entry}
use Rattle.ec_code.specs.declared.message.Entry.TheVariants as e
use Rattle.ec_code.specs.declared.message.Message.{Message}
use Rattle.ec_code.specs.declared.message.Message.TheVariants as m
use Rattle.ec_code.specs.Valid.{is_count, is_size}

abbrev pub IsBirth : ℕ → Option Birth → Type 0
IsBirth n None = Unit {0}
IsBirth n (Some b) = b.node < n

abbrev pub IsBlock : ℕ → Block → Type 0
IsBlock n b = b.node < n

abbrev pub IsValue : ℕ → Value → Type 0
IsValue n (v.Int k) = Unit {0}
IsValue n v.Null = Unit {0}
IsValue n (v.Ptr b) = IsBlock n b

abbrev pub IsBack : ℕ → Back → Type 0
IsBack n b = b.node < n

-- a call of a node that is there, which came from one and was born at one
pub record IsCall (n : ℕ) (c : Call) : Type 0 where
  pub node : c.node < n
  pub birth : IsBirth n c.birth
  pub args : All (IsValue n) c.args

abbrev pub IsEntry : ℕ → Entry → Type 0
IsEntry n (e.Start frame fiber slot filling) = Unit {0}
IsEntry n (e.Enter call) = IsCall n call
IsEntry n (e.Load block index size off at back) =
    IsBlock n block × (is_size size ≡ true) × IsBack n back × IsSome back.cell
IsEntry n (e.Store block index size off value at back) =
    IsBlock n block × (is_size size ≡ true) × IsValue n value × IsBack n back
IsEntry n (e.Add block value at back) = IsBlock n block × IsValue n value × IsBack n back
IsEntry n (e.CopyOut block index size to to_index at at_to back) =
    IsBlock n block × (is_size size ≡ true) × IsBlock n to × IsBack n back
IsEntry n (e.CopyIn block index cells at back) =
    IsBlock n block × (is_size (length cells) ≡ true) × All (IsValue n) cells × IsBack n back
IsEntry n (e.Fill frame slot cells values) = (length cells ≡ length values) × All (IsValue n) values
IsEntry n (e.Print bytes back) = IsBack n back

abbrev pub IsMessage : ℕ → Message → Type 0
IsMessage n (m.Init frame slot count reset fiber) = (is_count count ≡ true) × (is_count reset ≡ true)
IsMessage n (m.Incr frame slot) = Unit {0}
IsMessage n (m.Sync node frame slot) = node < n
IsMessage n (m.Work node entry) = (node < n) × IsEntry n entry
IsMessage n (m.EndFrame frame) = Unit {0}
