-- What accesses reach among the code's blocks, which are numbered, and how these change.
use Rattle.std.specs.Prelude.{◌≡◌, ℕ, Bool, suc, ◌+◌, ◌-◌, ◌*◌, ◌^◌, min, nat_le, if◌then◌else◌, List, [], ◌∷◌, ◌++◌, length, take, drop, reverse, get_or, slice_get, slice_set, Option, Some, None, Ok, Err, Result, ℤ, pos, negsuc}
use Rattle.ec_base.specs.declared.fail.Fail.{Fail}
use Rattle.ec_base.specs.declared.fail.Fail.TheVariants.{Memory, Refused}
use Rattle.ec_base.specs.declared.token.Span.{Span}
use Rattle.ec_base.specs.declared.trap.Trap.{Trap}
use Rattle.ec_base.specs.declared.trap.TrapKind.{TrapKind}
use Rattle.ec_base.specs.declared.trap.TrapKind.TheVariants.{Null, Bounds, DivZero}
use Rattle.ec_types.specs.Meaning.Memory.{is_below, natural}
use Rattle.ec_meaning.specs.declared.value.Value.{Value}
use Rattle.ec_meaning.specs.declared.value.Value.TheVariants as value
use Rattle.ec_meaning.specs.declared.value.Block.{Block}
use Rattle.ec_meaning.specs.declared.value.Access.{Access}
use Rattle.ec_meaning.specs.declared.shared_state.Core.{Core}
use Rattle.ec_meaning.specs.declared.memory.Spot.{Spot}
use Rattle.ec_meaning.specs.declared.copying.Way.{Way}

abbrev pub trapped : TrapKind → Span → Fail Trap
trapped kind at = Refused (record { kind = kind; at = at })

-- the access to a shared variable
abbrev pub shared : Span → Value → Access
shared at v = record {
  at = at;
  base = v;
  index = pos 0;
  size = 1;
  field = record { number = 0; first = 0; length = 1 };
  item = pos 0;
}

-- what stands for an access that is missing
abbrev pub no_access : Access
no_access = shared (record { from = 0; to = 0 }) (value.Int (pos 0))

-- ---- what is reached

abbrev pub cells_of : Option Block → List Value
cells_of None = []
cells_of (Some b) = b.cells.items

-- the cells of the block of this number, none where there is no such block
abbrev pub cells_in : List Block → ℕ → List Value
cells_in blocks k = cells_of (slice_get blocks k)

-- the number of the block to which a value points
abbrev pub pointed : Span → Value → Result ℕ (Fail Trap)
pointed at (value.Int n) = Err (trapped Null at)
pointed at value.Null = Err (trapped Null at)
pointed at (value.To k) = Ok k

-- the first cell of the element of this index, where it lies within so many cells
abbrev pub first_cell : ℤ → ℕ → ℕ → Option ℕ
first_cell (pos i) size count = if nat_le (suc i * size) count then Some (i * size) else None
first_cell (negsuc i) size count = None

abbrev pub or_bounds : Span → Option ℕ → Result ℕ (Fail Trap)
or_bounds at None = Err (trapped Bounds at)
or_bounds at (Some n) = Ok n

abbrev pub start_in : List Block → Access → ℕ → Result ℕ (Fail Trap)
start_in blocks a k = or_bounds a.at (first_cell a.index a.size (length (cells_in blocks k)))

-- a cell is counted up to the greatest number of 64 bits, at which no block has one
abbrev pub spot_from : Access → ℕ → Result ℕ (Fail Trap) → Result Spot (Fail Trap)
spot_from a k (Err e) = Err e
spot_from a k (Ok start) = Ok (record { block = k; cell = min (start + (a.field.first + natural a.item)) (2 ^ 64 - 1) })

abbrev pub spot_in : List Block → Access → Result ℕ (Fail Trap) → Result Spot (Fail Trap)
spot_in blocks a (Err e) = Err e
spot_in blocks a (Ok k) = spot_from a k (start_in blocks a k)

-- the cell that an access reaches
abbrev pub spot : List Block → Access → Result Spot (Fail Trap)
spot blocks a =
    if is_below a.item a.field.length then spot_in blocks a (pointed a.at a.base) else Err (trapped Bounds a.at)

-- where an element is copied from and to, with the first cell in either block
abbrev pub way_to : ℕ → ℕ → ℕ → Result ℕ (Fail Trap) → Result Way (Fail Trap)
way_to from first to (Err e) = Err e
way_to from first to (Ok start) = Ok (record { from = from; first = first; to = to; start = start })

abbrev pub way_from : List Block → Access → ℕ → ℕ → Result ℕ (Fail Trap) → Result Way (Fail Trap)
way_from blocks target from to (Err e) = Err e
way_from blocks target from to (Ok first) = way_to from first to (start_in blocks target to)

abbrev pub way_behind : List Block → Access → Access → ℕ → Result ℕ (Fail Trap) → Result Way (Fail Trap)
way_behind blocks target source from (Err e) = Err e
way_behind blocks target source from (Ok to) = way_from blocks target from to (start_in blocks source from)

abbrev pub way_of : List Block → Access → Access → Result ℕ (Fail Trap) → Result Way (Fail Trap)
way_of blocks target source (Err e) = Err e
way_of blocks target source (Ok from) = way_behind blocks target source from (pointed target.at target.base)

abbrev pub way : List Block → Access → Access → Result Way (Fail Trap)
way blocks target source = way_of blocks target source (pointed source.at source.base)

-- cells with other ones in the place of so many
abbrev pub spliced : ℕ → ℕ → List Value → List Value → List Value
spliced start size new cells = take start cells ++ new ++ drop (start + size) cells

-- ---- what changes

-- one block has other cells
pub record Puts (k : ℕ) (before after : Block) (old new : Core) : Type 0 where
  pub held : slice_get old.blocks.items k ≡ Some before
  pub blocks : new.blocks.items ≡ slice_set old.blocks.items k after
  pub path : after.path ≡ before.path
  pub births : new.births ≡ old.births
  pub most : new.most ≡ old.most
  pub output : new.output.items ≡ old.output.items

-- the cells of one block are these ones of those that it had
pub record Changes (k : ℕ) (f : List Value → List Value) (old new : Core) : Type 0 where
  pub before : Block
  pub after : Block
  pub puts : Puts k before after old new
  pub cells : after.cells.items ≡ f before.cells.items

-- memory is wanted where there is no such block
abbrev pub Changed : ℕ → (List Value → List Value) → Core → Core → Result (Unit {0}) (Fail Trap) → Type 0
Changed k f old new (Ok done) = Changes k f old new
Changed k f old new (Err Memory) = Unit {0}
Changed k f old new (Err (Refused t)) = ⊥

-- a block has come at the next birth
pub record Born (b : Block) (old new : Core) : Type 0 where
  pub blocks : new.blocks.items ≡ old.blocks.items ++ b ∷ []
  pub path : b.path ≡ reverse (drop 1 old.births) ++ suc (get_or old.births 0 0) ∷ []
  pub births : new.births ≡ suc (get_or old.births 0 0) ∷ drop 1 old.births
  pub most : new.most ≡ old.most
  pub output : new.output.items ≡ old.output.items

-- the block with these cells has come, to which the answer points
pub record Bearing (cells : List Value) (old new : Core) (answer : Value) : Type 0 where
  pub block : Block
  pub born : Born block old new
  pub holds : block.cells.items ≡ cells
  pub pointer : answer ≡ value.To (length old.blocks.items)

abbrev pub Bears : List Value → Core → Core → Result Value (Fail Trap) → Type 0
Bears cells old new (Ok v) = Bearing cells old new v
Bears cells old new (Err Memory) = Unit {0}
Bears cells old new (Err (Refused t)) = ⊥

-- ---- values

abbrev pub number_of : Value → ℤ
number_of (value.Int n) = n
number_of value.Null = pos 0
number_of (value.To k) = pos 0

-- what a cell is at first
abbrev pub first_of : Bool → Value
first_of pointer = if pointer then value.Null else value.Int (pos 0)

-- an answer is put among the values
abbrev pub Gave : Result Value (Fail Trap) → (old new : List Value) → Result (Unit {0}) (Fail Trap) → Type 0
Gave (Ok v) old new (Ok done) = new ≡ v ∷ old
Gave (Err e) old new (Ok done) = ⊥
Gave answer old new (Err Memory) = Unit {0}
Gave (Ok v) old new (Err (Refused t)) = ⊥
Gave (Err e) old new (Err (Refused t)) = e ≡ Refused t

-- none is a division by 0
abbrev pub divided : Span → Option Value → Result Value (Fail Trap)
divided at None = Err (trapped DivZero at)
divided at (Some v) = Ok v
