-- Memory: blocks of cells by birth paths, and accesses to them.
use Rattle.std.specs.Prelude.{ℕ, zero, suc, ◌+◌, ◌*◌, Bool, false, ◌&&◌, if◌then◌else◌, nat_lt, nat_le, List, [], ◌++◌, length, take, drop, get_or, slice_set, Option, Some, None, ℤ, pos, negsuc}
use Rattle.std.specs.Int.{w64, int_wrapping_add}
use Rattle.ec_base.specs.Words.{same}
use Rattle.ec_base.specs.declared.limits.TheConstants.{MAX_BLOCK}
use Rattle.ec_base.specs.declared.token.Span.{Span}
use Rattle.ec_base.specs.declared.trap.TrapKind.{TrapKind}
use Rattle.ec_base.specs.declared.trap.TrapKind.TheVariants as kind
use Rattle.ec_types.specs.Meaning.Values.{Path, Val, Num, Null, To, zero_value, number}
use Rattle.ec_types.specs.Meaning.State.{Core, Does, ◌>>=◌, pure, trap, With, next_path}

-- ---- blocks

abbrev pub cells_of : Option (List Val) → List Val
cells_of None = []
cells_of (Some cells) = cells

abbrev pub cells_at : Path → Core → List Val
cells_at p c = cells_of (c.store p)

abbrev pub put_block : Path → List Val → Core → Core
put_block p cells c = record c { store = λ q. if same q p then Some cells else c.store q }

-- a block at the next birth
abbrev pub born : List Val → Does Val
born cells = λ c r. (With (To (next_path c)), put_block (next_path c) cells (record c { births = suc c.births }), r)

abbrev pub repeated : ℕ → List Val → List Val
repeated zero element = []
repeated (suc n) element = element ++ repeated n element

-- at least one element, and no more cells than the limit
abbrev pub is_count : ℤ → ℕ → Bool
is_count (pos n) size = nat_lt 0 n && nat_le (n * size) MAX_BLOCK
is_count (negsuc n) size = false

abbrev pub times : ℤ → List Val → List Val
times (pos n) element = repeated n element
times (negsuc n) element = []

-- a block of so many elements
abbrev pub allocate : Span → List Val → Val → Does Val
allocate at element count =
    if is_count (number count) (length element) then born (times (number count) element) else trap kind.BadSize at

-- ---- accesses

-- An access: where it stands, the pointer, the index of the element, the cells of an element, the field's first cell, and
-- the array field's length with the index there; where there is no array these are 1 and 0.
pub record Access : Type 0 where
  pub at : Span
  pub base : Val
  pub index : ℤ
  pub size : ℕ
  pub first : ℕ
  pub item : ℤ
  pub length : ℕ

abbrev pub is_below : ℤ → ℕ → Bool
is_below (pos i) n = nat_lt i n
is_below (negsuc i) n = false

-- whether the element lies within the block
abbrev pub is_within : ℤ → ℕ → List Val → Bool
is_within (pos i) size cells = nat_le (suc i * size) (length cells)
is_within (negsuc i) size cells = false

abbrev pub natural : ℤ → ℕ
natural (pos n) = n
natural (negsuc n) = 0

-- the first cell of the element, and the cell of the access
abbrev pub start : Access → ℕ
start a = natural a.index * a.size

abbrev pub cell : Access → ℕ
cell a = start a + a.first + natural a.item

-- it traps unless the test holds
abbrev pub check : {A : Type 0} → Bool → TrapKind → Span → Does A → Does A
check test kind at d = if test then d else trap kind at

abbrev pub through : {A : Type 0} → Span → Val → (Path → Does A) → Does A
through at (Num n) f = trap kind.Null at
through at Null f = trap kind.Null at
through at (To p) f = f p

-- what is done with the cells of a block, where the element lies within it
abbrev pub in_block : {A : Type 0} → Access → Path → (List Val → Does A) → Does A
in_block a p f = λ c r. check (is_within a.index a.size (cells_at p c)) kind.Bounds a.at (f (cells_at p c)) c r

-- the array's index is looked at first, then the pointer, then the element's index
abbrev pub reach : {A : Type 0} → Access → (Path → List Val → Does A) → Does A
reach a f = check (is_below a.item a.length) kind.Bounds a.at (through a.at a.base (λ p. in_block a p (f p)))

abbrev pub put : Path → List Val → Does (Unit {0})
put p cells = λ c r. (With tt, put_block p cells c, r)

abbrev pub load : Access → Does Val
load a = reach a (λ p cells. pure (get_or cells (cell a) zero_value))

abbrev pub save : Access → Val → Does (Unit {0})
save a v = reach a (λ p cells. put p (slice_set cells (cell a) v))

-- ---- struct copies

abbrev pub element : Access → List Val → List Val
element a cells = take a.size (drop (start a) cells)

abbrev pub with_element : Access → List Val → List Val → List Val
with_element a new cells = take (start a) cells ++ new ++ drop (start a + a.size) cells

-- NULL of the source, NULL of the target, the source's index, and then the target's
abbrev pub copy : Access → Access → Does (Unit {0})
copy target source =
    through source.at source.base (λ p. through target.at target.base (λ q.
    in_block source p (λ from. in_block target q (λ to. put q (with_element target (element source from) to)))))

-- ---- shared variables: blocks of one cell

abbrev pub shared : Span → Val → Access
shared at v = record { at = at; base = v; index = pos 0; size = 1; first = 0; item = pos 0; length = 1 }

abbrev pub sum : Val → Val → Val
sum a b = Num (int_wrapping_add w64 (number a) (number b))

abbrev pub add : Span → Val → Val → Does (Unit {0})
add at to v = load (shared at to) >>= (λ u. save (shared at to) (sum u v))
