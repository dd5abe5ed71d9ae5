-- Steps that take no tick: memory, printing, and values that are there.
use Rattle.std.proofs.Common.{◌≡◌, refl, ℕ, Bool, true, false, if◌then◌else◌, List, length, get_or, slice_set, Option, Some, None}
use Rattle.ec_base.specs.declared.token.Span.{Span}
use Rattle.ec_base.specs.declared.trap.TrapKind.{TrapKind}
use Rattle.ec_base.specs.declared.trap.TrapKind.TheVariants as kind
use Rattle.ec_types.specs.Meaning.Values.{Path, Val, Num, Null, To, zero_value, number}
use Rattle.ec_types.specs.Meaning.State.{Core, Ends, With, Returns, Traps, Going, Does, pure, trap, give_back, next_path}
use Rattle.ec_types.specs.Meaning.Memory.{cells_at, born, times, is_count, allocate, Access, is_below, is_within, cell, check, through, in_block, reach, put, load, save, element, with_element, copy}
use Rattle.ec_types.specs.Meaning.Evaluation.{divided, print}
use Rattle.ec_types.proofs.meaning.Growth.{Grows, grows_refl, grows_printed}

abbrev pub IsOver : {A : Type 0} → Ends A → Type 0
IsOver (With a) = Unit {0}
IsOver (Returns v) = Unit {0}
IsOver (Traps t) = Unit {0}
IsOver Going = ⊥

-- it takes no tick, always comes to an end, only adds to what is shared, and stays in its activation
pub record Step {A : Type 0} (d : Does A) (c : Core) : Type 0 where
  pub end : Ends A
  pub core : Core
  pub is : (r : ℕ) → d c r ≡ (end, core, r)
  pub over : IsOver end
  pub grows : Grows c core
  pub stays : core.path ≡ c.path

-- ---- single steps

pub pure_step : {A : Type 0} (a : A) (c : Core) → Step (pure a) c
pure_step a c = record { end = With a; core = c; is = λ r. refl; over = tt; grows = grows_refl c; stays = refl }

pub give_back_step : {A : Type 0} (v : Val) (c : Core) → Step (give_back {A = A} v) c
give_back_step v c = record { end = Returns v; core = c; is = λ r. refl; over = tt; grows = grows_refl c; stays = refl }

trap_step : {A : Type 0} (kind : TrapKind) (at : Span) (c : Core) → Step (trap {A = A} kind at) c
trap_step kind at c = record { end = Traps _; core = c; is = λ r. refl; over = tt; grows = grows_refl c; stays = refl }

pub divided_step : (at : Span) (o : Option Val) (c : Core) → Step (divided at o) c
divided_step at None c = trap_step kind.DivZero at c
divided_step at (Some v) c = pure_step v c

pub print_step : (bytes : List ℕ) (c : Core) → Step (print bytes) c
print_step bytes c =
    record { end = With tt; core = _; is = λ r. refl; over = tt; grows = grows_printed c bytes; stays = refl }

-- ---- memory

put_step : (p : Path) (cells : List Val) (c : Core) → Step (put p cells) c
put_step p cells c =
    record { end = With tt; core = _; is = λ r. refl; over = tt; grows = grows_refl c; stays = refl }

pub born_step : (cells : List Val) (c : Core) → Step (born cells) c
born_step cells c =
    record { end = With (To (next_path c)); core = _; is = λ r. refl; over = tt; grows = grows_refl c; stays = refl }

either_step : {A : Type 0} (b : Bool) (d e : Does A) (c : Core) → Step d c → Step e c → Step (if b then d else e) c
either_step true d e c s t = s
either_step false d e c s t = t

pub allocate_step : (at : Span) (element : List Val) (count : Val) (c : Core) → Step (allocate at element count) c
allocate_step at element count c =
    let cells = times (number count) element in
    either_step (is_count (number count) (length element)) (born cells) (trap kind.BadSize at) c
    (born_step cells c) (trap_step kind.BadSize at c)

-- ---- accesses

module _ {A : Type 0} where
  check_step :
      (test : Bool) (kind : TrapKind) (at : Span) (d : Does A) (c : Core) → Step d c → Step (check test kind at d) c
  check_step test kind at d c s = either_step test d (trap kind at) c s (trap_step kind at c)

  through_step :
      (at : Span) (v : Val) (f : Path → Does A) (c : Core) → ((p : Path) → Step (f p) c) → Step (through at v f) c
  through_step at (Num n) f c s = trap_step kind.Null at c
  through_step at Null f c s = trap_step kind.Null at c
  through_step at (To p) f c s = s p

  in_block_step :
      (a : Access) (p : Path) (f : List Val → Does A) (c : Core) →
      ((cells : List Val) → Step (f cells) c) → Step (in_block a p f) c
  in_block_step a p f c s =
      let cells = cells_at p c in
      let t = check_step (is_within a.index a.size cells) kind.Bounds a.at (f cells) c (s cells) in
      record { end = t.end; core = t.core; is = t.is; over = t.over; grows = t.grows; stays = t.stays }

  reach_step :
      (a : Access) (f : Path → List Val → Does A) (c : Core) →
      ((p : Path) (cells : List Val) → Step (f p cells) c) → Step (reach a f) c
  reach_step a f c s =
      check_step (is_below a.item a.length) kind.Bounds a.at (through a.at a.base (λ p. in_block a p (f p))) c
      (through_step a.at a.base (λ p. in_block a p (f p)) c (λ p. in_block_step a p (f p) c (s p)))

pub load_step : (a : Access) (c : Core) → Step (load a) c
load_step a c = reach_step a (λ p cells. pure (get_or cells (cell a) zero_value)) c (λ p cells. pure_step _ c)

pub save_step : (a : Access) (v : Val) (c : Core) → Step (save a v) c
save_step a v c =
    reach_step a (λ p cells. put p (slice_set cells (cell a) v)) c
    (λ p cells. put_step p (slice_set cells (cell a) v) c)

pub copy_step : (target source : Access) (c : Core) → Step (copy target source) c
copy_step target source c =
    through_step source.at source.base _ c (λ p. through_step target.at target.base _ c (λ q.
    in_block_step source p _ c (λ from. in_block_step target q _ c (λ to.
    put_step q (with_element target (element source from) to) c))))
