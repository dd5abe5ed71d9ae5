-- The steps that both sides make: none returns from the activation, and none makes ticks.
use Rattle.std.proofs.Common.{ℕ, Bool, true, false, List, arith, Option, Some, None, get_or, slice_set, length}
use Rattle.ec_base.specs.declared.token.Span.{Span}
use Rattle.ec_base.specs.declared.trap.TrapKind.TheVariants as kind
use Rattle.ec_base.specs.declared.trap.TrapKind.{TrapKind}
use Rattle.ec_simple.proofs.lockstep.Alike.{Steady}
use Rattle.ec_simple.proofs.lockstep.Together.{IsSteady}
use Rattle.ec_types.specs.Meaning.Evaluation.{divided, print}
use Rattle.ec_types.specs.Meaning.Memory.{Access, is_count, times, check, through, in_block, reach, put, load, save, copy, shared, add, allocate, born, cells_at, is_within, is_below, cell, sum, element, with_element}
use Rattle.ec_types.specs.Meaning.State.{Core, With, Returns, Traps, Going, Out, Does, and_then, ◌>>=◌, pure}
use Rattle.ec_types.specs.Meaning.Values.{Path, Val, Num, Null, To, zero_value, number}

pub pure_steady : {A : Type 0} (a : A) → IsSteady (pure a)
pure_steady a c r = omega arith

pub divided_steady : (at : Span) (o : Option Val) → IsSteady (divided at o)
divided_steady at None c r = omega arith
divided_steady at (Some v) c r = omega arith

pub print_steady : (bytes : List ℕ) → IsSteady (print bytes)
print_steady bytes c r = omega arith

pub born_steady : (cells : List Val) → IsSteady (born cells)
born_steady cells c r = omega arith

check_steady : {A : Type 0} (b : Bool) (kind : TrapKind) (at : Span) (d : Does A) (c : Core) (r : ℕ) →
    Steady r (d c r) → Steady r (check b kind at d c r)
check_steady true kind at d c r h = h
check_steady false kind at d c r h = omega arith

through_steady : {A : Type 0} (at : Span) (v : Val) (f : Path → Does A) → ((p : Path) → IsSteady (f p)) →
    IsSteady (through at v f)
through_steady at (Num n) f h c r = omega arith
through_steady at Null f h c r = omega arith
through_steady at (To p) f h c r = h p c r

in_block_steady : {A : Type 0} (a : Access) (p : Path) (f : List Val → Does A) →
    ((cells : List Val) → IsSteady (f cells)) → IsSteady (in_block a p f)
in_block_steady a p f h c r =
    check_steady (is_within a.index a.size (cells_at p c)) _ a.at (f (cells_at p c)) c r (h (cells_at p c) c r)

reach_steady : {A : Type 0} (a : Access) (f : Path → List Val → Does A) →
    ((p : Path) (cells : List Val) → IsSteady (f p cells)) → IsSteady (reach a f)
reach_steady a f h c r =
    check_steady (is_below a.item a.length) _ a.at (through a.at a.base (λ p. in_block a p (f p))) c r
    (through_steady a.at a.base (λ p. in_block a p (f p)) (λ p. in_block_steady a p (f p) (h p)) c r)

pub load_steady : (a : Access) → IsSteady (load a)
load_steady a = reach_steady a (λ p cells. pure (get_or cells (cell a) zero_value)) (λ p cells c r. omega arith)

pub save_steady : (a : Access) (v : Val) → IsSteady (save a v)
save_steady a v = reach_steady a (λ p cells. put p (slice_set cells (cell a) v)) (λ p cells c r. omega arith)

pub copy_steady : (target source : Access) → IsSteady (copy target source)
copy_steady target source =
    through_steady source.at source.base _ (λ p. through_steady target.at target.base _ (λ q. blocks p q))
  where
    blocks : (p q : Path) →
        IsSteady (in_block source p (λ from. in_block target q (λ to. put q (with_element target (element source from) to))))
    blocks p q =
        in_block_steady source p (λ from. in_block target q (λ to. put q (with_element target (element source from) to)))
        (λ from. in_block_steady target q (λ to. put q (with_element target (element source from) to)) (λ to c r. omega arith))

pub allocate_steady : (at : Span) (cells : List Val) (count : Val) → IsSteady (allocate at cells count)
allocate_steady at cells count c r = go (is_count (number count) (length cells))
  where
    go : (b : Bool) → Steady r (check b kind.BadSize at (born (times (number count) cells)) c r)
    go true = omega arith
    go false = omega arith

then_steady : {A B : Type 0} (d : Does A) (f : A → Does B) → IsSteady d → ((a : A) → IsSteady (f a)) →
    IsSteady (d >>= f)
then_steady {A} {B} d f h i c r = go (d c r) (h c r)
  where
    go : (x : Out A) → Steady r x → Steady r (and_then x f)
    go (With a, e, q) s = more (f a e q) (i a e q)
      where
        more : (y : Out B) → Steady q y → Steady r y
        more (With b, e, p) t = omega (arith, s, t)
        more (Returns v, e, p) t = t
        more (Traps u, e, p) t = omega (arith, s, t)
        more (Going, e, p) t = omega (arith, s, t)
    go (Returns v, e, q) s = absurd s
    go (Traps t, e, q) s = s
    go (Going, e, q) s = s

pub add_steady : (at : Span) (to v : Val) → IsSteady (add at to v)
add_steady at to v =
    then_steady (load (shared at to)) (λ u. save (shared at to) (sum u v)) (load_steady (shared at to)) (λ u. save_steady (shared at to) (sum u v))
