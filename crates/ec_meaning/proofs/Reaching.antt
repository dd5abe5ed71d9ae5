-- What an access reaches by the definitions is what it reaches among the code's blocks.
use Rattle.std.proofs.Common.{◌≡◌, refl, sym, ap, ◌∙◌, ℕ, suc, ◌+◌, ◌*◌, ◌-◌, ◌^◌, ◌<◌, ◌≤◌, Bool, true, false, if◌then◌else◌, List, map, length, drop, get_or, Option, Some, None, option_map, Result, Ok, Err, ℤ, pos, negsuc, min, nat_le, inl, inr, arith}
use Rattle.std.specs.Prelude.{slice_get, slice_set}
use Rattle.std.proofs.lemmas.Option.{same_Some}
use Rattle.std.proofs.lemmas.Bool.{leb-true, cases_lt}
use Rattle.std.proofs.lemmas.List.{get_or_past, length-map, map-set}
use Rattle.std.proofs.Math.ListN.{get_or-map}
use Rattle.std.proofs.Math.Seq.{set_out}
use Rattle.std.proofs.Math.Nat.{suc-mul}
use Rattle.ec_base.specs.declared.fail.Fail.{Fail}
use Rattle.ec_base.specs.declared.fail.Fail.TheVariants.{Memory, Refused}
use Rattle.ec_base.specs.declared.trap.Trap.{Trap}
use Rattle.ec_base.specs.declared.trap.TrapKind.TheVariants.{Bounds}
use Rattle.ec_types.specs.Meaning.Values.{Path, Val, zero_value}
use Rattle.ec_types.specs.Meaning.State as state
use Rattle.ec_types.specs.Meaning.State.{Out, Does, Traps, Going, With, trap}
use Rattle.ec_types.specs.Meaning.Memory as memory
use Rattle.ec_meaning.specs.declared.value.Value.{Value}
use Rattle.ec_meaning.specs.declared.value.Value.TheVariants.{Int, Null, To}
use Rattle.ec_meaning.specs.declared.value.Block.{Block}
use Rattle.ec_meaning.specs.declared.value.Access.{Access}
use Rattle.ec_meaning.specs.declared.shared_state.Core.{Core}
use Rattle.ec_meaning.specs.declared.memory.Spot.{Spot}
use Rattle.ec_meaning.specs.Reached.{trapped, cells_of, cells_in, pointed, first_cell, or_bounds, spot_from, spot_in, spot, Changes, Changed}
use Rattle.ec_meaning.specs.Kept.{Kept}
use Rattle.ec_meaning.specs.Seen.{Untold, Tells, Performs, val, access, cells, core}
use Rattle.ec_meaning.proofs.Blocks.{store_numbered, puts, puts_tells, paths_put}
use Rattle.ec_meaning.proofs.Order.{InOrder-same}

-- ---- tests

pub if_is_within :
    {A : Type 0} (f : Value → Val) (i : ℤ) (size : ℕ) (cells : List Value) (x y : A) →
    (if memory.is_within i size (map f cells) then x else y) ≡
    (elim (first_cell i size (length cells)) [ None ↦ y | Some start ↦ x ])
if_is_within f (negsuc i) size cells x y = refl
if_is_within f (pos i) size cells x y = rw (length-map cells f) (tested (nat_le (suc i * size) (length cells)))
  where
    tested : (b : Bool) →
        (if b then x else y) ≡ (elim (if b then Some (i * size) else None) [ None ↦ y | Some start ↦ x ])
    tested true = refl
    tested false = refl

-- the first cell of an element, which lies within so many cells
pub first_cell_is :
    (i : ℤ) (size count start : ℕ) → first_cell i size count ≡ Some start →
    (start ≡ memory.natural i * size) × (start + size ≤ count)
first_cell_is (negsuc i) size count start e = cc
first_cell_is (pos i) size count start e = tested (nat_le (suc i * size) count) refl e
  where
    tested : (b : Bool) → b ≡ nat_le (suc i * size) count → (if b then Some (i * size) else None) ≡ Some start →
        (start ≡ i * size) × (start + size ≤ count)
    tested false w e = cc
    tested true w e =
        let is : i * size ≡ start = same_Some (i * size) start e in
        let within : suc i * size ≤ count = leb-true (suc i * size) count (sym w) in
        (sym is, omega (arith, suc-mul i size))

-- no cell stands at the greatest number of 64 bits
pub get_or_capped :
    {A : Type 0} (xs : List A) (n : ℕ) (d : A) → length xs < 2 ^ 64 → get_or xs (min n (2 ^ 64 - 1)) d ≡ get_or xs n d
get_or_capped xs n d room = elim (cases_lt n (2 ^ 64)) [ inl h ↦ ap (λ m. get_or xs m d) (omega arith) | inr h ↦ past h ]
  where
    past : 2 ^ 64 ≤ n → get_or xs (min n (2 ^ 64 - 1)) d ≡ get_or xs n d
    past h = get_or_past xs (min n (2 ^ 64 - 1)) d (omega arith) ∙ sym (get_or_past xs n d (omega arith))

-- ---- what is reached

module _ (u : Untold) (c : Core) (t : Tells u c) where
  cells_at_number : (k : ℕ) → memory.cells_at (u.paths k) (core u c) ≡ map (val u) (cells_in c.blocks.items k)
  cells_at_number k = ap memory.cells_of (store_numbered u c t k) ∙ of (slice_get c.blocks.items k)
    where
      of : (o : Option Block) → memory.cells_of (option_map (cells u) o) ≡ map (val u) (cells_of o)
      of None = refl
      of (Some b) = refl

  -- what follows where an element lies within a block, otherwise a trap
  abbrev pub bounded : {A : Type 0} → Access → ℕ → Option ℕ → Out A → Out A
  bounded a r None out = trap Bounds a.at (core u c) r
  bounded a r (Some start) out = out

  pub in_block_is :
      {A : Type 0} (a : Access) (k : ℕ) (g : List Val → Does A) (r : ℕ) →
      memory.in_block (access u a) (u.paths k) g (core u c) r ≡
      bounded a r (first_cell a.index a.size (length (cells_in c.blocks.items k)))
      (g (map (val u) (cells_in c.blocks.items k)) (core u c) r)
  in_block_is {A} a k g r =
      rw (cells_at_number k)
      (ap (λ d. d (core u c) r)
      (if_is_within (val u) a.index a.size (cells_in c.blocks.items k) (g (map (val u) (cells_in c.blocks.items k))) (trap Bounds a.at))
      ∙ applied (first_cell a.index a.size (length (cells_in c.blocks.items k))))
    where
      applied : (o : Option ℕ) →
          (let d : Does A = elim o [ None ↦ trap Bounds a.at | Some start ↦ g (map (val u) (cells_in c.blocks.items k)) ] in d (core u c) r) ≡
          bounded a r o (g (map (val u) (cells_in c.blocks.items k)) (core u c) r)
      applied None = refl
      applied (Some start) = refl

  -- what follows at a cell, otherwise a trap
  abbrev pub on_spot : {A : Type 0} → ℕ → Result Spot (Fail Trap) → (Spot → Out A) → Out A
  on_spot r (Ok s) g = g s
  on_spot r (Err (Refused t)) g = (Traps t, core u c, r)
  on_spot r (Err Memory) g = (Going, core u c, r)

  module _ {A : Type 0} (a : Access) (f : Path → List Val → Does A) (r : ℕ) where
    -- what is done at a cell
    abbrev pub done_at : Spot → Out A
    done_at s = f (u.paths s.block) (map (val u) (cells_in c.blocks.items s.block)) (core u c) r

    spotted : (k : ℕ) (o : Option ℕ) →
        bounded a r o (f (u.paths k) (map (val u) (cells_in c.blocks.items k)) (core u c) r) ≡
        on_spot r (spot_from a k (or_bounds a.at o)) done_at
    spotted k None = refl
    spotted k (Some start) = refl

    tested : (b : Bool) (v : Value) →
        memory.check b Bounds a.at (memory.through a.at (val u v) (λ p. memory.in_block (access u a) p (f p))) (core u c) r ≡
        on_spot r (if b then spot_in c.blocks.items a (pointed a.at v) else Err (trapped Bounds a.at)) done_at
    tested false v = refl
    tested true (Int n) = refl
    tested true Null = refl
    tested true (To k) =
        in_block_is a k (f (u.paths k)) r ∙ spotted k (first_cell a.index a.size (length (cells_in c.blocks.items k)))

    pub reach_is : memory.reach (access u a) f (core u c) r ≡ on_spot r (spot c.blocks.items a) done_at
    reach_is = tested (memory.is_below a.item a.field.length) a.base

    pub reach_refused :
        {B : Type 0} (h : B → A) (e : Fail Trap) →
        spot c.blocks.items a ≡ Err e → Performs h (Err e) (memory.reach (access u a) f (core u c) r) (core u c) r
    reach_refused h Memory is = tt
    reach_refused h (Refused t) is = reach_is ∙ ap (λ x. on_spot r x done_at) is

    pub reach_done : (s : Spot) → spot c.blocks.items a ≡ Ok s → memory.reach (access u a) f (core u c) r ≡ done_at s
    reach_done s is = reach_is ∙ ap (λ x. on_spot r x done_at) is

  -- a cell is that of the access, unless no block has so many
  pub spot_cell :
      (a : Access) (s : Spot) → spot c.blocks.items a ≡ Ok s → s.cell ≡ min (memory.cell (access u a)) (2 ^ 64 - 1)
  spot_cell a s = tested (memory.is_below a.item a.field.length) a.base
    where
      spotted : (k : ℕ) (o : Option ℕ) → first_cell a.index a.size (length (cells_in c.blocks.items k)) ≡ o →
          spot_from a k (or_bounds a.at o) ≡ Ok s → s.cell ≡ min (memory.cell (access u a)) (2 ^ 64 - 1)
      spotted k None is e = cc
      spotted k (Some start) is e =
          let first : (start ≡ memory.natural a.index * a.size) × (start + a.size ≤ length (cells_in c.blocks.items k)) =
          first_cell_is a.index a.size (length (cells_in c.blocks.items k)) start is in
          let sum : start + (a.field.first + memory.natural a.item) ≡ memory.cell (access u a) = omega (arith, first.0) in
          let same_spot : record { block = k; cell = min (start + (a.field.first + memory.natural a.item)) (2 ^ 64 - 1) } ≡ s = cc in
          sym (ap (λ (x : Spot). x.cell) same_spot) ∙ ap (λ n. min n (2 ^ 64 - 1)) sum

      tested : (b : Bool) (v : Value) →
          (if b then spot_in c.blocks.items a (pointed a.at v) else Err (trapped Bounds a.at)) ≡ Ok s →
          s.cell ≡ min (memory.cell (access u a)) (2 ^ 64 - 1)
      tested false v e = cc
      tested true (Int n) e = cc
      tested true Null e = cc
      tested true (To k) e = spotted k (first_cell a.index a.size (length (cells_in c.blocks.items k))) refl e

  -- ---- loads

  pub load_done :
      (a : Access) (r : ℕ) (s : Spot) → spot c.blocks.items a ≡ Ok s → length (cells_in c.blocks.items s.block) < 2 ^ 64 →
      (v : Value) → v ≡ get_or (cells_in c.blocks.items s.block) s.cell (Int (pos 0)) →
      memory.load (access u a) (core u c) r ≡ (With (val u v), core u c, r)
  load_done a r s is room v value =
      reach_done a (λ p cells. state.pure (get_or cells (memory.cell (access u a)) zero_value)) r s is
      ∙ ap (λ (w : Val). let out : Out Val = (With w, core u c, r) in out)
      (get_or-map (val u) (cells_in c.blocks.items s.block) (memory.cell (access u a)) (Int (pos 0))
      ∙ ap (val u)
      (sym (get_or_capped (cells_in c.blocks.items s.block) (memory.cell (access u a)) (Int (pos 0)) room)
      ∙ ap (λ n. get_or (cells_in c.blocks.items s.block) n (Int (pos 0))) (sym (spot_cell a s is))
      ∙ sym value))

-- ---- changes

module _ (u : Untold) (k : ℕ) (f : List Value → List Value) (old new : Core) where
  pub changed_tells : Changes k f old new → Tells u new → Tells u old
  changed_tells ch = puts_tells u k ch.before ch.after old new ch.puts

  pub put_done :
      Changes k f old new → Tells u new → (r : ℕ) (after : List Val) → map (val u) (f (cells_in old.blocks.items k)) ≡ after →
      memory.put (u.paths k) after (core u old) r ≡ (With tt, core u new, r)
  put_done ch t r after is =
      ap (λ c. let out : Out (Unit {0}) = (With tt, c, r) in out)
      (ap (λ cs. memory.put_block (u.paths k) cs (core u old)) (sym is ∙ ap (map (val u)) (ap f held ∙ sym ch.cells))
      ∙ sym (puts u k ch.before ch.after old new ch.puts t))
    where
      held : cells_in old.blocks.items k ≡ ch.before.cells.items
      held = ap cells_of ch.puts.held

pub changed_kept :
    (k : ℕ) (f : List Value → List Value) (old new : Core) (result : Result (Unit {0}) (Fail Trap)) →
    Changed k f old new result → Kept result old new
changed_kept k f old new (Ok done) ch = record {
  tells = λ u t. changed_tells u k f old new ch t;
  above = ap (drop 1) ch.puts.births;
  open_ones = λ h. ap length ch.puts.births;
  most = ch.puts.most;
  ordered = λ o. InOrder-same old new o ch.puts.births (paths_put k ch.before ch.after old new ch.puts);
}
changed_kept k f old new (Err Memory) ch = tt
changed_kept k f old new (Err (Refused x)) ch = absurd ch

pub set_capped :
    {A : Type 0} (xs : List A) (n : ℕ) (v : A) → length xs < 2 ^ 64 → slice_set xs (min n (2 ^ 64 - 1)) v ≡ slice_set xs n v
set_capped xs n v room = elim (cases_lt n (2 ^ 64)) [ inl h ↦ ap (λ m. slice_set xs m v) (omega arith) | inr h ↦ past h ]
  where
    past : 2 ^ 64 ≤ n → slice_set xs (min n (2 ^ 64 - 1)) v ≡ slice_set xs n v
    past h = set_out xs (min n (2 ^ 64 - 1)) v (omega arith) ∙ sym (set_out xs n v (omega arith))

pub save_done :
    (u : Untold) (old new : Core) (a : Access) (r : ℕ) (s : Spot) → spot old.blocks.items a ≡ Ok s →
    length (cells_in old.blocks.items s.block) < 2 ^ 64 → (v : Value) (result : Result (Unit {0}) (Fail Trap)) →
    Changed s.block (λ cells. slice_set cells s.cell v) old new result → Tells u new →
    Performs (λ done. done) result (memory.save (access u a) (val u v) (core u old) r) (core u new) r
save_done u old new a r s is room v (Ok done) ch t =
    let before : Tells u old = changed_tells u s.block (λ cells. slice_set cells s.cell v) old new ch t in
    reach_done u old before a (λ p cells. memory.put p (slice_set cells (memory.cell (access u a)) (val u v))) r s is
    ∙ put_done u s.block (λ cells. slice_set cells s.cell v) old new ch t r
    (slice_set (map (val u) (cells_in old.blocks.items s.block)) (memory.cell (access u a)) (val u v))
    (ap (map (val u)) (ap (λ n. slice_set (cells_in old.blocks.items s.block) n v) (spot_cell u old before a s is)
    ∙ set_capped (cells_in old.blocks.items s.block) (memory.cell (access u a)) v room)
    ∙ map-set (val u) (cells_in old.blocks.items s.block) (memory.cell (access u a)) v)
save_done u old new a r s is room v (Err Memory) ch t = tt
save_done u old new a r s is room v (Err (Refused x)) ch t = absurd ch
