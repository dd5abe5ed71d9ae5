-- Blocks by their numbers, and by the paths for which these stand.
use Rattle.std.proofs.Common.{◌≡◌, refl, sym, ap, ◌∙◌, ℕ, zero, suc, Bool, true, false, if◌then◌else◌, cond, List, [], ◌∷◌, ◌++◌, length, Option, Some, option_map, arith}
use Rattle.std.specs.Prelude.{find, slice_get, slice_set}
use Rattle.std.proofs.Math.Path.{fun_ext}
use Rattle.std.proofs.lemmas.Option.{same_Some, none-some}
use Rattle.std.specs.Cmp.Lexicographic.{same_text, other_text}
use Rattle.ec_base.specs.Words.{same}
use Rattle.ec_types.specs.Meaning.Values.{Path, Val}
use Rattle.ec_types.specs.Meaning.State as state
use Rattle.ec_types.specs.Meaning.State.{Out, With, next_path, trap}
use Rattle.ec_types.specs.Meaning.Memory.{put_block}
use Rattle.ec_meaning.specs.declared.value.Block.{Block}
use Rattle.ec_meaning.specs.declared.shared_state.Core.{Core}
use Rattle.ec_meaning.specs.Order.{paths}
use Rattle.ec_meaning.specs.Reached.{Puts}
use Rattle.ec_meaning.specs.Seen.{Untold, Tells, cells, store, core}

-- ---- paths that are the same

pub same_itself : (p : Path) → same p p ≡ true
same_itself p = decided (same p p) refl
  where
    decided : (b : Bool) → b ≡ same p p → same p p ≡ true
    decided true e = sym e
    decided false e = absurd (other_text p p e refl)

pub unlike : (p q : Path) → (p ≡ q → ⊥) → same p q ≡ false
unlike p q h = decided (same p q) refl
  where
    decided : (b : Bool) → b ≡ same p q → same p q ≡ false
    decided true e = absurd (h (same_text p q e))
    decided false e = sym e

-- ---- a block that is found

abbrev pub has_path : Path → Block → Bool
has_path p b = same b.path p

pub find_numbered :
    (paths : ℕ → Path) (blocks : List Block) →
    ((k : ℕ) (b : Block) → slice_get blocks k ≡ Some b → paths k ≡ b.path) → ((i j : ℕ) → paths i ≡ paths j → i ≡ j) →
    (k : ℕ) → find (has_path (paths k)) blocks ≡ slice_get blocks k
find_numbered paths [] of apart k = refl
find_numbered paths (b ∷ bs) of apart zero = rw (of 0 b refl, same_itself b.path) refl
find_numbered paths (b ∷ bs) of apart (suc k) =
    rw (unlike b.path (paths (suc k)) (λ e. absurd (omega (arith, apart 0 (suc k) (of 0 b refl ∙ e)))))
    (find_numbered (λ i. paths (suc i)) bs (λ i c e. of (suc i) c e)
    (λ i j e. (let p : suc i ≡ suc j = apart (suc i) (suc j) e in omega arith)) k)

pub find_set :
    (blocks : List Block) (k : ℕ) (before after : Block) (q : Path) →
    slice_get blocks k ≡ Some before → after.path ≡ before.path → same before.path q ≡ false →
    find (has_path q) (slice_set blocks k after) ≡ find (has_path q) blocks
find_set [] k before after q e p h = absurd (none-some before e)
find_set (b ∷ bs) zero before after q e p h =
    let same_block : b ≡ before = same_Some b before e in
    rw (p, same_block, h) refl
find_set (b ∷ bs) (suc k) before after q e p h =
    ap (λ r. cond (has_path q b) (Some b) r) (find_set bs k before after q e p h)

pub find_pushed :
    (blocks : List Block) (b : Block) (q : Path) → same b.path q ≡ false →
    find (has_path q) (blocks ++ b ∷ []) ≡ find (has_path q) blocks
find_pushed [] b q h = rw h refl
find_pushed (x ∷ xs) b q h = ap (λ r. cond (has_path q x) (Some x) r) (find_pushed xs b q h)

-- ---- blocks by their numbers

pub got_set : (blocks : List Block) (k : ℕ) (before after : Block) →
    slice_get blocks k ≡ Some before → slice_get (slice_set blocks k after) k ≡ Some after
got_set [] k before after e = absurd (none-some before e)
got_set (b ∷ bs) zero before after e = refl
got_set (b ∷ bs) (suc k) before after e = got_set bs k before after e

-- where a block with the path of this one stands
abbrev Stands : List Block → ℕ → Block → Type 0
Stands blocks k b = (held : Block) × (slice_get blocks k ≡ Some held) × (held.path ≡ b.path)

pub stands_set : (blocks : List Block) (k : ℕ) (before after : Block) →
    slice_get blocks k ≡ Some before → after.path ≡ before.path →
    (j : ℕ) (b : Block) → slice_get blocks j ≡ Some b → Stands (slice_set blocks k after) j b
stands_set [] k before after e p j b f = absurd (none-some before e)
stands_set (x ∷ xs) zero before after e p zero b f =
    (after, refl, p ∙ ap (λ y. y.path) (sym (same_Some x before e) ∙ same_Some x b f))
stands_set (x ∷ xs) zero before after e p (suc j) b f = (b, f, refl)
stands_set (x ∷ xs) (suc k) before after e p zero b f = (b, f, refl)
stands_set (x ∷ xs) (suc k) before after e p (suc j) b f = stands_set xs k before after e p j b f

pub got_pushed : (blocks : List Block) (b : Block) → slice_get (blocks ++ b ∷ []) (length blocks) ≡ Some b
got_pushed [] b = refl
got_pushed (x ∷ xs) b = got_pushed xs b

pub stays_pushed : (blocks : List Block) (b : Block) (k : ℕ) (x : Block) →
    slice_get blocks k ≡ Some x → slice_get (blocks ++ b ∷ []) k ≡ Some x
stays_pushed [] b k x e = absurd (none-some x e)
stays_pushed (y ∷ ys) b zero x e = e
stays_pushed (y ∷ ys) b (suc k) x e = stays_pushed ys b k x e

-- a block with the same path leaves the paths as they are
paths_set : (blocks : List Block) (k : ℕ) (before after : Block) →
    slice_get blocks k ≡ Some before → after.path ≡ before.path → paths (slice_set blocks k after) ≡ paths blocks
paths_set [] k before after e p = absurd (none-some before e)
paths_set (b ∷ bs) zero before after e p = ap (λ q. q ∷ paths bs) (p ∙ ap (λ x. x.path) (sym (same_Some b before e)))
paths_set (b ∷ bs) (suc k) before after e p = ap (λ ps. b.path ∷ ps) (paths_set bs k before after e p)

pub paths_put : (k : ℕ) (before after : Block) (old new : Core) → Puts k before after old new →
    paths new.blocks.items ≡ paths old.blocks.items
paths_put k before after old new p = ap paths p.blocks ∙ paths_set old.blocks.items k before after p.held p.path

-- ---- the state after a block is changed or born

module _ (u : Untold) where
  tells_find : (c : Core) → Tells u c → (k : ℕ) → find (has_path (u.paths k)) c.blocks.items ≡ slice_get c.blocks.items k
  tells_find c t k = find_numbered u.paths c.blocks.items t.blocks t.apart k

  -- the cells of the block of this number
  pub store_numbered :
      (c : Core) → Tells u c → (k : ℕ) →
      store u c.blocks.items (u.paths k) ≡ option_map (cells u) (slice_get c.blocks.items k)
  store_numbered c t k = ap (option_map (cells u)) (tells_find c t k)

  module _ (k : ℕ) (before after : Block) (old new : Core) (p : Puts k before after old new) where
    got : slice_get new.blocks.items k ≡ Some after
    got = rw p.blocks (got_set old.blocks.items k before after p.held)

    pub puts_tells : Tells u new → Tells u old
    puts_tells t = record { blocks = of; apart = t.apart }
      where
        of : (j : ℕ) (b : Block) → slice_get old.blocks.items j ≡ Some b → u.paths j ≡ b.path
        of j b e =
            let s : Stands (slice_set old.blocks.items k after) j b = stands_set old.blocks.items k before after p.held p.path j b e in
            t.blocks j s.0 (rw p.blocks s.1) ∙ s.2

    puts_store :
        Tells u new → (q : Path) →
        store u new.blocks.items q ≡ (if same q (u.paths k) then Some (cells u after) else store u old.blocks.items q)
    puts_store t q = decided (same q (u.paths k)) refl
      where
        decided : (b : Bool) → b ≡ same q (u.paths k) →
            store u new.blocks.items q ≡ (if b then Some (cells u after) else store u old.blocks.items q)
        decided true e =
            ap (store u new.blocks.items) (same_text q (u.paths k) e) ∙ store_numbered new t k ∙ ap (option_map (cells u)) got
        decided false e =
            rw p.blocks (ap (option_map (cells u)) (find_set old.blocks.items k before after q p.held p.path
            (unlike before.path q (λ f. other_text q (u.paths k) e (sym f ∙ sym p.path ∙ sym (t.blocks k after got))))))

    pub puts : Tells u new → core u new ≡ put_block (u.paths k) (cells u after) (core u old)
    puts t = rw (p.births, p.most, p.output) (ap made (fun_ext (puts_store t)))
      where
        made : (Path → Option (List Val)) → state.Core
        made s = record (core u old) { store = s }
