-- What a copy of an element does by the definitions is what it does among the code's blocks.
use Rattle.std.proofs.Common.{◌≡◌, refl, ap, ◌∙◌, ℕ, ◌+◌, ◌*◌, List, ◌++◌, map, length, take, drop, Option, Some, None, Result, Ok, Err}
use Rattle.std.proofs.lemmas.List.{map-append}
use Rattle.std.specs.List.{take-map, drop-map}
use Rattle.ec_base.specs.declared.fail.Fail.{Fail}
use Rattle.ec_base.specs.declared.fail.Fail.TheVariants.{Memory, Refused}
use Rattle.ec_base.specs.declared.trap.Trap.{Trap}
use Rattle.ec_types.specs.Meaning.Values.{Val}
use Rattle.ec_types.specs.Meaning.State.{Out, Traps, Going}
use Rattle.ec_types.specs.Meaning.Memory as memory
use Rattle.ec_meaning.specs.declared.value.Value.{Value}
use Rattle.ec_meaning.specs.declared.value.Value.TheVariants.{Int, Null, To}
use Rattle.ec_meaning.specs.declared.value.Access.{Access}
use Rattle.ec_meaning.specs.declared.shared_state.Core.{Core}
use Rattle.ec_meaning.specs.declared.copying.Way.{Way}
use Rattle.ec_meaning.specs.Reached.{cells_in, pointed, first_cell, or_bounds, way_to, way_from, way_behind, way_of, way, spliced, Changed}
use Rattle.ec_meaning.specs.Seen.{Untold, Tells, Performs, val, access, core}
use Rattle.ec_meaning.proofs.Reaching.{bounded, in_block_is, changed_tells, put_done}

module _ (u : Untold) (c : Core) (t : Tells u c) (target source : Access) (r : ℕ) where
  abbrev seen_in : ℕ → List Val
  seen_in k = map (val u) (cells_in c.blocks.items k)

  -- what is put into the target's block
  abbrev pub copied : ℕ → ℕ → List Val
  copied from to = memory.with_element (access u target) (memory.element (access u source) (seen_in from)) (seen_in to)

  abbrev pub put_at : Way → Out (Unit {0})
  put_at w = memory.put (u.paths w.to) (copied w.from w.to) (core u c) r

  abbrev pub on_way : Result Way (Fail Trap) → Out (Unit {0})
  on_way (Ok w) = put_at w
  on_way (Err (Refused x)) = (Traps x, core u c, r)
  on_way (Err Memory) = (Going, core u c, r)

  by_start : (from first to : ℕ) (o : Option ℕ) →
      bounded u c t target r o (put_at (record { from = from; first = first; to = to; start = 0 })) ≡
      on_way (way_to from first to (or_bounds target.at o))
  by_start from first to None = refl
  by_start from first to (Some start) = refl

  by_first : (from to : ℕ) (o : Option ℕ) →
      bounded u c t source r o
      (memory.in_block (access u target) (u.paths to)
      (λ cells. memory.put (u.paths to) (memory.with_element (access u target) (memory.element (access u source) (seen_in from)) cells))
      (core u c) r) ≡
      on_way (way_from c.blocks.items target from to (or_bounds source.at o))
  by_first from to None = refl
  by_first from to (Some first) =
      in_block_is u c t target to
      (λ cells. memory.put (u.paths to) (memory.with_element (access u target) (memory.element (access u source) (seen_in from)) cells)) r
      ∙ by_start from first to (first_cell target.index target.size (length (cells_in c.blocks.items to)))

  by_target : (from : ℕ) (v : Value) →
      memory.through target.at (val u v) (λ q. memory.in_block (access u source) (u.paths from) (λ old.
      memory.in_block (access u target) q (λ cells.
      memory.put q (memory.with_element (access u target) (memory.element (access u source) old) cells)))) (core u c) r ≡
      on_way (way_behind c.blocks.items target source from (pointed target.at v))
  by_target from (Int n) = refl
  by_target from Null = refl
  by_target from (To to) =
      in_block_is u c t source from
      (λ old. memory.in_block (access u target) (u.paths to) (λ cells.
      memory.put (u.paths to) (memory.with_element (access u target) (memory.element (access u source) old) cells))) r
      ∙ by_first from to (first_cell source.index source.size (length (cells_in c.blocks.items from)))

  by_source : (v : Value) →
      memory.through source.at (val u v) (λ p. memory.through target.at (val u target.base) (λ q.
      memory.in_block (access u source) p (λ old. memory.in_block (access u target) q (λ cells.
      memory.put q (memory.with_element (access u target) (memory.element (access u source) old) cells))))) (core u c) r ≡
      on_way (way_of c.blocks.items target source (pointed source.at v))
  by_source (Int n) = refl
  by_source Null = refl
  by_source (To from) = by_target from target.base

  pub copy_is :
      memory.copy (access u target) (access u source) (core u c) r ≡ on_way (way c.blocks.items target source)
  copy_is = by_source source.base

  pub copy_refused :
      (e : Fail Trap) → way c.blocks.items target source ≡ Err e →
      Performs (λ (done : Unit {0}). done) (Err e) (memory.copy (access u target) (access u source) (core u c) r) (core u c) r
  copy_refused Memory is = tt
  copy_refused (Refused x) is = copy_is ∙ ap on_way is

-- the element in the place of the target's one
map-spliced :
    (f : Value → Val) (target source : memory.Access) (from to element : List Value) (first start : ℕ) →
    first ≡ memory.start source → start ≡ memory.start target → element ≡ take source.size (drop first from) →
    map f (spliced start target.size element to) ≡
    memory.with_element target (memory.element source (map f from)) (map f to)
map-spliced f target source from to element first start is_first is_start is_element =
    map-append f (take start to ++ element) (drop (start + target.size) to)
    ∙ ap (λ front. front ++ map f (drop (start + target.size) to)) (map-append f (take start to) element)
    ∙ rw (
      is_element,
      is_start,
      is_first,
      take-map f (memory.start target) to,
      drop-map f (memory.start target + target.size) to,
      drop-map f (memory.start source) from,
      take-map f source.size (drop (memory.start source) from),
    ) refl

pub copy_done :
    (u : Untold) (old new : Core) (target source : Access) (r : ℕ) (w : Way) → way old.blocks.items target source ≡ Ok w →
    w.first ≡ memory.natural source.index * source.size → w.start ≡ memory.natural target.index * target.size →
    (element : List Value) → element ≡ take source.size (drop w.first (cells_in old.blocks.items w.from)) →
    (result : Result (Unit {0}) (Fail Trap)) → Changed w.to (spliced w.start target.size element) old new result →
    Tells u new →
    Performs (λ done. done) result (memory.copy (access u target) (access u source) (core u old) r) (core u new) r
copy_done u old new target source r w is first start element taken (Ok done) ch t =
    let before : Tells u old = changed_tells u w.to (spliced w.start target.size element) old new ch t in
    copy_is u old before target source r ∙ ap (on_way u old before target source r) is
    ∙ put_done u w.to (spliced w.start target.size element) old new ch t r (copied u old before target source r w.from w.to)
    (map-spliced (val u) (access u target) (access u source) (cells_in old.blocks.items w.from)
    (cells_in old.blocks.items w.to) element w.first w.start first start taken)
copy_done u old new target source r w is first start element taken (Err Memory) ch t = tt
copy_done u old new target source r w is first start element taken (Err (Refused x)) ch t = absurd ch
