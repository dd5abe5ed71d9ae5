-- Which births entries and spawned fibers bring.
use Rattle.std.proofs.Common.{◌≡◌, ◌<◌, ◌≤◌, ◌+◌, ◌∙◌, ◌⊎◌, ℕ, zero, suc, true, List, [], ◌∷◌, ◌++◌, drop, inl, inr, length, replicate, refl, ap, sym, is_some, Option, Some, None, slice_get, subst, arith, pos, ℤ}
use Rattle.std.specs.List.{sum_by}
use Rattle.std.proofs.lemmas.List.{length-map, map-append}
use Rattle.std.proofs.lemmas.List.Sums.{sum_by-cons, sum_by_push}
use Rattle.std.proofs.lemmas.Option.{same_Some}
use Rattle.ec_base.specs.declared.token.Span.{Span}
use Rattle.ec_base.specs.declared.trap.TrapKind.TheVariants as kind
use Rattle.ec_base.specs.declared.value.Birth.{Birth}
use Rattle.ec_base.specs.declared.value.Block.{Block}
use Rattle.ec_base.specs.declared.value.Value.{Value}
use Rattle.ec_base.specs.declared.value.Value.TheVariants as v
use Rattle.ec_cells.specs.Accesses.{add, as_int, element, load, put_element, store}
use Rattle.ec_cells.specs.Frames.{lives, with_frame}
use Rattle.ec_cells.specs.Memory.{Memory}
use Rattle.ec_code.specs.declared.code.Code.{Code}
use Rattle.ec_code.specs.declared.code.Function.{Function}
use Rattle.ec_code.specs.declared.message.Back.{Back}
use Rattle.ec_code.specs.declared.message.Call.{Call}
use Rattle.ec_code.specs.declared.message.Entry.{Entry}
use Rattle.ec_code.specs.declared.message.Entry.TheVariants as e
use Rattle.ec_code.specs.declared.message.Message.TheVariants as m
use Rattle.ec_eu.specs.declared.state.Activation.{Activation}
use Rattle.ec_eu.specs.declared.state.Spawned.{Spawned}
use Rattle.ec_eu.specs.Cells.{put_all}
use Rattle.ec_eu.specs.Entries.{activation_for, answers_change, answers_value, cells_of, copies_out, entered, entry, fills, makes_frame, says_done, spawned_in, takes}
use Rattle.ec_eu.specs.Fibers.{function_in, runs_fiber, runs_in}
use Rattle.ec_eu.specs.Instructions.{activation_in, activation_of}
use Rattle.ec_eu.specs.State.{Exec, says, with_memory}
use Rattle.ec_world_laws.specs.Rooted.{Begins, IsActive, IsCounted, births_of}
use Rattle.ec_world_laws.proofs.Rooted.Bearing.{Acts, IsStill, add_still, put_all_quiet, put_element_still, put_from_quiet, runs_fiber_bears, says_quiet, store_still, traps_quiet, with_memory_quiet}
use Rattle.ec_world_laws.proofs.Rooted.Births.{Bears, Mark, Quiet, TakesMark, active_same, live_at, mark, marked_live, marked_taken, marks, numbered, quiet_stays, quiet_twice, unit_births}
use Rattle.ec_world_laws.proofs.Rooted.Same.{is_same, same_itself, weight}
use Rattle.ec_world_laws.proofs.Units.Values.{Perhaps, either}

-- whether a birth is this one
abbrev pub same_as : Option Birth → Option Birth → ℕ
same_as o x = weight (is_same o x)

-- a run that takes in these births, and brings so many of a frame behind those that it has taken
pub record Brings (given : List (Option Birth)) (u t : Exec) : Type 0 where
  pub frame : ℕ
  pub taken : ℕ
  pub count : ℕ
  pub node : t.memory.node ≡ u.memory.node
  pub weighs : (h : Option Birth → ℕ) →
      unit_births h t ≤ unit_births h u + sum_by h given + sum_by h (numbered u.memory.node frame taken count)
  pub before : 0 < count → (number : ℕ) → TakesMark number (slice_get (marks u.memory) frame) → number ≤ taken
  pub takes : (j number : ℕ) → TakesMark number (slice_get (marks u.memory) j) → TakesMark number (slice_get (marks t.memory) j)
  pub own : (number : ℕ) → taken < number → number ≤ taken + count → TakesMark number (slice_get (marks t.memory) frame)
  pub births : (j : ℕ) (o : Option Birth) → slice_get u.memory.births.frames j ≡ Some o → slice_get t.memory.births.frames j ≡ Some o
  -- the birth of the frame is one that was there
  pub source : 0 < count → (o : Option Birth) × (slice_get t.memory.births.frames frame ≡ Some o) ×
      ((o ≡ None) ⊎ (1 ≤ unit_births (same_as o) u + sum_by (same_as o) given))
  pub active : IsActive u → IsActive t

pub quiet_brings : (given : List (Option Birth)) (u t : Exec) → Quiet u t → Brings given u t
quiet_brings given u t q = record {
  frame = 0;
  taken = 0;
  count = 0;
  node = q.node;
  weighs = λ h. let a = q.weighs h in omega (arith, a);
  before = λ h number g. absurd (omega (arith, h));
  takes = λ j number h. subst (λ (xs : List Mark). TakesMark number (slice_get xs j)) (sym q.marks) h;
  own = λ number a b. absurd (omega (arith, a, b));
  births = λ j o h. ap (λ b. slice_get b.frames j) q.births ∙ h;
  source = λ h. absurd (omega (arith, h));
  active = active_same u t q.marks q.activations;
}

-- ---- fibers

there : {A : Type 0} (xs : List A) (k : ℕ) → k < length xs → (x : A) × (slice_get xs k ≡ Some x)
there [] k h = absurd (omega (arith, h))
there (x ∷ xs) zero h = (x, refl)
there (x ∷ xs) (suc k) h = there xs k (omega (arith, h))

pub weighs_at : (o : Option Birth) (xs : List (Option Birth)) (k : ℕ) → slice_get xs k ≡ Some o → 1 ≤ sum_by (same_as o) xs
weighs_at o [] k h = cc
weighs_at o (x ∷ xs) zero h =
    let a = sum_by-cons (same_as o) x xs in
    let b = ap (same_as o) (same_Some _ _ h) in
    let c = ap weight (same_itself o) in
    omega (arith, a, b, c)
weighs_at o (x ∷ xs) (suc k) h = let a = sum_by-cons (same_as o) x xs in let b = weighs_at o xs k h in omega (arith, a, b)

-- the birth of a frame: none of the first, and of another one that counts
first_or : (xs : List (Option Birth)) (k : ℕ) (o : Option Birth) → Begins xs → slice_get xs k ≡ Some o →
    (o ≡ None) ⊎ (1 ≤ sum_by (same_as o) (drop 1 xs))
first_or [] k o b h = absurd b
first_or (x ∷ xs) zero o b h = inl (sym (same_Some _ _ h) ∙ b)
first_or (x ∷ xs) (suc k) o b h = inr (weighs_at o xs k h)

live_within : (xs : List Mark) (k : ℕ) → marked_live (slice_get xs k) ≡ true → k < length xs
live_within [] k h = absurd (cc)
live_within (x ∷ xs) zero h = omega arith
live_within (x ∷ xs) (suc k) h = let a = live_within xs k h in omega (arith, a)

below_taken : (number : ℕ) (o : Option Mark) → marked_live o ≡ true → TakesMark number o → number ≤ marked_taken o
below_taken number None l h = absurd h
below_taken number (Some x) l h = h.1 l

acting_brings : (k : ℕ) (u t : Exec) → IsCounted u → Acts k u → Bears k u t → Brings [] u t
acting_brings k u t c a r =
    let live : marked_live (slice_get (marks u.memory) k) ≡ true = sym (live_at k u.memory) ∙ a.1 k a.0 in
    let within = live_within (marks u.memory) k live in
    let long = length-map u.memory.frames mark in
    let count = c.frames in
    let has = there u.memory.births.frames k (omega (arith, within, long, count)) in
    record {
      frame = k;
      taken = marked_taken (slice_get (marks u.memory) k);
      count = r.count;
      node = r.node;
      weighs = λ h. let x = r.weighs h in omega (arith, x);
      before = λ h number g. below_taken number (slice_get (marks u.memory) k) live g;
      takes = r.takes;
      own = λ number x y. r.own number (omega (arith, x)) y;
      births = λ j o h. ap (λ (xs : List (Option Birth)). slice_get xs j) r.frames ∙ h;
      source = λ h. (
        has.0,
        ap (λ (xs : List (Option Birth)). slice_get xs k) r.frames ∙ has.1,
        elim (first_or u.memory.births.frames k has.0 c.first has.1) [ inl x ↦ inl x | inr x ↦ inr (omega (arith, x)) ],
      );
      active = r.active;
    }

fiber_in_brings : (code : Code) (k fiber : ℕ) (o : Option Activation) (u : Exec) → activation_of k u ≡ o → IsCounted u → IsActive u →
    Brings [] u (runs_in k fiber (function_in code o) u)
fiber_in_brings code k fiber None u h c a = quiet_brings [] u u (quiet_stays u)
fiber_in_brings code k fiber (Some x) u h c a =
    let acts : Acts k u = (ap is_some h, a) in
    subst (λ (o : Option Activation). Brings [] u (runs_in k fiber (function_in code o) u)) h
    (acting_brings k u (runs_fiber code k fiber u) c acts (runs_fiber_bears k code fiber u acts))

pub fiber_brings : (code : Code) (k fiber : ℕ) (u : Exec) → IsCounted u → IsActive u → Brings [] u (runs_fiber code k fiber u)
fiber_brings code k fiber u c a = fiber_in_brings code k fiber (activation_of k u) u refl c a

-- ---- calls

at_end : {A : Type 0} (xs : List A) (x : A) (k : ℕ) → k ≡ length xs → slice_get (xs ++ x ∷ []) k ≡ Some x
at_end [] x zero h = refl
at_end [] x (suc k) h = absurd (omega (arith, h))
at_end (y ∷ xs) x zero h = absurd (omega (arith, h))
at_end (y ∷ xs) x (suc k) h = at_end xs x k (omega (arith, h))

at_before : {A : Type 0} (xs ys : List A) (k : ℕ) (x : A) → slice_get xs k ≡ Some x → slice_get (xs ++ ys) k ≡ Some x
at_before [] ys k x h = cc
at_before (y ∷ xs) ys zero x h = h
at_before (y ∷ xs) ys (suc k) x h = at_before xs ys k x h

takes_before : (xs ys : List Mark) (j number : ℕ) → TakesMark number (slice_get xs j) → TakesMark number (slice_get (xs ++ ys) j)
takes_before [] ys j number h = absurd h
takes_before (x ∷ xs) ys zero number h = h
takes_before (x ∷ xs) ys (suc j) number h = takes_before xs ys j number h

takes_none : (xs : List Mark) (k number : ℕ) → k ≡ length xs → TakesMark number (slice_get xs k) → ⊥
takes_none [] k number h g = g
takes_none (x ∷ xs) zero number h g = absurd (omega (arith, h))
takes_none (x ∷ xs) (suc k) number h g = takes_none xs k number (omega (arith, h)) g

push_active : (xs : List Mark) (acts : List (Option Activation)) (y : Mark) (a : Option Activation) → length acts ≡ length xs →
    y.live ≡ true →
    ((j : ℕ) → is_some (activation_in (slice_get acts j)) ≡ true → marked_live (slice_get xs j) ≡ true) → (j : ℕ) →
    is_some (activation_in (slice_get (acts ++ a ∷ []) j)) ≡ true → marked_live (slice_get (xs ++ y ∷ []) j) ≡ true
push_active [] [] y a l live f zero h = live
push_active [] [] y a l live f (suc j) h = absurd (cc)
push_active [] (b ∷ acts) y a l live f j h = absurd (omega (arith, l))
push_active (x ∷ xs) [] y a l live f j h = absurd (omega (arith, l))
push_active (x ∷ xs) (b ∷ acts) y a l live f zero h = f zero h
push_active (x ∷ xs) (b ∷ acts) y a l live f (suc j) h = push_active xs acts y a (omega (arith, l)) live (λ i. f (suc i)) j h

one_more : {A : Type 0} (h : A → ℕ) (xs : List A) (x : A) → sum_by h (drop 1 (xs ++ x ∷ [])) ≤ sum_by h (drop 1 xs) + h x
one_more h [] x = omega arith
one_more h (y ∷ xs) x = let a = sum_by_push h xs x in omega (arith, a)

abbrev fresh : Mark
fresh = record { live = true; taken = 0 }

module _ (f : Function) (c : Call) (u : Exec) (counts : IsCounted u) (active : IsActive u) where
  abbrev framed : Exec
  framed = record u {
    memory = with_frame f.cells c.birth u.memory;
    activations = u.activations ++ Some (activation_for c) ∷ [];
  }

  abbrev new : ℕ
  new = length u.memory.frames

  framed_marks : marks framed.memory ≡ marks u.memory ++ fresh ∷ []
  framed_marks =
      map-append mark u.memory.frames (record { live = true; cells = replicate f.cells (v.Int (pos 0)); taken = [] } ∷ [])

  new_mark : new ≡ length (marks u.memory)
  new_mark = sym (length-map u.memory.frames mark)

  framed_active : IsActive framed
  framed_active j h =
      let long : length u.activations ≡ length (marks u.memory) = counts.activations ∙ new_mark in
      live_at j framed.memory ∙ (ap (λ (xs : List Mark). marked_live (slice_get xs j)) framed_marks ∙
      push_active (marks u.memory) u.activations fresh (Some (activation_for c)) long refl
      (λ i g. sym (live_at i u.memory) ∙ active i g) j h)

  abbrev filled : Exec
  filled = makes_frame f c u

  filled_quiet : Quiet framed filled
  filled_quiet = put_from_quiet new 0 c.args framed

  filled_marks : marks filled.memory ≡ marks u.memory ++ fresh ∷ []
  filled_marks = let q = filled_quiet in q.marks ∙ framed_marks

  new_acts : Acts new filled
  new_acts =
      let q = filled_quiet in
      let at = at_end u.activations (Some (activation_for c)) new (sym counts.activations) in (
        ap (λ (acts : List (Option Activation)). is_some (activation_in (slice_get acts new))) q.activations ∙
            ap (λ (o : Option (Option Activation)). is_some (activation_in o)) at,
        active_same framed filled q.marks q.activations framed_active,
      )

  called_brings : (t : Exec) → Bears new filled t → Brings (c.birth ∷ []) u t
  called_brings t r =
      let q = filled_quiet in
      let frames : t.memory.births.frames ≡ u.memory.births.frames ++ c.birth ∷ [] = r.frames ∙ ap (λ b. b.frames) q.births in
      let none : marked_taken (slice_get (marks filled.memory) new) ≡ 0 =
      ap (λ (xs : List Mark). marked_taken (slice_get xs new)) filled_marks ∙
      ap marked_taken (at_end (marks u.memory) fresh new new_mark) in
      record {
        frame = new;
        taken = 0;
        count = r.count;
        node = r.node ∙ q.node;
        weighs = λ h.
            let x = r.weighs h in
            let y = q.weighs h in
            let z = one_more h u.memory.births.frames c.birth in
            let p = ap (λ n. sum_by h (numbered n new (marked_taken (slice_get (marks filled.memory) new)) r.count)) q.node in
            let k = ap (λ n. sum_by h (numbered u.memory.node new n r.count)) none in
            let given = sum_by-cons h c.birth [] in
            omega (arith, x, y, z, p, k, given);
        before = λ h number g. absurd (takes_none (marks u.memory) new number new_mark g);
        takes = λ j number h.
            r.takes j number
            (subst (λ (xs : List Mark). TakesMark number (slice_get xs j)) (sym filled_marks)
            (takes_before (marks u.memory) (fresh ∷ []) j number h));
        own = λ number a b. r.own number (omega (arith, a)) (omega (arith, b, none));
        births = λ j o h.
            ap (λ (xs : List (Option Birth)). slice_get xs j) frames ∙ at_before u.memory.births.frames (c.birth ∷ []) j o h;
        source = λ h.
            let given = sum_by-cons (same_as c.birth) c.birth [] in
            let same = ap weight (same_itself c.birth) in (
              c.birth,
              ap (λ (xs : List (Option Birth)). slice_get xs new) frames ∙
                  at_end u.memory.births.frames c.birth new (sym counts.frames),
              inr (omega (arith, given, same)),
            );
        active = λ a. let acts = new_acts in r.active acts.1;
      }

entered_brings : (code : Code) (c : Call) (o : Option Function) (u : Exec) → IsCounted u → IsActive u →
    Brings (c.birth ∷ []) u (entered code c o u)
entered_brings code c None u h a = quiet_brings (c.birth ∷ []) u u (quiet_stays u)
entered_brings code c (Some f) u h a =
    let made : Exec = makes_frame f c u in
    let new : ℕ = length u.memory.frames in
    either (Brings (c.birth ∷ []) u) (takes f c) _ _
    (called_brings f c u h a (runs_fiber code new 0 made) (runs_fiber_bears new code 0 made (new_acts f c u h a)))
    (quiet_brings (c.birth ∷ []) u u (quiet_stays u))

-- ---- answers of memory

value_quiet : (o : Option Value) (at : Span) (back : Back) (u : Exec) → Quiet u (answers_value o at back u)
value_quiet None at back u = traps_quiet (record { kind = kind.Bounds; at = at }) u
value_quiet (Some x) at back u =
    says_quiet (m.Work back.node (e.Fill back.frame back.slot (cells_of back.cell) (x ∷ []))) u (λ h. refl)

done_quiet : (back : Back) (u : Exec) → Quiet u (says_done back u)
done_quiet back u = says_quiet (m.Sync back.node back.frame back.slot) u (λ h. refl)

change_quiet : (o : Option Memory) (at : Span) (back : Back) (u : Exec) → Perhaps (IsStill u.memory) o →
    Quiet u (answers_change o at back u)
change_quiet None at back u h = traps_quiet (record { kind = kind.Bounds; at = at }) u
change_quiet (Some n) at back u h =
    quiet_twice u (with_memory n u) (says_done back (with_memory n u)) (with_memory_quiet n u h) (done_quiet back (with_memory n u))

copied_quiet : (o : Option (List Value)) (to : Block) (index : ℤ) (at at_to : Span) (back : Back) (u : Exec) →
    Quiet u (copies_out o to at (λ cells. e.CopyIn to index cells at_to back) u)
copied_quiet None to index at at_to back u = traps_quiet (record { kind = kind.Bounds; at = at }) u
copied_quiet (Some cells) to index at at_to back u = says_quiet (m.Work to.node (e.CopyIn to index cells at_to back)) u (λ h. refl)

fills_quiet : (frame slot : ℕ) (cells : List ℕ) (values : List Value) (u : Exec) → Quiet u (fills frame slot cells values u)
fills_quiet frame slot cells values u =
    let t : Exec = put_all frame cells values u in
    either (Quiet u) (lives frame u.memory) _ _
    (quiet_twice u t (says (m.Sync u.memory.node frame slot) t) (put_all_quiet frame cells values u)
    (says_quiet (m.Sync u.memory.node frame slot) t (λ h. refl)))
    (quiet_stays u)

print_quiet : (bytes : List ℕ) (back : Back) (u : Exec) → Quiet u (says_done back (record u { output = u.output ++ bytes }))
print_quiet bytes back u =
    let t : Exec = record u { output = u.output ++ bytes } in
    quiet_twice u t (says_done back t)
    (record { node = refl; marks = refl; births = refl; activations = refl; weighs = λ h. omega arith }) (done_quiet back t)

-- ---- the table

pub entry_brings : (code : Code) (x : Entry) (u : Exec) → IsCounted u → IsActive u → Brings (births_of x) u (entry code x u)
entry_brings code (e.Start frame fiber slot filling) u c a = fiber_brings code frame fiber u c a
entry_brings code (e.Enter call) u c a = entered_brings code call (slice_get code.functions call.function) u c a
entry_brings code (e.Load block index size off at back) u c a =
    quiet_brings [] u _ (value_quiet (load block.number index size off u.memory) at back u)
entry_brings code (e.Store block index size off value at back) u c a =
    quiet_brings [] u _ (change_quiet (store block.number index size off value u.memory) at back u
    (store_still block.number index size off value u.memory))
entry_brings code (e.Add block value at back) u c a =
    quiet_brings [] u _ (change_quiet (add block.number (as_int value) u.memory) at back u
    (add_still block.number (as_int value) u.memory))
entry_brings code (e.CopyOut block index size to to_index at at_to back) u c a =
    quiet_brings [] u _ (copied_quiet (element block.number index size u.memory) to to_index at at_to back u)
entry_brings code (e.CopyIn block index cells at back) u c a =
    quiet_brings [] u _ (change_quiet (put_element block.number index cells u.memory) at back u
    (put_element_still block.number index cells u.memory))
entry_brings code (e.Fill frame slot cells values) u c a = quiet_brings [] u _ (fills_quiet frame slot cells values u)
entry_brings code (e.Print bytes back) u c a = quiet_brings [] u _ (print_quiet bytes back u)

-- ---- spawned fibers

pub spawned_brings : (code : Code) (xs : List Spawned) (u t : Exec) → IsCounted u → IsActive u → spawned_in code xs u ≡ Some t →
    Brings [] u t
spawned_brings code [] u t c a h = cc
spawned_brings code (x ∷ rest) u t c a h =
    let left : Exec = record u { spawned = rest } in
    let counts : IsCounted left = record { first = c.first; frames = c.frames; blocks = c.blocks; activations = c.activations } in
    let r : Brings [] left (runs_fiber code x.frame x.fiber left) = fiber_brings code x.frame x.fiber left counts a in
    subst (Brings [] u) (same_Some _ t h) (record {
      frame = r.frame;
      taken = r.taken;
      count = r.count;
      node = r.node;
      weighs = r.weighs;
      before = r.before;
      takes = r.takes;
      own = r.own;
      births = r.births;
      source = r.source;
      active = λ h. r.active h;
    })
