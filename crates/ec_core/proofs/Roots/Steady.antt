-- Weights of births and backs: no step makes them more.
use Rattle.std.proofs.Common.{◌≡◌, ◌≤◌, ◌<◌, ◌+◌, ℕ, Bool, true, false, cond, List, [], ◌∷◌, ◌++◌, length, map, drop, flat_map, refl, ap, sym, ◌∙◌, Option, Some, None, slice_get, subst, arith}
use Rattle.std.specs.List.{sum_by}
use Rattle.std.proofs.lemmas.List.{length-map, map-append}
use Rattle.std.proofs.lemmas.List.Sums.{sum_by-append, sum_by_push}
use Rattle.std.proofs.lemmas.Option.{same_Some}
use Rattle.ec_base.specs.declared.value.Birth.{Birth}
use Rattle.ec_base.specs.declared.value.Value.{Value}
use Rattle.ec_core.specs.declared.code.Code.{Code}
use Rattle.ec_core.specs.declared.code.Function.{Function}
use Rattle.ec_core.specs.declared.message.Call.{Call}
use Rattle.ec_core.specs.declared.message.Entry.{Entry}
use Rattle.ec_core.specs.declared.message.Entry.TheVariants as e
use Rattle.ec_core.specs.declared.message.Message.{Message}
use Rattle.ec_core.specs.declared.message.Message.TheVariants as m
use Rattle.ec_core.specs.declared.choice.Choice.{Choice}
use Rattle.ec_core.specs.declared.eu.Caller.{Caller}
use Rattle.ec_core.specs.declared.eu.Frame.{Frame}
use Rattle.ec_core.specs.declared.eu.Spawned.{Spawned}
use Rattle.ec_core.specs.declared.node.Node.{Node}
use Rattle.ec_core.specs.State.{Exec}
use Rattle.ec_core.specs.Fiber.{says, put_all, runs_fiber}
use Rattle.ec_core.specs.Entry.{entered, entry, frame_for, takes, lives, spawned_of}
use Rattle.ec_core.specs.Rooted.{entries, frames_of, frames_at, births_of, births_at, births_in, Spot, back_to, backs_of, backs_at, backs_in}
use Rattle.ec_core.proofs.Roots.Weights.{of_message, of_node, sum_flat, in_world}
use Rattle.ec_core.proofs.Roots.Frames.{IsQuiet, Ran, ran, put_all_ran}
use Rattle.ec_core.proofs.Roots.Moves.{of_exec, Runs, Changes, world_weighs}

-- weights that see of frames their births and callers alone, and of entries neither starts nor answers
pub record IsSteady (g : List Frame → ℕ) (f : Entry → ℕ) : Type 0 where
  pub frames : (fs gs : List Frame) → map (λ x. x.birth) gs ≡ map (λ x. x.birth) fs → map (λ x. x.caller) gs ≡ map (λ x. x.caller) fs → g gs ≡ g fs
  pub start : (frame fiber slot filling : ℕ) → f (e.Start frame fiber slot filling) ≡ 0
  pub fill : (frame slot : ℕ) (cells : List ℕ) (values : List Value) → f (e.Fill frame slot cells values) ≡ 0
  pub enter : (fn : Function) (c : Call) (fs : List Frame) → g (fs ++ frame_for fn c ∷ []) ≤ g fs + f (e.Enter c)

-- what frames below a number print weighs nothing
abbrev pub Prints : ℕ → ℕ → (Entry → ℕ) → Type 0
Prints me count f = (n : ℕ) → n < count → (bytes : List ℕ) (slot : ℕ) → f (e.Print bytes (record { node = me; frame = n; cell = None; slot = slot })) ≡ 0

module _ (g : List Frame → ℕ) (f : Entry → ℕ) (steady : IsSteady g f) (me : ℕ) where
  -- ---- runs and entries

  ran_weighs : (n count : ℕ) (s t : Exec) → Ran me n count s t → IsQuiet me n count f → of_exec g f t ≡ of_exec g f s
  ran_weighs n count s t r q =
      let a = steady.frames s.frames t.frames r.births r.callers in let b = r.outbox f q in omega (arith, a, b)

  ran_length : (n count : ℕ) (s t : Exec) → Ran me n count s t → length t.frames ≡ length s.frames
  ran_length n count s t r = sym (length-map t.frames (λ x. x.birth)) ∙ (ap length r.births ∙ length-map s.frames (λ x. x.birth))

  run_weighs : (code : Code) (n fiber : ℕ) (s : Exec) → Prints me (length (runs_fiber code me n fiber s).frames) f → of_exec g f (runs_fiber code me n fiber s) ≡ of_exec g f s
  run_weighs code n fiber s prints =
      let r = ran code me n fiber s in
      let t : Exec = runs_fiber code me n fiber s in
      let a = ran_length n (length s.frames) s t r in
      ran_weighs n (length s.frames) s t r (record { fill = steady.fill; print = λ l. prints n (omega (arith, a, l)) })

  or_weighs : (b : Bool) (s t : Exec) (most : ℕ) → (Prints me (length s.frames) f → of_exec g f s ≤ most) → of_exec g f t ≤ most → Prints me (length (cond b s t).frames) f → of_exec g f (cond b s t) ≤ most
  or_weighs true s t most x y prints = x prints
  or_weighs false s t most x y prints = y

  says_weighs : (x : Message) (s : Exec) → of_exec g f (says x s) ≡ of_exec g f s + of_message f x
  says_weighs x s = let a = sum_by_push (of_message f) s.outbox x in omega (arith, a)

  entered_weighs : (code : Code) (c : Call) (o : Option Function) (s : Exec) → Prints me (length (entered code me c o s).frames) f → of_exec g f (entered code me c o s) ≤ of_exec g f s + f (e.Enter c)
  entered_weighs code c None s prints = omega arith
  entered_weighs code c (Some fn) s prints =
      let t : Exec = record s { frames = s.frames ++ frame_for fn c ∷ [] } in
      let u : Exec = runs_fiber code me (length s.frames) 0 t in
      let a = steady.enter fn c s.frames in
      or_weighs (takes fn c) u s (of_exec g f s + f (e.Enter c)) (λ p. let b = run_weighs code (length s.frames) 0 t p in omega (arith, a, b)) (omega arith) prints

  pub entry_weighs : (code : Code) (x : Entry) (s : Exec) → Prints me (length (entry code me x s).frames) f → of_exec g f (entry code me x s) ≤ of_exec g f s + f x
  entry_weighs code (e.Start frame fiber slot filling) s prints = let a = run_weighs code frame fiber s prints in omega (arith, a)
  entry_weighs code (e.Enter c) s prints = entered_weighs code c (slice_get code.functions c.function) s prints
  entry_weighs code (e.Fill frame slot cells values) s prints =
      let t : Exec = put_all frame cells values s in
      let r = put_all_ran me frame 0 frame cells values s in
      let a = ran_weighs frame 0 s t r (record { fill = steady.fill; print = λ l. absurd (omega (arith, l)) }) in
      let b = says_weighs (m.Sync me frame slot) t in
      or_weighs (lives frame s) (says (m.Sync me frame slot) t) s (of_exec g f s + f (e.Fill frame slot cells values)) (λ p. omega (arith, a, b)) (omega arith) prints
  entry_weighs code (e.Print bytes back) s prints =
      let a = says_weighs (m.Sync back.node back.frame back.slot) (record s { output = s.output ++ bytes }) in omega (arith, a)

  spawned_weighs : (code : Code) (q : List Spawned) (s u : Exec) → spawned_of code me q s ≡ Some u → Prints me (length u.frames) f → of_exec g f u ≤ of_exec g f s
  spawned_weighs code [] s u h prints = cc
  spawned_weighs code (x ∷ rest) s u h prints =
      let k = same_Some _ u h in
      let t : Exec = record s { spawned = rest } in
      let a = run_weighs code x.frame x.fiber t (subst (λ (z : Exec). Prints me (length z.frames) f) (sym k) prints) in
      let b = ap (of_exec g f) k in
      omega (arith, a, b)

  pub steady_runs : (code : Code) (s : Node) (u : Exec) → Prints me (length u.frames) f → Runs g f code me s u
  steady_runs code s u prints = record {
    ready = λ x rest q h.
        let a = entry_weighs code x s.eu (subst (λ (z : Exec). Prints me (length z.frames) f) (sym h) prints) in
        let b = ap (of_exec g f) h in
        omega (arith, a, b);
    spawn = λ h. spawned_weighs code s.eu.spawned s.eu u h prints;
  }

pub steady_weighs : (g : List Frame → ℕ) (f : Entry → ℕ) → IsSteady g f → (code : Code) (c : Choice) (w v : List Node) → Changes code c w v → Prints c.node (length (frames_at v c.node)) f → sum_by (of_node g f) v ≤ sum_by (of_node g f) w
steady_weighs g f steady code c w v x prints =
    world_weighs g f (record { start = steady.start }) code c w v
    (λ s t e k. steady_runs g f steady c.node code s t.eu (subst (λ (o : Option Node). Prints c.node (length (frames_of o)) f) k prints)) x

-- ---- births

abbrev pub births_of_frames : List Frame → List (Option Birth)
births_of_frames fs = drop 1 (map (λ x. x.birth) fs)

pub births_weigh : (h : Option Birth → ℕ) (w : List Node) → sum_by h (births_in w) ≡ sum_by (of_node (λ fs. sum_by h (births_of_frames fs)) (λ x. sum_by h (births_of x))) w
births_weigh h w = in_world h births_at (λ fs. sum_by h (births_of_frames fs)) births_of (λ s. sum_by-append h (births_of_frames s.eu.frames) (flat_map births_of (entries s))) w

one_more : {A : Type 0} (h : A → ℕ) (xs : List A) (x : A) → sum_by h (drop 1 (xs ++ x ∷ [])) ≤ sum_by h (drop 1 xs) + h x
one_more h [] x = omega arith
one_more h (y ∷ xs) x = let a = sum_by_push h xs x in omega (arith, a)

births_steady : (h : Option Birth → ℕ) → IsSteady (λ fs. sum_by h (births_of_frames fs)) (λ x. sum_by h (births_of x))
births_steady h = record {
  frames = λ fs gs b c. ap (λ xs. sum_by h (drop 1 xs)) b;
  start = λ frame fiber slot filling. refl;
  fill = λ frame slot cells values. refl;
  enter = λ fn c fs.
      let a = ap (λ xs. sum_by h (drop 1 xs)) (map-append (λ (x : Frame). x.birth) fs (frame_for fn c ∷ [])) in
      let b = one_more h (map (λ x. x.birth) fs) c.birth in
      omega (arith, a, b);
}

-- no birth comes up
pub births_weigh_less : (code : Code) (c : Choice) (w v : List Node) → Changes code c w v → (h : Option Birth → ℕ) → sum_by h (births_in v) ≤ sum_by h (births_in w)
births_weigh_less code c w v x h =
    let a = births_weigh h w in
    let b = births_weigh h v in
    let d = steady_weighs _ _ (births_steady h) code c w v x (λ n l bytes slot. refl) in
    omega (arith, a, b, d)

-- ---- backs

abbrev pub backs_of_frames : List Frame → List Spot
backs_of_frames fs = flat_map (λ x. back_to x.caller) fs

pub backs_weigh : (h : Spot → ℕ) (w : List Node) → sum_by h (backs_in w) ≡ sum_by (of_node (λ fs. sum_by h (backs_of_frames fs)) (λ x. sum_by h (backs_of x))) w
backs_weigh h w = in_world h backs_at (λ fs. sum_by h (backs_of_frames fs)) backs_of (λ s. sum_by-append h (backs_of_frames s.eu.frames) (flat_map backs_of (entries s))) w

flat_callers : (fs : List Frame) → backs_of_frames fs ≡ flat_map back_to (map (λ x. x.caller) fs)
flat_callers [] = refl
flat_callers (x ∷ fs) = ap (λ xs. back_to x.caller ++ xs) (flat_callers fs)

backs_steady : (h : Spot → ℕ) → IsSteady (λ fs. sum_by h (backs_of_frames fs)) (λ x. sum_by h (backs_of x))
backs_steady h = record {
  frames = λ fs gs b c. ap (sum_by h) (flat_callers gs ∙ (ap (λ (xs : List (Option Caller)). flat_map back_to xs) c ∙ sym (flat_callers fs)));
  start = λ frame fiber slot filling. refl;
  fill = λ frame slot cells values. refl;
  enter = λ fn c fs.
      let k : Frame → ℕ = λ x. sum_by h (back_to x.caller) in
      let a = sum_flat h (λ (x : Frame). back_to x.caller) (fs ++ frame_for fn c ∷ []) in
      let b = sum_flat h (λ (x : Frame). back_to x.caller) fs in
      let d = sum_by_push k fs (frame_for fn c) in
      omega (arith, a, b, d);
}

-- no back comes up but what prints of a node's frames name
pub backs_weigh_less : (code : Code) (c : Choice) (w v : List Node) → Changes code c w v → (h : Spot → ℕ) → ((n : ℕ) → n < length (frames_at v c.node) → h (record { node = c.node; frame = n }) ≡ 0) → sum_by h (backs_in v) ≤ sum_by h (backs_in w)
backs_weigh_less code c w v x h none =
    let a = backs_weigh h w in
    let b = backs_weigh h v in
    let d = steady_weighs _ _ (backs_steady h) code c w v x (λ n l bytes slot. let k = none n l in omega (arith, k)) in
    omega (arith, a, b, d)
