-- Where cells and what is on its way hold no pointer, no run makes one.
use Rattle.std.proofs.Common.{◌≡◌, ◌≤◌, ◌+◌, ℕ, ℤ, pos, zero, suc, Bool, true, false, cond, List, [], ◌∷◌, ◌++◌, length, replicate, ◌-◌, ◌*◌, mul-zero, refl, ap, ◌∙◌, Option, Some, None, slice_get, slice_set, arith}
use Rattle.std.specs.Int.{int_wrapping_add, int_wrapping_sub, int_wrapping_mul}
use mir.Syntax.{w64}
use Rattle.std.specs.List.{sum_by}
use Rattle.std.proofs.lemmas.List.Sums.{sum_by-cons, sum_by-append, sum_by_push}
use Rattle.std.proofs.lemmas.List.Folds.{sum_by-replicate}
use Rattle.std.proofs.lemmas.Option.{same_Some}
use Rattle.ec_base.specs.declared.value.Value.{Value}
use Rattle.ec_base.specs.declared.value.Value.TheVariants.{Int}
use Rattle.ec_core.specs.declared.code.Code.{Code}
use Rattle.ec_core.specs.declared.code.Fiber.{Fiber}
use Rattle.ec_core.specs.declared.code.Function.{Function}
use Rattle.ec_core.specs.declared.code.Instr.{Instr}
use Rattle.ec_core.specs.declared.code.Instr.TheVariants as i
use Rattle.ec_core.specs.declared.message.Call.{Call}
use Rattle.ec_core.specs.declared.message.Entry.{Entry}
use Rattle.ec_core.specs.declared.message.Entry.TheVariants as e
use Rattle.ec_core.specs.declared.message.Message.{Message}
use Rattle.ec_core.specs.declared.message.Message.TheVariants as m
use Rattle.ec_core.specs.declared.eu.Caller.{Caller}
use Rattle.ec_core.specs.declared.eu.Frame.{Frame}
use Rattle.ec_core.specs.declared.eu.Spawned.{Spawned}
use Rattle.ec_core.specs.State.{Exec}
use Rattle.ec_core.specs.Fiber.{or_zero, held_in, cells_in, cell_at, int_at, cells_at, put_in, put, put_all, says, end_in, answer_of, answers, caller_of, one, ends, does, does_fiber, suits, runs_in, runs_fiber, function_at}
use Rattle.ec_core.specs.Entry.{entered, entry, frame_for, takes, lives, spawned_of}
use Rattle.ec_core.specs.Rooted.{values_of}
use Rattle.ec_core.proofs.Roots.Weights.{sum_at, sum_set, of_message}
use Rattle.ec_core.proofs.Roots.Moves.{of_exec}

-- numbers weigh nothing
pub record IsLight (h : Value → ℕ) : Type 0 where
  pub int : (n : ℤ) → h (Int n) ≡ 0

abbrev pub of_cells : (Value → ℕ) → List Frame → ℕ
of_cells h fs = sum_by (λ f. sum_by h f.cells) fs

abbrev pub of_values : (Value → ℕ) → Entry → ℕ
of_values h x = sum_by h (values_of x)

-- nothing that the unit holds weighs anything
abbrev pub Clean : (Value → ℕ) → Exec → Type 0
Clean h s = of_exec (of_cells h) (of_values h) s ≡ 0

module _ (h : Value → ℕ) (light : IsLight h) where
  -- ---- cells

  set_weighs : (cs : List Value) (c : ℕ) (x : Value) → sum_by h (slice_set cs c x) ≤ sum_by h cs + h x
  set_weighs [] c x = omega arith
  set_weighs (y ∷ cs) zero x = let a = sum_by-cons h y cs in let b = sum_by-cons h x cs in omega (arith, a, b)
  set_weighs (y ∷ cs) (suc c) x =
      let a = sum_by-cons h y cs in let b = sum_by-cons h y (slice_set cs c x) in let k = set_weighs cs c x in omega (arith, a, b, k)

  item_weighs : (cs : List Value) (o : Option Value) (c : ℕ) → slice_get cs c ≡ o → h (or_zero o) ≤ sum_by h cs
  item_weighs cs None c e = let a = light.int (pos 0) in omega (arith, a)
  item_weighs cs (Some x) c e = sum_at h cs c x e

  held_weighs : (fs : List Frame) (o : Option Frame) (n c : ℕ) → slice_get fs n ≡ o → h (held_in (cells_in o) c) ≤ of_cells h fs
  held_weighs fs None n c e = let a = light.int (pos 0) in omega (arith, a)
  held_weighs fs (Some f) n c e =
      let a = sum_at (λ g. sum_by h g.cells) fs n f e in let b = item_weighs f.cells (slice_get f.cells c) c refl in omega (arith, a, b)

  cell_weighs : (n c : ℕ) (s : Exec) → h (cell_at n c s) ≤ of_cells h s.frames
  cell_weighs n c s = held_weighs s.frames (slice_get s.frames n) n c refl

  cell_clean : (n c : ℕ) (s : Exec) → Clean h s → h (cell_at n c s) ≡ 0
  cell_clean n c s k = let a = cell_weighs n c s in omega (arith, a, k)

  cells_clean : (n : ℕ) (cs : List ℕ) (s : Exec) → Clean h s → sum_by h (cells_at n cs s) ≡ 0
  cells_clean n [] s k = refl
  cells_clean n (c ∷ cs) s k =
      let a = cell_clean n c s k in
      let b = cells_clean n cs s k in
      let d = sum_by-cons h (cell_at n c s) (cells_at n cs s) in
      omega (arith, a, b, d)

  put_in_clean : (o : Option Frame) (n c : ℕ) (x : Value) (s : Exec) → slice_get s.frames n ≡ o → h x ≡ 0 → Clean h s → Clean h (put_in o n c x s)
  put_in_clean None n c x s e z k = k
  put_in_clean (Some f) n c x s e z k =
      let a = sum_set (λ g. sum_by h g.cells) s.frames n f (record f { cells = slice_set f.cells c x }) e in
      let b = set_weighs f.cells c x in
      omega (arith, a, b, z, k)

  put_clean : (n c : ℕ) (x : Value) (s : Exec) → h x ≡ 0 → Clean h s → Clean h (put n c x s)
  put_clean n c x s z k = put_in_clean (slice_get s.frames n) n c x s refl z k

  put_all_clean : (n : ℕ) (cs : List ℕ) (xs : List Value) (s : Exec) → sum_by h xs ≡ 0 → Clean h s → Clean h (put_all n cs xs s)
  put_all_clean n [] xs s z k = k
  put_all_clean n (c ∷ cs) [] s z k = k
  put_all_clean n (c ∷ cs) (x ∷ xs) s z k =
      let a = sum_by-cons h x xs in
      put_all_clean n cs xs (put n c x s) (omega (arith, a, z)) (put_clean n c x s (omega (arith, a, z)) k)

  -- ---- instructions

  says_clean : (x : Message) (s : Exec) → of_message (of_values h) x ≡ 0 → Clean h s → Clean h (says x s)
  says_clean x s z k = let a = sum_by_push (of_message (of_values h)) s.outbox x in omega (arith, a, z, k)

  end_clean : (o : Option Frame) (n : ℕ) (s : Exec) → slice_get s.frames n ≡ o → Clean h s → Clean h (end_in o n s)
  end_clean None n s e k = k
  end_clean (Some f) n s e k =
      let a = sum_set (λ g. sum_by h g.cells) s.frames n f (record f { live = false; cells = [] }) e in omega (arith, a, k)

  answer_clean : (o : Option Caller) (xs : List Value) (n : ℕ) (s : Exec) → sum_by h xs ≡ 0 → Clean h s → Clean h (answers (answer_of o xs) n s)
  answer_clean None xs n s z k = k
  answer_clean (Some c) xs n s z k =
      let x : Message = m.Work c.node (e.Fill c.frame c.slot c.cells xs) in
      let u : Exec = says (m.EndFrame n) (says x s) in
      end_clean (slice_get u.frames n) n u refl (says_clean (m.EndFrame n) (says x s) refl (says_clean x s (omega (arith, z)) k))

  one_clean : (me n : ℕ) (x : Instr) (s : Exec) → Clean h s → Clean h (one me n x s)
  one_clean me n (i.Const d j) s k = put_clean n d (Int j) s (light.int j) k
  one_clean me n (i.Copy d a) s k = put_clean n d (cell_at n a s) s (cell_clean n a s k) k
  one_clean me n (i.Add d a b) s k = put_clean n d _ s (light.int (int_wrapping_add w64 (int_at n a s) (int_at n b s))) k
  one_clean me n (i.Sub d a b) s k = put_clean n d _ s (light.int (int_wrapping_sub w64 (int_at n a s) (int_at n b s))) k
  one_clean me n (i.Mul d a b) s k = put_clean n d _ s (light.int (int_wrapping_mul w64 (int_at n a s) (int_at n b s))) k
  one_clean me n (i.InitSync slot size reset fiber) s k = says_clean _ s refl k
  one_clean me n (i.PrintSync string cells slot) s k = says_clean _ s refl k
  one_clean me n (i.EndFunction cells) s k = answer_clean (caller_of n s) (cells_at n cells s) n s (cells_clean n cells s k) k
  one_clean me n i.EndFiber s k = k

  either_clean : (b : Bool) (s t : Exec) → Clean h s → Clean h t → Clean h (cond b s t)
  either_clean true s t k l = k
  either_clean false s t k l = l

  does_clean : (me n : ℕ) (xs : List Instr) (s : Exec) → Clean h s → Clean h (does me n xs s)
  does_clean me n [] s k = k
  does_clean me n (x ∷ xs) s k =
      let l = one_clean me n x s k in
      either_clean (ends x) (one me n x s) (does me n xs (one me n x s)) l (does_clean me n xs (one me n x s) l)

  fiber_clean : (me n : ℕ) (o : Option Fiber) (s : Exec) → Clean h s → Clean h (does_fiber me n o s)
  fiber_clean me n None s k = k
  fiber_clean me n (Some x) s k = does_clean me n x.instrs s k

  in_clean : (me n fiber : ℕ) (o : Option Function) (s : Exec) → Clean h s → Clean h (runs_in me n fiber o s)
  in_clean me n fiber None s k = k
  in_clean me n fiber (Some f) s k =
      either_clean (suits f (slice_get s.frames n)) (does_fiber me n (slice_get f.fibers fiber) s) s (fiber_clean me n (slice_get f.fibers fiber) s k) k

  run_clean : (code : Code) (me n fiber : ℕ) (s : Exec) → Clean h s → Clean h (runs_fiber code me n fiber s)
  run_clean code me n fiber s k = in_clean me n fiber (function_at code n s) s k

  -- ---- entries

  frame_weighs : (f : Function) (c : Call) → sum_by h (frame_for f c).cells ≡ sum_by h c.args
  frame_weighs f c =
      let a = sum_by-append h c.args (replicate (f.cells - length c.args) (Int (pos 0))) in
      let b = sum_by-replicate h (f.cells - length c.args) (Int (pos 0)) in
      let d : (f.cells - length c.args) * h (Int (pos 0)) ≡ 0 = ap (λ z. (f.cells - length c.args) * z) (light.int (pos 0)) ∙ mul-zero (f.cells - length c.args) in
      omega (arith, a, b, d)

  entered_clean : (code : Code) (me : ℕ) (c : Call) (o : Option Function) (s : Exec) → sum_by h c.args ≡ 0 → Clean h s → Clean h (entered code me c o s)
  entered_clean code me c None s z k = k
  entered_clean code me c (Some f) s z k =
      let t : Exec = record s { frames = s.frames ++ frame_for f c ∷ [] } in
      let a = sum_by_push (λ g. sum_by h g.cells) s.frames (frame_for f c) in
      let b = frame_weighs f c in
      let l : Clean h t = omega (arith, a, b, z, k) in
      either_clean (takes f c) (runs_fiber code me (length s.frames) 0 t) s (run_clean code me (length s.frames) 0 t l) k

  pub entry_clean : (code : Code) (me : ℕ) (x : Entry) (s : Exec) → of_values h x ≡ 0 → Clean h s → Clean h (entry code me x s)
  entry_clean code me (e.Start frame fiber slot filling) s z k = run_clean code me frame fiber s k
  entry_clean code me (e.Enter c) s z k = entered_clean code me c (slice_get code.functions c.function) s z k
  entry_clean code me (e.Fill frame slot cells values) s z k =
      let t : Exec = put_all frame cells values s in
      either_clean (lives frame s) (says (m.Sync me frame slot) t) s (says_clean (m.Sync me frame slot) t refl (put_all_clean frame cells values s z k)) k
  entry_clean code me (e.Print bytes back) s z k = says_clean (m.Sync back.node back.frame back.slot) (record s { output = s.output ++ bytes }) refl k

  pub spawned_clean : (code : Code) (me : ℕ) (q : List Spawned) (s u : Exec) → spawned_of code me q s ≡ Some u → Clean h s → Clean h u
  spawned_clean code me [] s u e k = cc
  spawned_clean code me (x ∷ rest) s u e k =
      let a = same_Some _ u e in rw (← a) (run_clean code me x.frame x.fiber (record s { spawned = rest }) k)
