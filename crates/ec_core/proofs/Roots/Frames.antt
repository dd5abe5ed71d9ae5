-- What runs of fibers leave of frames, and what they put on its way.
use Rattle.std.proofs.Common.{◌≡◌, ◌<◌, ℕ, zero, suc, Bool, true, false, cond, List, [], ◌∷◌, ◌++◌, length, map, refl, ap, sym, ◌∙◌, Option, Some, None, slice_get, slice_set, subst, arith}
use Rattle.std.proofs.lemmas.List.Sums.{sum_by_push}
use Rattle.std.proofs.lemmas.Option.{same_Some, slice_get_within}
use Rattle.ec_base.specs.declared.value.Value.{Value}
use Rattle.ec_base.specs.Format.{formatted}
use Rattle.ec_core.specs.declared.code.Code.{Code}
use Rattle.ec_core.specs.declared.code.Fiber.{Fiber}
use Rattle.ec_core.specs.declared.code.Function.{Function}
use Rattle.ec_core.specs.declared.code.Instr.{Instr}
use Rattle.ec_core.specs.declared.code.Instr.TheVariants as i
use Rattle.ec_core.specs.declared.message.Call.{Call}
use Rattle.ec_core.specs.declared.message.Entry.{Entry}
use Rattle.ec_core.specs.declared.message.Entry.TheVariants as e
use Rattle.ec_core.specs.declared.message.Message.{Message}
use Rattle.ec_core.specs.declared.message.Message.TheVariants as m
use Rattle.ec_core.specs.declared.eu.Caller.{Caller}
use Rattle.ec_core.specs.declared.eu.Frame.{Frame}
use Rattle.ec_core.specs.declared.eu.Spawned.{Spawned}
use Rattle.ec_core.specs.State.{Exec}
use Rattle.ec_core.specs.Entry.{entered, entry, frame_for, takes, lives, spawned_of}
use Rattle.ec_core.specs.Fiber.{put_in, put, put_all, says, end_in, answer_of, answers, caller_of, cells_at, ints_at, one, ends, does, does_fiber, suits, runs_in, runs_fiber, function_at}
use Rattle.ec_core.proofs.Roots.Weights.{of_message, of_queue}

-- ---- frames

-- one frame later: it has its birth and its caller, and may have ended
pub record Later (f g : Frame) : Type 0 where
  pub birth : g.birth ≡ f.birth
  pub caller : g.caller ≡ f.caller
  pub live : g.live ≡ true → f.live ≡ true

same : (f : Frame) → Later f f
same f = record { birth = refl; caller = refl; live = λ l. l }

-- each frame is there later
abbrev pub Extends : List Frame → List Frame → Type 0
Extends fs gs = (k : ℕ) (f : Frame) → slice_get fs k ≡ Some f → (g : Frame) × (slice_get gs k ≡ Some g) × Later f g

pub unchanged : (fs : List Frame) → Extends fs fs
unchanged fs k f e = (f, e, same f)

pub extends_twice : (fs gs hs : List Frame) → Extends fs gs → Extends gs hs → Extends fs hs
extends_twice fs gs hs a b k f e =
    let p = a k f e in
    let q = b k p.0 p.1 in
    (q.0, q.1, record { birth = q.2.birth ∙ p.2.birth; caller = q.2.caller ∙ p.2.caller; live = λ l. p.2.live (q.2.live l) })

extends_set : (fs : List Frame) (n : ℕ) (f g : Frame) → slice_get fs n ≡ Some f → Later f g → Extends fs (slice_set fs n g)
extends_set [] n f g e l k x h = cc
extends_set (y ∷ fs) zero f g e l zero x h =
    let a : f ≡ x = same_Some _ _ (sym e ∙ h) in (g, refl, subst (λ (z : Frame). Later z g) a l)
extends_set (y ∷ fs) zero f g e l (suc k) x h = (x, h, same x)
extends_set (y ∷ fs) (suc n) f g e l zero x h = (x, h, same x)
extends_set (y ∷ fs) (suc n) f g e l (suc k) x h = extends_set fs n f g e l k x h

pub extends_push : (fs gs : List Frame) → Extends fs (fs ++ gs)
extends_push [] gs k x h = cc
extends_push (y ∷ fs) gs zero x h = (x, h, same x)
extends_push (y ∷ fs) gs (suc k) x h = extends_push fs gs k x h

map_set : {A : Type 0} (h : Frame → A) (fs : List Frame) (n : ℕ) (f g : Frame) → slice_get fs n ≡ Some f → h g ≡ h f → map h (slice_set fs n g) ≡ map h fs
map_set h [] n f g e l = cc
map_set h (y ∷ fs) zero f g e l = ap (λ z. z ∷ map h fs) (l ∙ ap h (same_Some _ _ (sym e)))
map_set h (y ∷ fs) (suc n) f g e l = ap (λ zs. h y ∷ zs) (map_set h fs n f g e l)

-- ---- one run

-- answers weigh nothing, nor does what the frame prints, where it is one of so many
pub record IsQuiet (me n count : ℕ) (f : Entry → ℕ) : Type 0 where
  pub fill : (frame slot : ℕ) (cells : List ℕ) (values : List Value) → f (e.Fill frame slot cells values) ≡ 0
  pub print : n < count → (bytes : List ℕ) (slot : ℕ) → f (e.Print bytes (record { node = me; frame = n; cell = None; slot = slot })) ≡ 0

-- a run of frame n keeps what frames there are, their births and their callers
pub record Ran (me n count : ℕ) (s t : Exec) : Type 0 where
  pub births : map (λ f. f.birth) t.frames ≡ map (λ f. f.birth) s.frames
  pub callers : map (λ f. f.caller) t.frames ≡ map (λ f. f.caller) s.frames
  pub extends : Extends s.frames t.frames
  pub outbox : (f : Entry → ℕ) → IsQuiet me n count f → of_queue f t.outbox ≡ of_queue f s.outbox

module _ (me n count : ℕ) where
  stays : (s : Exec) → Ran me n count s s
  stays s = record { births = refl; callers = refl; extends = unchanged s.frames; outbox = λ f q. refl }

  twice : (s t u : Exec) → Ran me n count s t → Ran me n count t u → Ran me n count s u
  twice s t u a b = record {
    births = b.births ∙ a.births;
    callers = b.callers ∙ a.callers;
    extends = extends_twice s.frames t.frames u.frames a.extends b.extends;
    outbox = λ f q. b.outbox f q ∙ a.outbox f q;
  }

  changed : (k : ℕ) (f g : Frame) (s : Exec) → slice_get s.frames k ≡ Some f → Later f g → Ran me n count s (record s { frames = slice_set s.frames k g })
  changed k f g s e l = record {
    births = map_set (λ x. x.birth) s.frames k f g e l.birth;
    callers = map_set (λ x. x.caller) s.frames k f g e l.caller;
    extends = extends_set s.frames k f g e l;
    outbox = λ x q. refl;
  }

  put_ran : (o : Option Frame) (k c : ℕ) (x : Value) (s : Exec) → slice_get s.frames k ≡ o → Ran me n count s (put_in o k c x s)
  put_ran None k c x s e = stays s
  put_ran (Some f) k c x s e = changed k f (record f { cells = slice_set f.cells c x }) s e (record { birth = refl; caller = refl; live = λ l. l })

  put_once : (k c : ℕ) (x : Value) (s : Exec) → Ran me n count s (put k c x s)
  put_once k c x s = put_ran (slice_get s.frames k) k c x s refl

  pub put_all_ran : (k : ℕ) (cs : List ℕ) (xs : List Value) (s : Exec) → Ran me n count s (put_all k cs xs s)
  put_all_ran k [] xs s = stays s
  put_all_ran k (c ∷ cs) [] s = stays s
  put_all_ran k (c ∷ cs) (x ∷ xs) s =
      twice s (put k c x s) (put_all k cs xs (put k c x s)) (put_once k c x s) (put_all_ran k cs xs (put k c x s))

  said : (x : Message) (s : Exec) → ((f : Entry → ℕ) → IsQuiet me n count f → of_message f x ≡ 0) → Ran me n count s (says x s)
  said x s none = record {
    births = refl;
    callers = refl;
    extends = unchanged s.frames;
    outbox = λ f q. let a = sum_by_push (of_message f) s.outbox x in let b = none f q in omega (arith, a, b);
  }

  end_ran : (o : Option Frame) (k : ℕ) (s : Exec) → slice_get s.frames k ≡ o → Ran me n count s (end_in o k s)
  end_ran None k s e = stays s
  end_ran (Some f) k s e = changed k f (record f { live = false; cells = [] }) s e (record { birth = refl; caller = refl; live = λ l. cc })

  answer_ran : (o : Option Caller) (xs : List Value) (s : Exec) → Ran me n count s (answers (answer_of o xs) n s)
  answer_ran None xs s = stays s
  answer_ran (Some c) xs s =
      let x : Message = m.Work c.node (e.Fill c.frame c.slot c.cells xs) in
      let t : Exec = says x s in
      let u : Exec = says (m.EndFrame n) t in
      twice s t (end_in (slice_get u.frames n) n u) (said x s (λ f q. let a = q.fill c.frame c.slot c.cells xs in omega (arith, a)))
      (twice t u (end_in (slice_get u.frames n) n u) (said (m.EndFrame n) t (λ f q. refl)) (end_ran (slice_get u.frames n) n u refl))

  one_ran : (x : Instr) (s : Exec) → n < count → Ran me n count s (one me n x s)
  one_ran (i.Const d k) s l = put_once n d _ s
  one_ran (i.Copy d a) s l = put_once n d _ s
  one_ran (i.Add d a b) s l = put_once n d _ s
  one_ran (i.Sub d a b) s l = put_once n d _ s
  one_ran (i.Mul d a b) s l = put_once n d _ s
  one_ran (i.InitSync slot size reset fiber) s l = said _ s (λ f q. refl)
  one_ran (i.PrintSync string cells slot) s l = said _ s (λ f q. let a = q.print l (formatted string (ints_at n cells s)) slot in omega (arith, a))
  one_ran (i.EndFunction cells) s l = answer_ran (caller_of n s) (cells_at n cells s) s
  one_ran i.EndFiber s l = stays s

  then_ran : (b : Bool) (s t u : Exec) → Ran me n count s t → Ran me n count t u → Ran me n count s (cond b t u)
  then_ran true s t u a b = a
  then_ran false s t u a b = twice s t u a b

  does_ran : (xs : List Instr) (s : Exec) → n < count → Ran me n count s (does me n xs s)
  does_ran [] s l = stays s
  does_ran (x ∷ xs) s l =
      then_ran (ends x) s (one me n x s) (does me n xs (one me n x s)) (one_ran x s l) (does_ran xs (one me n x s) l)

  fiber_does_ran : (o : Option Fiber) (s : Exec) → n < count → Ran me n count s (does_fiber me n o s)
  fiber_does_ran None s l = stays s
  fiber_does_ran (Some x) s l = does_ran x.instrs s l

  suited_ran : (f : Function) (fiber : ℕ) (o : Option Frame) (s : Exec) → slice_get s.frames n ≡ o → length s.frames ≡ count → Ran me n count s (cond (suits f o) (does_fiber me n (slice_get f.fibers fiber) s) s)
  suited_ran f fiber None s e k = stays s
  suited_ran f fiber (Some x) s e k = or_not (suits f (Some x))
    where
      or_not : (b : Bool) → Ran me n count s (cond b (does_fiber me n (slice_get f.fibers fiber) s) s)
      or_not true = let l = slice_get_within s.frames n x e in fiber_does_ran (slice_get f.fibers fiber) s (omega (arith, l, k))
      or_not false = stays s

  in_ran : (fiber : ℕ) (o : Option Function) (s : Exec) → length s.frames ≡ count → Ran me n count s (runs_in me n fiber o s)
  in_ran fiber None s k = stays s
  in_ran fiber (Some f) s k = suited_ran f fiber (slice_get s.frames n) s refl k

pub ran : (code : Code) (me n fiber : ℕ) (s : Exec) → Ran me n (length s.frames) s (runs_fiber code me n fiber s)
ran code me n fiber s = in_ran me n (length s.frames) fiber (function_at code n s) s refl

-- ---- entries

or_extends : (fs : List Frame) (b : Bool) (s t : Exec) → Extends fs s.frames → Extends fs t.frames → Extends fs (cond b s t).frames
or_extends fs true s t x y = x
or_extends fs false s t x y = y

entered_extends : (code : Code) (me : ℕ) (c : Call) (o : Option Function) (s : Exec) → Extends s.frames (entered code me c o s).frames
entered_extends code me c None s = unchanged s.frames
entered_extends code me c (Some f) s =
    let t : Exec = record s { frames = s.frames ++ frame_for f c ∷ [] } in
    let u : Exec = runs_fiber code me (length s.frames) 0 t in
    let r = ran code me (length s.frames) 0 t in
    or_extends s.frames (takes f c) u s (extends_twice s.frames t.frames u.frames (extends_push s.frames (frame_for f c ∷ [])) r.extends) (unchanged s.frames)

pub entry_extends : (code : Code) (me : ℕ) (x : Entry) (s : Exec) → Extends s.frames (entry code me x s).frames
entry_extends code me (e.Start frame fiber slot filling) s = let r = ran code me frame fiber s in r.extends
entry_extends code me (e.Enter c) s = entered_extends code me c (slice_get code.functions c.function) s
entry_extends code me (e.Fill frame slot cells values) s =
    let r = put_all_ran me frame 0 frame cells values s in
    or_extends s.frames (lives frame s) (says (m.Sync me frame slot) (put_all frame cells values s)) s r.extends (unchanged s.frames)
entry_extends code me (e.Print bytes back) s = unchanged s.frames

pub spawned_extends : (code : Code) (me : ℕ) (q : List Spawned) (s u : Exec) → spawned_of code me q s ≡ Some u → Extends s.frames u.frames
spawned_extends code me [] s u h = cc
spawned_extends code me (x ∷ rest) s u h =
    let a = same_Some _ u h in let r = ran code me x.frame x.fiber (record s { spawned = rest }) in rw (← a) r.extends
