-- What runs leave of the births that frames have taken, and which births they bring.
use Rattle.std.proofs.Common.{◌≡◌, ◌<◌, ◌≤◌, ◌+◌, ◌∙◌, ℕ, zero, suc, Bool, true, false, List, [], ◌∷◌, ◌++◌, drop, length, length-append, map, refl, ap, sym, is_some, Option, Some, None, slice_get, slice_set, subst, arith}
use Rattle.std.specs.List.{sum_by}
use Rattle.std.proofs.lemmas.List.Sums.{sum_by-cons}
use Rattle.std.proofs.lemmas.Option.{same_Some}
use Rattle.ec_base.specs.declared.value.Birth.{Birth}
use Rattle.ec_cells.specs.declared.node.Frame.{Frame}
use Rattle.ec_cells.specs.Frames.{is_live, lives, next_birth, taken_in, took_birth, took_in}
use Rattle.ec_cells.specs.Memory.{Memory}
use Rattle.ec_code.specs.declared.message.Entry.{Entry}
use Rattle.ec_eu.specs.declared.state.Activation.{Activation}
use Rattle.ec_eu.specs.Instructions.{activation_in}
use Rattle.ec_eu.specs.State.{Exec}
use Rattle.ec_world_laws.specs.Rooted.{IsActive, Takes, births_of}
use Rattle.ec_world_laws.proofs.Rooted.Weights.{of_exec}

-- ---- marks

-- of a frame, whether it is live, and how many births it has taken
pub record Mark : Type 0 where
  pub live : Bool
  pub taken : ℕ

abbrev pub mark : Frame → Mark
mark f = record { live = f.live; taken = length f.taken }

abbrev pub marks : Memory → List Mark
marks n = map mark n.frames

abbrev pub mark_in : Option Frame → Option Mark
mark_in None = None
mark_in (Some f) = Some (mark f)

abbrev pub marked_live : Option Mark → Bool
marked_live None = false
marked_live (Some x) = x.live

abbrev pub marked_taken : Option Mark → ℕ
marked_taken None = 0
marked_taken (Some x) = x.taken

abbrev pub TakesMark : ℕ → Option Mark → Type 0
TakesMark number None = ⊥
TakesMark number (Some x) = (1 ≤ number) × (x.live ≡ true → number ≤ x.taken)

pub mark_at : (fs : List Frame) (k : ℕ) → slice_get (map mark fs) k ≡ mark_in (slice_get fs k)
mark_at [] k = refl
mark_at (f ∷ fs) zero = refl
mark_at (f ∷ fs) (suc k) = mark_at fs k

pub marks_set : (fs : List Frame) (k : ℕ) (f : Frame) → map mark (slice_set fs k f) ≡ slice_set (map mark fs) k (mark f)
marks_set [] k f = refl
marks_set (g ∷ fs) zero f = refl
marks_set (g ∷ fs) (suc k) f = ap (λ xs. mark g ∷ xs) (marks_set fs k f)

-- an item that is set to what it is
pub set_same : {A : Type 0} (xs : List A) (k : ℕ) (x : A) → slice_get xs k ≡ Some x → slice_set xs k x ≡ xs
set_same [] k x h = cc
set_same (y ∷ xs) zero x h = ap (λ z. z ∷ xs) (sym (same_Some _ _ h))
set_same (y ∷ xs) (suc k) x h = ap (λ ys. y ∷ ys) (set_same xs k x h)

pub set_there : {A : Type 0} (xs : List A) (k : ℕ) (x y : A) → slice_get xs k ≡ Some x → slice_get (slice_set xs k y) k ≡ Some y
set_there [] k x y h = cc
set_there (z ∷ xs) zero x y h = refl
set_there (z ∷ xs) (suc k) x y h = set_there xs k x y h

live_in : (o : Option Frame) → is_live o ≡ marked_live (mark_in o)
live_in None = refl
live_in (Some f) = refl

pub live_at : (k : ℕ) (n : Memory) → lives k n ≡ marked_live (slice_get (marks n) k)
live_at k n = live_in (slice_get n.frames k) ∙ ap marked_live (sym (mark_at n.frames k))

taken_in_mark : (o : Option Frame) → taken_in o ≡ marked_taken (mark_in o)
taken_in_mark None = refl
taken_in_mark (Some f) = refl

pub taken_at : (k : ℕ) (n : Memory) → taken_in (slice_get n.frames k) ≡ marked_taken (slice_get (marks n) k)
taken_at k n = taken_in_mark (slice_get n.frames k) ∙ ap marked_taken (sym (mark_at n.frames k))

to_mark : (number : ℕ) (o : Option Frame) → Takes number o → TakesMark number (mark_in o)
to_mark number None h = h
to_mark number (Some f) h = h

from_mark : (number : ℕ) (o : Option Frame) → TakesMark number (mark_in o) → Takes number o
from_mark number None h = h
from_mark number (Some f) h = h

pub takes_mark : (number k : ℕ) (n : Memory) → Takes number (slice_get n.frames k) → TakesMark number (slice_get (marks n) k)
takes_mark number k n h = subst (TakesMark number) (sym (mark_at n.frames k)) (to_mark number (slice_get n.frames k) h)

pub mark_takes : (number k : ℕ) (n : Memory) → TakesMark number (slice_get (marks n) k) → Takes number (slice_get n.frames k)
mark_takes number k n h = from_mark number (slice_get n.frames k) (subst (TakesMark number) (mark_at n.frames k) h)

-- ---- the births of a unit

-- the weight of births of an entry, and of a unit's frames but the first, its blocks, and calls in its outbox
abbrev pub of_births : (Option Birth → ℕ) → Entry → ℕ
of_births h x = sum_by h (births_of x)

abbrev pub own_births : (Option Birth → ℕ) → Exec → ℕ
own_births h u = sum_by h (drop 1 u.memory.births.frames) + sum_by h (map Some u.memory.births.blocks)

abbrev pub unit_births : (Option Birth → ℕ) → Exec → ℕ
unit_births h u = of_exec (own_births h) (of_births h) u

-- so many births of a frame, behind those that it has taken
abbrev pub numbered : ℕ → ℕ → ℕ → ℕ → List (Option Birth)
numbered node frame taken zero = []
numbered node frame taken (suc count) = Some (record { node = node; frame = frame; number = taken + 1 }) ∷ numbered node frame (taken + 1) count

pub numbered_more : (h : Option Birth → ℕ) (node frame taken a b : ℕ) →
    sum_by h (numbered node frame taken (a + b)) ≡ sum_by h (numbered node frame taken a) + sum_by h (numbered node frame (taken + a) b)
numbered_more h node frame taken zero b =
    let x : zero + b ≡ b = omega arith in
    let y : taken + zero ≡ taken = omega arith in
    let p = ap (λ k. sum_by h (numbered node frame taken k)) x in
    let q = ap (λ k. sum_by h (numbered node frame k b)) y in
    omega (arith, p, q)
numbered_more h node frame taken (suc a) b =
    let x : suc a + b ≡ suc (a + b) = omega arith in
    let y : taken + 1 + a ≡ taken + suc a = omega arith in
    let p = ap (λ k. sum_by h (numbered node frame taken k)) x in
    let q = ap (λ k. sum_by h (numbered node frame k b)) y in
    let first : Option Birth = Some (record { node = node; frame = frame; number = taken + 1 }) in
    let c = sum_by-cons h first (numbered node frame (taken + 1) (a + b)) in
    let d = sum_by-cons h first (numbered node frame (taken + 1) a) in
    let r = numbered_more h node frame (taken + 1) a b in
    omega (arith, p, q, c, d, r)

-- ---- runs in a frame

-- a run in a live frame, which brings so many births of it and no other
pub record Bears (k : ℕ) (u t : Exec) : Type 0 where
  pub node : t.memory.node ≡ u.memory.node
  pub count : ℕ
  pub weighs : (h : Option Birth → ℕ) →
      unit_births h t ≤ unit_births h u + sum_by h (numbered u.memory.node k (marked_taken (slice_get (marks u.memory) k)) count)
  pub frames : t.memory.births.frames ≡ u.memory.births.frames
  pub takes : (j number : ℕ) → TakesMark number (slice_get (marks u.memory) j) → TakesMark number (slice_get (marks t.memory) j)
  pub own : (number : ℕ) → 1 ≤ number → number ≤ marked_taken (slice_get (marks u.memory) k) + count →
      TakesMark number (slice_get (marks t.memory) k)
  -- while it is live, it has taken that many more
  pub goes : lives k t.memory ≡ true →
      marked_taken (slice_get (marks t.memory) k) ≡ marked_taken (slice_get (marks u.memory) k) + count
  pub active : IsActive u → IsActive t

-- a run that brings no births, and leaves of frames what births rest on
pub record Quiet (u t : Exec) : Type 0 where
  pub node : t.memory.node ≡ u.memory.node
  pub marks : marks t.memory ≡ marks u.memory
  pub births : t.memory.births ≡ u.memory.births
  pub activations : t.activations ≡ u.activations
  pub weighs : (h : Option Birth → ℕ) → unit_births h t ≤ unit_births h u

pub quiet_stays : (u : Exec) → Quiet u u
quiet_stays u = record { node = refl; marks = refl; births = refl; activations = refl; weighs = λ h. omega arith }

pub quiet_twice : (s t u : Exec) → Quiet s t → Quiet t u → Quiet s u
quiet_twice s t u a b = record {
  node = b.node ∙ a.node;
  marks = b.marks ∙ a.marks;
  births = b.births ∙ a.births;
  activations = b.activations ∙ a.activations;
  weighs = λ h. let x = a.weighs h in let y = b.weighs h in omega (arith, x, y);
}

pub active_same : (u t : Exec) → marks t.memory ≡ marks u.memory → t.activations ≡ u.activations → IsActive u → IsActive t
active_same u t m a h j s =
    live_at j t.memory ∙ (ap (λ (xs : List Mark). marked_live (slice_get xs j)) m ∙ (sym (live_at j u.memory) ∙
    h j (ap (λ (xs : List (Option Activation)). is_some (activation_in (slice_get xs j))) (sym a) ∙ s)))

takes_all : (n : ℕ) (o : Option Mark) → marked_live o ≡ true → 1 ≤ n → n ≤ marked_taken o → TakesMark n o
takes_all n None l a b = absurd (cc)
takes_all n (Some x) l a b = (a, λ h. b)

pub quiet_bears : (k : ℕ) (u t : Exec) → lives k u.memory ≡ true → Quiet u t → Bears k u t
quiet_bears k u t l q = record {
  node = q.node;
  count = 0;
  weighs = λ h. let a = q.weighs h in omega (arith, a);
  frames = ap (λ b. b.frames) q.births;
  takes = λ j number h. subst (λ (xs : List Mark). TakesMark number (slice_get xs j)) (sym q.marks) h;
  own = λ number a b.
      subst (λ (xs : List Mark). TakesMark number (slice_get xs k)) (sym q.marks)
      (takes_all number (slice_get (marks u.memory) k) (sym (live_at k u.memory) ∙ l) a (omega (arith, b)));
  goes = λ h. let a = ap (λ (xs : List Mark). marked_taken (slice_get xs k)) q.marks in omega (arith, a);
  active = active_same u t q.marks q.activations;
}

pub either_way : (P : Type 0) (a b : ℕ) → (a ≤ b → P) → (b < a → P) → P
either_way P zero b f g = f (omega arith)
either_way P (suc a) zero f g = g (omega arith)
either_way P (suc a) (suc b) f g = either_way P a b (λ h. f (omega (arith, h))) (λ h. g (omega (arith, h)))

-- a run behind another, which leaves the frame live
pub bears_twice : (k : ℕ) (s t u : Exec) → lives k t.memory ≡ true → Bears k s t → Bears k t u → Bears k s u
bears_twice k s t u l a b = record {
  node = b.node ∙ a.node;
  count = a.count + b.count;
  weighs = λ h.
      let x = a.weighs h in
      let y = b.weighs h in
      let taken = a.goes l in
      let p = ap (λ n. sum_by h (numbered n k (marked_taken (slice_get (marks t.memory) k)) b.count)) a.node in
      let q = ap (λ n. sum_by h (numbered s.memory.node k n b.count)) taken in
      let r = numbered_more h s.memory.node k (marked_taken (slice_get (marks s.memory) k)) a.count b.count in
      omega (arith, x, y, p, q, r);
  frames = b.frames ∙ a.frames;
  takes = λ j number h. b.takes j number (a.takes j number h);
  own = λ number x y. let taken = a.goes l in b.own number x (omega (arith, y, taken));
  goes = λ h. let x = b.goes h in let y = a.goes l in omega (arith, x, y);
  active = λ h. b.active (a.active h);
}

pub then_quiet : (k : ℕ) (s t u : Exec) → Bears k s t → Quiet t u → Bears k s u
then_quiet k s t u a q = record {
  node = q.node ∙ a.node;
  count = a.count;
  weighs = λ h. let x = a.weighs h in let y = q.weighs h in omega (arith, x, y);
  frames = ap (λ b. b.frames) q.births ∙ a.frames;
  takes = λ j number h. subst (λ (xs : List Mark). TakesMark number (slice_get xs j)) (sym q.marks) (a.takes j number h);
  own = λ number x y. subst (λ (xs : List Mark). TakesMark number (slice_get xs k)) (sym q.marks) (a.own number x y);
  goes = λ h.
      let same = ap (λ (xs : List Mark). slice_get xs k) q.marks in
      let x = a.goes (live_at k t.memory ∙ (ap marked_live (sym same) ∙ (sym (live_at k u.memory) ∙ h))) in
      let y = ap marked_taken same in
      omega (arith, x, y);
  active = λ h. active_same t u q.marks q.activations (a.active h);
}

-- ---- a birth that a frame takes

took_in_marks : (o : Option Frame) (k : ℕ) (n : Memory) → slice_get n.frames k ≡ o → is_live o ≡ true →
    marks (took_in o k n) ≡ slice_set (marks n) k (record { live = true; taken = marked_taken (mark_in o) + 1 })
took_in_marks None k n h l = absurd (cc)
took_in_marks (Some f) k n h l =
    let long = length-append f.taken (0 ∷ []) in
    let count : length (f.taken ++ 0 ∷ []) ≡ length f.taken + 1 = omega (arith, long) in
    marks_set n.frames k (record f { taken = f.taken ++ 0 ∷ [] }) ∙
    (ap (λ taken. slice_set (marks n) k (record { live = f.live; taken = taken })) count ∙
    ap (λ live. slice_set (marks n) k (record { live = live; taken = length f.taken + 1 })) l)

pub took_marks : (k : ℕ) (n : Memory) → lives k n ≡ true → marks (took_birth k n) ≡
    slice_set (marks n) k (record { live = true; taken = marked_taken (slice_get (marks n) k) + 1 })
took_marks k n l =
    took_in_marks (slice_get n.frames k) k n refl l ∙
    ap (λ taken. slice_set (marks n) k (record { live = true; taken = taken + 1 })) (ap marked_taken (sym (mark_at n.frames k)))

-- a mark that takes no less
set_takes : (xs : List Mark) (k : ℕ) (y : Mark) → ((n : ℕ) → TakesMark n (slice_get xs k) → TakesMark n (Some y)) → (j number : ℕ) →
    TakesMark number (slice_get xs j) → TakesMark number (slice_get (slice_set xs k y) j)
set_takes [] k y f j number h = absurd h
set_takes (x ∷ xs) zero y f zero number h = f number h
set_takes (x ∷ xs) zero y f (suc j) number h = h
set_takes (x ∷ xs) (suc k) y f zero number h = h
set_takes (x ∷ xs) (suc k) y f (suc j) number h = set_takes xs k y f j number h

more_takes : (o : Option Mark) (n : ℕ) → marked_live o ≡ true → TakesMark n o →
    TakesMark n (Some (record { live = true; taken = marked_taken o + 1 }))
more_takes None n l h = absurd h
more_takes (Some x) n l h = (h.0, λ m. let a = h.1 l in omega (arith, a))

live_there : (xs : List Mark) (k : ℕ) → marked_live (slice_get xs k) ≡ true → (x : Mark) × (slice_get xs k ≡ Some x)
live_there [] k l = absurd (cc)
live_there (x ∷ xs) zero l = (x, refl)
live_there (x ∷ xs) (suc k) l = live_there xs k l

live_set : (xs : List Mark) (k : ℕ) (y : Mark) → y.live ≡ true → (j : ℕ) → marked_live (slice_get xs j) ≡ true →
    marked_live (slice_get (slice_set xs k y) j) ≡ true
live_set [] k y l j h = h
live_set (x ∷ xs) zero y l zero h = l
live_set (x ∷ xs) zero y l (suc j) h = h
live_set (x ∷ xs) (suc k) y l zero h = h
live_set (x ∷ xs) (suc k) y l (suc j) h = live_set xs k y l j h

pub took_bears : (k : ℕ) (u t : Exec) → lives k u.memory ≡ true → t.memory.node ≡ u.memory.node →
    marks t.memory ≡ marks (took_birth k u.memory) → t.memory.births.frames ≡ u.memory.births.frames →
    t.activations ≡ u.activations →
    ((h : Option Birth → ℕ) → unit_births h t ≤ unit_births h u + h (Some (next_birth k u.memory))) → Bears k u t
took_bears k u t l node same frames acts weighs =
    let before : List Mark = marks u.memory in
    let live : marked_live (slice_get before k) ≡ true = sym (live_at k u.memory) ∙ l in
    let y : Mark = record { live = true; taken = marked_taken (slice_get before k) + 1 } in
    let now : marks t.memory ≡ slice_set before k y = same ∙ took_marks k u.memory l in
    let was = live_there before k live in
    let here : slice_get (marks t.memory) k ≡ Some y = ap (λ (xs : List Mark). slice_get xs k) now ∙ set_there before k was.0 y was.1 in
    record {
      node = node;
      count = 1;
      weighs = λ h.
          let a = weighs h in
          let b = ap (λ n. h (Some (record { node = u.memory.node; frame = k; number = n + 1 }))) (taken_at k u.memory) in
          let c = sum_by-cons h (Some (record { node = u.memory.node; frame = k; number = marked_taken (slice_get before k) + 1 })) [] in
          omega (arith, a, b, c);
      frames = frames;
      takes = λ j number h.
          subst (λ (xs : List Mark). TakesMark number (slice_get xs j)) (sym now)
          (set_takes before k y (λ n g. more_takes (slice_get before k) n live g) j number h);
      own = λ number a b. subst (TakesMark number) (sym here) (a, λ m. b);
      goes = λ h. ap marked_taken here;
      active = λ h j s.
          let was_live = sym (live_at j u.memory) ∙ h j (ap (λ (xs : List (Option Activation)). is_some (activation_in (slice_get xs j))) (sym acts) ∙ s) in
          live_at j t.memory ∙ (ap (λ (xs : List Mark). marked_live (slice_get xs j)) now ∙ live_set before k y refl j was_live);
    }

-- ---- a frame that ends

ends_active : (xs : List Mark) (acts : List (Option Activation)) (k : ℕ) (y : Mark) →
    ((j : ℕ) → is_some (activation_in (slice_get acts j)) ≡ true → marked_live (slice_get xs j) ≡ true) → (j : ℕ) →
    is_some (activation_in (slice_get (slice_set acts k None) j)) ≡ true → marked_live (slice_get (slice_set xs k y) j) ≡ true
ends_active xs [] k y f j h = absurd (cc)
ends_active [] (a ∷ acts) zero y f zero h = absurd (cc)
ends_active [] (a ∷ acts) zero y f (suc j) h = f (suc j) h
ends_active [] (a ∷ acts) (suc k) y f zero h = f zero h
ends_active [] (a ∷ acts) (suc k) y f (suc j) h = ends_active [] acts k y (λ i. f (suc i)) j h
ends_active (x ∷ xs) (a ∷ acts) zero y f zero h = absurd (cc)
ends_active (x ∷ xs) (a ∷ acts) zero y f (suc j) h = f (suc j) h
ends_active (x ∷ xs) (a ∷ acts) (suc k) y f zero h = f zero h
ends_active (x ∷ xs) (a ∷ acts) (suc k) y f (suc j) h = ends_active xs acts k y (λ i. f (suc i)) j h

abbrev dead : Mark
dead = record { live = false; taken = 0 }

dead_takes : (n : ℕ) (o : Option Mark) → TakesMark n o → TakesMark n (Some dead)
dead_takes n None h = absurd h
dead_takes n (Some x) h = (h.0, λ l. absurd (cc))

pub ends_bears : (k : ℕ) (u t : Exec) → lives k u.memory ≡ true → t.memory.node ≡ u.memory.node →
    marks t.memory ≡ slice_set (marks u.memory) k (record { live = false; taken = 0 }) → t.memory.births ≡ u.memory.births →
    t.activations ≡ slice_set u.activations k None → ((h : Option Birth → ℕ) → unit_births h t ≤ unit_births h u) → Bears k u t
ends_bears k u t l node now births acts weighs =
    let before : List Mark = marks u.memory in
    let live : marked_live (slice_get before k) ≡ true = sym (live_at k u.memory) ∙ l in
    let was = live_there before k live in
    let here : slice_get (marks t.memory) k ≡ Some dead =
    ap (λ (xs : List Mark). slice_get xs k) now ∙ set_there before k was.0 dead was.1 in
    record {
      node = node;
      count = 0;
      weighs = λ h. let a = weighs h in omega (arith, a);
      frames = ap (λ b. b.frames) births;
      takes = λ j number h.
          subst (λ (xs : List Mark). TakesMark number (slice_get xs j)) (sym now)
          (set_takes before k dead (λ n g. dead_takes n (slice_get before k) g) j number h);
      own = λ number a b. subst (TakesMark number) (sym here) (a, λ m. absurd (cc));
      goes = λ h. let a = live_at k t.memory in let b = ap marked_live here in absurd (cc);
      active = λ h j s.
          live_at j t.memory ∙ (ap (λ (xs : List Mark). marked_live (slice_get xs j)) now ∙
          ends_active before u.activations k dead (λ i g. sym (live_at i u.memory) ∙ h i g) j
          (ap (λ (xs : List (Option Activation)). is_some (activation_in (slice_get xs j))) (sym acts) ∙ s));
    }
