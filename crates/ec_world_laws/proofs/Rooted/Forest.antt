-- A rooted world stays rooted as it changes.
use Rattle.std.proofs.Common.{◌≡◌, ◌<◌, ◌≤◌, ◌+◌, ◌∙◌, ◌⊎◌, ℕ, zero, suc, Bool, true, false, List, [], ◌∷◌, ◌++◌, drop, map, flat_map, inl, inr, refl, ap, sym, Option, Some, None, slice_get, slice_set, subst, arith}
use Rattle.std.specs.Prelude.{is_none}
use Rattle.std.specs.List.{All, sum_by}
use Rattle.std.proofs.lemmas.Bool.{and_parts, eqb-true}
use Rattle.std.proofs.lemmas.List.Elements.{All-nil, All-cons, All-head, All-tail, All-set, All-append, All-weaker}
use Rattle.std.proofs.lemmas.List.Sums.{sum_by-append, sum_by-cons}
use Rattle.ec_base.specs.declared.value.Birth.{Birth}
use Rattle.ec_world.specs.declared.node.Node.{Node}
use Rattle.ec_world_laws.specs.Rooted.{IsActive, IsBirth, IsNamed, IsRooted, LeadsBack, Takes, births_at, births_in, births_of, entries, frame_births, frames_of, is_birth, root, through}
use Rattle.ec_world_laws.proofs.Rooted.Births.{either_way, mark_takes, numbered, set_there, takes_mark}
use Rattle.ec_world_laws.proofs.Rooted.Bringing.{same_as}
use Rattle.ec_world_laws.proofs.Rooted.Moves.{Moves, node_births}
use Rattle.ec_world_laws.proofs.Rooted.Same.{all_fewer, found, weight}
use Rattle.ec_world_laws.proofs.Rooted.Weights.{entries_weigh, sum_at, sum_flat, sum_same, sum_set}
use Rattle.ec_world_laws.proofs.Units.Values.{all_at}

-- ---- weights

node_weighs : (h : Option Birth → ℕ) (s : Node) → sum_by h (births_at s) ≡ node_births h s
node_weighs h s =
    let frames : List (Option Birth) = drop 1 s.eu.memory.births.frames in
    let blocks : List (Option Birth) = map Some s.eu.memory.births.blocks in
    let a = sum_by-append h (frames ++ blocks) (flat_map births_of (entries s)) in
    let b = sum_by-append h frames blocks in
    let c = entries_weigh h births_of s in
    omega (arith, a, b, c)

pub births_weigh : (h : Option Birth → ℕ) (w : List Node) → sum_by h (births_in w) ≡ sum_by (node_births h) w
births_weigh h w = sum_flat h births_at w ∙ sum_same (λ s. sum_by h (births_at s)) (node_births h) w (node_weighs h)

sum_none : {A : Type 0} (P : A → Type 0) (h : A → ℕ) (xs : List A) → ((x : A) → P x → h x ≡ 0) → All P xs → sum_by h xs ≡ 0
sum_none P h [] f all = refl
sum_none P h (x ∷ xs) f all =
    let a = f x (All-head P x xs all) in
    let b = sum_none P h xs f (All-tail P x xs all) in
    let c = sum_by-cons h x xs in
    omega (arith, a, b, c)

-- ---- births of one frame, by number

abbrev birth_at : ℕ → ℕ → ℕ → Birth
birth_at node frame number = record { node = node; frame = frame; number = number }

numbered_all : (P : Option Birth → Type 0) (node frame taken count : ℕ) →
    ((number : ℕ) → taken < number → number ≤ taken + count → P (Some (birth_at node frame number))) →
    All P (numbered node frame taken count)
numbered_all P node frame taken zero f = All-nil P
numbered_all P node frame taken (suc count) f =
    All-cons P (Some (birth_at node frame (taken + 1))) (numbered node frame (taken + 1) count)
    (f (taken + 1) (omega arith) (omega arith))
    (numbered_all P node frame (taken + 1) count (λ number a b. f number (omega (arith, a)) (omega (arith, b))))

-- how often a birth is among others
abbrev times : Birth → Option Birth → ℕ
times b o = weight (is_birth b o)

same_fields : (b x : Birth) → is_birth b (Some x) ≡ true → (x.node ≡ b.node) × (x.frame ≡ b.frame) × (x.number ≡ b.number)
same_fields b x h =
    let p = and_parts _ _ h in
    let q = and_parts _ _ p.0 in
    (eqb-true x.node b.node q.0, eqb-true x.frame b.frame q.1, eqb-true x.number b.number p.1)

-- what follows from a test, where it has a weight
weighs_one : (P : Type 0) (test : Bool) → (test ≡ true → P) → (weight test ≡ 0 → P) → P
weighs_one P true f g = f refl
weighs_one P false f g = g refl

numbered_behind : (b : Birth) (node frame taken count : ℕ) → b.number ≤ taken → sum_by (times b) (numbered node frame taken count) ≡ 0
numbered_behind b node frame taken zero h = refl
numbered_behind b node frame taken (suc count) h =
    let x : Birth = birth_at node frame (taken + 1) in
    let a = sum_by-cons (times b) (Some x) (numbered node frame (taken + 1) count) in
    let c = numbered_behind b node frame (taken + 1) count (omega (arith, h)) in
    weighs_one (sum_by (times b) (numbered node frame taken (suc count)) ≡ 0) (is_birth b (Some x))
    (λ t. let s = same_fields b x t in let n = s.2 in absurd (omega (arith, n, h)))
    (λ z. omega (arith, a, c, z))

weight_most : (test : Bool) → weight test ≤ 1
weight_most true = omega arith
weight_most false = omega arith

numbered_once : (b : Birth) (node frame taken count : ℕ) → sum_by (times b) (numbered node frame taken count) ≤ 1
numbered_once b node frame taken zero = omega arith
numbered_once b node frame taken (suc count) =
    let x : Birth = birth_at node frame (taken + 1) in
    let a = sum_by-cons (times b) (Some x) (numbered node frame (taken + 1) count) in
    let most = weight_most (is_birth b (Some x)) in
    let rest = numbered_once b node frame (taken + 1) count in
    weighs_one (sum_by (times b) (numbered node frame taken (suc count)) ≤ 1) (is_birth b (Some x))
    (λ t.
    let s = same_fields b x t in
    let n = s.2 in
    let c = numbered_behind b node frame (taken + 1) count (omega (arith, n)) in
    omega (arith, a, c, most))
    (λ z. omega (arith, a, rest, z))

-- a birth that is one of them
abbrev IsAmong : Birth → (node frame taken count : ℕ) → Type 0
IsAmong b node frame taken count = (node ≡ b.node) × (frame ≡ b.frame) × (taken < b.number) × (0 < count)

numbered_is : (b : Birth) (node frame taken count : ℕ) → 1 ≤ sum_by (times b) (numbered node frame taken count) →
    IsAmong b node frame taken count
numbered_is b node frame taken zero h = absurd (omega (arith, h))
numbered_is b node frame taken (suc count) h =
    let x : Birth = birth_at node frame (taken + 1) in
    let a = sum_by-cons (times b) (Some x) (numbered node frame (taken + 1) count) in
    weighs_one (IsAmong b node frame taken (suc count)) (is_birth b (Some x))
    (λ t. let s = same_fields b x t in let n = s.2 in (s.0, s.1, omega (arith, n), omega arith))
    (λ z.
    let r = numbered_is b node frame (taken + 1) count (omega (arith, a, h, z)) in
    let n = r.2 in
    (r.0, r.1, omega (arith, n), omega arith))

numbered_some : (node frame taken count : ℕ) → sum_by (λ o. weight (is_none o)) (numbered node frame taken count) ≡ 0
numbered_some node frame taken zero = refl
numbered_some node frame taken (suc count) =
    let a = sum_by-cons (λ o. weight (is_none o)) (Some (birth_at node frame (taken + 1))) (numbered node frame (taken + 1) count) in
    let b = numbered_some node frame (taken + 1) count in
    omega (arith, a, b)

-- ---- worlds that change

-- a frame of a node has taken a number, and has a birth
abbrev pub TakesIn : (frame number : ℕ) → Option Node → Type 0
TakesIn frame number o = Takes number (slice_get (frames_of o) frame)

abbrev pub BornIn : ℕ → Option Birth → Option Node → Type 0
BornIn frame birth o = slice_get (frame_births o) frame ≡ Some birth

-- a world that comes to another, with so many births more of one frame behind those that it has taken
pub record Changes (w v : List Node) : Type 0 where
  pub node : ℕ
  pub frame : ℕ
  pub taken : ℕ
  pub count : ℕ
  pub weighs : (h : Option Birth → ℕ) →
      sum_by (node_births h) v ≤ sum_by (node_births h) w + sum_by h (numbered node frame taken count)
  pub before : 0 < count → (number : ℕ) → TakesIn frame number (slice_get w node) → number ≤ taken
  pub takes : (k j number : ℕ) → TakesIn j number (slice_get w k) → TakesIn j number (slice_get v k)
  pub own : (number : ℕ) → taken < number → number ≤ taken + count → TakesIn frame number (slice_get v node)
  pub births : (k j : ℕ) (o : Option Birth) → BornIn j o (slice_get w k) → BornIn j o (slice_get v k)
  pub source : 0 < count → (o : Option Birth) × BornIn frame o (slice_get v node) × ((o ≡ None) ⊎ (1 ≤ sum_by (node_births (same_as o)) w))
  pub active : All (λ s. IsActive s.eu) v

-- what holds of a node, and of the one that it is set to, holds of each
pub kept_set : (Q : Option Node → Type 0) (w : List Node) (i : ℕ) (s t : Node) → slice_get w i ≡ Some s → (Q (Some s) → Q (Some t)) →
    (k : ℕ) → Q (slice_get w k) → Q (slice_get (slice_set w i t) k)
kept_set Q [] i s t a f k h = cc
kept_set Q (y ∷ w) zero s t a f zero h = f (subst Q a h)
kept_set Q (y ∷ w) zero s t a f (suc k) h = h
kept_set Q (y ∷ w) (suc i) s t a f zero h = h
kept_set Q (y ∷ w) (suc i) s t a f (suc k) h = kept_set Q w i s t a f k h

pub acted_changes : (w : List Node) (i : ℕ) (s t : Node) → slice_get w i ≡ Some s → s.eu.memory.node ≡ i → Moves s t →
    All (λ s. IsActive s.eu) w → Changes w (slice_set w i t)
acted_changes w i s t a n r h =
    let at : slice_get (slice_set w i t) i ≡ Some t = set_there w i s t a in
    record {
      node = i;
      frame = r.frame;
      taken = r.taken;
      count = r.count;
      weighs = λ f.
          let x = r.weighs f in
          let y = sum_set (node_births f) w i s t a in
          let z = ap (λ k. sum_by f (numbered k r.frame r.taken r.count)) n in
          omega (arith, x, y, z);
      before = λ c number g. r.before c number (takes_mark number r.frame s.eu.memory (subst (TakesIn r.frame number) a g));
      takes = λ k j number g.
          kept_set (TakesIn j number) w i s t a
          (λ x. mark_takes number j t.eu.memory (r.takes j number (takes_mark number j s.eu.memory x))) k g;
      own = λ number x y. subst (TakesIn r.frame number) (sym at) (mark_takes number r.frame t.eu.memory (r.own number x y));
      births = λ k j o g. kept_set (BornIn j o) w i s t a (λ x. r.births j o x) k g;
      source = λ c.
          let o = r.source c in
          let x = sum_at (node_births (same_as o.0)) w i s a in (
            o.0,
            subst (BornIn r.frame o.0) (sym at) o.1,
            elim o.2 [ inl y ↦ inl y | inr y ↦ inr (omega (arith, x, y)) ],
          );
      active = All-set (λ s. IsActive s.eu) w i t (r.active (all_at (λ s. IsActive s.eu) w i s h a)) h;
    }

-- ---- a rooted world that changes

module _ (w v : List Node) (r : IsRooted w) (c : Changes w v) where
  abbrev new : List (Option Birth)
  new = numbered c.node c.frame c.taken c.count

  fewer : (h : Option Birth → ℕ) → sum_by h (births_in v) ≤ sum_by h (births_in w ++ new)
  fewer h =
      let a = c.weighs h in
      let b = births_weigh h w in
      let d = births_weigh h v in
      let e = sum_by-append h (births_in w) new in
      omega (arith, a, b, d, e)

  birth_later : (o : Option Birth) → IsBirth w o → IsBirth v o
  birth_later None h = tt
  birth_later (Some b) h = c.takes b.node b.frame b.number h

  births_later : All (IsBirth v) (births_in v)
  births_later =
      all_fewer (IsBirth v) (births_in w ++ new) (births_in v) fewer
      (All-append (IsBirth v) (births_in w) new (All-weaker (IsBirth w) (IsBirth v) birth_later (births_in w) r.births)
      (numbered_all (IsBirth v) c.node c.frame c.taken c.count c.own))

  leads_later : (o : Option Birth) → LeadsBack w o → LeadsBack v o
  leads_later _ root = root
  leads_later _ (through b o e l) = through b o (c.births b.node b.frame o e) (leads_later o l)

  old_lead : All (LeadsBack v) (births_in w)
  old_lead = All-weaker (LeadsBack w) (LeadsBack v) leads_later (births_in w) r.lead_back

  source_leads : (o : Option Birth) → (o ≡ None) ⊎ (1 ≤ sum_by (node_births (same_as o)) w) → LeadsBack v o
  source_leads o (inl h) = subst (LeadsBack v) (sym h) root
  source_leads o (inr h) =
      let a = births_weigh (same_as o) w in found (LeadsBack v) o (births_in w) old_lead (omega (arith, a, h))

  leads : All (LeadsBack v) (births_in v)
  leads =
      all_fewer (LeadsBack v) (births_in w ++ new) (births_in v) fewer
      (All-append (LeadsBack v) (births_in w) new old_lead
      (numbered_all (LeadsBack v) c.node c.frame c.taken c.count
      (λ number a b.
      let o = c.source (omega (arith, a, b)) in
      through (birth_at c.node c.frame number) o.0 o.1 (source_leads o.0 o.2))))

  -- a birth that is new wasn't there
  not_before : (b : Birth) → IsAmong b c.node c.frame c.taken c.count → (o : Option Birth) → IsBirth w o → times b o ≡ 0
  not_before b a None h = refl
  not_before b a (Some x) h =
      weighs_one (times b (Some x) ≡ 0) (is_birth b (Some x))
      (λ t.
      let s = same_fields b x t in
      let node : x.node ≡ c.node = s.0 ∙ sym a.0 in
      let frame : x.frame ≡ c.frame = s.1 ∙ sym a.1 in
      let here : TakesIn c.frame x.number (slice_get w c.node) =
      subst (λ k. TakesIn c.frame x.number (slice_get w k)) node (subst (λ k. TakesIn k x.number (slice_get w x.node)) frame h) in
      let below = c.before a.3 x.number here in
      let number = s.2 in
      let above = a.2 in
      absurd (omega (arith, below, number, above)))
      (λ z. z)

  apart : (b : Birth) → sum_by (times b) (births_in v) ≤ 1
  apart b =
      let a = fewer (times b) in
      let d = sum_by-append (times b) (births_in w) new in
      let once = numbered_once b c.node c.frame c.taken c.count in
      let old = r.apart b in
      either_way (sum_by (times b) (births_in v) ≤ 1) 1 (sum_by (times b) new)
      (λ h.
      let among = numbered_is b c.node c.frame c.taken c.count h in
      let none = sum_none (IsBirth w) (times b) (births_in w) (not_before b among) r.births in
      omega (arith, a, d, once, none))
      (λ h. omega (arith, a, d, old, h))

  one_root : sum_by (λ o. weight (is_none o)) (births_in v) ≤ 1
  one_root =
      let a = fewer (λ o. weight (is_none o)) in
      let b = sum_by-append (λ o. weight (is_none o)) (births_in w) new in
      let d = numbered_some c.node c.frame c.taken c.count in
      let old = r.root in
      omega (arith, a, b, d, old)

  pub stays_rooted : IsNamed v → IsRooted v
  stays_rooted n = record {
    named = n;
    active = c.active;
    births = births_later;
    apart = apart;
    lead_back = leads;
    root = one_root;
  }
