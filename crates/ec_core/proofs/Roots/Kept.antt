-- The start is rooted, and each step of a rooted world leads to one.
use Rattle.std.proofs.Common.{◌≡◌, ◌≤◌, ◌<◌, ◌+◌, ◌-◌, ◌*◌, ℕ, ℤ, pos, Bool, true, false, cond, List, [], ◌∷◌, ◌++◌, length, get_or, map, flat_map, replicate, refl, ap, ◌∙◌, Option, Some, None, slice_get, subst, arith, mul-zero}
use Rattle.std.specs.Prelude.{not, nat_lt, is_none}
use Rattle.std.specs.List.{sum_by, All}
use Rattle.std.proofs.lemmas.Bool.{eqb-true, eq-eqb, lt-ltb, ltb-true, and_parts, and_from}
use Rattle.std.proofs.lemmas.List.Elements.{All-nil, All-cons, All-head, All-tail, All-replicate, All-weaker}
use Rattle.std.proofs.lemmas.List.Sums.{sum_by-cons, sum_by-append, sum_by-take-le, get_or-le-sum_by}
use Rattle.std.proofs.lemmas.List.Folds.{sum_by-replicate}
use Rattle.ec_base.specs.declared.value.Birth.{Birth}
use Rattle.ec_base.specs.declared.value.Value.{Value}
use Rattle.ec_base.specs.declared.value.Value.TheVariants.{Int, Null, Ptr}
use Rattle.ec_core.specs.declared.code.Code.{Code}
use Rattle.ec_core.specs.declared.message.Entry.{Entry}
use Rattle.ec_core.specs.declared.message.Entry.TheVariants as e
use Rattle.ec_core.specs.declared.choice.Choice.{Choice}
use Rattle.ec_core.specs.declared.eu.Frame.{Frame}
use Rattle.ec_core.specs.declared.node.Node.{Node}
use Rattle.ec_core.specs.State.{Exec}
use Rattle.ec_core.specs.Slots.{Row, root_slot}
use Rattle.ec_core.specs.Entry.{new_exec}
use Rattle.ec_core.specs.Step.{step}
use Rattle.ec_core.specs.Run.{start, main_call, main_args, param_count, fresh_node}
use Rattle.ec_core.specs.Rooted.{frames_at, entries, births_of, births_in, HasFirst, IsBirth, LeadsBack, root, is_birth, values_of, values_at, values_in, IsValue, Spot, backs_of, backs_in, IsMade, IsRooted}
use Rattle.ec_core.proofs.Roots.Weights.{sum_flat, sum_at, sum_none, all_none, in_world, of_queue, of_row, of_node}
use Rattle.ec_core.proofs.Roots.Moves.{Runs, of_exec, Changes, changes, world_weighs}
use Rattle.ec_core.proofs.Roots.Pointers.{of_cells, of_values, IsLight, entry_clean, spawned_clean}
use Rattle.ec_core.proofs.Roots.Grown.{grows, first_kept, birth_later, leads_later, made_later}
use Rattle.ec_core.proofs.Roots.Steady.{births_of_frames, births_weigh, births_weigh_less, backs_of_frames, backs_weigh, backs_weigh_less}

-- ---- births

abbrev weight : Bool → ℕ
weight b = cond b 1 0

-- whether two births are the same, or both none
abbrev is_same : Option Birth → Option Birth → Bool
is_same None None = true
is_same None (Some x) = false
is_same (Some b) o = is_birth b o

same_itself : (o : Option Birth) → is_same o o ≡ true
same_itself None = refl
same_itself (Some b) =
    and_from _ _ (and_from _ _ (eq-eqb b.node b.node refl) (eq-eqb b.frame b.frame refl)) (eq-eqb b.number b.number refl)

same_fields : (x b : Birth) → x.node ≡ b.node → x.frame ≡ b.frame → x.number ≡ b.number → x ≡ b
same_fields x b p q r =
    let at : ℕ → ℕ → ℕ → Birth = λ node frame number. record { node = node; frame = frame; number = number } in
    ap (λ k. at k x.frame x.number) p ∙ (ap (λ k. at b.node k x.number) q ∙ ap (λ k. at b.node b.frame k) r)

same_births : (o x : Option Birth) → is_same o x ≡ true → x ≡ o
same_births None None h = refl
same_births None (Some x) h = cc
same_births (Some b) None h = cc
same_births (Some b) (Some x) h =
    let p = and_parts _ _ h in
    let q = and_parts _ _ p.0 in
    ap Some (same_fields x b (eqb-true x.node b.node q.0) (eqb-true x.frame b.frame q.1) (eqb-true x.number b.number p.1))

found_first : (P : Option Birth → Type 0) (x y : Option Birth) (b : Bool) (rest : ℕ) → is_same x y ≡ b → P y → (1 ≤ rest → P x) → 1 ≤ weight b + rest → P x
found_first P x y true rest e here later h = subst P (same_births x y e) here
found_first P x y false rest e here later h = later (omega (arith, h))

-- what holds of each birth of a list holds of one that has a weight there
found : (P : Option Birth → Type 0) (x : Option Birth) (xs : List (Option Birth)) → All P xs → 1 ≤ sum_by (λ y. weight (is_same x y)) xs → P x
found P x [] all h = absurd (omega (arith, h))
found P x (y ∷ xs) all h =
    let a = sum_by-cons (λ z. weight (is_same x z)) y xs in
    found_first P x y (is_same x y) (sum_by (λ z. weight (is_same x z)) xs) refl (All-head P y xs all) (λ l. found P x xs (All-tail P y xs all) l) (omega (arith, a, h))

-- what holds of each birth of a list holds of those of a list that weighs no more
all_fewer : (P : Option Birth → Type 0) (xs ys : List (Option Birth)) → ((h : Option Birth → ℕ) → sum_by h ys ≤ sum_by h xs) → All P xs → All P ys
all_fewer P xs ys fewer all k d l =
    let x : Option Birth = get_or ys k d in
    let t : Option Birth → ℕ = λ y. weight (is_same x y) in
    let a = get_or-le-sum_by t ys k d l in
    let b = fewer t in
    let c = ap weight (same_itself x) in
    found P x xs all (omega (arith, a, b, c))

-- ---- backs

abbrev unmade : List Node → Spot → ℕ
unmade w x = weight (not (nat_lt x.frame (length (frames_at w x.node))))

made_weighs : (w : List Node) (x : Spot) → IsMade w x → unmade w x ≡ 0
made_weighs w x h = ap (λ b. weight (not b)) (lt-ltb x.frame (length (frames_at w x.node)) h)

true_if_none : (b : Bool) → weight (not b) ≡ 0 → b ≡ true
true_if_none true h = refl
true_if_none false h = absurd (omega (arith, h))

made_if_none : (w : List Node) (x : Spot) → unmade w x ≡ 0 → IsMade w x
made_if_none w x h = ltb-true x.frame (length (frames_at w x.node)) (true_if_none (nat_lt x.frame (length (frames_at w x.node))) h)

backs_kept : (code : Code) (c : Choice) (w v : List Node) → Changes code c w v → All (IsMade w) (backs_in w) → All (IsMade v) (backs_in v)
backs_kept code c w v x all =
    let a = sum_none (IsMade v) (unmade v) (backs_in w) (made_weighs v) (All-weaker (IsMade w) (IsMade v) (made_later w v (grows code c w v x)) (backs_in w) all) in
    let b = backs_weigh_less code c w v x (unmade v) (λ n l. made_weighs v (record { node = c.node; frame = n }) l) in
    all_none (IsMade v) (unmade v) (backs_in v) (made_if_none v) (omega (arith, a, b))

-- ---- pointers

abbrev points : Value → ℕ
points (Int n) = 0
points Null = 0
points (Ptr b) = 1

light : IsLight points
light = record { int = λ n. refl }

value_weighs : (w : List Node) (x : Value) → IsValue w x → points x ≡ 0
value_weighs w (Int n) h = refl
value_weighs w Null h = refl
value_weighs w (Ptr b) h = absurd h

value_if_none : (w : List Node) (x : Value) → points x ≡ 0 → IsValue w x
value_if_none w (Int n) h = tt
value_if_none w Null h = tt
value_if_none w (Ptr b) h = absurd (omega (arith, h))

values_weigh : (h : Value → ℕ) (w : List Node) → sum_by h (values_in w) ≡ sum_by (of_node (of_cells h) (of_values h)) w
values_weigh h w =
    in_world h values_at (of_cells h) values_of (λ s.
    let a = sum_by-append h (flat_map (λ (f : Frame). f.cells) s.eu.frames) (flat_map values_of (entries s)) in
    let b = sum_flat h (λ (f : Frame). f.cells) s.eu.frames in
    omega (arith, a, b)) w

values_run : (code : Code) (me : ℕ) (s : Node) (u : Exec) → of_node (of_cells points) (of_values points) s ≡ 0 → Runs (of_cells points) (of_values points) code me s u
values_run code me s u z = record {
  ready = λ x rest q k.
      let a : sum_by (of_values points) s.ready ≡ of_values points x + sum_by (of_values points) rest = ap (sum_by (of_values points)) q ∙ sum_by-cons (of_values points) x rest in
      let b = entry_clean points light code me x s.eu (omega (arith, a, z)) (omega (arith, z)) in
      let d = ap (of_exec (of_cells points) (of_values points)) k in
      omega (arith, b, d);
  spawn = λ k. let b = spawned_clean points light code me s.eu.spawned s.eu u k (omega (arith, z)) in omega (arith, b);
}

values_kept : (code : Code) (c : Choice) (w v : List Node) → Changes code c w v → All (IsValue w) (values_in w) → All (IsValue v) (values_in v)
values_kept code c w v x all =
    let a = sum_none (IsValue w) points (values_in w) (value_weighs w) all in
    let b = values_weigh points w in
    let d = values_weigh points v in
    let k = world_weighs (of_cells points) (of_values points) (record { start = λ frame fiber slot filling. refl }) code c w v
    (λ s t e l. let p = sum_at (of_node (of_cells points) (of_values points)) w c.node s e in values_run code c.node s t.eu (omega (arith, a, b, p))) x in
    all_none (IsValue v) points (values_in v) (value_if_none v) (omega (arith, a, b, d, k))

-- ---- a step

kept : (code : Code) (c : Choice) (w v : List Node) → Changes code c w v → IsRooted w → IsRooted v
kept code c w v x r =
    let later = grows code c w v x in
    let fewer = births_weigh_less code c w v x in
    record {
      first = first_kept code c w v x r.first;
      births = all_fewer (IsBirth v) (births_in w) (births_in v) fewer (All-weaker (IsBirth w) (IsBirth v) (birth_later w v later) (births_in w) r.births);
      apart = λ b. let k = fewer (λ o. weight (is_birth b o)) in let l = r.apart b in omega (arith, k, l);
      lead_back = all_fewer (LeadsBack v) (births_in w) (births_in v) fewer (All-weaker (LeadsBack w) (LeadsBack v) (leads_later w v later) (births_in w) r.lead_back);
      root = let k = fewer (λ o. weight (is_none o)) in let l = r.root in omega (arith, k, l);
      pointers = values_kept code c w v x r.pointers;
      backs = backs_kept code c w v x r.backs;
    }

pub step_keeps_rooted : (code : Code) (c : Choice) (w v : List Node) → step code c w ≡ Some v → IsRooted w → IsRooted v
step_keeps_rooted code c w v h r = kept code c w v (changes code c w v h) r

-- ---- the start

empty_row : (f : Entry → ℕ) (n : ℕ) → of_row f (replicate n []) ≡ 0
empty_row f n = sum_by-replicate (of_queue f) n [] ∙ mul-zero n

-- a fresh node has what its frame and its ready entries weigh
fresh_weighs : (g : List Frame → ℕ) (f : Entry → ℕ) (n : ℕ) (rows : List Row) (ready : List Entry) → g new_exec.frames ≡ 0 → of_node g f (fresh_node n rows ready) ≡ sum_by f ready
fresh_weighs g f n rows ready z = let a = empty_row f n in omega (arith, a, z)

start_weighs : (g : List Frame → ℕ) (f : Entry → ℕ) (code : Code) (n : ℕ) (args : List ℤ) → g new_exec.frames ≡ 0 → sum_by (of_node g f) (start code n args) ≡ f (e.Enter (main_call code args))
start_weighs g f code n args z =
    let entry : List Entry = e.Enter (main_call code args) ∷ [] in
    let a = fresh_weighs g f n ((Some root_slot ∷ []) ∷ []) entry z in
    let b = fresh_weighs g f n [] [] z in
    let c = sum_by-cons (of_node g f) (fresh_node n ((Some root_slot ∷ []) ∷ []) entry) (replicate (n - 1) (fresh_node n [] [])) in
    let d = sum_by-replicate (of_node g f) (n - 1) (fresh_node n [] []) ∙ (ap (λ k. (n - 1) * k) b ∙ mul-zero (n - 1)) in
    omega (arith, a, c, d)

ints_weigh : (h : Value → ℕ) → IsLight h → (xs : List ℤ) → sum_by h (map Int xs) ≡ 0
ints_weigh h l [] = refl
ints_weigh h l (x ∷ xs) =
    let a = sum_by-cons h (Int x) (map Int xs) in let b = ints_weigh h l xs in let c = l.int x in omega (arith, a, b, c)

args_weigh : (h : Value → ℕ) → IsLight h → (count : ℕ) (args : List ℤ) → sum_by h (main_args count args) ≡ 0
args_weigh h l count args =
    let xs : List Value = map Int args ++ replicate count (Int (pos 0)) in
    let a = sum_by-take-le h xs count in
    let b = sum_by-append h (map Int args) (replicate count (Int (pos 0))) in
    let c = ints_weigh h l args in
    let d = sum_by-replicate h count (Int (pos 0)) ∙ (ap (λ k. count * k) (l.int (pos 0)) ∙ mul-zero count) in
    omega (arith, a, b, c, d)

start_births : (code : Code) (n : ℕ) (args : List ℤ) (h : Option Birth → ℕ) → sum_by h (births_in (start code n args)) ≤ sum_by h (None ∷ [])
start_births code n args h =
    let a = births_weigh h (start code n args) in
    let b = start_weighs (λ fs. sum_by h (births_of_frames fs)) (λ x. sum_by h (births_of x)) code n args refl in
    omega (arith, a, b)

start_backs : (code : Code) (n : ℕ) (args : List ℤ) → All (IsMade (start code n args)) (backs_in (start code n args))
start_backs code n args =
    let w : List Node = start code n args in
    let a = backs_weigh (unmade w) w in
    let b = start_weighs (λ fs. sum_by (unmade w) (backs_of_frames fs)) (λ x. sum_by (unmade w) (backs_of x)) code n args refl in
    let c : unmade w (record { node = 0; frame = 0 }) ≡ 0 = refl in
    all_none (IsMade w) (unmade w) (backs_in w) (made_if_none w) (omega (arith, a, b, c))

start_values : (code : Code) (n : ℕ) (args : List ℤ) → All (IsValue (start code n args)) (values_in (start code n args))
start_values code n args =
    let w : List Node = start code n args in
    let a = values_weigh points w in
    let b = start_weighs (of_cells points) (of_values points) code n args refl in
    let c = args_weigh points light (param_count (slice_get code.functions code.main)) args in
    all_none (IsValue w) points (values_in w) (value_if_none w) (omega (arith, a, b, c))

pub start_is_rooted : (code : Code) (n : ℕ) (args : List ℤ) → IsRooted (start code n args)
start_is_rooted code n args =
    let w : List Node = start code n args in
    let fewer = start_births code n args in
    record {
      first = All-cons HasFirst _ _ refl (All-replicate HasFirst (n - 1) (fresh_node n [] []) refl);
      births = all_fewer (IsBirth w) (None ∷ []) (births_in w) fewer (All-cons (IsBirth w) None [] tt (All-nil (IsBirth w)));
      apart = λ b. let k = fewer (λ o. weight (is_birth b o)) in omega (arith, k);
      lead_back = all_fewer (LeadsBack w) (None ∷ []) (births_in w) fewer (All-cons (LeadsBack w) None [] root (All-nil (LeadsBack w)));
      root = let k = fewer (λ o. weight (is_none o)) in omega (arith, k);
      pointers = start_values code n args;
      backs = start_backs code n args;
    }

pub started : (code : Code) (n : ℕ) (args : List ℤ) (w : List Node) → w ≡ start code n args → (0 < length w) × IsRooted w
started code n args w h = rw h (omega arith, start_is_rooted code n args)
