-- Sums over what queues, rows of queues, nodes and worlds hold.
use Rattle.std.proofs.Common.{◌≡◌, ◌≤◌, ◌+◌, ℕ, zero, suc, List, [], ◌∷◌, ◌++◌, refl, ap, ◌∙◌, Option, Some, None, slice_get, slice_set, arith, flat_map}
use Rattle.std.specs.List.{sum_by}
use Rattle.std.proofs.lemmas.List.Sums.{sum_by-cons, sum_by-append, sum_by_push}
use Rattle.std.proofs.lemmas.Option.{same_Some}
use Rattle.ec_eu.specs.State.{Exec}
use Rattle.ec_code.specs.declared.message.Entry.{Entry}
use Rattle.ec_code.specs.declared.message.Message.{Message}
use Rattle.ec_world.specs.declared.node.Node.{Node}
use Rattle.ec_queue.specs.Queues.{taken, taken_at, taken_of, put_at, put_to}
use Rattle.ec_world_laws.specs.Rooted.{messages, carried, entries}

-- ---- lists

pub sum_flat : {A B : Type 0} (h : B → ℕ) (g : A → List B) (xs : List A) → sum_by h (flat_map g xs) ≡ sum_by (λ x. sum_by h (g x)) xs
sum_flat h g [] = refl
sum_flat h g (x ∷ xs) =
    let a = sum_by-append h (g x) (flat_map g xs) in let b = sum_by-cons (λ y. sum_by h (g y)) x xs in let c = sum_flat h g xs in omega (arith, a, b, c)

-- an item that is there weighs no more than the list
pub sum_at : {A : Type 0} (h : A → ℕ) (xs : List A) (i : ℕ) (x : A) → slice_get xs i ≡ Some x → h x ≤ sum_by h xs
sum_at h [] i x e = cc
sum_at h (y ∷ xs) zero x e = let a = ap h (same_Some _ _ e) in let b = sum_by-cons h y xs in omega (arith, a, b)
sum_at h (y ∷ xs) (suc i) x e = let a = sum_at h xs i x e in let b = sum_by-cons h y xs in omega (arith, a, b)

-- a list after a change of one item
pub sum_set : {A : Type 0} (h : A → ℕ) (xs : List A) (i : ℕ) (x y : A) → slice_get xs i ≡ Some x → sum_by h (slice_set xs i y) + h x ≡ sum_by h xs + h y
sum_set h [] i x y e = cc
sum_set h (z ∷ xs) zero x y e =
    let a = ap h (same_Some _ _ e) in let b = sum_by-cons h z xs in let c = sum_by-cons h y xs in omega (arith, a, b, c)
sum_set h (z ∷ xs) (suc i) x y e =
    let a = sum_set h xs i x y e in let b = sum_by-cons h z xs in let c = sum_by-cons h z (slice_set xs i y) in omega (arith, a, b, c)

-- ---- queues

pub taken_is : {A : Type 0} (q rest : List A) (x : A) → taken q ≡ Some (x, rest) → q ≡ x ∷ rest
taken_is [] rest x h = cc
taken_is (y ∷ ys) rest x h =
    let e = same_Some (y, ys) (x, rest) h in
    let a : y ≡ x = ap (λ p. p.0) e in
    let b : ys ≡ rest = ap (λ p. p.1) e in
    cc

-- the weight of a queue that lost its oldest item
pub take_weighs : {A : Type 0} (f : A → ℕ) (q rest : List A) (x : A) → taken q ≡ Some (x, rest) → sum_by f q ≡ f x + sum_by f rest
take_weighs f q rest x h = ap (sum_by f) (taken_is q rest x h) ∙ sum_by-cons f x rest

put_in_weighs : {A : Type 0} (f : A → ℕ) (o : Option (List A)) (qs : List (List A)) (at : ℕ) (x : A) → slice_get qs at ≡ o → sum_by (sum_by f) (put_to o at x qs) ≤ sum_by (sum_by f) qs + f x
put_in_weighs f None qs at x e = omega arith
put_in_weighs f (Some q) qs at x e =
    let a = sum_set (sum_by f) qs at q (q ++ x ∷ []) e in let b = sum_by_push f q x in omega (arith, a, b)

-- the weight of a row after a put
pub put_weighs : {A : Type 0} (f : A → ℕ) (qs : List (List A)) (at : ℕ) (x : A) → sum_by (sum_by f) (put_at at x qs) ≤ sum_by (sum_by f) qs + f x
put_weighs f qs at x = put_in_weighs f (slice_get qs at) qs at x refl

take_in_weighs : {A : Type 0} (f : A → ℕ) (o : Option (List A)) (qs rest : List (List A)) (at : ℕ) (x : A) → slice_get qs at ≡ o → taken_of o at qs ≡ Some (x, rest) → sum_by (sum_by f) qs ≡ f x + sum_by (sum_by f) rest
take_in_weighs f None qs rest at x g h = cc
take_in_weighs f (Some []) qs rest at x g h = cc
take_in_weighs f (Some (y ∷ ys)) qs rest at x g h =
    let e = same_Some (y, slice_set qs at ys) (x, rest) h in
    let a : f y ≡ f x = ap (λ p. f p.0) e in
    let b : sum_by (sum_by f) (slice_set qs at ys) ≡ sum_by (sum_by f) rest = ap (λ p. sum_by (sum_by f) p.1) e in
    let c = sum_set (sum_by f) qs at (y ∷ ys) ys g in
    let d = sum_by-cons f y ys in
    omega (arith, a, b, c, d)

-- the weight of a row that lost an item
pub row_weighs : {A : Type 0} (f : A → ℕ) (qs rest : List (List A)) (at : ℕ) (x : A) → taken_at at qs ≡ Some (x, rest) → sum_by (sum_by f) qs ≡ f x + sum_by (sum_by f) rest
row_weighs f qs rest at x h = take_in_weighs f (slice_get qs at) qs rest at x refl h

-- ---- nodes

-- the weight of what a message carries
abbrev pub of_message : (Entry → ℕ) → Message → ℕ
of_message f x = sum_by f (carried x)

abbrev pub of_queue : (Entry → ℕ) → List Message → ℕ
of_queue f q = sum_by (of_message f) q

abbrev pub of_row : (Entry → ℕ) → List (List Message) → ℕ
of_row f qs = sum_by (of_queue f) qs

-- the weight of what a node's units and rings hold
abbrev pub of_entries : (Entry → ℕ) → Node → ℕ
of_entries f s =
    (sum_by f s.ready + sum_by f s.su.ready) + (of_queue f s.eu.outbox + of_queue f s.events) + (of_row f s.su.peers + of_row f s.net)

pub entries_weigh : {B : Type 0} (h : B → ℕ) (g : Entry → List B) (s : Node) → sum_by h (flat_map g (entries s)) ≡ of_entries (λ x. sum_by h (g x)) s
entries_weigh h g s =
    let f : Entry → ℕ = λ x. sum_by h (g x) in
    let k : Message → ℕ = of_message f in
    let a = sum_flat h g (entries s) in
    let b = sum_by-append f (s.ready ++ s.su.ready) (flat_map carried (messages s)) in
    let c = sum_by-append f s.ready s.su.ready in
    let d = sum_flat f carried (messages s) in
    let p = sum_by-append k (s.eu.outbox ++ s.events ++ flat_map (λ q. q) s.su.peers) (flat_map (λ q. q) s.net) in
    let q = sum_by-append k (s.eu.outbox ++ s.events) (flat_map (λ q. q) s.su.peers) in
    let r = sum_by-append k s.eu.outbox s.events in
    let x = sum_flat k (λ q. q) s.su.peers in
    let y = sum_flat k (λ q. q) s.net in
    omega (arith, a, b, c, d, p, q, r, x, y)

-- the weight of a node: of its execution unit apart from the outbox, and of what it holds
abbrev pub of_node : (Exec → ℕ) → (Entry → ℕ) → Node → ℕ
of_node g f s = g s.eu + of_entries f s

-- the weight of an execution unit
abbrev pub of_exec : (Exec → ℕ) → (Entry → ℕ) → Exec → ℕ
of_exec g f u = g u + of_queue f u.outbox

pub sum_same : {A : Type 0} (h k : A → ℕ) (xs : List A) → ((x : A) → h x ≡ k x) → sum_by h xs ≡ sum_by k xs
sum_same h k [] e = refl
sum_same h k (x ∷ xs) e =
    let a = sum_by-cons h x xs in let b = sum_by-cons k x xs in let c = sum_same h k xs e in let d = e x in omega (arith, a, b, c, d)
