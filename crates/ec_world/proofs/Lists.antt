-- Lists that grow, reads and writes of one item of a list, and the start.
use Rattle.std.proofs.Common.{◌≡◌, ◌<◌, ◌≤◌, ◌+◌, ◌-◌, ℕ, ℤ, pos, zero, suc, List, [], ◌∷◌, ◌++◌, length, replicate, map, take, get_or, refl, ap, ◌∙◌, slice_set, max, arith, append_assoc, append-nil}
use Rattle.std.proofs.lemmas.List.{set-get_or, set_past}
use Rattle.std.proofs.lemmas.Option.{get_or_from_slice_get, slice_get_past, slice_get_read}
use Rattle.ec_base.specs.declared.value.Value.TheVariants.{Int}
use Rattle.ec_code.specs.declared.code.Code.{Code}
use Rattle.ec_world.specs.declared.node.Node.{Node}
use Rattle.ec_world.specs.Run.{fresh_node, fresh_nodes, main_args, start}

-- a write of what was read
pub set_read : {A : Type 0} (xs : List A) (i : ℕ) (x : A) → x ≡ get_or xs i x → slice_set xs i x ≡ xs
set_read xs i x h = ap (λ y. slice_set xs i y) h ∙ set-get_or xs i x

pub ruleset rows = (set_read, slice_get_past, slice_get_read)

-- one item more of those that are to come
pub grow_more : {A : Type 0} (xs : List A) (z : A) (i n : ℕ) → i < n → (xs ++ z ∷ []) ++ replicate (n - (i + 1)) z ≡ xs ++ replicate (n - i) z
grow_more xs z i n h =
    let e : n - i ≡ suc (n - (i + 1)) = omega arith in rw e (append_assoc xs (z ∷ []) (replicate (n - (i + 1)) z))

pub grow_done : {A : Type 0} (xs : List A) (z : A) (i n : ℕ) → n ≤ i → xs ++ replicate (n - i) z ≡ xs
grow_done xs z i n h = let e : n - i ≡ 0 = omega arith in rw e (append-nil xs)

take_replicate : {A : Type 0} (n k : ℕ) (z : A) → n ≤ k → take n (replicate k z) ≡ replicate n z
take_replicate zero k z h = refl
take_replicate (suc n) zero z h = absurd (omega arith)
take_replicate (suc n) (suc k) z h = ap (λ ys. z ∷ ys) (take_replicate n k z (omega arith))

taken_filled : {A B : Type 0} (n k : ℕ) (f : A → B) (xs : List A) (z : B) → n ≤ k → take n (map f xs ++ replicate k z) ≡ map f (take n xs) ++ replicate (n - length (map f (take n xs))) z
taken_filled zero k f xs z h = refl
taken_filled (suc n) k f [] z h = let e : suc n - 0 ≡ suc n = omega arith in rw e (take_replicate (suc n) k z h)
taken_filled (suc n) k f (x ∷ xs) z h =
    let e : suc n - suc (length (map f (take n xs))) ≡ n - length (map f (take n xs)) = omega arith
    in rw e (ap (λ ys. f x ∷ ys) (taken_filled n k f xs z (omega arith)))

-- the arguments as they are made
pub args_grown : (n : ℕ) (xs : List ℤ) → main_args n xs ≡ map Int (take n xs) ++ replicate (n - length (map Int (take n xs))) (Int (pos 0))
args_grown n xs = taken_filled n n Int xs (Int (pos 0)) (omega arith)

pub ruleset grows = (grow_more, grow_done, args_grown)

-- ---- the start

-- one node more of those that are to come
pub node_more : (n number : ℕ) (xs : List Node) → number < n →
    (xs ++ fresh_node n number [] ∷ []) ++ fresh_nodes n (number + 1) (n - (number + 1)) ≡ xs ++ fresh_nodes n number (n - number)
node_more n number xs h =
    let e : n - number ≡ suc (n - (number + 1)) = omega arith in
    let f : number + 1 ≡ suc number = omega arith in
    rw (e, f) (append_assoc xs (fresh_node n number [] ∷ []) (fresh_nodes n (suc number) (n - suc number)))

pub node_done : (n number : ℕ) (xs : List Node) → n ≤ number → xs ++ fresh_nodes n number (n - number) ≡ xs
node_done n number xs h = let e : n - number ≡ 0 = omega arith in rw e (append-nil xs)

pub ruleset nodes_grow = (node_more, node_done, append-nil)

fresh_count : (n number count : ℕ) → length (fresh_nodes n number count) ≡ count
fresh_count n number zero = refl
fresh_count n number (suc count) = ap suc (fresh_count n (suc number) count)

-- there are as many nodes as are asked for
pub start_count : (code : Code) (n : ℕ) (args : List ℤ) → 0 < n → length (start code n args).nodes ≡ n
start_count code n args h = omega (arith, fresh_count n 1 (n - 1))

pub greatest : (a b c : ℕ) → max (max a b) c ≡ max a (max b c)
greatest a b c = omega arith
