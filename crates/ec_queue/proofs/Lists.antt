-- Lists that grow.
use Rattle.std.proofs.Common.{◌≡◌, ◌<◌, ◌≤◌, ◌+◌, ◌-◌, ℕ, suc, List, [], ◌∷◌, ◌++◌, replicate, arith, append_assoc, append-nil}

-- one item more of those that are to come
pub grow_more : {A : Type 0} (xs : List A) (z : A) (i n : ℕ) → i < n → (xs ++ z ∷ []) ++ replicate (n - (i + 1)) z ≡ xs ++ replicate (n - i) z
grow_more xs z i n h =
    let e : n - i ≡ suc (n - (i + 1)) = omega arith in rw e (append_assoc xs (z ∷ []) (replicate (n - (i + 1)) z))

pub grow_done : {A : Type 0} (xs : List A) (z : A) (i n : ℕ) → n ≤ i → xs ++ replicate (n - i) z ≡ xs
grow_done xs z i n h = let e : n - i ≡ 0 = omega arith in rw e (append-nil xs)

pub ruleset grows = (grow_more, grow_done, append-nil)
