-- Fibers instruction by instruction.
use Rattle.std.proofs.Common.{◌≡◌, ◌≤◌, ◌+◌, ◌-◌, ℕ, zero, suc, true, false, List, [], ◌∷◌, drop, refl, ap, sym, ◌∙◌, Some, None, slice_get, nat_lt, arith, subst}
use Rattle.std.proofs.lemmas.Bool.{lt-ltb, le-ltb}
use Rattle.ec_code.specs.declared.instr.Instr.{Instr}
use Rattle.ec_eu.specs.declared.state.Next.{Next}
use Rattle.ec_eu.specs.declared.state.Next.TheVariants as next
use Rattle.ec_eu.specs.Fibers.{does, goes_on, kept, place_after}
use Rattle.ec_eu.specs.Instructions.{one}
use Rattle.ec_eu.specs.State.{Exec}
use Rattle.ec_eu.proofs.Lists.{drop_get}

-- instructions before the first to run are left out
skips : (n k j : ℕ) (xs : List Instr) (s : Exec) → does n k (k + j) xs s ≡ does n (k + j) (k + j) (drop j xs) s
skips n k zero xs s = let e : k + 0 ≡ k = omega arith in rw e refl
skips n k (suc j) [] s = refl
skips n k (suc j) (x ∷ xs) s =
    let e : k + suc j ≡ suc k + j = omega arith in
    let before : nat_lt k (k + suc j) ≡ true = lt-ltb k (k + suc j) (omega arith) in
    rw before (rw e (skips n (suc k) j xs s))

same_place : (k : ℕ) → nat_lt k k ≡ false
same_place k = le-ltb k k (omega arith)

pub comes_later : (k : ℕ) (x : Next) → suc k ≤ place_after k x
comes_later k next.On = omega arith
comes_later k (next.To t) = omega arith
comes_later k next.Ends = omega arith
comes_later k (next.Traps t) = omega arith

drop_nil : {A : Type 0} (j : ℕ) → drop {A = A} j [] ≡ []
drop_nil zero = refl
drop_nil (suc j) = refl

drop_more : {A : Type 0} (i j : ℕ) (xs : List A) → drop j (drop i xs) ≡ drop (i + j) xs
drop_more zero j xs = let e : 0 + j ≡ j = omega arith in rw e refl
drop_more (suc i) j [] = drop_nil j ∙ sym (drop_nil (suc i + j))
drop_more (suc i) j (x ∷ xs) = let e : suc i + j ≡ suc (i + j) = omega arith in rw e (drop_more i j xs)

past : {A : Type 0} (xs : List A) (at : ℕ) → slice_get xs at ≡ None → drop at xs ≡ []
past [] zero h = refl
past [] (suc at) h = refl
past (x ∷ xs) zero h = absurd (cc)
past (x ∷ xs) (suc at) h = past xs at h

pub does_past : (n at : ℕ) (xs : List Instr) (s : Exec) → slice_get xs at ≡ None → does n at at (drop at xs) s ≡ s
does_past n at xs s h = rw (past xs at h) refl

pub does_last : (n at : ℕ) (xs : List Instr) (x : Instr) (s : Exec) → slice_get xs at ≡ Some x → goes_on (one n x s).1 ≡ false →
    does n at at (drop at xs) s ≡ kept (one n x s)
does_last n at xs x s h ends = rw (drop_get xs at x h, same_place at, ends) refl

pub does_next : (n at place : ℕ) (xs : List Instr) (x : Instr) (s : Exec) → slice_get xs at ≡ Some x → goes_on (one n x s).1 ≡ true →
    place ≡ place_after at (one n x s).1 → does n at at (drop at xs) s ≡ does n place place (drop place xs) (one n x s).0
does_next n at place xs x s h on is =
    let j : ℕ = place - suc at in
    let later : suc at ≤ place = subst (λ k. suc at ≤ k) (sym is) (comes_later at (one n x s).1) in
    let e : suc at + j ≡ place = omega (arith, later) in
    let left : drop j (drop (at + 1) xs) ≡ drop place xs = drop_more (at + 1) j xs ∙ ap (λ k. drop k xs) (omega (arith, e)) in
    rw (drop_get xs at x h, same_place at, on, sym is)
    (ap (λ k. does n (suc at) k (drop (at + 1) xs) (one n x s).0) (sym e)
    ∙ skips n (suc at) j (drop (at + 1) xs) (one n x s).0
    ∙ ap (λ ys. does n (suc at + j) (suc at + j) ys (one n x s).0) left
    ∙ ap (λ k. does n k k (drop place xs) (one n x s).0) e)
