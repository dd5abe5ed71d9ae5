-- Births are in order from the start, and stay so.
use Rattle.std.proofs.Common.{◌≡◌, ◌≢◌, ℕ, suc, ◌+◌, ◌<◌, List, [], ◌∷◌, ◌++◌, reverse, All, refl, sym, ap, subst, ◌∙◌, add-one, arith, Less, Equal, nat_cmp, is_lt, true≢false, append_assoc, slice_get, is_some, lt-suc_self}
use Rattle.std.specs.Cmp.{nat_cmp_is}
use Rattle.std.specs.Cmp.Lexicographic.{slice_cmp}
use Rattle.std.specs.List.Sorted.{IsStrictlySortedBy}
use Rattle.std.specs.Ordering.{ordering_then}
use Rattle.std.proofs.lemmas.Cmp.{nat_list_cmp_total, tied_itself}
use Rattle.std.proofs.lemmas.List.{reverse-append}
use Rattle.std.proofs.lemmas.List.Elements.{All-nil, All-head, All-tail, All-push, All-weaker, All-from_recursion, recursion_from_All}
use Rattle.ec_types.specs.Meaning.Values.{Path}
use Rattle.ec_types.specs.Meaning.State as state
use Rattle.ec_meaning.specs.declared.shared_state.Core.{Core}
use Rattle.ec_meaning.specs.Seen.{Untold, core}
use Rattle.ec_meaning.specs.Order.{IsBefore, AreRising, paths, next_of, next_path, InOrder}

-- ---- paths

same_number : (n : ℕ) → nat_cmp n n ≡ Equal
same_number n = sym (nat_cmp_is n n Equal refl)

smaller : (m n : ℕ) → m < n → nat_cmp m n ≡ Less
smaller m n l = sym (nat_cmp_is m n Less l)

pub IsBefore_trans : (p q r : Path) → IsBefore p q → IsBefore q r → IsBefore p r
IsBefore_trans p q r = nat_list_cmp_total.trans p q r

pub IsBefore_irrefl : (p : Path) → (IsBefore p p → ⊥)
IsBefore_irrefl p b = true≢false (sym (ap is_lt b) ∙ ap is_lt (tied_itself nat_list_cmp_total p))

-- those of births in an activation or block lie behind its own
pub IsBefore-inner : (p : Path) (n : ℕ) → IsBefore p (p ++ n ∷ [])
IsBefore-inner [] n = refl
IsBefore-inner (m ∷ p) n =
    ap (λ o. ordering_then o (slice_cmp nat_cmp p (p ++ n ∷ []))) (same_number m) ∙ IsBefore-inner p n

-- and those of births in an earlier one before a later one's
pub IsBefore-later : (p q : Path) (m n : ℕ) → m < n → IsBefore (p ++ m ∷ q) (p ++ n ∷ [])
IsBefore-later [] q m n l = ap (λ o. ordering_then o (slice_cmp nat_cmp q [])) (smaller m n l)
IsBefore-later (k ∷ p) q m n l =
    ap (λ o. ordering_then o (slice_cmp nat_cmp (p ++ m ∷ q) (p ++ n ∷ []))) (same_number k) ∙ IsBefore-later p q m n l

pub AreRising-nil : AreRising []
unfolding IsStrictlySortedBy
AreRising-nil = tt

pub AreRising-push : (ps : List Path) (q : Path) → AreRising ps → All (λ p. IsBefore p q) ps → AreRising (ps ++ q ∷ [])
unfolding IsStrictlySortedBy
AreRising-push [] q r b = (tt, tt)
AreRising-push (p ∷ ps) q r b =
    let later = All-from_recursion (IsBefore p) ps r.0 in
    let below = All-push (IsBefore p) ps q later (All-head (λ p. IsBefore p q) p ps b) in
    (recursion_from_All (IsBefore p) _ below, AreRising-push ps q r.1 (All-tail (λ p. IsBefore p q) p ps b))

All-before : (ps : List Path) (q r : Path) → IsBefore q r → All (λ p. IsBefore p q) ps → All (λ p. IsBefore p r) ps
All-before ps q r l b =
    All-weaker (λ p. IsBefore p q) (λ p. IsBefore p r) (λ p before. IsBefore_trans p q r before l) ps b

-- ---- births

reverse-cons : (n : ℕ) (ns : List ℕ) → reverse (n ∷ ns) ≡ reverse ns ++ n ∷ []
reverse-cons n ns = reverse-append (n ∷ []) ns

-- the next birth after an activation has started, after it has ended, and after a block was born
entered : (b : ℕ) (rest : List ℕ) → IsBefore (next_of (b ∷ rest)) (next_of (0 ∷ (b + 1) ∷ rest))
entered b rest =
    let p = next_of (b ∷ rest) in
    let path = reverse-cons (b + 1) rest ∙ ap (λ n. reverse rest ++ n ∷ []) (add-one b) in
    subst (λ q. IsBefore p (q ++ 1 ∷ [])) (sym path) (IsBefore-inner p 1)

left : (b a : ℕ) (rest : List ℕ) → IsBefore (next_of (b ∷ a ∷ rest)) (next_of (a ∷ rest))
left b a rest =
    let p = reverse rest in
    let path = ap (λ q. q ++ suc b ∷ []) (reverse-cons a rest) ∙ append_assoc p (a ∷ []) (suc b ∷ []) in
    subst (λ q. IsBefore q (next_of (a ∷ rest))) (sym path) (IsBefore-later p (suc b ∷ []) a (suc a) (lt-suc_self a))

born : (b : ℕ) (rest : List ℕ) → IsBefore (next_of (b ∷ rest)) (next_of ((b + 1) ∷ rest))
born b rest = IsBefore-later (reverse rest) [] (suc b) (suc (b + 1)) (omega arith)

-- ---- cores

pub next_path-core : (u : Untold) (c : Core) → state.next_path (core u c) ≡ next_path c
next_path-core u c = refl

not_none : (n : ℕ) (ns : List ℕ) → n ∷ ns ≢ []
not_none n ns e = absurd (true≢false (ap is_some (ap (λ l. slice_get l 0) e)))

pub InOrder-start : (c : Core) → c.births ≡ 0 ∷ [] → c.blocks.items ≡ [] → InOrder c
InOrder-start c b e = record {
  running = rw b (not_none 0 []);
  rising = rw e AreRising-nil;
  below = rw e (All-nil (λ p. IsBefore p (next_path c)));
}

module _ (c d : Core) (o : InOrder c) where
  -- the next birth's path may grow, where no block is born
  later : IsBefore (next_path c) (next_path d) → d.births ≢ [] → paths d.blocks.items ≡ paths c.blocks.items → InOrder d
  later n r e = record {
    running = r;
    rising = subst AreRising (sym e) o.rising;
    below = subst (All (λ p. IsBefore p (next_path d))) (sym e)
        (All-before (paths c.blocks.items) (next_path c) (next_path d) n o.below);
  }

  -- cells, output and the most that were open may change
  pub InOrder-same : d.births ≡ c.births → paths d.blocks.items ≡ paths c.blocks.items → InOrder d
  InOrder-same b e = record {
    running = rw b o.running;
    rising = subst AreRising (sym e) o.rising;
    below = rw (b, e) o.below;
  }

  -- an activation starts
  pub InOrder-entered : (b : ℕ) (rest : List ℕ) → c.births ≡ b ∷ rest → d.births ≡ 0 ∷ (b + 1) ∷ rest
      → paths d.blocks.items ≡ paths c.blocks.items → InOrder d
  InOrder-entered b rest old new e =
      later (rw (old, new) (entered b rest)) (rw new (not_none 0 ((b + 1) ∷ rest))) e

  -- it ends
  pub InOrder-left : (b a : ℕ) (rest : List ℕ) → c.births ≡ b ∷ a ∷ rest → d.births ≡ a ∷ rest
      → paths d.blocks.items ≡ paths c.blocks.items → InOrder d
  InOrder-left b a rest old new e = later (rw (old, new) (left b a rest)) (rw new (not_none a rest)) e

  -- a block is born
  pub InOrder-born : (b : ℕ) (rest : List ℕ) → c.births ≡ b ∷ rest → d.births ≡ (b + 1) ∷ rest
      → paths d.blocks.items ≡ paths c.blocks.items ++ next_path c ∷ [] → InOrder d
  InOrder-born b rest old new e = record {
    running = rw new (not_none (b + 1) rest);
    rising = subst AreRising (sym e) (AreRising-push (paths c.blocks.items) (next_path c) o.rising o.below);
    below = subst (All (λ p. IsBefore p (next_path d))) (sym e)
        (All-push (λ p. IsBefore p (next_path d)) (paths c.blocks.items) (next_path c)
        (All-before (paths c.blocks.items) (next_path c) (next_path d) more o.below) more);
  }
    where
      more : IsBefore (next_path c) (next_path d)
      more = rw (old, new) (born b rest)
