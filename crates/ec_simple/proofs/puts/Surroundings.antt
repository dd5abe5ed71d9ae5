-- What a branch or body uses of the variables around it, from what is found in it.
use Rattle.std.proofs.Common.{◌≡◌, sym, ap, ◌∙◌, ℕ, zero, suc, ◌+◌, true, false, not, if◌then◌else◌, List, [], ◌∷◌, ◌++◌, append-nil, filter, length, Result, Ok, Err, IfOk, arith}
use Rattle.std.specs.List.{range_with_len}
use Rattle.std.proofs.lemmas.List.Elements.{filter-append}
use Rattle.ec_simple.specs.declared.around.Around.{Around}
use Rattle.ec_simple.specs.Expressions.{Scope}
use Rattle.ec_simple.specs.Statements.{copied_in, copied_out, own}
use Rattle.ec_simple.specs.Uses.{Use, member, outside, declares, numbers_below, stmt_reads, stmt_writes}
use Rattle.ec_types.specs.Meaning.Tree.{Stmt}

-- ---- numbers below a count

more_range : (a n : ℕ) → range_with_len a (suc n) ≡ range_with_len a n ++ (a + n) ∷ []
more_range a zero = let is : a ≡ a + 0 = omega arith in ap (λ z. z ∷ []) is
more_range a (suc n) =
    let is : (a + 1) + n ≡ a + suc n = omega arith in
    ap (λ z. a ∷ z) (more_range (a + 1) n ∙ ap (λ z. range_with_len (a + 1) n ++ z ∷ []) is)

one_more :
    (among : List ℕ) (n : ℕ) →
    filter (λ x. member x among) (range_with_len 0 (suc n))
    ≡ filter (λ x. member x among) (range_with_len 0 n) ++ filter (λ x. member x among) (n ∷ [])
one_more among n =
    let is : 0 + n ≡ n = omega arith in
    ap (filter (λ x. member x among)) (more_range 0 n ∙ ap (λ z. range_with_len 0 n ++ z ∷ []) is)
    ∙ filter-append (λ x. member x among) (range_with_len 0 n) (n ∷ [])

-- one that is among these, and one that isn't
pub among_more :
    (among : List ℕ) (n : ℕ) → member n among ≡ true →
    filter (λ x. member x among) (range_with_len 0 (n + 1)) ≡ filter (λ x. member x among) (range_with_len 0 n) ++ n ∷ []
among_more among n h =
    let next : n + 1 ≡ suc n = omega arith in
    ap (λ k. filter (λ x. member x among) (range_with_len 0 k)) next ∙ one_more among n
    ∙ ap (λ b. filter (λ x. member x among) (range_with_len 0 n) ++ (if b then n ∷ [] else [])) h

pub apart_more :
    (among : List ℕ) (n : ℕ) → member n among ≡ false →
    filter (λ x. member x among) (range_with_len 0 (n + 1)) ≡ filter (λ x. member x among) (range_with_len 0 n)
apart_more among n h =
    let next : n + 1 ≡ suc n = omega arith in
    ap (λ k. filter (λ x. member x among) (range_with_len 0 k)) next ∙ one_more among n
    ∙ ap (λ b. filter (λ x. member x among) (range_with_len 0 n) ++ (if b then n ∷ [] else [])) h
    ∙ append-nil (filter (λ x. member x among) (range_with_len 0 n))

-- ---- parts of uses

-- what is outside of two parts
outside_both : (own : List ℕ) (a b : List Use) → outside own (a ++ b) ≡ outside own a ++ outside own b
outside_both own a b = filter-append (λ u. not (member u.var own)) a b

-- what was found in a statement
module _ (c : Scope) (u : List Use) (x : Stmt) (declared : List ℕ) (reads writes : List Use) where
  found_in :
      declared ≡ declares x → reads ≡ stmt_reads x → writes ≡ stmt_writes x →
      numbers_below (length c.variables) (u ++ (outside declared reads ++ outside declared writes)) ≡ copied_in c u x
  found_in d r w =
      let n = length c.variables in
      ap (λ z. numbers_below n (u ++ (outside z reads ++ outside z writes))) d
      ∙ ap (λ z. numbers_below n (u ++ (outside (declares x) z ++ outside (declares x) writes))) r
      ∙ ap (λ z. numbers_below n (u ++ (outside (declares x) (stmt_reads x) ++ outside (declares x) z))) w
      ∙ ap (λ z. numbers_below n (u ++ z)) (sym (outside_both (declares x) (stmt_reads x) (stmt_writes x)))

  pub copies_in :
      {E : Type 0} (r : Result Around E) → declared ≡ declares x → reads ≡ stmt_reads x → writes ≡ stmt_writes x →
      IfOk r (λ a. a.copied_in ≡ numbers_below (length c.variables) (u ++ (outside declared reads ++ outside declared writes))) →
      IfOk r (λ a. a.copied_in ≡ copied_in c u x)
  copies_in (Ok a) d r w h = h ∙ found_in d r w
  copies_in (Err e) d r w h = tt

  pub copies_out :
      {E : Type 0} (r : Result Around E) → declared ≡ declares x → writes ≡ stmt_writes x →
      IfOk r (λ a. a.copied_out ≡ numbers_below (length c.variables) (outside declared writes)) →
      IfOk r (λ a. a.copied_out ≡ copied_out c x)
  copies_out (Ok a) d w h =
      let n = length c.variables in
      h ∙ ap (λ z. numbers_below n (outside z writes)) d ∙ ap (λ z. numbers_below n (outside (declares x) z)) w
  copies_out (Err e) d w h = tt

  pub owns :
      {E : Type 0} (r : Result Around E) → declared ≡ declares x → IfOk r (λ a. a.own ≡ a.copied_in ++ declared) →
      IfOk r (λ a. a.copied_in ≡ copied_in c u x) → IfOk r (λ a. a.own ≡ own c u x)
  owns (Ok a) d h i = h ∙ ap (λ z. z ++ declared) i ∙ ap (λ z. copied_in c u x ++ z) d
  owns (Err e) d h i = tt
