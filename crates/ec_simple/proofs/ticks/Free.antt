-- A program means the same, ticks apart, whether its nodes and statements spend ticks or are free.
use Rattle.std.proofs.Common.{◌≡◌, refl, sym, ap, ◌∙◌, subst, ℕ, ◌+◌, ◌≤◌, le_refl, arith, Bool, true, false, List, ◌++◌, append_assoc, ℤ}
use Rattle.ec_types.specs.Meaning.Values.{Val}
use Rattle.ec_types.specs.Meaning.State.{Core, Ends, Out, With, Returns, Traps, Going}
use Rattle.ec_types.specs.Meaning.Evaluation.{Program}
use Rattle.ec_types.specs.Meaning.Laws.{Begins}
use Rattle.ec_types.specs.Meaning.Programs.{Meaning, root, told, HasEnded}
use Rattle.ec_types.proofs.meaning.Growth.{Grows, grows_refl, grows_trans}
use Rattle.ec_simple.specs.Laws.{SameEnd, EndsAs, PrintsAs}
use Rattle.ec_simple.proofs.ticks.Ahead.{Reached, Reaches, ahead_ticks, ahead_without, ahead_with}
use Rattle.ec_simple.proofs.ticks.Runs.{main_within, ahead_main}

-- main with these arguments and at most k ticks, spent by nodes and statements too where small is true
abbrev pub run_by : Bool → Program → ℕ → List ℤ → ℕ → Out Val
run_by small p main args k = main_within small p main args k root k

abbrev pub told_by : Bool → Program → ℕ → List ℤ → ℕ → Meaning
told_by small p main args k = told k (run_by small p main args k)

pub record NodesAreFree (p : Program) (main : ℕ) (args : List ℤ) : Type 0 where
  pub ends : EndsAs (told_by true p main args) (told_by false p main args)
  pub ended : EndsAs (told_by false p main args) (told_by true p main args)
  pub prints : PrintsAs (told_by true p main args) (told_by false p main args)
  pub printed : PrintsAs (told_by false p main args) (told_by true p main args)

-- ---- what reaches what

module _ {A : Type 0} where
  reached_grows : (e : Ends A) (c : Core) (n : ℕ) (y : Out A) → Reached e c n y → Grows c y.1
  reached_grows e c n y h = subst (λ o. Grows c o.1) (sym h.is) (grows_refl c)

  reaches_grows : (x y : Out A) → Reaches 0 x y → Grows x.1 y.1
  reaches_grows (With a, c, q) y h = reached_grows (With a) c (q + 0) y h
  reaches_grows (Returns v, c, q) y h = reached_grows (Returns v) c (q + 0) y h
  reaches_grows (Traps t, c, q) y h = reached_grows (Traps t) c (q + 0) y h
  reaches_grows (Going, c, q) y h = h

  -- what is reached from an end that was reached
  reached_further :
      (e : Ends A) (c : Core) (n : ℕ) (y z : Out A) →
      ((q : ℕ) → Reaches 0 (e, c, q) z → Reached e c (q + 0) z) → Reached e c (n + 0) y → Reaches 0 y z →
      Reached e c (n + 0) z
  reached_further e c n y z k h i =
      let m = h.enough in
      let t = k h.left (subst (λ o. Reaches 0 o z) h.is i) in
      let l = t.enough in
      record { left = t.left; is = t.is; enough = omega (arith, m, l) }

  reaches_trans : (x y z : Out A) → Reaches 0 x y → Reaches 0 y z → Reaches 0 x z
  reaches_trans (With a, c, q) y z h i = reached_further (With a) c q y z (λ n k. k) h i
  reaches_trans (Returns v, c, q) y z h i = reached_further (Returns v) c q y z (λ n k. k) h i
  reaches_trans (Traps t, c, q) y z h i = reached_further (Traps t) c q y z (λ n k. k) h i
  reaches_trans (Going, c, q) y z h i = grows_trans c y.1 z.1 h (reaches_grows y z i)

-- ---- what is told

module _ (k j : ℕ) where
  same_end : (e : Ends Val) (c : Core) (q n : ℕ) (y : Out Val) → Reached e c n y → SameEnd (told k (e, c, q)) (told j y)
  same_end e c q n y h = subst (λ o. SameEnd (told k (e, c, q)) (told j o)) (sym h.is) (ends e h.left)
    where
      ends : (e : Ends Val) (left : ℕ) → SameEnd (told k (e, c, q)) (told j (e, c, left))
      ends (With v) left = record { ending = refl; output = refl; result = refl; store = refl; most = refl; places = refl; forks = refl }
      ends (Returns v) left = record { ending = refl; output = refl; result = refl; store = refl; most = refl; places = refl; forks = refl }
      ends (Traps t) left = record { ending = refl; output = refl; result = refl; store = refl; most = refl; places = refl; forks = refl }
      ends Going left = record { ending = refl; output = refl; result = refl; store = refl; most = refl; places = refl; forks = refl }

  told_ends : (x y : Out Val) → Reaches 0 x y → HasEnded (told k x).ending → SameEnd (told k x) (told j y)
  told_ends (With v, c, q) y h e = same_end (With v) c q (q + 0) y h
  told_ends (Returns v, c, q) y h e = same_end (Returns v) c q (q + 0) y h
  told_ends (Traps t, c, q) y h e = same_end (Traps t) c q (q + 0) y h
  told_ends (Going, c, q) y h e = absurd e

told_output : (k : ℕ) (x : Out Val) → (told k x).output ≡ x.1.output
told_output k (With v, c, q) = refl
told_output k (Returns v, c, q) = refl
told_output k (Traps t, c, q) = refl
told_output k (Going, c, q) = refl

told_begins : (k j : ℕ) (x y : Out Val) → Reaches 0 x y → Begins (told k x).output (told j y).output
told_begins k j x y h =
    subst (λ l. Begins l (told j y).output) (sym (told_output k x))
    (subst (λ l. Begins x.1.output l) (sym (told_output j y)) (reaches_grows x y h).output)

-- ---- both ways

module _ (p : Program) (main : ℕ) (args : List ℤ) where
  -- the same room and as many ticks are enough for the one without
  to_free : (k : ℕ) → Reaches 0 (run_by true p main args k) (run_by false p main args k)
  to_free k =
      let x = run_by true p main args k in
      let s = (ahead_main false true false (ahead_without false) p main args k k (le_refl k)).later root k in
      let none = s.allowed in
      let ticks : s.more + k + 0 ≡ k = omega (arith, none) in
      subst (λ n. Reaches 0 x (main_within false p main args k root n)) ticks (s.reaches 0)

  -- for the one with, more ticks, and then more room as well
  from_free : (k : ℕ) → (j : ℕ) × Reaches 0 (run_by false p main args k) (run_by true p main args j)
  from_free k =
      let x = run_by false p main args k in
      let s = (ahead_main true false true ahead_with p main args k k (le_refl k)).later root k in
      let j = s.more + k + 0 in
      let y = main_within true p main args k root j in
      let above : k ≤ s.more + k + 0 = omega arith in
      let t = (ahead_main false true true (ahead_ticks false true) p main args k j above).later root j in
      let none = t.allowed in
      let ticks : t.more + j + 0 ≡ j = omega (arith, none) in
      let room = subst (λ n. Reaches 0 y (main_within true p main args j root n)) ticks (t.reaches 0) in
      (j, reaches_trans x y (run_by true p main args j) (s.reaches 0) room)

  pub nodes_are_free : NodesAreFree p main args
  nodes_are_free = record {
    ends = λ k e. (k, told_ends k k (run_by true p main args k) (run_by false p main args k) (to_free k) e);
    ended =
        λ k e. let s = from_free k in
        (s.0, told_ends k s.0 (run_by false p main args k) (run_by true p main args s.0) s.1 e);
    prints = λ k. (k, told_begins k k (run_by true p main args k) (run_by false p main args k) (to_free k));
    printed =
        λ k. let s = from_free k in
        (s.0, told_begins k s.0 (run_by false p main args k) (run_by true p main args s.0) s.1);
  }

-- ---- one after the other

same_end_trans : (m n o : Meaning) → SameEnd m n → SameEnd n o → SameEnd m o
same_end_trans m n o a b = record {
  ending = a.ending ∙ b.ending;
  output = a.output ∙ b.output;
  result = a.result ∙ b.result;
  store = a.store ∙ b.store;
  most = a.most ∙ b.most;
  places = a.places ∙ b.places;
  forks = a.forks ∙ b.forks;
}

pub ends_trans : (m n o : ℕ → Meaning) → EndsAs m n → EndsAs n o → EndsAs m o
ends_trans m n o a b k e =
    let s = a k e in
    let t = b s.0 (subst HasEnded s.1.ending e) in
    (t.0, same_end_trans (m k) (n s.0) (o t.0) s.1 t.1)

pub prints_trans : (m n o : ℕ → Meaning) → PrintsAs m n → PrintsAs n o → PrintsAs m o
prints_trans m n o a b k =
    let s = a k in
    let t = b s.0 in
    let x = s.1 in
    let y = t.1 in
    let xs = (m k).output in
    (t.0, (x.0 ++ y.0, sym (append_assoc xs x.0 y.0) ∙ ap (λ l. l ++ y.0) x.1 ∙ y.1))
