-- What a level of operators answers is right, where what the level below it answers is.
use Rattle.std.proofs.Common.{◌≡◌, refl, sym, ◌∙◌, ap, subst, ℕ, zero, suc, ◌≤◌, ◌<◌, [], ◌∷◌, ◌++◌, length, append_assoc, arith}
use Rattle.std.specs.Prelude.{Ok, Err, Option, Some, None}
use Rattle.ec_base.specs.declared.token.TokenKind.{TokenKind}
use Rattle.ec_small.specs.declared.tree.Operator.{Operator}
use Rattle.ec_small.specs.declared.tree.Expr.{Expr}
use Rattle.ec_small.specs.declared.tree.Expr.TheVariants.{Binary}
use Rattle.ec_small.specs.Grammar.{Kinds}
use Rattle.ec_small.specs.Descent.{Read, Sized, and_then}
use Rattle.ec_small.proofs.Rules.{Rule, Local, Stuck, Opens, Judged}
use Rattle.ec_small.proofs.Levels.{Operators, Halts, Reader, Turns, Level, Reaches, stuck_one, stuck_more}

-- the steps of two rules, one behind the other
pub judged_then : {A B : Type 0} (P O : Rule A) (Q U : Rule B) (f : Kinds → Read A) (g : Kinds → Read B) (us ts : Kinds) (p : Read A) (go : A → Kinds → Read B) →
    Judged P O f us p → ((r : Kinds) → Opens O f us r → Opens U g ts r) → ((a : A) (r : Kinds) → P us a r → Judged Q U g ts (go a r)) → Judged Q U g ts (and_then p go)
judged_then P O Q U f g us ts (Ok p) go h opens goes = goes p.0 p.1 h
judged_then P O Q U f g us ts (Err r) go h opens goes = opens r h

-- a rule in other words
pub judged_as : {A : Type 0} (P Q O : Rule A) (f : Kinds → Read A) (ts : Kinds) (p : Read A) → ((a : A) (r : Kinds) → P ts a r → Q ts a r) → Judged P O f ts p → Judged Q O f ts p
judged_as P Q O f ts (Ok p) as_is h = as_is p.0 p.1 h
judged_as P Q O f ts (Err r) as_is h = h

-- what stops the one stops the other
pub stuck_by : {A B : Type 0} (f : Kinds → Read A) (g : Kinds → Read B) (done more_done r : Kinds) →
    ((x : TokenKind) (behind : Kinds) → f (done ++ (x ∷ behind)) ≡ Err (x ∷ behind) → g (more_done ++ (x ∷ behind)) ≡ Err (x ∷ behind)) → Stuck f done r → Stuck g more_done r
stuck_by f g done more_done [] h s = tt
stuck_by f g done more_done (x ∷ r) h s = λ behind. h x behind (s behind)

-- a rule, where an end of this kind stands behind it
abbrev pub Ends : Rule Sized → (ℕ → Kinds → Type 0) → Rule Sized
Ends R E ts p rest = R ts p rest × E p.1 rest

-- an end of the level below that is one of this level too
abbrev pub Both : Operators → (ℕ → Kinds → Type 0) → ℕ → Kinds → Type 0
Both ops E j rest = E j rest × Halts ops j rest

-- the rules of a level: In for what its operators join, with ends E, and Out for what is joined
pub record Joins (ops : Operators) (read by : Reader) (on : Turns) (In Out : ℕ → Rule Sized) (E : ℕ → Kinds → Type 0) : Type 0 where
  pub level : Level ops read by on
  pub one : (i : ℕ) (ts : Kinds) (p : Sized) (rest : Kinds) → In i ts p rest → Out i ts p rest
  pub more : (i : ℕ) (ts : Kinds) (a : Expr) (j : ℕ) (x : TokenKind) (us : Kinds) (b : Sized) (rest : Kinds) (op : Operator) → ops x ≡ Some op →
      Out i ts (a, suc j) (x ∷ us) → In j us b rest → Out i ts (Binary op a b.0, b.1) rest
  pub local : (i : ℕ) (ts : Kinds) (p : Sized) (rest : Kinds) → Out i ts p rest → Local (Out i) ts p rest
  pub shorter : (i : ℕ) (ts : Kinds) (p : Sized) (rest : Kinds) → In i ts p rest → length rest < length ts
  pub reach : (i : ℕ) (ts : Kinds) (a : Expr) (j : ℕ) (x : TokenKind) (us : Kinds) (op : Operator) → ops x ≡ Some op →
      Out i ts (a, suc j) (x ∷ us) → Reaches by on i ts (a, suc j) (x ∷ us)
  pub judged : (i : ℕ) (ts : Kinds) → Judged (Ends (In i) E) (In i) (read i) ts (read i ts)

module _ {ops : Operators} {read by : Reader} {on : Turns} {In Out : ℕ → Rule Sized} {E : ℕ → Kinds → Type 0} (joins : Joins ops read by on In Out E) where
  opens_first : (i : ℕ) (ts r : Kinds) → Opens (In i) (read i) ts r → Opens (Out i) (by i) ts r
  opens_first i ts r o = (
    o.0,
    o.1,
    (λ after. let q = o.2 after in (q.0, q.1, joins.one i _ _ _ q.2, q.3)),
    stuck_by (read i) (by i) o.0 o.0 r (λ x behind e. stuck_one joins.level i (o.0 ++ (x ∷ behind)) (x ∷ behind) e) o.3,
  )

  opens_more : (i : ℕ) (ts : Kinds) (a : Expr) (j : ℕ) (x : TokenKind) (us r : Kinds) (op : Operator) → ops x ≡ Some op →
      Out i ts (a, suc j) (x ∷ us) → Opens (In j) (read j) us r → Opens (Out i) (by i) ts r
  opens_more i ts a j x us r op is s o =
      let l = joins.local i ts (a, suc j) (x ∷ us) s in (
        l.0 ++ (x ∷ o.0),
        l.1 ∙ ap (λ z. l.0 ++ (x ∷ z)) o.1 ∙ sym (append_assoc l.0 (x ∷ o.0) r),
        (λ after.
            let q = o.2 after in (
              q.0,
              (Binary op a q.1.0, q.1.1),
              subst (λ z. Out i z (Binary op a q.1.0, q.1.1) after) (sym (append_assoc l.0 (x ∷ o.0) (q.0 ++ after)))
                  (joins.more i _ a j x _ q.1 after op is (l.2 (x ∷ (o.0 ++ (q.0 ++ after)))) q.2),
              q.3,
            )),
        stuck_by (read j) (by i) o.0 (l.0 ++ (x ∷ o.0)) r
            (λ y behind e.
            ap (by i) (append_assoc l.0 (x ∷ o.0) (y ∷ behind))
            ∙ stuck_more joins.level i (l.0 ++ (x ∷ (o.0 ++ (y ∷ behind)))) a j x (o.0 ++ (y ∷ behind)) (y ∷ behind) op is
            (joins.reach i _ a j x _ op is (l.2 (x ∷ (o.0 ++ (y ∷ behind))))) e)
            o.3,
      )

  abbrev Whole : ℕ → Kinds → Read Sized → Type 0
  Whole i ts r = Judged (Ends (Out i) (Both ops E)) (Out i) (by i) ts r

  whole : (k i : ℕ) (ts : Kinds) (p : Sized) (rest : Kinds) → Out i ts p rest → E p.1 rest → Halts ops p.1 rest → Whole i ts (on k p rest)
  whole k i ts p rest s e h = subst (λ r. Whole i ts r) (sym (joins.level.halts k p rest h)) (s, (e, h))

  -- a turn, by what the next token is
  judged_turn : (k i : ℕ) (ts : Kinds) (a : Expr) (j : ℕ) (x : TokenKind) (rest : Kinds) → length (x ∷ rest) ≤ suc k → Out i ts (a, suc j) (x ∷ rest) → E (suc j) (x ∷ rest) →
      ((b : Expr) (l : ℕ) (r : Kinds) → length r ≤ k → Out i ts (b, l) r → E l r → Whole i ts (on k (b, l) r)) →
      (o : Option Operator) → ops x ≡ o → Whole i ts (on (suc k) (a, suc j) (x ∷ rest))
  judged_turn k i ts a j x rest fits s e next None is = whole (suc k) i ts (a, suc j) (x ∷ rest) s e is
  judged_turn k i ts a j x rest fits s e next (Some op) is =
      subst (λ r. Whole i ts r) (sym (joins.level.goes k a j x rest op is))
      (judged_then (Ends (In j) E) (In j) (Ends (Out i) (Both ops E)) (Out i) (read j) (by i) rest ts (read j rest) (λ b. on k (Binary op a b.0, b.1)) (joins.judged j rest)
      (λ r. opens_more i ts a j x rest r op is s)
      (λ b r h. next (Binary op a b.0) b.1 r (omega (arith, joins.shorter j rest b r h.0)) (joins.more i ts a j x rest b r op is s h.0) h.1))

  judged_on : (k i : ℕ) (ts : Kinds) (a : Expr) (j : ℕ) (rest : Kinds) → length rest ≤ k → Out i ts (a, j) rest → E j rest → Whole i ts (on k (a, j) rest)
  judged_on k i ts a zero rest fits s e = whole k i ts (a, zero) rest s e refl
  judged_on k i ts a (suc j) [] fits s e = whole k i ts (a, suc j) [] s e refl
  judged_on zero i ts a (suc j) (x ∷ rest) fits s e = absurd (omega arith)
  judged_on (suc k) i ts a (suc j) (x ∷ rest) fits s e =
      judged_turn k i ts a j x rest fits s e (λ b l r. judged_on k i ts b l r) (ops x) refl

  pub judged_by : (i : ℕ) (ts : Kinds) → Judged (Ends (Out i) (Both ops E)) (Out i) (by i) ts (by i ts)
  judged_by i ts =
      subst (λ r. Whole i ts r) (sym (joins.level.starts i ts))
      (judged_then (Ends (In i) E) (In i) (Ends (Out i) (Both ops E)) (Out i) (read i) (by i) ts ts (read i ts) (λ p rest. on (length rest) p rest) (joins.judged i ts)
      (λ r. opens_first i ts r)
      (λ p r h. judged_on (length r) i ts p.0 p.1 r (omega arith) (joins.one i ts p r h.0) h.1))
