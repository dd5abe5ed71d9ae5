-- A reader behind another at any depth, told for each value of the first.
use Rattle.std.proofs.Common.{⊎_elim, inl, inr, ℕ, Bool, List}
use Rattle.ec_base.specs.declared.token.Token.{Token}
use Rattle.ec_syntax.specs.Grammar.Language as L
use Rattle.ec_syntax.specs.Grammar.Language.{Language}
use Rattle.ec_syntax.specs.Descent.Reader as R
use Rattle.ec_syntax.specs.Descent.Reader.{Reader}
use Rattle.ec_syntax.proofs.Decision.Procedures.{Trails, Follows, Quiet, is_else, Ends, Within, Apart}
use Rattle.ec_syntax.proofs.Tokens.Sequences.{first_within}
use Rattle.ec_syntax.proofs.Decision.Limited.{Told}
use Rattle.ec_syntax.proofs.Decision.Sequencing.{followed_spoken, followed}

module _ {X B : Type 0} {fits able : Type 0} {d : ℕ} {f : X → Reader B} {g : X → Language B} {empty_of : X → Type 0}
    {first_of : X → Token → Bool} {empty : Type 0} {first goes : Token → Bool}
    (each : (x : X) → Told {X = Unit {0}} fits able d (λ u. f x) (λ u. g x) (empty_of x) (first_of x) goes) (none : (x : X) → empty_of x → empty) (within : (x : X) → Within (first_of x) first)
    (ends : able → (rest : List Token) → Quiet goes rest → Quiet is_else rest → Ends g rest) where
  pub gathered_trails : Trails able g empty first goes
  gathered_trails = record {
    carried = λ x s b m h. (each x).spoken.carried tt s b m h;
    starts = λ x asked s b m h. ⊎_elim (λ y. inl (first_within (first_of x) first (within x) s.left y.0, y.2)) (λ y. inr (none x y.0, y.1)) ((each x).spoken.starts tt asked s b m h);
    ends = ends;
  }

  pub gathered : fits → Follows able f g empty first goes
  gathered fit = record {
    trails = gathered_trails;
    done = λ can x s b m h. ((each x).decides fit).done can tt s b m h;
    stopped = λ can x s fault left h. ((each x).decides fit).stopped can tt s fault left h;
    complete = λ x asked s b m h q. ((each x).decides fit).complete tt asked s b m h q;
  }

module _ {X A B : Type 0} {fits able : Type 0} {d : ℕ} {p : X → Reader A} {l : X → Language A}
    {first_p goes_p : Token → Bool} (f : X → A → Reader B) (g : X → A → Language B)
    {empty_of : X × A → Type 0} {first_of : X × A → Token → Bool} {empty : Type 0} {first goes : Token → Bool} where
  -- what stands behind a word, told for each value of it
  pub trailing : Told fits able d p l ⊥ first_p goes_p →
      ((xa : X × A) → Told {X = Unit {0}} fits able d (λ u. f xa.0 xa.1) (λ u. g xa.0 xa.1) (empty_of xa)
      (first_of xa) goes) →
      ((xa : X × A) → empty_of xa → empty) → ((xa : X × A) → Within (first_of xa) first) →
      (able → (rest : List Token) → Quiet goes rest → Quiet is_else rest → Ends (λ (xa : X × A). g xa.0 xa.1) rest) →
      Apart first goes_p → (empty → Within goes_p goes) →
      Told fits able d (λ x. R.◌>>=◌ (p x) (f x)) (λ x. L.◌>>=◌ (l x) (g x)) ⊥ first_p goes
  trailing h each none within ends apart wide = record {
    spoken = followed_spoken h.spoken (gathered_trails each none within ends) apart wide (λ e. e);
    decides = λ fit. followed f (h.decides fit) (gathered each none within ends fit) apart wide (λ e. e);
  }
