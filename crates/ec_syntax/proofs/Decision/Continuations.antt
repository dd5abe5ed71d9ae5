-- What stands behind something else, at whatever depth: its words may begin at different depths, and needn't begin with each token that
-- begins one of them.
use Rattle.std.proofs.Common.{◌≡◌, subst, ℕ, Bool, ◌||◌}
use Rattle.ec_base.specs.declared.token.Token.{Token}
use Rattle.ec_syntax.specs.Grammar.State.{State}
use Rattle.ec_syntax.specs.Grammar.Language as L
use Rattle.ec_syntax.specs.Grammar.Language.{Language, first_is}
use Rattle.ec_syntax.specs.Descent.Reader as R
use Rattle.ec_syntax.specs.Descent.Reader.{Reader, when}
use Rattle.ec_syntax.specs.Descent.Reader.Outcome.{Done, Stopped}
use Rattle.ec_syntax.proofs.Decision.Procedures.{Trails, Follows, Within, Apart}
use Rattle.ec_syntax.proofs.Decision.Limited.{Told}
use Rattle.ec_syntax.proofs.Decision.Alternatives.{either_trails, either_follows}
use Rattle.ec_syntax.proofs.Decision.Concatenation.{spoken_trails, decides_follows, followed_trails}
use Rattle.ec_syntax.proofs.Decision.Sequencing.{followed_follows, followed_spoken, followed}
use Rattle.ec_syntax.proofs.Lookahead.FirstTokens.{ends_as}

pub record Later {X A : Type 0} (fits able : Type 0) (p : X → Reader A) (l : X → Language A) (empty : Type 0)
    (first goes : Token → Bool) : Type 1 where
  pub trails : Trails able l empty first goes
  pub follows : fits → Follows able p l empty first goes

pub told_later : {X A : Type 0} {fits able : Type 0} {d : ℕ} {p : X → Reader A} {l : X → Language A} {empty : Type 0}
    {first goes : Token → Bool} → Told fits able d p l empty first goes → Later fits able p l empty first goes
told_later h = record { trails = spoken_trails h.spoken; follows = λ fit. decides_follows (h.decides fit) }

-- ---- told otherwise

module _ {X Y A : Type 0} (k : Y → X) {l : X → Language A} {able empty : Type 0} {first goes : Token → Bool} where
  trails_at : Trails able l empty first goes → Trails able (λ y. l (k y)) empty first goes
  trails_at h = record {
    carried = λ y s b m c. h.carried (k y) s b m c;
    starts = λ y asked s b m c. h.starts (k y) asked s b m c;
    ends = λ can rest q c. let e = h.ends can rest q c in ends_as e (λ y s is. e.ended (k y) s is);
  }

  pub later_at : {fits : Type 0} {p : X → Reader A} → Later fits able p l empty first goes →
      Later fits able (λ y. p (k y)) (λ y. l (k y)) empty first goes
  later_at h = record {
    trails = trails_at h.trails;
    follows = λ fit. record {
      trails = trails_at h.trails;
      done = λ can y s b m e. (h.follows fit).done can (k y) s b m e;
      stopped = λ can y s fault left e. (h.follows fit).stopped can (k y) s fault left e;
      complete = λ y asked s b m w q. (h.follows fit).complete (k y) asked s b m w q;
    };
  }

-- the same reader
pub later_read : {X A : Type 0} {fits able : Type 0} {p p' : X → Reader A} {l : X → Language A} {empty : Type 0}
    {first goes : Token → Bool} → ((x : X) (s : State) → p x s ≡ p' x s) →
    Later fits able p l empty first goes → Later fits able p' l empty first goes
later_read {fits = fits} {able = able} {l = l} {empty = empty} {first = first} {goes = goes} e h = subst (λ r. Later fits able r l empty first goes) (λ i x s. e x s i) h

-- ---- one behind the other

pub later_followed : {X A B : Type 0} {fits able : Type 0} {p : X → Reader A} {l : X → Language A}
    (f : X → A → Reader B) (g : X → A → Language B) {empty_f : Type 0} {first_p first_f goes_p goes_f : Token → Bool} →
    Later fits able p l ⊥ first_p goes_p → Later {X = X × A} fits able (λ xa. f xa.0 xa.1)
    (λ xa. g xa.0 xa.1) empty_f first_f goes_f → Apart first_f goes_p → (empty_f → Within goes_p goes_f) →
    Later fits able (λ x. R.◌>>=◌ (p x) (f x)) (λ x. L.◌>>=◌ (l x) (g x)) ⊥ first_p goes_f
later_followed f g h k apart within = record { trails = followed_trails g h.trails k.trails apart within (λ e. e); follows = λ fit. followed_follows g f (h.follows fit) (k.follows fit) apart within (λ e. e) }

pub told_followed : {X A B : Type 0} {fits able : Type 0} {d : ℕ} {p : X → Reader A} {l : X → Language A}
    (f : X → A → Reader B) (g : X → A → Language B) {empty_f : Type 0} {first_p first_f goes_p goes_f : Token → Bool} →
    Told fits able d p l ⊥ first_p goes_p → Later {X = X × A} fits able (λ xa. f xa.0 xa.1)
    (λ xa. g xa.0 xa.1) empty_f first_f goes_f → Apart first_f goes_p → (empty_f → Within goes_p goes_f) →
    Told fits able d (λ x. R.◌>>=◌ (p x) (f x)) (λ x. L.◌>>=◌ (l x) (g x)) ⊥ first_p goes_f
told_followed f g h k apart within = record { spoken = followed_spoken h.spoken k.trails apart within (λ e. e); decides = λ fit. followed f (h.decides fit) (k.follows fit) apart within (λ e. e) }

-- ---- one or the other

pub later_either : {X A : Type 0} {fits able : Type 0} {p q : X → Reader A} {l r : X → Language A} {empty : Type 0}
    {first other goes : Token → Bool} (test : Token → Bool) →
    Later fits able p l ⊥ first goes → Later fits able q r empty other goes → Within first test → Apart other test →
    (empty → Within test goes) →
    Later fits able (λ x. when test (p x) (q x)) (λ x. L.◌or◌ (l x) (r x)) empty (λ t. first t || other t) goes
later_either test h k within apart last = record { trails = either_trails h.trails k.trails; follows = λ fit. either_follows test (h.follows fit) (k.follows fit) within apart last }
