-- Languages at any depth, with readers that decide them where the depth is within its limit.
use Rattle.std.proofs.Common.{◌≡◌, refl, arith, ◌≤◌, ◌+◌, ℕ, suc, Bool, ◌||◌, List, Option}
use Rattle.ec_base.specs.declared.limits.TheConstants.{MAX_NESTING}
use Rattle.ec_base.specs.declared.token.Span.{Span}
use Rattle.ec_base.specs.declared.token.Token.{Token}
use Rattle.ec_syntax.specs.Grammar.State.{State, Counts}
use Rattle.ec_syntax.specs.Grammar.Language as L
use Rattle.ec_syntax.specs.Grammar.Language.{Language, begin}
use Rattle.ec_syntax.specs.Descent.Reader as R
use Rattle.ec_syntax.specs.Descent.Reader.{Reader}
use Rattle.ec_syntax.proofs.Decision.Procedures.{◌with◌, is_else, Within, Apart, Spoken, Decides}
use Rattle.ec_syntax.proofs.Decision.Basics as basics
use Rattle.ec_syntax.proofs.Decision.OneToken as tokens
use Rattle.ec_syntax.proofs.Lookahead.FirstTokens.{Into}
use Rattle.ec_syntax.proofs.Decision.Concatenation.{spoken_trails, decides_follows}
use Rattle.ec_syntax.proofs.Decision.Sequencing as sequences
use Rattle.ec_syntax.proofs.Decision.Alternatives as choices
use Rattle.ec_syntax.proofs.Decision.Repetition as turns
use Rattle.ec_syntax.proofs.Nesting.Spans as places
use Rattle.ec_syntax.proofs.Nesting.Limits as depths
use Rattle.ec_syntax.proofs.Lookahead.FirstSets.{none, none_apart, drop_none, add_none}
use Rattle.ec_syntax.proofs.Decision.OneToken.{Takable}

-- `fits` says that the depth is within its limit
pub record Told {X A : Type 0} (fits able : Type 0) (depth : ℕ) (p : X → Reader A) (l : X → Language A) (empty : Type 0)
    (first goes : Token → Bool) : Type 1 where
  pub spoken : Spoken able depth l empty first goes
  pub decides : fits → Decides able depth p l empty first goes

-- what decides at any depth
pub always : {X A : Type 0} {fits able : Type 0} {d : ℕ} {p : X → Reader A} {l : X → Language A} {empty : Type 0}
    {first goes : Token → Bool} →
    Decides able d p l empty first goes → Told fits able d p l empty first goes
always h = record { spoken = h.spoken; decides = λ f. h }

-- ---- the same told otherwise

module _ {X A : Type 0} {fits able : Type 0} {d : ℕ} {p : X → Reader A} {l : X → Language A} {empty : Type 0}
    {first goes : Token → Bool} where
  pub weaker : {able' empty' : Type 0} {goes' : Token → Bool} → (able' → able) → (empty → empty') → (empty' → empty) →
      Within goes goes' → Told fits able d p l empty first goes → Told fits able' d p l empty' first goes'
  weaker i e f w h = record { spoken = basics.weaker_spoken i e f w h.spoken; decides = λ fit. basics.weaker i e f w (h.decides fit) }

  -- more goes on
  pub further : {goes' : Token → Bool} → Within goes goes' → Told fits able d p l empty first goes →
      Told fits able d p l empty first goes'
  further w h = weaker (λ a. a) (λ e. e) (λ e. e) w h

  pub renamed : {first' : Token → Bool} → Within first first' → Within first' first →
      Told fits able d p l empty first goes → Told fits able d p l empty first' goes
  renamed w v h = record { spoken = basics.renamed_spoken w v h.spoken; decides = λ fit. basics.renamed w v (h.decides fit) }

  pub same_reader : {p' : X → Reader A} → ((x : X) (s : State) → p x s ≡ p' x s) →
      Told fits able d p l empty first goes → Told fits able d p' l empty first goes
  same_reader e h = record { spoken = h.spoken; decides = λ fit. basics.same_reader e (h.decides fit) }

  pub same_language : {l' : X → Language A} → ((x : X) → Into (l x) (l' x)) → ((x : X) → Into (l' x) (l x)) →
      Told fits able d p l empty first goes → Told fits able d p l' empty first goes
  same_language to from h = record { spoken = basics.same_language_spoken to from h.spoken; decides = λ fit. basics.same_language to from (h.decides fit) }

  pub reindexed : {Y : Type 0} (k : Y → X) → Told fits able d p l empty first goes →
      Told fits able d (λ y. p (k y)) (λ y. l (k y)) empty first goes
  reindexed k h = record { spoken = basics.reindexed_spoken k h.spoken; decides = λ fit. basics.reindexed k (h.decides fit) }

  pub refit : {fits' : Type 0} → (fits' → fits) → Told fits able d p l empty first goes →
      Told fits' able d p l empty first goes
  refit i h = record { spoken = h.spoken; decides = λ fit. h.decides (i fit) }

-- the same for all
pub everywhere : {A : Type 0} (Y : Type 0) {fits able : Type 0} {d : ℕ} {p : Reader A} {l : Language A} {empty : Type 0}
    {first goes : Token → Bool} →
    Told {X = Unit {0}} fits able d (λ x. p) (λ x. l) empty first goes →
    Told {X = Y} fits able d (λ x. p) (λ x. l) empty first goes
everywhere Y h = reindexed (λ y. tt) h

-- ---- no tokens and one token

pub looked : {X A : Type 0} (f : X → State → A) (fits able : Type 0) (d : ℕ) (goes : Token → Bool) →
    ((x : X) (s : State) (ts : List Token) → f x (s with ts) ≡ f x s) →
    Told fits able d (λ x. R.look (f x)) (λ x. L.look (f x)) (Unit {0}) none goes
looked f fits able d goes e = record { spoken = basics.looked_spoken f able d goes e; decides = λ fit. basics.looked f able d goes e }

pub given : {X A : Type 0} (f : X → A) (fits able : Type 0) (d : ℕ) (goes : Token → Bool) →
    Told fits able d (λ x. R.give (f x)) (λ x. L.give (f x)) (Unit {0}) none goes
given f fits able d goes = record { spoken = basics.given_spoken f able d goes; decides = λ fit. basics.given f able d goes }

-- where the last token ends
pub ending : (X : Type 0) (fits able : Type 0) (d : ℕ) (goes : Token → Bool) →
    Told {X = X} fits able d (λ x. R.look (λ s. s.end)) (λ x. L.look (λ s. s.end)) (Unit {0}) none goes
ending X fits able d goes = looked (λ x s. s.end) fits able d goes (λ x s ts. refl)

pub taken : {X A : Type 0} {pick : Token → Option A} {counts : X → State → A → Counts} {counted : State → State}
    {first : Token → Bool} (fits able : Type 0) (d : ℕ) (goes : Token → Bool) →
    (fits → d ≤ MAX_NESTING) → Takable pick counts counted first →
    Told fits able d (λ x. R.one pick (counts x) counted) (λ x. L.one d pick (counts x) counted) ⊥ first goes
taken fits able d goes small t = record { spoken = tokens.taken_spoken able d goes t; decides = λ fit. tokens.taken able d goes (small fit) t }

-- ---- one behind the other

module _ {X A B : Type 0} {fits able : Type 0} {d : ℕ} {p : X → Reader A} {l : X → Language A}
    {empty_p empty_f : Type 0} {first_p first_f goes_p goes_f : Token → Bool} (f : X → A → Reader B)
    {g : X → A → Language B} where
  pub followed : {d' : ℕ} → Told fits able d p l empty_p first_p goes_p →
      Told {X = X × A} fits able d' (λ xa. f xa.0 xa.1) (λ xa. g xa.0 xa.1) empty_f first_f goes_f →
      Apart first_f goes_p → (empty_f → Within goes_p goes_f) → (empty_p → ⊥) →
      Told fits able d (λ x. R.◌>>=◌ (p x) (f x)) (λ x. L.◌>>=◌ (l x) (g x)) ⊥ first_p goes_f
  followed h k apart within some = record { spoken = sequences.followed_spoken h.spoken (spoken_trails k.spoken) apart within some; decides = λ fit. sequences.followed f (h.decides fit) (decides_follows (k.decides fit)) apart within some }

  pub followed_maybe : Told fits able d p l empty_p first_p goes_p →
      Told {X = X × A} fits able d (λ xa. f xa.0 xa.1) (λ xa. g xa.0 xa.1) empty_f first_f goes_f →
      Apart first_f goes_p → (empty_f → Within goes_p goes_f) → Apart first_f is_else → empty_p →
      Told fits able d (λ x. R.◌>>=◌ (p x) (f x))
      (λ x. L.◌>>=◌ (l x) (g x)) empty_f (λ t. first_p t || first_f t) goes_f
  followed_maybe h k apart within calm skip = record { spoken = sequences.followed_maybe_spoken h.spoken k.spoken apart within calm skip; decides = λ fit. sequences.followed_maybe f (h.decides fit) (k.decides fit) apart within calm skip }

-- what is read, made into another value
pub made : {X A B : Type 0} {fits able : Type 0} {d : ℕ} {p : X → Reader A} {l : X → Language A}
    {first goes : Token → Bool} (f : X → A → B) →
    Told fits able d p l ⊥ first goes → Told fits able d (λ x. R.◌>>=◌ (p x) (λ a. R.give (f x a)))
    (λ x. L.◌>>=◌ (l x) (λ a. L.give (f x a))) ⊥ first goes
made {fits = fits} {able = able} {d = d} {goes = goes} f h =
    followed (λ x a. R.give (f x a)) h (given (λ xa. f xa.0 xa.1) fits able d goes) (none_apart goes) (λ e x g. g) (λ e. e)

-- the same where what is read may be empty
pub made_maybe : {X A B : Type 0} {fits able : Type 0} {d : ℕ} {p : X → Reader A} {l : X → Language A}
    {first goes : Token → Bool} (f : X → A → B) →
    Told fits able d p l (Unit {0}) first goes →
    Told fits able d (λ x. R.◌>>=◌ (p x) (λ a. R.give (f x a))) (λ x. L.◌>>=◌ (l x) (λ a. L.give (f x a)))
    (Unit {0}) first goes
made_maybe {fits = fits} {able = able} {d = d} {first = first} {goes = goes} f h =
    renamed (drop_none first) (add_none first) (followed_maybe (λ x a. R.give (f x a)) h (given (λ xa. f xa.0 xa.1) fits able d goes) (none_apart goes) (λ e x g. g) (none_apart is_else) tt)

-- ---- one or the other, and turns

pub either : {X A : Type 0} {fits able : Type 0} {d : ℕ} {p q : X → Reader A} {l r : X → Language A} {empty : Type 0}
    {first other goes : Token → Bool} (test : Token → Bool) →
    Told fits able d p l ⊥ first goes → Told fits able d q r empty other goes → Within first test → Apart other test →
    (empty → Within test goes) →
    Told fits able d (λ x. R.when test (p x) (q x)) (λ x. L.◌or◌ (l x) (r x)) empty (λ t. first t || other t) goes
either test h k within apart last = record { spoken = choices.either_spoken h.spoken k.spoken; decides = λ fit. choices.either test (h.decides fit) (k.decides fit) within apart last }

pub turning : {X A : Type 0} {fits able : Type 0} {d : ℕ} {test last goes : Token → Bool} (turn : X → A → Reader A)
    (l : X → A → Language A) →
    Told {X = X × A} fits able d (λ xa. turn xa.0 xa.1) (λ xa. l xa.0 xa.1) ⊥ test last → Apart test last →
    Within last goes → Within test goes →
    Told {X = X × A} fits able d (λ xa. R.turns test (turn xa.0) xa.1) (λ xa. L.turns (l xa.0) xa.1)
    (Unit {0}) test goes
turning turn l h apart w v = record { spoken = turns.turning_spoken l h.spoken w; decides = λ fit. turns.turning turn l (h.decides fit) apart w v }

-- ---- places and depths

pub begun : {X A : Type 0} {fits able : Type 0} {d : ℕ} {first goes : Token → Bool} (f : X → ℕ → Reader A)
    (g : X → ℕ → Language A) →
    Told {X = X × ℕ} fits able d (λ xn. f xn.0 xn.1) (λ xn. g xn.0 xn.1) ⊥ first goes →
    Told fits able d (λ x. R.◌>>=◌ (R.look begin) (f x)) (λ x. L.◌>>=◌ (L.look begin) (g x)) ⊥ first goes
begun f g h = record { spoken = places.begun_spoken g h.spoken; decides = λ fit. places.begun f g (h.decides fit) }

pub placed : {X A B : Type 0} {fits able : Type 0} {d : ℕ} {p : X → Reader A} {l : X → Language A}
    {first goes : Token → Bool} (make : X → A → Span → B) →
    Told fits able d p l ⊥ first goes → Told fits able d (λ x. R.placed (make x) (p x))
    (λ x. L.placed (make x) (l x)) ⊥ first goes
placed make h = record { spoken = places.placed_spoken make h.spoken; decides = λ fit. places.placed make (h.decides fit) }

-- where there is room it is read, and else the nesting is passed; d is the depth of what stands inside
pub inside : {X A : Type 0} {fits able : Type 0} {d : ℕ} {p : X → Reader A} {l : X → Language A}
    {first goes : Token → Bool} (room : ℕ) → (fits → d + room ≡ suc MAX_NESTING) →
    Told (d ≤ MAX_NESTING) able d p l ⊥ first goes → Told fits able d (λ x. R.inside room first (p x)) l ⊥ first goes
inside {d = d} {l = l} room sum h = record { spoken = h.spoken; decides = λ fit. depths.inside room (sum fit) (λ r e. h.decides (shallow r e (sum fit))) h.spoken }
  where
    shallow : (r : ℕ) → room ≡ suc r → d + room ≡ suc MAX_NESTING → d ≤ MAX_NESTING
    shallow r e s = omega arith
