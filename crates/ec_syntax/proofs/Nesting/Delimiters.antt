-- What stands one deeper between two tokens.
use Rattle.std.proofs.Common.{◌≡◌, ◌≤◌, ◌+◌, ℕ, suc, Bool, ◌||◌}
use Rattle.ec_base.specs.declared.limits.TheConstants.{MAX_NESTING}
use Rattle.ec_base.specs.declared.token.Mark.{Mark}
use Rattle.ec_base.specs.declared.token.Mark.TheVariants as mk
use Rattle.ec_base.specs.declared.token.Token.{Token}
use Rattle.ec_syntax.specs.Grammar.Tokens as T
use Rattle.ec_syntax.specs.Grammar.Tokens.{is_mark}
use Rattle.ec_syntax.specs.Grammar.Language as L
use Rattle.ec_syntax.specs.Grammar.Language.{Language}
use Rattle.ec_syntax.specs.Grammar.Expressions as LE
use Rattle.ec_syntax.specs.Grammar.Statements as LS
use Rattle.ec_syntax.specs.Descent.Reader as R
use Rattle.ec_syntax.specs.Descent.Reader.{Reader}
use Rattle.ec_syntax.specs.Descent.Tokens as RT
use Rattle.ec_syntax.specs.Descent.Expressions as RE
use Rattle.ec_syntax.specs.Descent.Statements as RS
use Rattle.ec_syntax.proofs.Decision.Procedures.{is_else, Apart}
use Rattle.ec_syntax.proofs.Lookahead.FirstSets.{none, apart_none}
use Rattle.ec_syntax.proofs.Decision.Limited.{Told, followed, followed_maybe, made, reindexed, same_reader}
use Rattle.ec_syntax.proofs.Terminals.Tokens.{mark_told, sign_told}
use Rattle.ec_syntax.proofs.Nesting.Parts.{Room, inside_on, inside_told}

-- a token that is read for itself
abbrev pub Single : Type 0 → Type 0 → ℕ → Reader (Unit {0}) → Language (Unit {0}) → (Token → Bool) → Type 1
Single fits able d p l first = (Y : Type 0) (goes : Token → Bool) → Told {X = Y} fits able d (λ y. p) (λ y. l) ⊥ first goes

module _ {fits inner able : Type 0} {d room : ℕ} (sum : fits → suc d + room ≡ suc MAX_NESTING) (into : fits → 1 ≤ room → inner)
    {ropen rclose : Reader (Unit {0})} {lopen lclose : Language (Unit {0})} {first_o first_c : Token → Bool}
    (O : Single fits able d ropen lopen first_o) (C : Single inner able (suc d) rclose lclose first_c)
    {X A B : Type 0} (make : X → A → B) (p : X → Reader A) (l : X → Language A) (out : Token → Bool) where
  -- where what stands behind the first token is read inside
  opening : {start : Token → Bool} → Told inner able (suc d)
      (λ x. R.◌>>=◌ (p x) (λ a. R.◌>>◌ rclose (R.give (make x a))))
      (λ x. L.◌>>=◌ (l x) (λ a. L.◌>>◌ lclose (L.give (make x a)))) ⊥ start out →
      Told fits able d (λ x. R.◌>>◌ ropen (R.◌>>=◌ (R.inside room start (p x))
      (λ a. R.◌>>◌ rclose (R.give (make x a)))))
      (λ x. L.◌>>◌ lopen (L.◌>>=◌ (l x) (λ a. L.◌>>◌ lclose (L.give (make x a))))) ⊥ first_o out
  opening {start} h = same_reader (λ x s i. R.◌>>◌ ropen (λ s. inside_on room start (p x) (λ a. R.◌>>◌ rclose (R.give (make x a))) s i) s)
      (followed (λ x u. R.inside room start (R.◌>>=◌ (p x) (λ a. R.◌>>◌ rclose (R.give (make x a))))) (O X none) (reindexed (λ (xu : X × Unit {0}). xu.0) (inside_told sum into h)) (apart_none start) (λ e. absurd e) (λ e. e))

  pub enclosing : {first goes : Token → Bool} → Told inner able (suc d) p l ⊥ first goes → Apart first_c goes →
      Told fits able d (λ x. R.◌>>◌ ropen (R.◌>>=◌ (R.inside room first (p x))
      (λ a. R.◌>>◌ rclose (R.give (make x a)))))
      (λ x. L.◌>>◌ lopen (L.◌>>=◌ (l x) (λ a. L.◌>>◌ lclose (L.give (make x a))))) ⊥ first_o out
  enclosing h apart = opening (followed (λ x a. R.◌>>◌ rclose (R.give (make x a))) h (made (λ (xa : X × A) u. make xa.0 xa.1) (C (X × A) out)) apart (λ e. absurd e) (λ e. e))

  pub enclosing_maybe : {first goes : Token → Bool} → Told inner able (suc d) p l (Unit {0}) first goes →
      Apart first_c goes → Apart first_c is_else →
      Told fits able d (λ x. R.◌>>◌ ropen (R.◌>>=◌ (R.inside room (λ t. first t || first_c t) (p x))
      (λ a. R.◌>>◌ rclose (R.give (make x a)))))
      (λ x. L.◌>>◌ lopen (L.◌>>=◌ (l x) (λ a. L.◌>>◌ lclose (L.give (make x a))))) ⊥ first_o out
  enclosing_maybe h apart calm = opening (followed_maybe (λ x a. R.◌>>◌ rclose (R.give (make x a))) h (made (λ (xa : X × A) u. make xa.0 xa.1) (C (X × A) out)) apart (λ e. absurd e) calm tt)

pub mark_single : (k : Mark) {fits able : Type 0} {d : ℕ} → (fits → d ≤ MAX_NESTING) → Single fits able d (RT.mark k) (T.mark d k) (is_mark k)
mark_single k {fits} {able} {d} small Y goes = mark_told Y fits able d small goes k

pub sign_single : (k : Mark) {fits able : Type 0} {d : ℕ} → (fits → d ≤ MAX_NESTING) → Single fits able d (RT.sign k) (T.sign d k) (is_mark k)
sign_single k {fits} {able} {d} small Y goes = sign_told Y fits able d small goes k

-- ---- where there is room

module _ {fits inner able : Type 0} {d room : ℕ} (r : Room fits inner d room) {X A : Type 0} {p : X → Reader A} {l : X → Language A}
    {first goes : Token → Bool} (out : Token → Bool) (h : Told inner able (suc d) p l ⊥ first goes) (apart : Apart (is_mark mk.CloseParen) goes) where
  -- in parentheses of a part, and in those of a header
  pub bracketed_told : Told fits able d (λ x. RE.bracketed room first (p x))
      (λ x. LE.bracketed d (l x)) ⊥ (is_mark mk.OpenParen) out
  bracketed_told = enclosing r.sum r.into (sign_single mk.OpenParen r.small) (sign_single mk.CloseParen r.deep) (λ x a. a) p l out h apart

  pub header_told : Told fits able d (λ x. RS.header room first (p x))
      (λ x. LS.header d (l x)) ⊥ (is_mark mk.OpenParen) out
  header_told = enclosing r.sum r.into (mark_single mk.OpenParen r.small) (mark_single mk.CloseParen r.deep) (λ x a. a) p l out h apart
