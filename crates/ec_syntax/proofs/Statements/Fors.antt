-- `for` and `forall` are decided where their headers, one deeper, and their bodies are.
use Rattle.std.proofs.Common.{refl, ◌≤◌, ℕ, suc, Bool, false, ◌||◌, codes, List, Option, Some, None}
use Rattle.ec_base.specs.declared.limits.TheConstants.{MAX_NESTING}
use Rattle.ec_base.specs.declared.token.Mark.TheVariants as mk
use Rattle.ec_base.specs.declared.token.Token.{Token}
use Rattle.ec_syntax.specs.declared.expression.Expr.{Expr}
use Rattle.ec_syntax.specs.declared.statement.Assign.{Assign}
use Rattle.ec_syntax.specs.declared.statement.Stmt.{Stmt}
use Rattle.ec_syntax.specs.declared.statement.StmtKind.{StmtKind}
use Rattle.ec_syntax.specs.declared.statement.StmtKind.TheVariants.{For, Forall}
use Rattle.ec_syntax.specs.Grammar.Tokens as T
use Rattle.ec_syntax.specs.Grammar.Tokens.{is_mark, is_word}
use Rattle.ec_syntax.specs.Grammar.Language as L
use Rattle.ec_syntax.specs.Grammar.Language.{Language}
use Rattle.ec_syntax.specs.Grammar.Statements as LS
use Rattle.ec_syntax.specs.Descent.Reader as R
use Rattle.ec_syntax.specs.Descent.Reader.{Reader}
use Rattle.ec_syntax.specs.Descent.Tokens as RT
use Rattle.ec_syntax.specs.Descent.Tokens.{begins_expr}
use Rattle.ec_syntax.specs.Descent.Statements as RS
use Rattle.ec_syntax.proofs.Decision.Procedures.{is_else, Within, Apart}
use Rattle.ec_syntax.proofs.Lookahead.FirstSets.{one_of, or_within, apart_or, within_left, within_right, apart_within, itself, none, none_apart, none_within, apart_none}
use Rattle.ec_syntax.proofs.Decision.Limited.{Told, followed, followed_maybe, made, made_maybe, everywhere, further, renamed, given, either, placed}
use Rattle.ec_syntax.proofs.Terminals.Tokens.{mark_told, word_told}
use Rattle.ec_syntax.proofs.Lookahead.FollowSets.{goes_expr}
use Rattle.ec_syntax.proofs.Nesting.Parts.{Room, parted}
use Rattle.ec_syntax.proofs.Nesting.Delimiters.{header_told}
use Rattle.ec_syntax.proofs.Decision.Continuations.{Later, told_followed}
use Rattle.ec_syntax.proofs.Statements.Loops.{optional_by, for_head, for_by, forall_head, forall_by, last_body}
use Rattle.ec_syntax.proofs.Tokens.Classes.{from_mark}
use Rattle.ec_syntax.proofs.Tokens.Samples.{Sample, for_sample, forall_sample}

-- behind what may stand or not
abbrev goes_maybe : (Token → Bool) → Token → Bool
goes_maybe first = one_of goes_expr first

semicolon_maybe : (first : Token → Bool) → Within first begins_expr → Apart (is_mark mk.Semicolon) (goes_maybe first)
semicolon_maybe first within = apart_or (is_mark mk.Semicolon) goes_expr first (from_mark mk.Semicolon goes_expr false (λ at. refl)) (apart_within (is_mark mk.Semicolon) begins_expr first within (from_mark mk.Semicolon begins_expr false (λ at. refl)))

paren_maybe : (first : Token → Bool) → Within first begins_expr → Apart (is_mark mk.CloseParen) (goes_maybe first)
paren_maybe first within = apart_or (is_mark mk.CloseParen) goes_expr first (from_mark mk.CloseParen goes_expr false (λ at. refl)) (apart_within (is_mark mk.CloseParen) begins_expr first within (from_mark mk.CloseParen begins_expr false (λ at. refl)))

semicolon_else : Apart (is_mark mk.Semicolon) is_else
semicolon_else = from_mark mk.Semicolon is_else false (λ at. refl)

pub optional_told : {A : Type 0} {inner able : Type 0} {d : ℕ} (p : Reader A) (l : Language A) {first : Token → Bool} →
    Told {X = Unit {0}} inner able d (λ x. p) (λ x. l) ⊥ first goes_expr → (Y : Type 0) →
    Told {X = Y} inner able d (λ y. optional_by first p) (λ y. L.maybe (L.part l)) (Unit {0}) first (goes_maybe first)
optional_told {inner = inner} {able = able} {d = d} p l {first} P Y = renamed (or_within first none first (itself first) (none_within first)) (within_left first first none (itself first))
    (either first (made (λ y a. Some a) (further (within_left goes_expr goes_expr first (itself goes_expr)) (everywhere Y (parted P)))) (given (λ y. None) inner able d (goes_maybe first))
    (itself first) (none_apart first) (λ u. within_right first goes_expr first (itself first)))

-- ---- `for`

module _ {inner able : Type 0} {d : ℕ} (deep : inner → d ≤ MAX_NESTING) (e : Reader Expr) (el : Language Expr)
    {first_e : Token → Bool} (E : Told {X = Unit {0}} inner able d (λ x. e) (λ x. el) ⊥ first_e goes_expr)
    (a : Reader Assign) (al : Language Assign) {first_a : Token → Bool} (A : Told {X = Unit {0}} inner able d (λ x. a) (λ x. al) ⊥ first_a goes_expr) (begins_e : Within first_e begins_expr) (begins_a : Within first_a begins_expr) where
  abbrev for_last : Option Assign → Option Expr → Language (Stmt → StmtKind)
  for_last i c = L.◌>>◌ (T.mark d mk.Semicolon) (L.◌>>=◌ (L.maybe (L.part al)) (λ e. L.give (λ b. For i c e b)))

  abbrev for_next : Option Assign → Language (Stmt → StmtKind)
  for_next i = L.◌>>◌ (T.mark d mk.Semicolon) (L.◌>>=◌ (L.maybe (L.part el)) (λ c. for_last i c))

  last_told : (Y : Type 0) (i : Y → Option Assign) (c : Y → Option Expr) →
      Told {X = Y} inner able d (λ y. R.◌>>◌ (RT.mark mk.Semicolon)
      (R.◌>>=◌ (optional_by first_a a) (λ e. R.give (λ b. For (i y) (c y) e b))))
      (λ y. for_last (i y) (c y)) ⊥ (is_mark mk.Semicolon) (goes_maybe first_a)
  last_told Y i c = followed (λ y u. R.◌>>=◌ (optional_by first_a a) (λ e. R.give (λ b. For (i y) (c y) e b))) (mark_told Y inner able d deep none mk.Semicolon)
      (made_maybe (λ (yu : Y × Unit {0}) e. λ b. For (i yu.0) (c yu.0) e b) (optional_told a al A (Y × Unit {0}))) (apart_none first_a) (λ u. none_within (goes_maybe first_a)) (λ e. e)

  abbrev next_read : Option Assign → Reader (Stmt → StmtKind)
  next_read i = R.◌>>◌ (RT.mark mk.Semicolon) (R.◌>>=◌ (optional_by first_e e) (λ c. R.◌>>◌ (RT.mark mk.Semicolon) (R.◌>>=◌ (optional_by first_a a) (λ e. R.give (λ b. For i c e b)))))

  next_told : (Y : Type 0) (i : Y → Option Assign) →
      Told {X = Y} inner able d (λ y. next_read (i y)) (λ y. for_next (i y)) ⊥ (is_mark mk.Semicolon)
      (goes_maybe first_a)
  next_told Y i = followed (λ y u. R.◌>>=◌ (optional_by first_e e) (λ c. R.◌>>◌ (RT.mark mk.Semicolon) (R.◌>>=◌ (optional_by first_a a) (λ e. R.give (λ b. For (i y) c e b))))) (mark_told Y inner able d deep none mk.Semicolon)
      (followed_maybe (λ yu c. R.◌>>◌ (RT.mark mk.Semicolon) (R.◌>>=◌ (optional_by first_a a) (λ e. R.give (λ b. For (i yu.0) c e b)))) (optional_told e el E (Y × Unit {0}))
      (last_told ((Y × Unit {0}) × Option Expr) (λ x. i x.0.0) (λ x. x.1)) (semicolon_maybe first_e begins_e) (λ e. absurd e) semicolon_else tt) (apart_none _) (λ e. absurd e) (λ e. e)

  head_told : Told {X = Unit {0}} inner able d (λ x. for_head first_e e first_a a)
      (λ x. L.◌>>=◌ (L.maybe (L.part al)) for_next) ⊥ (λ t. first_a t || is_mark mk.Semicolon t) (goes_maybe first_a)
  head_told = followed_maybe (λ x i. next_read i) (optional_told a al A (Unit {0})) (next_told (Unit {0} × Option Assign) (λ x. x.1)) (semicolon_maybe first_a begins_a) (λ e. absurd e) semicolon_else tt

  -- ---- `forall`

  abbrev all_last : Assign → Expr → Language (Stmt → StmtKind)
  all_last i c = L.◌>>◌ (T.mark d mk.Semicolon) (L.◌>>=◌ (L.part al) (λ e. L.give (λ b. Forall i c e b)))

  abbrev all_next : Assign → Language (Stmt → StmtKind)
  all_next i = L.◌>>◌ (T.mark d mk.Semicolon) (L.◌>>=◌ (L.part el) (λ c. all_last i c))

  all_last_told : (Y : Type 0) (i : Y → Assign) (c : Y → Expr) →
      Told {X = Y} inner able d (λ y. R.◌>>◌ (RT.mark mk.Semicolon)
      (R.◌>>=◌ (R.part a) (λ e. R.give (λ b. Forall (i y) (c y) e b))))
      (λ y. all_last (i y) (c y)) ⊥ (is_mark mk.Semicolon) goes_expr
  all_last_told Y i c = followed (λ y u. R.◌>>=◌ (R.part a) (λ e. R.give (λ b. Forall (i y) (c y) e b))) (mark_told Y inner able d deep none mk.Semicolon)
      (made (λ (yu : Y × Unit {0}) e. λ b. Forall (i yu.0) (c yu.0) e b) (everywhere (Y × Unit {0}) (parted A))) (apart_none first_a) (λ e. absurd e) (λ e. e)

  abbrev all_read : Assign → Reader (Stmt → StmtKind)
  all_read i = R.◌>>◌ (RT.mark mk.Semicolon) (R.◌>>=◌ (R.part e) (λ c. R.◌>>◌ (RT.mark mk.Semicolon) (R.◌>>=◌ (R.part a) (λ e. R.give (λ b. Forall i c e b)))))

  all_next_told : (Y : Type 0) (i : Y → Assign) →
      Told {X = Y} inner able d (λ y. all_read (i y)) (λ y. all_next (i y)) ⊥ (is_mark mk.Semicolon) goes_expr
  all_next_told Y i = followed (λ y u. R.◌>>=◌ (R.part e) (λ c. R.◌>>◌ (RT.mark mk.Semicolon) (R.◌>>=◌ (R.part a) (λ e. R.give (λ b. Forall (i y) c e b))))) (mark_told Y inner able d deep none mk.Semicolon)
      (followed (λ yu c. R.◌>>◌ (RT.mark mk.Semicolon) (R.◌>>=◌ (R.part a) (λ e. R.give (λ b. Forall (i yu.0) c e b)))) (everywhere (Y × Unit {0}) (parted E))
      (all_last_told ((Y × Unit {0}) × Expr) (λ x. i x.0.0) (λ x. x.1)) (from_mark mk.Semicolon goes_expr false (λ at. refl)) (λ e. absurd e) (λ e. e)) (apart_none first_e) (λ e. absurd e) (λ e. e)

  all_head_told : Told {X = Unit {0}} inner able d (λ x. forall_head e a)
      (λ x. L.◌>>=◌ (L.part al) all_next) ⊥ first_a goes_expr
  all_head_told = followed (λ x i. all_read i) (parted A) (all_next_told (Unit {0} × Assign) (λ x. x.1)) (from_mark mk.Semicolon goes_expr false (λ at. refl)) (λ e. absurd e) (λ e. e)

-- ---- loops

module _ {fits inner able : Type 0} {d room : ℕ} (r : Room fits inner d room) (e : Reader Expr) (el : Language Expr)
    {first_e : Token → Bool} (E : Told {X = Unit {0}} inner able (suc d) (λ x. e) (λ x. el) ⊥ first_e goes_expr)
    (a : Reader Assign) (al : Language Assign) {first_a : Token → Bool} (A : Told {X = Unit {0}} inner able (suc d) (λ x. a) (λ x. al) ⊥ first_a goes_expr) (begins_e : Within first_e begins_expr) (begins_a : Within first_a begins_expr)
    (body : Reader Stmt) (lbody : Language Stmt) {first_b : Token → Bool} (B : Later {X = Unit {0}} fits able (λ x. body) (λ x. lbody) ⊥ first_b none) where
  made_told : (w : List ℕ) → Sample (is_word w) →
      (start : Token → Bool) (h : Reader (Stmt → StmtKind)) (hl : Language (Stmt → StmtKind)) {goes : Token → Bool} →
      Told {X = Unit {0}} inner able (suc d) (λ x. h) (λ x. hl) ⊥ start goes → Apart (is_mark mk.CloseParen) goes →
      Told {X = Unit {0}} fits able d (λ x. R.placed LS.statement
      (R.◌>>◌ (RT.word w) (R.◌>>=◌ (RS.header room start h) (λ make. R.◌>>=◌ body (λ b. R.give (make b))))))
      (λ x. L.placed LS.statement (L.◌>>◌ (T.word d w) (L.◌>>=◌ (LS.header d hl) (λ make. L.◌>>=◌ lbody (λ b. L.give (make b)))))) ⊥ (is_word w) none
  made_told w sample start h hl H apart = placed (λ x. LS.statement) (followed (λ x u. R.◌>>=◌ (RS.header room start h) (λ make. R.◌>>=◌ body (λ b. R.give (make b)))) (word_told (Unit {0}) fits able d r.small none w sample)
      (everywhere (Unit {0} × Unit {0}) (told_followed (λ x make. R.◌>>=◌ body (λ b. R.give (make b))) (λ x make. L.◌>>=◌ lbody (λ b. L.give (make b))) (header_told r none H apart)
      (last_body body lbody B d (Unit {0} × (Stmt → StmtKind)) (λ x b. x.1 b)) (apart_none first_b) (λ e. absurd e))) (apart_none (is_mark mk.OpenParen)) (λ e. absurd e) (λ e. e))

  pub for_told : Told {X = Unit {0}} fits able d (λ x. R.placed LS.statement (for_by room first_e e first_a a body))
      (λ x. L.placed LS.statement (LS.for_loop d al el lbody)) ⊥ (is_word (codes "for")) none
  for_told = made_told (codes "for") for_sample (λ t. first_a t || is_mark mk.Semicolon t) (for_head first_e e first_a a) _ (head_told r.deep e el E a al A begins_e begins_a) (paren_maybe first_a begins_a)

  pub forall_told : Told {X = Unit {0}} fits able d (λ x. R.placed LS.statement (forall_by room e first_a a body))
      (λ x. L.placed LS.statement (LS.forall_loop d al el lbody)) ⊥ (is_word (codes "forall")) none
  forall_told = made_told (codes "forall") forall_sample first_a (forall_head e a) _ (all_head_told r.deep e el E a al A begins_e begins_a) (from_mark mk.CloseParen goes_expr false (λ at. refl))
