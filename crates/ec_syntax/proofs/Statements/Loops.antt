-- Choices and loops are decided where their headers, one deeper, and their bodies are.
use Rattle.std.proofs.Common.{◌≡◌, refl, sym, ◌∙◌, ◌≤◌, ℕ, suc, Bool, true, false, ◌||◌, codes, List, Option, Some, None}
use Rattle.ec_base.specs.declared.limits.TheConstants.{MAX_NESTING}
use Rattle.ec_base.specs.declared.token.Mark.TheVariants as mk
use Rattle.ec_base.specs.declared.token.Token.{Token}
use Rattle.ec_syntax.specs.declared.expression.Expr.{Expr}
use Rattle.ec_syntax.specs.declared.statement.Assign.{Assign}
use Rattle.ec_syntax.specs.declared.statement.Stmt.{Stmt}
use Rattle.ec_syntax.specs.declared.statement.StmtKind.{StmtKind}
use Rattle.ec_syntax.specs.declared.statement.StmtKind.TheVariants.{If, While, For, Forall}
use Rattle.ec_syntax.specs.Grammar.State.{State}
use Rattle.ec_syntax.specs.Grammar.Tokens as T
use Rattle.ec_syntax.specs.Grammar.Tokens.{is_mark, is_word}
use Rattle.ec_syntax.specs.Grammar.Language as L
use Rattle.ec_syntax.specs.Grammar.Language.{Language, first_is}
use Rattle.ec_syntax.specs.Grammar.Statements as LS
use Rattle.ec_syntax.specs.Descent.Reader as R
use Rattle.ec_syntax.specs.Descent.Reader.{Reader}
use Rattle.ec_syntax.specs.Descent.Tokens as RT
use Rattle.ec_syntax.specs.Descent.Statements as RS
use Rattle.ec_syntax.proofs.Decision.Procedures.{is_else}
use Rattle.ec_syntax.proofs.Lookahead.FirstSets.{none, none_apart, apart_none}
use Rattle.ec_syntax.proofs.Decision.Limited.{Told, followed, everywhere, given, placed}
use Rattle.ec_syntax.proofs.Terminals.Tokens.{word_told}
use Rattle.ec_syntax.proofs.Lookahead.FollowSets.{goes_expr}
use Rattle.ec_syntax.proofs.Nesting.Parts.{Room, parted}
use Rattle.ec_syntax.proofs.Nesting.Delimiters.{header_told}
use Rattle.ec_syntax.proofs.Decision.Continuations.{Later, told_later, later_at, later_read, later_followed, told_followed}
use Rattle.ec_syntax.proofs.Statements.DanglingElse.{otherwise}
use Rattle.ec_syntax.proofs.Tokens.Classes.{from_mark}
use Rattle.ec_syntax.proofs.Tokens.Samples.{Sample, if_sample, while_sample}
use Rattle.ec_syntax.proofs.Decision.Equations.{bind_assoc}

-- ---- the readers, with what they read one deeper

abbrev pub choice_by : ℕ → (Token → Bool) → Reader Expr → Reader Stmt → Reader StmtKind
choice_by room start e body = R.◌>>◌ (RT.word (codes "if")) (R.◌>>=◌ (RS.header room start (R.part e)) (λ c. R.◌>>=◌ body (λ a. R.◌>>=◌ (RS.otherwise body) (λ b. R.give (If c a b)))))

abbrev pub loop_by : ℕ → (Token → Bool) → Reader Expr → Reader Stmt → Reader StmtKind
loop_by room start e body = R.◌>>◌ (RT.word (codes "while")) (R.◌>>=◌ (RS.header room start (R.part e)) (λ c. R.◌>>=◌ body (λ b. R.give (While c b))))

abbrev pub optional_by : {A : Type 0} → (Token → Bool) → Reader A → Reader (Option A)
optional_by start p = R.when start (R.◌>>=◌ (R.part p) (λ a. R.give (Some a))) (R.give None)

abbrev pub for_head : (Token → Bool) → Reader Expr → (Token → Bool) → Reader Assign → Reader (Stmt → StmtKind)
for_head start e start_a a = R.◌>>=◌ (optional_by start_a a) (λ i. R.◌>>◌ (RT.mark mk.Semicolon) (R.◌>>=◌ (optional_by start e) (λ c. R.◌>>◌ (RT.mark mk.Semicolon)
    (R.◌>>=◌ (optional_by start_a a) (λ e. R.give (λ b. For i c e b))))))

abbrev pub for_by : ℕ → (Token → Bool) → Reader Expr → (Token → Bool) → Reader Assign → Reader Stmt → Reader StmtKind
for_by room start e start_a a body = R.◌>>◌ (RT.word (codes "for")) (R.◌>>=◌ (RS.header room (λ t. start_a t || is_mark mk.Semicolon t) (for_head start e start_a a)) (λ make. R.◌>>=◌ body (λ b. R.give (make b))))

abbrev pub forall_head : Reader Expr → Reader Assign → Reader (Stmt → StmtKind)
forall_head e a = R.◌>>=◌ (R.part a) (λ i. R.◌>>◌ (RT.mark mk.Semicolon) (R.◌>>=◌ (R.part e) (λ c. R.◌>>◌ (RT.mark mk.Semicolon) (R.◌>>=◌ (R.part a) (λ e. R.give (λ b. Forall i c e b))))))

abbrev pub forall_by : ℕ → Reader Expr → (Token → Bool) → Reader Assign → Reader Stmt → Reader StmtKind
forall_by room e start_a a body = R.◌>>◌ (RT.word (codes "forall")) (R.◌>>=◌ (RS.header room start_a (forall_head e a)) (λ make. R.◌>>=◌ body (λ b. R.give (make b))))

-- ---- an `else`

else_first : {A : Type 0} (body : Reader Stmt) (make : Option Stmt → A) (s : State) →
    R.◌>>=◌ (R.◌>>◌ (RT.word (codes "else")) (R.◌>>=◌ body (λ b. R.give (Some b))))
    (λ b. R.give (make b)) s ≡ R.◌>>◌ (RT.word (codes "else")) (R.◌>>=◌ body (λ b. R.give (make (Some b)))) s
else_first body make s = bind_assoc (RT.word (codes "else")) (λ u. R.◌>>=◌ body (λ b. R.give (Some b))) (λ b. R.give (make b)) s
    ∙ (λ i. R.◌>>◌ (RT.word (codes "else")) (λ s. bind_assoc body (λ b. R.give (Some b)) (λ b. R.give (make b)) s i) s)

else_as_read : {A : Type 0} (body : Reader Stmt) (make : Option Stmt → A) (s : State) →
    R.when is_else (R.◌>>◌ (RT.word (codes "else")) (R.◌>>=◌ body (λ b. R.give (make (Some b)))))
    (R.give (make None)) s ≡ R.◌>>=◌ (RS.otherwise body) (λ b. R.give (make b)) s
else_as_read body make s = by (first_is is_else s.left) refl
  where
    by : (b : Bool) → first_is is_else s.left ≡ b →
        R.when is_else (R.◌>>◌ (RT.word (codes "else")) (R.◌>>=◌ body (λ b. R.give (make (Some b)))))
        (R.give (make None)) s ≡ R.◌>>=◌ (RS.otherwise body) (λ b. R.give (make b)) s
    by true e = rw e (sym (else_first body make s))
    by false e = rw e refl

-- ---- bodies

module _ {fits able : Type 0} (body : Reader Stmt) (lbody : Language Stmt) {first_b : Token → Bool}
    (B : Later {X = Unit {0}} fits able (λ x. body) (λ x. lbody) ⊥ first_b none) where
  body_at : (Y : Type 0) → Later {X = Y} fits able (λ y. body) (λ y. lbody) ⊥ first_b none
  body_at Y = later_at (λ (y : Y). tt) B

  -- a body at the end
  pub last_body : {A : Type 0} (d : ℕ) (Y : Type 0) (make : Y → Stmt → A) →
      Later {X = Y} fits able (λ y. R.◌>>=◌ body (λ b. R.give (make y b)))
      (λ y. L.◌>>=◌ lbody (λ b. L.give (make y b))) ⊥ first_b none
  last_body d Y make = later_followed (λ y b. R.give (make y b)) (λ y b. L.give (make y b)) (body_at Y) (told_later (given (λ (yb : Y × Stmt). make yb.0 yb.1) fits able d none)) (none_apart none) (λ u x e. e)

  -- and what may belong to an `else` behind it
  else_later : (d : ℕ) (small : fits → d ≤ MAX_NESTING) (Y : Type 0) (make : Y → Option Stmt → StmtKind) →
      Later {X = Y} fits able (λ y. R.◌>>=◌ (RS.otherwise body) (λ b. R.give (make y b)))
      (λ y. L.◌or◌ (L.◌>>◌ (T.word d (codes "else")) (L.◌>>=◌ lbody (λ b. L.give (make y (Some b))))) (L.◌>>◌ (L.lacks is_else) (L.give (make y None)))) (Unit {0}) is_else none
  else_later d small Y make = later_read (λ y s. else_as_read body (make y) s) (otherwise small (λ y. make y None) (last_body d Y (λ y b. make y (Some b))))

  module _ {inner : Type 0} {d room : ℕ} (r : Room fits inner d room) (e : Reader Expr) (el : Language Expr)
      {first_e : Token → Bool} (E : Told {X = Unit {0}} inner able (suc d) (λ x. e) (λ x. el) ⊥ first_e goes_expr) where
    test_told : Told {X = Unit {0}} fits able d (λ x. RS.header room first_e (R.part e))
        (λ x. LS.header d (L.part el)) ⊥ (is_mark mk.OpenParen) none
    test_told = header_told r none (parted E) (from_mark mk.CloseParen goes_expr false (λ at. refl))

    tested_told : (w : List ℕ) → Sample (is_word w) →
        {empty : Type 0} {first : Token → Bool} (f : Expr → Reader StmtKind) (g : Expr → Language StmtKind) →
        Later {X = Unit {0} × Expr} fits able (λ x. f x.1) (λ x. g x.1) empty first none →
        Told {X = Unit {0}} fits able d (λ x. R.placed LS.statement
        (R.◌>>◌ (RT.word w) (R.◌>>=◌ (RS.header room first_e (R.part e)) f)))
        (λ x. L.placed LS.statement (L.◌>>◌ (T.word d w) (L.◌>>=◌ (LS.header d (L.part el)) g))) ⊥ (is_word w) none
    tested_told w sample {first = first} f g h = placed (λ x. LS.statement) (followed (λ x u. R.◌>>=◌ (RS.header room first_e (R.part e)) f) (word_told (Unit {0}) fits able d r.small none w sample)
        (everywhere (Unit {0} × Unit {0}) (told_followed (λ x c. f c) (λ x c. g c) test_told h (apart_none first) (λ u x e. e))) (apart_none (is_mark mk.OpenParen)) (λ e. absurd e) (λ e. e))

    pub choice_told : Told {X = Unit {0}} fits able d (λ x. R.placed LS.statement (choice_by room first_e e body))
        (λ x. L.placed LS.statement (LS.choice d el lbody)) ⊥ (is_word (codes "if")) none
    choice_told = tested_told (codes "if") if_sample (λ c. R.◌>>=◌ body (λ a. R.◌>>=◌ (RS.otherwise body) (λ b. R.give (If c a b))))
        (λ c. L.◌>>=◌ lbody (λ a. L.◌or◌ (L.◌>>◌ (T.word d (codes "else")) (L.◌>>=◌ lbody (λ b. L.give (If c a (Some b))))) (L.◌>>◌ (L.lacks is_else) (L.give (If c a None)))))
        (later_followed (λ x a. R.◌>>=◌ (RS.otherwise body) (λ b. R.give (If x.1 a b)))
        (λ x a. L.◌or◌ (L.◌>>◌ (T.word d (codes "else")) (L.◌>>=◌ lbody (λ b. L.give (If x.1 a (Some b))))) (L.◌>>◌ (L.lacks is_else) (L.give (If x.1 a None))))
        (body_at (Unit {0} × Expr)) (else_later d r.small ((Unit {0} × Expr) × Stmt) (λ x b. If x.0.1 x.1 b)) (apart_none is_else) (λ u x e. e))

    pub loop_told : Told {X = Unit {0}} fits able d (λ x. R.placed LS.statement (loop_by room first_e e body))
        (λ x. L.placed LS.statement (LS.loop d el lbody)) ⊥ (is_word (codes "while")) none
    loop_told = tested_told (codes "while") while_sample (λ c. R.◌>>=◌ body (λ b. R.give (While c b))) (λ c. L.◌>>=◌ lbody (λ b. L.give (While c b))) (last_body d (Unit {0} × Expr) (λ x b. While x.1 b))
