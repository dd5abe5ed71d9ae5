-- What stands in braces, and the branches of a parallel statement, are decided where declarations and statements one deeper are.
use Rattle.std.proofs.Common.{refl, ◌≤◌, ℕ, suc, Bool, false, ◌||◌, codes, List, [], ◌∷◌, ◌++◌, length}
use Rattle.ec_base.specs.declared.limits.TheConstants.{MAX_NESTING}
use Rattle.ec_base.specs.declared.token.Mark.TheVariants as mk
use Rattle.ec_base.specs.declared.token.Token.{Token}
use Rattle.ec_syntax.specs.declared.expression.Expr.{Expr}
use Rattle.ec_syntax.specs.declared.quantity.Quantity.TheVariants.{Branches}
use Rattle.ec_syntax.specs.declared.statement.Body.{Body, roll-Body}
use Rattle.ec_syntax.specs.declared.statement.Decl.{Decl}
use Rattle.ec_syntax.specs.declared.statement.Stmt.{Stmt}
use Rattle.ec_syntax.specs.declared.statement.StmtKind.{StmtKind}
use Rattle.ec_syntax.specs.declared.statement.StmtKind.TheVariants.{Body as Block, Par}
use Rattle.ec_syntax.specs.Grammar.Tokens.{is_mark}
use Rattle.ec_syntax.specs.Grammar.Language as L
use Rattle.ec_syntax.specs.Grammar.Language.{Language}
use Rattle.ec_syntax.specs.Grammar.Statements as LS
use Rattle.ec_syntax.specs.Descent.Reader as R
use Rattle.ec_syntax.specs.Descent.Reader.{Reader}
use Rattle.ec_syntax.specs.Descent.Tokens as RT
use Rattle.ec_syntax.specs.Descent.Tokens.{begins_declaration, begins_stmt}
use Rattle.ec_syntax.specs.Descent.Statements as RS
use Rattle.ec_syntax.proofs.Decision.Procedures.{is_else, Within, Apart}
use Rattle.ec_syntax.proofs.Lookahead.FirstSets.{one_of, apart_or, within_left, within_right, within_apart, apart_within, itself, swapped, stmt_not_word, split, none, none_within, apart_none}
use Rattle.ec_syntax.proofs.Decision.Limited.{Told, followed_maybe, made, made_maybe, reindexed, everywhere, turning, placed}
use Rattle.ec_syntax.proofs.Lookahead.FollowSets.{goes_expr}
use Rattle.ec_syntax.proofs.Nesting.Parts.{Room, kth_told}
use Rattle.ec_syntax.proofs.Nesting.Delimiters.{enclosing_maybe, mark_single}
use Rattle.ec_syntax.proofs.Statements.Declarations.{declaration_told}
use Rattle.ec_syntax.proofs.Tokens.Classes.{from_mark, from_word}

-- ---- tests

pub stmt_declaration : Apart begins_stmt begins_declaration
stmt_declaration = swapped begins_declaration begins_stmt (λ x. split _ _ (split _ _ (split _ _ (from_word (codes "local") begins_stmt false (λ at. refl) x) (from_word (codes "shared") begins_stmt false (λ at. refl) x))
    (from_word (codes "int") begins_stmt false (λ at. refl) x)) (from_word (codes "struct") begins_stmt false (λ at. refl) x))

pub stmt_else : Apart begins_stmt is_else
stmt_else = stmt_not_word (codes "else") (λ at. refl)

-- ---- the readers, with what they read one deeper

abbrev pub sequence_by : (Token → Bool) → Reader Stmt → Reader (List Stmt)
sequence_by start st = R.turns start (λ ss. R.◌>>=◌ st (λ s. R.give (ss ++ s ∷ []))) []

abbrev pub contents_by : (Token → Bool) → Reader Expr → Reader Stmt → Reader Body
contents_by start e st = R.◌>>=◌ (R.turns begins_declaration (RS.declaration e) []) (λ ds. R.◌>>=◌ (sequence_by start st) (λ ss. R.give (roll-Body (record { decls = ds; stmts = ss }))))

abbrev pub braces_by : ℕ → (Token → Bool) → Reader Expr → Reader Stmt → Reader Body
braces_by room start e st = R.◌>>◌ (RT.mark mk.OpenBrace) (R.◌>>=◌ (R.inside room (λ t. (begins_declaration t || start t) || is_mark mk.CloseBrace t) (contents_by start e st)) (λ b. R.◌>>◌ (RT.mark mk.CloseBrace) (R.give b)))

abbrev pub block_by : ℕ → (Token → Bool) → Reader Expr → Reader Stmt → Reader Stmt
block_by room start e st = R.placed LS.statement (R.◌>>=◌ (braces_by room start e st) (λ b. R.give (Block b)))

abbrev pub branch_by : ℕ → (Token → Bool) → Reader Stmt → List Stmt → Reader (List Stmt)
branch_by room start st ss = R.◌>>=◌ (R.kth Branches (suc (length ss)) start room st) (λ s. R.give (ss ++ s ∷ []))

abbrev pub parallel_by : ℕ → (Token → Bool) → Reader Stmt → Reader StmtKind
parallel_by room start st = R.◌>>◌ (RT.mark mk.OpenPar) (R.◌>>=◌ (R.inside room (λ t. start t || is_mark mk.ClosePar t) (R.turns start (branch_by room start st) [])) (λ ss. R.◌>>◌ (RT.mark mk.ClosePar) (R.give (Par ss))))

-- ---- a list of statements

module _ {inner able : Type 0} {d : ℕ} (st : Reader Stmt) (sl : Language Stmt) {first : Token → Bool}
    (S : Told {X = Unit {0}} inner able d (λ x. st) (λ x. sl) ⊥ first none) where
  sequence_told : (Y : Type 0) (goes : Token → Bool) → Within first goes →
      Told {X = Y} inner able d (λ y. sequence_by first st) (λ y. LS.sequence sl) (Unit {0}) first goes
  sequence_told Y goes within = reindexed (λ y. (y, [])) (turning (λ (y : Y) ss. R.◌>>=◌ st (λ s. R.give (ss ++ s ∷ []))) (λ y ss. L.◌>>=◌ sl (λ s. L.give (ss ++ s ∷ [])))
      (made (λ (x : Y × List Stmt) s. x.1 ++ s ∷ []) (everywhere (Y × List Stmt) S)) (apart_none first) (none_within goes) within)

module _ {inner able : Type 0} {d : ℕ} (deep : inner → d ≤ MAX_NESTING) (e : Reader Expr) (el : Language Expr)
    {first_e : Token → Bool} (E : Told {X = Unit {0}} inner able d (λ x. e) (λ x. el) ⊥ first_e goes_expr) where
  declarations_told : (Y : Type 0) → Told {X = Y} inner able d (λ y. R.turns begins_declaration (RS.declaration e) [])
      (λ y. L.turns (LS.declaration d el) []) (Unit {0}) begins_declaration begins_declaration
  declarations_told Y = reindexed (λ y. (y, [])) (turning (λ (y : Y) ds. RS.declaration e ds) (λ y ds. LS.declaration d el ds) (reindexed (λ (x : Y × List Decl). x.1) (declaration_told d deep e el E none))
      (apart_none begins_declaration) (none_within begins_declaration) (itself begins_declaration))

-- ---- in braces

-- behind declarations and statements
abbrev goes_contents : (Token → Bool) → Token → Bool
goes_contents first = one_of begins_declaration first

module _ {inner able : Type 0} {d : ℕ} (deep : inner → d ≤ MAX_NESTING) (e : Reader Expr) (el : Language Expr)
    {first_e : Token → Bool} (E : Told {X = Unit {0}} inner able d (λ x. e) (λ x. el) ⊥ first_e goes_expr)
    (st : Reader Stmt) (sl : Language Stmt) {first : Token → Bool} (S : Told {X = Unit {0}} inner able d (λ x. st) (λ x. sl) ⊥ first none) (begins : Within first begins_stmt) where
  contents_told : Told {X = Unit {0}} inner able d (λ x. contents_by first e st) (λ x. LS.contents d el sl) (Unit {0})
      (λ t. begins_declaration t || first t) (goes_contents first)
  contents_told = followed_maybe (λ x ds. R.◌>>=◌ (sequence_by first st) (λ ss. R.give (roll-Body (record { decls = ds; stmts = ss })))) (declarations_told deep e el E (Unit {0}))
      (made_maybe (λ (xd : Unit {0} × List Decl) ss. roll-Body (record { decls = xd.1; stmts = ss })) (sequence_told st sl S (Unit {0} × List Decl) (goes_contents first) (within_right first begins_declaration first (itself first))))
      (within_apart first begins_stmt begins_declaration begins stmt_declaration) (λ u. within_left begins_declaration begins_declaration first (itself begins_declaration)) (within_apart first begins_stmt is_else begins stmt_else) tt

brace_contents : (first : Token → Bool) → Within first begins_stmt → Apart (is_mark mk.CloseBrace) (goes_contents first)
brace_contents first begins = apart_or (is_mark mk.CloseBrace) begins_declaration first (from_mark mk.CloseBrace begins_declaration false (λ at. refl))
    (apart_within (is_mark mk.CloseBrace) begins_stmt first begins (from_mark mk.CloseBrace begins_stmt false (λ at. refl)))

module _ {fits inner able : Type 0} {d room : ℕ} (r : Room fits inner d room) (e : Reader Expr) (el : Language Expr)
    {first_e : Token → Bool} (E : Told {X = Unit {0}} inner able (suc d) (λ x. e) (λ x. el) ⊥ first_e goes_expr)
    (st : Reader Stmt) (sl : Language Stmt) {first : Token → Bool} (S : Told {X = Unit {0}} inner able (suc d) (λ x. st) (λ x. sl) ⊥ first none) (begins : Within first begins_stmt) where
  pub braces_told : Told {X = Unit {0}} fits able d (λ x. braces_by room first e st)
      (λ x. LS.braces d el sl) ⊥ (is_mark mk.OpenBrace) none
  braces_told = enclosing_maybe r.sum r.into (mark_single mk.OpenBrace r.small) (mark_single mk.CloseBrace r.deep) (λ x b. b) (λ x. contents_by first e st) (λ x. LS.contents (suc d) el sl) none
      (contents_told r.deep e el E st sl S begins) (brace_contents first begins) (from_mark mk.CloseBrace is_else false (λ at. refl))

  pub block_told : Told {X = Unit {0}} fits able d (λ x. block_by room first e st)
      (λ x. LS.block d el sl) ⊥ (is_mark mk.OpenBrace) none
  block_told = placed (λ x. LS.statement) (made (λ x b. Block b) braces_told)

-- ---- branches

module _ {fits inner able : Type 0} {d room : ℕ} (r : Room fits inner d room) (st : Reader Stmt) (sl : Language Stmt)
    {first : Token → Bool} (S : Told {X = Unit {0}} inner able (suc d) (λ x. st) (λ x. sl) ⊥ first none) where
  abbrev branch : List Stmt → Language (List Stmt)
  branch ss = L.◌>>=◌ (L.kth Branches (suc (length ss)) sl) (λ s. L.give (ss ++ s ∷ []))

  branch_told : Told {X = Unit {0} × List Stmt} inner able (suc d) (λ x. branch_by room first st x.1)
      (λ x. branch x.1) ⊥ first none
  branch_told = made (λ (x : Unit {0} × List Stmt) s. x.1 ++ s ∷ []) (kth_told Branches refl (λ x. suc (length x.1)) room r.some r.deep (everywhere (Unit {0} × List Stmt) S))

  branches_told : Told {X = Unit {0}} inner able (suc d) (λ x. R.turns first (branch_by room first st) [])
      (λ x. L.turns branch []) (Unit {0}) first first
  branches_told = reindexed (λ y. (y, [])) (turning (λ (y : Unit {0}) ss. branch_by room first st ss) (λ y ss. branch ss) branch_told (apart_none first) (none_within first) (itself first))

  pub parallel_told : Within first begins_stmt →
      Told {X = Unit {0}} fits able d (λ x. R.placed LS.statement (parallel_by room first st))
      (λ x. L.placed LS.statement (LS.parallel d sl)) ⊥ (is_mark mk.OpenPar) none
  parallel_told begins = placed (λ x. LS.statement) (enclosing_maybe r.sum r.into (mark_single mk.OpenPar r.small) (mark_single mk.ClosePar r.deep) (λ x ss. Par ss) (λ x. R.turns first (branch_by room first st) []) (λ x. L.turns branch []) none
      branches_told (apart_within (is_mark mk.ClosePar) begins_stmt first begins (from_mark mk.ClosePar begins_stmt false (λ at. refl))) (from_mark mk.ClosePar is_else false (λ at. refl)))
