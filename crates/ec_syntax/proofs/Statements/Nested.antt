-- Readers of statements decide their languages.
use Rattle.std.proofs.Common.{◌≡◌, refl, sym, ◌∙◌, ⊎_elim, inl, inr, ◌≤◌, ◌<◌, ◌+◌, ℕ, zero, suc, Bool, true, false, ◌||◌, true≢false, List, [], ◌∷◌, arith}
use Rattle.ec_base.specs.declared.limits.TheConstants.{MAX_NESTING}
use Rattle.ec_base.specs.declared.operator.BinOp.TheVariants.{Add}
use Rattle.ec_base.specs.declared.token.Mark.TheVariants as mk
use Rattle.ec_base.specs.declared.token.Token.{Token}
use Rattle.ec_syntax.specs.declared.expression.ExprKind.TheVariants.{Var}
use Rattle.ec_syntax.specs.declared.statement.Assign.{Assign}
use Rattle.ec_syntax.specs.declared.statement.Stmt.{Stmt}
use Rattle.ec_syntax.specs.declared.statement.StmtKind.TheVariants.{Empty}
use Rattle.ec_syntax.specs.declared.quantity.Quantity.TheVariants.{Nesting}
use Rattle.ec_syntax.specs.Grammar.State.{State}
use Rattle.ec_syntax.specs.Grammar.Tokens.{is_mark}
use Rattle.ec_syntax.specs.Grammar.Tokens as T
use Rattle.ec_syntax.specs.Grammar.Language as L
use Rattle.ec_syntax.specs.Grammar.Language.{Language, first_is}
use Rattle.ec_syntax.specs.Grammar.Expressions as LE
use Rattle.ec_syntax.specs.Grammar.Expressions.{expression, unary, expr}
use Rattle.ec_syntax.specs.Grammar.Statements as LS
use Rattle.ec_syntax.specs.Grammar.Statements.{assignment, formed, Bare}
use Rattle.ec_syntax.specs.Descent.Reader as R
use Rattle.ec_syntax.specs.Descent.Reader.{Reader}
use Rattle.ec_syntax.specs.declared.quantity.Fault.TheVariants.{Expected}
use Rattle.ec_syntax.specs.Descent.Tokens as RT
use Rattle.ec_syntax.specs.Descent.Tokens.{is_name, begins_expr, begins_stmt}
use Rattle.ec_syntax.specs.Descent.Expressions as RE
use Rattle.ec_syntax.specs.Descent.Statements as RS
use Rattle.ec_syntax.proofs.Decision.Procedures.{Spoken, Decides, Within, Apart, Quiet, is_else, Opens}
use Rattle.ec_syntax.proofs.Decision.Basics as basics
use Rattle.ec_syntax.proofs.Nesting.Limits.{shallow}
use Rattle.ec_syntax.proofs.Lookahead.FirstTokens.{Into, ends_into, opens_into}
use Rattle.ec_syntax.proofs.Lookahead.FirstSets.{or_within, or_apart, itself, name_begins, none, none_apart, none_within, apart_none}
use Rattle.ec_syntax.proofs.Decision.Limited.{Told, always, weaker, given, made, placed}
use Rattle.ec_syntax.proofs.Terminals.Tokens.{name_told}
use Rattle.ec_syntax.proofs.Decision.BoundedRepetition.{nothing_told}
use Rattle.ec_syntax.proofs.Lookahead.FollowSets.{goes_operand, goes_expr}
use Rattle.ec_syntax.proofs.Expressions.Nested.{unary_spoken, expr_spoken, unary_decides, expr_decides}
use Rattle.ec_syntax.proofs.Expressions.Names.{one_variable}
use Rattle.ec_syntax.proofs.Nesting.Parts.{Room}
use Rattle.ec_syntax.proofs.Statements.Assignments.{assignment_told, named_step_told, step_by}
use Rattle.ec_syntax.proofs.Statements.AssignmentsAndCalls.{ended_maybe_told}
use Rattle.ec_syntax.proofs.Statements.Bare.{Inner, body_words, bare_words, begins_bare, bare_brace, bare_told, bare_by}
use Rattle.ec_syntax.proofs.Statements.Deep.{words, stmt_told, words_into, to_stmt, from_stmt, to_formed, from_formed, body_of, stmt_to, stmt_from}
use Rattle.ec_syntax.proofs.Statements.Inclusion.{bare_into, body_into}
use Rattle.ec_syntax.proofs.Tokens.Classes.{from_mark}
use Rattle.std.proofs.lemmas.Bool.{or_from, or_right}

-- ---- shortest words

nowhere_told : {A : Type 0} → ⊥ → A
nowhere_told e = absurd e

-- a language alone, with any reader
alone : {A : Type 0} {able : Type 0} {d : ℕ} {l : Language A} {first goes : Token → Bool} →
    Spoken {X = Unit {0}} able d (λ x. l) ⊥ first goes →
    Told {X = Unit {0}} ⊥ able d (λ x. R.stop Expected) (λ x. l) ⊥ first goes
alone h = record { spoken = h; decides = λ e. absurd e }

abbrev semicolon : ℕ → Language Stmt
semicolon d = LS.ended d (L.give Empty)

abbrev increment : ℕ → Language Assign
increment d = L.◌>>=◌ (T.name d) (λ i. step_by d mk.Increment Add i)

abbrev begins_semicolon : Token → Bool
begins_semicolon t = none t || is_mark mk.Semicolon t

module _ (d : ℕ) where
  semicolon_told : Told {X = Unit {0}} ⊥ (Unit {0}) d (λ x. RS.ended (R.give Empty))
      (λ x. semicolon d) ⊥ begins_semicolon none
  semicolon_told = ended_maybe_told (λ e. absurd e) (λ x. R.give Empty) (λ x. L.give Empty) none (given (λ x. Empty) ⊥ (Unit {0}) d none) (apart_none (is_mark mk.Semicolon))

  variable_told : Told {X = Unit {0}} ⊥ (Unit {0}) d
      (λ x. R.placed expression (R.◌>>=◌ RT.name (λ n. R.give (Var n.text)))) (λ x. one_variable d) ⊥ is_name goes_expr
  variable_told = placed (λ x. expression) (made (λ x n. Var n.text) (name_told (Unit {0}) ⊥ (Unit {0}) d nowhere_told goes_expr))

  -- within the grammar
  variable_in : (k level : ℕ) → Into (one_variable d) (LE.levels d level (unary (suc k) d))
  variable_in k zero = λ asked s a m h. inr (inr (a, m, inr (inr (inl h)), L.over))
  variable_in k (suc level) = λ asked s a m h. (a, m, variable_in k level asked s a m h, L.over)

  step_in : (nested : ℕ) → Into (increment d) (assignment nested d)
  step_in nested asked s a m h = inr (inl h)

  semicolon_bare : (k : ℕ) → Into (semicolon d) (formed (suc k) Bare d)
  semicolon_bare k asked s a m h = inl (inl h)

  semicolon_stmt : (k : ℕ) → Into (semicolon d) (LS.stmt (suc k) d)
  semicolon_stmt k asked s a m h = inr (inl (inl h))

semicolon_within : Within begins_semicolon begins_stmt
semicolon_within = or_within none (is_mark mk.Semicolon) begins_stmt (none_within begins_stmt) (from_mark mk.Semicolon begins_stmt true (λ at. refl))

semicolon_brace : Apart begins_semicolon (is_mark mk.OpenBrace)
semicolon_brace = or_apart none (is_mark mk.Semicolon) (is_mark mk.OpenBrace) (none_apart (is_mark mk.OpenBrace)) (from_mark mk.Semicolon (is_mark mk.OpenBrace) false (λ at. refl))

short : (d : ℕ) → Inner ⊥ ⊥ (Unit {0}) d (one_variable (suc d)) (increment (suc d)) (semicolon (suc d))
    (semicolon (suc d))
short d = record {
  e = R.placed expression (R.◌>>=◌ RT.name (λ n. R.give (Var n.text)));
  a = R.◌>>=◌ RT.name (λ i. R.◌>>◌ (RT.sign mk.Increment) (R.give (LS.stepped Add i)));
  st = RS.ended (R.give Empty);
  b = RS.ended (R.give Empty);
  first_e = is_name;
  first_a = is_name;
  first_s = begins_semicolon;
  first_b = begins_semicolon;
  E = variable_told (suc d);
  A = named_step_told ⊥ (Unit {0}) (suc d) nowhere_told goes_expr mk.Increment Add;
  S = semicolon_told (suc d);
  B = semicolon_told (suc d);
  begins_e = name_begins;
  begins_a = name_begins;
  begins_s = semicolon_within;
  begins_b = semicolon_brace;
}

no_room : (d : ℕ) → Room ⊥ ⊥ d 0
no_room d = record { small = nowhere_told; deep = nowhere_told; some = nowhere_told; sum = nowhere_told; into = λ e. absurd e }

-- ---- deeper than any reader goes

record Deep (able : Type 0) (nested d : ℕ) : Type 1 where
  stmt : Spoken {X = Unit {0}} able d (λ x. LS.stmt nested d) ⊥ begins_stmt none
  bare : Spoken {X = Unit {0}} able d (λ x. formed nested Bare d) ⊥ begins_bare none

-- with nothing said of how words end
inner_alone : (n d : ℕ) → MAX_NESTING < d → Deep ⊥ n (suc d) →
    Inner ⊥ ⊥ ⊥ d (expr n (suc d)) (assignment n (suc d)) (LS.stmt n (suc d)) (formed n Bare (suc d))
inner_alone n d deep h = record {
  e = R.stop Expected;
  a = RS.assignment 0;
  st = R.stop Expected;
  b = R.stop Expected;
  first_e = begins_expr;
  first_a = begins_expr;
  first_s = begins_stmt;
  first_b = begins_bare;
  E = alone (basics.weaker_spoken (λ e. absurd e) (λ e. e) (λ e. e) (itself _) (expr_spoken n (suc d) (omega arith)));
  A = assignment_told {fits = ⊥} (λ k. ⊥) (suc d) 0 nowhere_told (λ e. e) (record {
    unary_told = λ k. record { spoken = basics.weaker_spoken (λ e. absurd e) (λ e. e) (λ e. e) (itself _) (unary_spoken k (suc d) (omega arith)); decides = λ e. absurd e };
    expr_told = λ k. record { spoken = basics.weaker_spoken (λ e. absurd e) (λ e. e) (λ e. e) (itself _) (expr_spoken k (suc d) (omega arith)); decides = λ e. absurd e };
  }) n;
  S = alone h.stmt;
  B = alone h.bare;
  begins_e = itself begins_expr;
  begins_a = itself begins_expr;
  begins_s = itself begins_stmt;
  begins_b = bare_brace;
}

module _ (able : Type 0) (n d : ℕ) (deep : MAX_NESTING < d) (can : able → 2 ≤ suc n) where
  operand_alone : Told {X = Unit {0}} ⊥ able d (λ x. RE.unary 1) (λ x. unary (suc n) d) ⊥ begins_expr goes_operand
  operand_alone = record { spoken = basics.weaker_spoken can (λ e. e) (λ e. e) (itself _) (unary_spoken (suc n) d deep); decides = λ e. absurd e }

  expr_alone : Told {X = Unit {0}} ⊥ able d (λ x. RE.expr 1) (λ x. expr (suc n) d) ⊥ begins_expr goes_expr
  expr_alone = record { spoken = basics.weaker_spoken can (λ e. e) (λ e. e) (itself _) (expr_spoken (suc n) d deep); decides = λ e. absurd e }

never_twice : {A : Type 0} (d : ℕ) (p : Reader A) (first : Token → Bool) →
    Spoken {X = Unit {0}} ⊥ d (λ x. L.◌or◌ (L.never {A = A}) L.never) ⊥ first none
never_twice d p first = basics.same_language_spoken {l = λ x. L.never} (λ x asked s a m h. absurd h) (λ x asked s a m h. ⊎_elim (λ k. k) (λ k. k) h) ((nothing_told {X = Unit {0}} {fits = ⊥} (λ x. p) first none).spoken)

bottom : (nested d : ℕ) → MAX_NESTING < d → Deep ⊥ nested d
bottom zero d deep = record { stmt = never_twice d (R.stop Expected) begins_stmt; bare = (nothing_told {X = Unit {0}} {fits = ⊥} (λ x. R.stop Expected) begins_bare none).spoken }
bottom (suc n) d deep =
    let i = inner_alone n d deep (bottom n (suc d) (omega arith)) in
    record {
      stmt = basics.same_language_spoken (λ x. to_stmt n d) (λ x. from_stmt n d) (stmt_told (no_room d) i n (operand_alone ⊥ n d deep (λ e. absurd e)) (expr_alone ⊥ n d deep (λ e. absurd e))).spoken;
      bare = basics.same_language_spoken (λ x. to_formed n d) (λ x. from_formed n d) (bare_told (no_room d) i n (operand_alone ⊥ n d deep (λ e. absurd e)) (expr_alone ⊥ n d deep (λ e. absurd e))).spoken;
    }

-- statements that may be nested twice at least
module _ (k d : ℕ) (deep : MAX_NESTING < d) where
  twice : Unit {0} → 2 ≤ suc (suc k)
  twice u = omega arith

  short_stmt : Into (words (suc k) d (one_variable (suc d)) (increment (suc d)) (semicolon (suc d)) (semicolon (suc d)))
      (LS.stmt (suc (suc k)) d)
  short_stmt asked s a m h = to_stmt (suc k) d asked s a m (words_into (suc k) d (one_variable (suc d)) (expr (suc k) (suc d)) (increment (suc d)) (assignment (suc k) (suc d)) (semicolon (suc d)) (LS.stmt (suc k) (suc d)) (semicolon (suc d)) (formed (suc k) Bare (suc d))
      (variable_in (suc d) k 10) (step_in (suc d) (suc k)) (semicolon_stmt (suc d) k) (semicolon_bare (suc d) k) asked s a m h)

  short_body : Into (body_words d (one_variable (suc d)) (semicolon (suc d)) (semicolon (suc d))) (body_of (suc k) d)
  short_body = body_into d (one_variable (suc d)) (expr (suc k) (suc d)) (semicolon (suc d)) (LS.stmt (suc k) (suc d)) (semicolon (suc d)) (formed (suc k) Bare (suc d)) (variable_in (suc d) k 10) (semicolon_stmt (suc d) k) (semicolon_bare (suc d) k)

  short_bare : Into (bare_words (suc k) d (one_variable (suc d)) (increment (suc d)) (semicolon (suc d))
      (body_words d (one_variable (suc d)) (semicolon (suc d)) (semicolon (suc d)))) (formed (suc (suc k)) Bare d)
  short_bare asked s a m h = to_formed (suc k) d asked s a m (bare_into (suc k) d (one_variable (suc d)) (expr (suc k) (suc d)) (increment (suc d)) (assignment (suc k) (suc d)) (semicolon (suc d)) (LS.stmt (suc k) (suc d))
      (body_words d (one_variable (suc d)) (semicolon (suc d)) (semicolon (suc d))) (body_of (suc k) d) (variable_in (suc d) k 10) (step_in (suc d) (suc k)) (semicolon_stmt (suc d) k) short_body asked s a m h)

  stmt_opens : (here : Token) → begins_stmt here ≡ true → (rest : List Token) → Quiet none rest → Quiet is_else rest →
      Opens {X = Unit {0}} d (λ x. LS.stmt (suc (suc k)) d) here rest
  stmt_opens here e rest q c = opens_into (λ x. short_stmt) ((stmt_told (no_room d) (short d) (suc k) (operand_alone (Unit {0}) (suc k) d deep twice) (expr_alone (Unit {0}) (suc k) d deep twice)).spoken.opens tt here e rest q c)

  bare_opens : (here : Token) → begins_bare here ≡ true → (rest : List Token) → Quiet none rest → Quiet is_else rest →
      Opens {X = Unit {0}} d (λ x. formed (suc (suc k)) Bare d) here rest
  bare_opens here e rest q c = opens_into (λ x. short_bare) ((bare_told (no_room d) (short d) (suc k) (operand_alone (Unit {0}) (suc k) d deep twice) (expr_alone (Unit {0}) (suc k) d deep twice)).spoken.opens tt here e rest q c)

deep_stmts : (nested d : ℕ) → MAX_NESTING < d → Deep (2 ≤ nested) nested d
deep_stmts zero d deep = let h = bottom zero d deep in record { stmt = basics.weaker_spoken (λ e. omega arith) (λ e. e) (λ e. e) (itself _) h.stmt; bare = basics.weaker_spoken (λ e. omega arith) (λ e. e) (λ e. e) (itself _) h.bare }
deep_stmts (suc zero) d deep = let h = bottom 1 d deep in record { stmt = basics.weaker_spoken (λ e. omega arith) (λ e. e) (λ e. e) (itself _) h.stmt; bare = basics.weaker_spoken (λ e. omega arith) (λ e. e) (λ e. e) (itself _) h.bare }
deep_stmts (suc (suc k)) d deep =
    let h = bottom (suc (suc k)) d deep in
    record {
      stmt = record {
        carried = h.stmt.carried;
        starts = h.stmt.starts;
        ends = λ can rest q c. ends_into (λ x. semicolon_stmt d (suc k)) ((semicolon_told d).spoken.ends tt rest q c);
        opens = λ can here e rest q c. stmt_opens k d deep here e rest q c;
        skips = λ can none. absurd none;
      };
      bare = record {
        carried = h.bare.carried;
        starts = h.bare.starts;
        ends = λ can rest q c. ends_into (λ x. semicolon_bare d (suc k)) ((semicolon_told d).spoken.ends tt rest q c);
        opens = λ can here e rest q c. bare_opens k d deep here e rest q c;
        skips = λ can none. absurd none;
      };
    }

-- ---- readers

-- the reader of statements that aren't in braces
abbrev bare_room : ℕ → Reader Stmt
bare_room zero = R.passed begins_bare Nesting
bare_room (suc room) = RS.bare room (RS.stmt room)

-- a statement that begins with no brace begins as one that isn't in braces
same_begin : (ts : List Token) → first_is (is_mark mk.OpenBrace) ts ≡ false →
    first_is begins_stmt ts ≡ first_is begins_bare ts
same_begin [] h = refl
same_begin (x ∷ rest) h = by (begins_stmt x) (begins_bare x) refl refl
  where
    by : (b c : Bool) → begins_stmt x ≡ b → begins_bare x ≡ c → begins_stmt x ≡ begins_bare x
    by true true e k = e ∙ sym k
    by false false e k = e ∙ sym k
    by true false e k = absurd (true≢false (sym (stmt_to x e) ∙ or_from (is_mark mk.OpenBrace x) (begins_bare x) h k))
    by false true e k = absurd (true≢false (sym (stmt_from x (or_right (is_mark mk.OpenBrace x) (begins_bare x) k)) ∙ e))

-- the statement of a body, where no brace stands
stmt_unbraced : (room : ℕ) (s : State) → first_is (is_mark mk.OpenBrace) s.left ≡ false →
    bare_room room s ≡ RS.stmt room s
stmt_unbraced zero s h = rw (same_begin s.left h) refl
stmt_unbraced (suc room) s h = rw h refl

body_as_read : (room : ℕ) (s : State) → R.when (is_mark mk.OpenBrace) (RS.block room (RS.stmt room))
    (bare_room room) s ≡ RS.body room (RS.stmt room) s
body_as_read room s = by (first_is (is_mark mk.OpenBrace) s.left) refl
  where
    by : (b : Bool) → first_is (is_mark mk.OpenBrace) s.left ≡ b →
        R.when (is_mark mk.OpenBrace) (RS.block room (RS.stmt room)) (bare_room room) s ≡ RS.body room (RS.stmt room) s
    by true e = rw e refl
    by false e = rw e (stmt_unbraced room s e)

record Both (room nested d : ℕ) : Type 1 where
  stmt : Decides {X = Unit {0}} (room + 2 ≤ nested) d (λ x. RS.stmt room) (λ x. LS.stmt nested d) ⊥ begins_stmt none
  bare : Decides {X = Unit {0}} (room + 2 ≤ nested) d (λ x. bare_room room)
      (λ x. formed nested Bare d) ⊥ begins_bare none

-- where there is room below
room_below : (room d : ℕ) → suc d + room ≡ suc MAX_NESTING → Room (Unit {0}) (1 ≤ room) d room
room_below room d sum = record { small = λ u. omega arith; deep = λ h. omega arith; some = λ h. h; sum = λ u. sum; into = λ u h. h }

inner_room : (room n d : ℕ) → suc d + room ≡ suc MAX_NESTING → Both room n (suc d) →
    Inner (Unit {0}) (1 ≤ room) (suc room + 2 ≤ suc n) d (expr n (suc d)) (assignment n (suc d)) (LS.stmt n (suc d))
    (formed n Bare (suc d))
inner_room room n d sum h = record {
  e = RE.expr room;
  a = RS.assignment room;
  st = RS.stmt room;
  b = bare_room room;
  first_e = begins_expr;
  first_a = begins_expr;
  first_s = begins_stmt;
  first_b = begins_bare;
  E = weaker (λ e. omega arith) (λ e. e) (λ e. e) (itself _) (always (expr_decides room n (suc d) sum));
  A = weaker (λ e. omega arith) (λ e. e) (λ e. e) (itself _) (assignment_told {fits = 1 ≤ room} (λ k. room + 2 ≤ k) (suc d) room (λ h. omega arith) (λ e. omega arith)
      (record { unary_told = λ k. always (unary_decides room k (suc d) sum); expr_told = λ k. always (expr_decides room k (suc d) sum) }) n);
  S = weaker (λ e. omega arith) (λ e. e) (λ e. e) (itself _) (always h.stmt);
  B = weaker (λ e. omega arith) (λ e. e) (λ e. e) (itself _) (always h.bare);
  begins_e = itself begins_expr;
  begins_a = itself begins_expr;
  begins_s = itself begins_stmt;
  begins_b = bare_brace;
}

module _ (room n d : ℕ) (sum : suc d + room ≡ suc MAX_NESTING) (h : Both room n (suc d)) where
  abbrev steps : Type 0
  steps = suc room + 2 ≤ suc n

  operand_room : Told {X = Unit {0}} (Unit {0}) steps d (λ x. RE.unary (suc room))
      (λ x. unary (suc n) d) ⊥ begins_expr goes_operand
  operand_room = always (unary_decides (suc room) (suc n) d (omega (arith, sum)))

  expr_room : Told {X = Unit {0}} (Unit {0}) steps d (λ x. RE.expr (suc room))
      (λ x. expr (suc n) d) ⊥ begins_expr goes_expr
  expr_room = always (expr_decides (suc room) (suc n) d (omega (arith, sum)))

  bare_as_read : (s : State) → bare_by room begins_expr (RE.expr room) begins_expr (RS.assignment room) begins_stmt
      (RS.stmt room) (R.when (is_mark mk.OpenBrace) (RS.block room (RS.stmt room)) (bare_room room)) s
      ≡ RS.bare room (RS.stmt room) s
  bare_as_read s i = bare_by room begins_expr (RE.expr room) begins_expr (RS.assignment room) begins_stmt (RS.stmt room) (λ s. body_as_read room s i) s

  bare_step : Decides {X = Unit {0}} steps d (λ x. RS.bare room (RS.stmt room))
      (λ x. formed (suc n) Bare d) ⊥ begins_bare none
  unfolding inner_room
  bare_step = basics.same_reader (λ x s. bare_as_read s) (basics.same_language (λ x. to_formed n d) (λ x. from_formed n d)
      ((bare_told (room_below room d sum) (inner_room room n d sum h) n operand_room expr_room).decides tt))

  stmt_step : Decides {X = Unit {0}} steps d (λ x. RS.stmt (suc room)) (λ x. LS.stmt (suc n) d) ⊥ begins_stmt none
  unfolding inner_room
  stmt_step = basics.same_reader (λ x s i. R.when (is_mark mk.OpenBrace) (RS.block room (RS.stmt room)) (λ s. bare_as_read s i) s) (basics.same_language (λ x. to_stmt n d) (λ x. from_stmt n d)
      ((stmt_told (room_below room d sum) (inner_room room n d sum h) n operand_room expr_room).decides tt))

-- where statements may not be nested so often
unable : (able : Type 0) (d : ℕ) (p : Reader Stmt) (first : Token → Bool) → (able → ⊥) →
    Decides {X = Unit {0}} able d (λ x. p) (λ x. L.never) ⊥ first none
unable able d p first never = (weaker never (λ e. e) (λ e. e) (itself _) (nothing_told {X = Unit {0}} {fits = Unit {0}} (λ x. p) first none)).decides tt

all_rooms : (room nested d : ℕ) → d + room ≡ suc MAX_NESTING → Both room nested d
all_rooms zero nested d sum =
    let h = deep_stmts nested d (omega (arith, sum)) in
    record {
      stmt = basics.weaker (λ e. omega arith) (λ e. e) (λ e. e) (itself _) (shallow h.stmt (omega (arith, sum)));
      bare = basics.weaker (λ e. omega arith) (λ e. e) (λ e. e) (itself _) (shallow h.bare (omega (arith, sum)));
    }
all_rooms (suc room) zero d sum = record {
  stmt = basics.same_language {l = λ x. L.never} (λ x asked s a m k. absurd k) (λ x asked s a m k. ⊎_elim (λ y. y) (λ y. y) k) (unable (suc room + 2 ≤ zero) d (RS.stmt (suc room)) begins_stmt (λ e. omega arith));
  bare = unable (suc room + 2 ≤ zero) d (RS.bare room (RS.stmt room)) begins_bare (λ e. omega arith);
}
all_rooms (suc room) (suc n) d sum =
    let below : suc d + room ≡ suc MAX_NESTING = omega (arith, sum) in
    let h = all_rooms room n (suc d) below in
    record { stmt = stmt_step room n d below h; bare = bare_step room n d below h }

pub stmt_decides : {X : Type 0} (room nested d : ℕ) → d + room ≡ suc MAX_NESTING →
    Decides {X = X} (room + 2 ≤ nested) d (λ x. RS.stmt room) (λ x. LS.stmt nested d) ⊥ begins_stmt none
stmt_decides {X} room nested d sum = basics.reindexed {X = Unit {0}} (λ (x : X). tt) (all_rooms room nested d sum).stmt
