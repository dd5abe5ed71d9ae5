-- What the code answers from place to place.
use Rattle.std.proofs.Common.{◌≡◌, refl, sym, ◌∙◌, ap, subst, ℕ, suc, ◌+◌, ◌-◌, ◌≤◌, ◌<◌, Bool, true, false, List, [], ◌∷◌, ◌++◌, length, drop, get_or, drop-drop, drop-cons, length-drop, codes, arith}
use Rattle.std.proofs.Math.Seq.{drop-length}
use Rattle.std.specs.Prelude.{Option, Some, None, Ok, Err, if◌then◌else◌}
use Rattle.ec_base.specs.declared.fail.Fail.{Fail}
use Rattle.ec_base.specs.declared.fail.Fail.TheVariants.{Memory, Refused}
use Rattle.ec_base.specs.declared.token.Token.{Token}
use Rattle.ec_base.specs.declared.token.TokenKind.{TokenKind}
use Rattle.ec_base.specs.declared.token.TokenKind.TheVariants as t
use Rattle.ec_base.specs.declared.token.Mark.{Mark}
use Rattle.ec_base.specs.declared.token.Mark.TheVariants as m
use Rattle.ec_small.specs.declared.tree.Expr.{Expr}
use Rattle.ec_small.specs.declared.tree.Program.{Program}
use Rattle.ec_small.specs.declared.tree.Stmt.{Stmt}
use Rattle.ec_small.specs.declared.tree.Stmt.TheVariants.{Set, Print}
use Rattle.ec_small.specs.declared.declaration.Declared.{Declared}
use Rattle.ec_small.specs.declared.statement.Format.{Format}
use Rattle.ec_small.specs.Grammar.{Kinds, Names, kinds}
use Rattle.ec_small.specs.Descent.{Read, and_then, is_mark, first_is, mark, starts, first, only, past, past_or, only_some, past_some, is_word, sum, args_on, format_count, with_count, format_of, format, printed, print_stmt, set_stmt, variable_of, stmt, is_return, stmts_on, stmts, new_word, initial, initialiser, is_int, with_init, decl, decls_on, decls, opened, no_params, head, returned, body, main, end, AnswersAt}
use Rattle.ec_small.specs.Words.{place}
use Rattle.ec_small.proofs.Fronts.{new_word_is, is_new_fresh}
use Rattle.ec_small.proofs.Parts.{Told, sound}
use Rattle.ec_small.proofs.Statements.{IsDecl, right_decl, one_more}
use Rattle.ec_small.proofs.Reading.{kinds_length}

-- ---- the tokens behind a place

pub next_kinds : (at : ℕ) (tokens : List Token) → drop 1 (kinds (drop at tokens)) ≡ kinds (drop (at + 1) tokens)
next_kinds at tokens = drop_kinds (drop at tokens) ∙ ap kinds (drop-drop 1 at tokens) ∙ ap (λ n. kinds (drop n tokens)) (omega arith)
  where
    drop_kinds : (ts : List Token) → drop 1 (kinds ts) ≡ kinds (drop 1 ts)
    drop_kinds [] = refl
    drop_kinds (x ∷ ts) = refl

pub starts_mark : (mk : Mark) (ts : List Token) → starts (is_mark mk) (kinds ts) ≡ first_is mk ts
starts_mark mk [] = refl
starts_mark mk (x ∷ ts) = refl

module _ {A : Type 0} (tokens : List Token) (at : ℕ) (mk : Mark) (go : Kinds → Read A) where
  pub mark_goes : first_is mk (drop at tokens) ≡ true → past (is_mark mk) go (kinds (drop at tokens)) ≡ go (kinds (drop (at + 1) tokens))
  mark_goes h =
      ap (λ b. only b (go (drop 1 (kinds (drop at tokens)))) (kinds (drop at tokens))) (starts_mark mk (drop at tokens) ∙ h) ∙ ap go (next_kinds at tokens)

  pub mark_stops : first_is mk (drop at tokens) ≡ false → past (is_mark mk) go (kinds (drop at tokens)) ≡ Err (kinds (drop at tokens))
  mark_stops h = ap (λ b. only b (go (drop 1 (kinds (drop at tokens)))) (kinds (drop at tokens))) (starts_mark mk (drop at tokens) ∙ h)

  pub mark_or_goes : (other : Kinds → Read A) → first_is mk (drop at tokens) ≡ true → past_or (is_mark mk) go other (kinds (drop at tokens)) ≡ go (kinds (drop (at + 1) tokens))
  mark_or_goes other h =
      ap (λ b. if b then go (drop 1 (kinds (drop at tokens))) else other (kinds (drop at tokens))) (starts_mark mk (drop at tokens) ∙ h) ∙ ap go (next_kinds at tokens)

  pub mark_or_not : (other : Kinds → Read A) → first_is mk (drop at tokens) ≡ false → past_or (is_mark mk) go other (kinds (drop at tokens)) ≡ other (kinds (drop at tokens))
  mark_or_not other h = ap (λ b. if b then go (drop 1 (kinds (drop at tokens))) else other (kinds (drop at tokens))) (starts_mark mk (drop at tokens) ∙ h)

module _ {A : Type 0} (tokens : List Token) (at : ℕ) (test : TokenKind → Bool) (go : Kinds → Read A) where
  pub test_goes : starts test (kinds (drop at tokens)) ≡ true → past test go (kinds (drop at tokens)) ≡ go (kinds (drop (at + 1) tokens))
  test_goes h = ap (λ b. only b (go (drop 1 (kinds (drop at tokens)))) (kinds (drop at tokens))) h ∙ ap go (next_kinds at tokens)

  pub test_stops : starts test (kinds (drop at tokens)) ≡ false → past test go (kinds (drop at tokens)) ≡ Err (kinds (drop at tokens))
  test_stops h = ap (λ b. only b (go (drop 1 (kinds (drop at tokens)))) (kinds (drop at tokens))) h

module _ {A : Type 0} (tokens : List Token) (at : ℕ) (test : TokenKind → Bool) (go other : Kinds → Read A) where
  pub test_or_goes : starts test (kinds (drop at tokens)) ≡ true → past_or test go other (kinds (drop at tokens)) ≡ go (kinds (drop (at + 1) tokens))
  test_or_goes h = ap (λ b. if b then go (drop 1 (kinds (drop at tokens))) else other (kinds (drop at tokens))) h ∙ ap go (next_kinds at tokens)

  pub test_or_not : starts test (kinds (drop at tokens)) ≡ false → past_or test go other (kinds (drop at tokens)) ≡ other (kinds (drop at tokens))
  test_or_not h = ap (λ b. if b then go (drop 1 (kinds (drop at tokens))) else other (kinds (drop at tokens))) h

module _ {A B : Type 0} (tokens : List Token) (at : ℕ) (pick : TokenKind → Option A) (go : A → Kinds → Read B) where
  pub some_goes : (a : A) → first pick (kinds (drop at tokens)) ≡ Some a → past_some pick go (kinds (drop at tokens)) ≡ go a (kinds (drop (at + 1) tokens))
  some_goes a h = ap (λ o. only_some o (λ a. go a (drop 1 (kinds (drop at tokens)))) (kinds (drop at tokens))) h ∙ ap (go a) (next_kinds at tokens)

  pub some_stops : first pick (kinds (drop at tokens)) ≡ None → past_some pick go (kinds (drop at tokens)) ≡ Err (kinds (drop at tokens))
  some_stops h = ap (λ o. only_some o (λ a. go a (drop 1 (kinds (drop at tokens)))) (kinds (drop at tokens))) h

-- ---- the token at a place

pub kinds_at : (tokens : List Token) (at : ℕ) (token : Token) → at < length tokens → kinds (drop at tokens) ≡ (get_or tokens at token).kind ∷ kinds (drop (at + 1) tokens)
kinds_at tokens at token h =
    let is : suc at ≡ at + 1 = omega arith in
    ap kinds (drop-cons tokens at token h) ∙ ap (λ n. (get_or tokens at token).kind ∷ kinds (drop n tokens)) is

pub kinds_end : (tokens : List Token) (at : ℕ) → at ≡ length tokens → kinds (drop at tokens) ≡ []
kinds_end tokens at h = ap (λ n. kinds (drop n tokens)) h ∙ ap kinds (drop-length tokens)

pub starts_at : (test : TokenKind → Bool) (tokens : List Token) (at : ℕ) (token : Token) (x : TokenKind) → at < length tokens → (get_or tokens at token).kind ≡ x → starts test (kinds (drop at tokens)) ≡ test x
starts_at test tokens at token x h is = ap (starts test) (kinds_at tokens at token h) ∙ ap test is

pub first_at : {A : Type 0} (pick : TokenKind → Option A) (tokens : List Token) (at : ℕ) (token : Token) (x : TokenKind) → at < length tokens → (get_or tokens at token).kind ≡ x → first pick (kinds (drop at tokens)) ≡ pick x
first_at pick tokens at token x h is = ap (first pick) (kinds_at tokens at token h) ∙ ap pick is

-- ---- answers

-- where a part is refused, so is the whole
pub refused_then : {A B : Type 0} (tokens : List Token) (e : Fail ℕ) (told : Read A) (go : A → Kinds → Read B) → AnswersAt {A = A} tokens (Err e) told → AnswersAt {A = B} tokens (Err e) (and_then told go)
refused_then tokens Memory told go h = tt
refused_then tokens (Refused at) told go h = (h.0, ap (λ p. and_then p go) h.1)

-- ---- statements

module _ (names : Names) (k : ℕ) (tokens : List Token) (at : ℕ) where
  pub set_stops : first_is m.Assign (drop at tokens) ≡ false → set_stmt names k (kinds (drop at tokens)) ≡ Err (kinds (drop at tokens))
  unfolding set_stmt
  set_stops h = mark_stops tokens at m.Assign (λ us. and_then (sum 63 names 255 us) (λ p. mark m.Semicolon (Set k p.0))) h

  pub set_goes : first_is m.Assign (drop at tokens) ≡ true → set_stmt names k (kinds (drop at tokens)) ≡ and_then (sum 63 names 255 (kinds (drop (at + 1) tokens))) (λ p. mark m.Semicolon (Set k p.0))
  unfolding set_stmt
  set_goes h = mark_goes tokens at m.Assign (λ us. and_then (sum 63 names 255 us) (λ p. mark m.Semicolon (Set k p.0))) h

module _ (names : Names) (tokens : List Token) (at : ℕ) where
  pub print_stops : first_is m.OpenParen (drop at tokens) ≡ false → print_stmt names (kinds (drop at tokens)) ≡ Err (kinds (drop at tokens))
  unfolding print_stmt
  print_stops h = mark_stops tokens at m.OpenParen (λ us. and_then (format us) (printed names)) h

  pub print_goes : first_is m.OpenParen (drop at tokens) ≡ true → print_stmt names (kinds (drop at tokens)) ≡ and_then (format (kinds (drop (at + 1) tokens))) (printed names)
  unfolding print_stmt
  print_goes h = mark_goes tokens at m.OpenParen (λ us. and_then (format us) (printed names)) h

  pub stmt_print : starts (is_word (codes "printf")) (kinds (drop at tokens)) ≡ true → stmt names (kinds (drop at tokens)) ≡ print_stmt names (kinds (drop (at + 1) tokens))
  unfolding stmt
  stmt_print h = test_or_goes tokens at (is_word (codes "printf")) (print_stmt names) (past_some (variable_of names) (set_stmt names)) h

  pub stmt_set : (k : ℕ) → starts (is_word (codes "printf")) (kinds (drop at tokens)) ≡ false → first (variable_of names) (kinds (drop at tokens)) ≡ Some k → stmt names (kinds (drop at tokens)) ≡ set_stmt names k (kinds (drop (at + 1) tokens))
  unfolding stmt
  stmt_set k h e = test_or_not tokens at (is_word (codes "printf")) (print_stmt names) (past_some (variable_of names) (set_stmt names)) h ∙ some_goes tokens at (variable_of names) (set_stmt names) k e

  pub stmt_stops : starts (is_word (codes "printf")) (kinds (drop at tokens)) ≡ false → first (variable_of names) (kinds (drop at tokens)) ≡ None → stmt names (kinds (drop at tokens)) ≡ Err (kinds (drop at tokens))
  unfolding stmt
  stmt_stops h e = test_or_not tokens at (is_word (codes "printf")) (print_stmt names) (past_some (variable_of names) (set_stmt names)) h ∙ some_stops tokens at (variable_of names) (set_stmt names) e

pub printed_is : (names : Names) (f : Format) (ts : Kinds) → printed names f ts ≡ and_then (args_on f.count names 254 [] ts) (λ es. mark m.Semicolon (Print f.string es))
unfolding printed
printed_is names f ts = refl

module _ (tokens : List Token) (at : ℕ) where
  pub format_goes : (s : List ℕ) (n : ℕ) (token : Token) → at < length tokens → (get_or tokens at token).kind ≡ t.Str s → format_count s ≡ Some n → format (kinds (drop at tokens)) ≡ Ok (record { string = s; count = n }, kinds (drop (at + 1) tokens))
  unfolding format
  format_goes s n token h is e = some_goes tokens at format_of (λ f rest. Ok (f, rest)) (record { string = s; count = n }) (first_at format_of tokens at token (t.Str s) h is ∙ ap (with_count s) e)

  pub format_stops : (s : List ℕ) (token : Token) → at < length tokens → (get_or tokens at token).kind ≡ t.Str s → format_count s ≡ None → format (kinds (drop at tokens)) ≡ Err (kinds (drop at tokens))
  unfolding format
  format_stops s token h is e = some_stops tokens at format_of (λ f rest. Ok (f, rest)) (first_at format_of tokens at token (t.Str s) h is ∙ ap (with_count s) e)

  pub format_end : at ≡ length tokens → format (kinds (drop at tokens)) ≡ Err (kinds (drop at tokens))
  unfolding format
  format_end h = some_stops tokens at format_of (λ f rest. Ok (f, rest)) (ap (first format_of) (kinds_end tokens at h))

  pub format_not : (x : TokenKind) (token : Token) → at < length tokens → (get_or tokens at token).kind ≡ x → format_of x ≡ None → format (kinds (drop at tokens)) ≡ Err (kinds (drop at tokens))
  unfolding format
  format_not x token h is e = some_stops tokens at format_of (λ f rest. Ok (f, rest)) (first_at format_of tokens at token x h is ∙ e)

-- so many arguments are still to come
module _ (count i : ℕ) (names : Names) (room : ℕ) (es : List Expr) (tokens : List Token) (at : ℕ) where
  pub args_goes : i < count → first_is m.Comma (drop at tokens) ≡ true →
      args_on (count - i) names room es (kinds (drop at tokens)) ≡ and_then (sum 62 names room (kinds (drop (at + 1) tokens))) (λ p. args_on (count - (i + 1)) names p.1 (es ++ p.0 ∷ []))
  args_goes h e =
      let is : count - i ≡ suc (count - (i + 1)) = omega arith in
      ap (λ k. args_on k names room es (kinds (drop at tokens))) is ∙ mark_goes tokens at m.Comma (λ us. and_then (sum 62 names room us) (λ p. args_on (count - (i + 1)) names p.1 (es ++ p.0 ∷ []))) e

  pub args_stops : i < count → first_is m.Comma (drop at tokens) ≡ false → args_on (count - i) names room es (kinds (drop at tokens)) ≡ Err (kinds (drop at tokens))
  args_stops h e =
      let is : count - i ≡ suc (count - (i + 1)) = omega arith in
      ap (λ k. args_on k names room es (kinds (drop at tokens))) is ∙ mark_stops tokens at m.Comma (λ us. and_then (sum 62 names room us) (λ p. args_on (count - (i + 1)) names p.1 (es ++ p.0 ∷ []))) e

  pub args_end : count ≤ i → args_on (count - i) names room es (kinds (drop at tokens)) ≡ mark m.CloseParen es (kinds (drop at tokens))
  args_end h = let is : count - i ≡ 0 = omega arith in ap (λ k. args_on k names room es (kinds (drop at tokens))) is

-- so many turns are left
module _ (most i : ℕ) (names : Names) (ss : List Stmt) (tokens : List Token) (at : ℕ) where
  pub stmts_end : i < most → starts is_return (kinds (drop at tokens)) ≡ true → stmts_on (most - i) names ss (kinds (drop at tokens)) ≡ Ok (ss, kinds (drop (at + 1) tokens))
  stmts_end h e =
      let is : most - i ≡ suc (most - (i + 1)) = omega arith in
      ap (λ k. stmts_on k names ss (kinds (drop at tokens))) is
      ∙ test_or_goes tokens at is_return (λ rest. Ok (ss, rest)) (λ us. and_then (stmt names us) (λ s. stmts_on (most - (i + 1)) names (ss ++ s ∷ []))) e

  pub stmts_goes : i < most → starts is_return (kinds (drop at tokens)) ≡ false →
      stmts_on (most - i) names ss (kinds (drop at tokens)) ≡ and_then (stmt names (kinds (drop at tokens))) (λ s. stmts_on (most - (i + 1)) names (ss ++ s ∷ []))
  stmts_goes h e =
      let is : most - i ≡ suc (most - (i + 1)) = omega arith in
      ap (λ k. stmts_on k names ss (kinds (drop at tokens))) is
      ∙ test_or_not tokens at is_return (λ rest. Ok (ss, rest)) (λ us. and_then (stmt names us) (λ s. stmts_on (most - (i + 1)) names (ss ++ s ∷ []))) e

  pub stmts_spent : most ≤ i → stmts_on (most - i) names ss (kinds (drop at tokens)) ≡ Err (kinds (drop at tokens))
  stmts_spent h = let is : most - i ≡ 0 = omega arith in ap (λ k. stmts_on k names ss (kinds (drop at tokens))) is

pub stmts_begin : (names : Names) (tokens : List Token) (at : ℕ) → at ≤ length tokens → stmts names [] (kinds (drop at tokens)) ≡ stmts_on (length tokens - at + 1) names [] (kinds (drop at tokens))
unfolding stmts
stmts_begin names tokens at h =
    let is : suc (length (kinds (drop at tokens))) ≡ length tokens - at + 1 = omega (arith, kinds_length (drop at tokens), length-drop at tokens) in
    ap (λ k. stmts_on k names [] (kinds (drop at tokens))) is

-- ---- declarations

module _ (names : Names) (tokens : List Token) (at : ℕ) where
  pub init_goes : first_is m.Assign (drop at tokens) ≡ true → initialiser names (kinds (drop at tokens)) ≡ and_then (sum 63 names 256 (kinds (drop (at + 1) tokens))) (λ p. mark m.Semicolon (Some p.0))
  unfolding initialiser
  init_goes h = mark_or_goes tokens at m.Assign (initial names) (mark m.Semicolon None) h

  pub init_plain : first_is m.Assign (drop at tokens) ≡ false → initialiser names (kinds (drop at tokens)) ≡ mark m.Semicolon None (kinds (drop at tokens))
  unfolding initialiser
  init_plain h = mark_or_not tokens at m.Assign (initial names) (mark m.Semicolon None) h

module _ (d : Declared) (tokens : List Token) (at : ℕ) where
  pub decl_goes : (w : List ℕ) → first (new_word d.names) (kinds (drop at tokens)) ≡ Some w →
      decl d (kinds (drop at tokens)) ≡ and_then (initialiser (d.names ++ w ∷ []) (kinds (drop (at + 1) tokens))) (λ o rest. Ok (with_init d w o, rest))
  unfolding decl
  decl_goes w h = some_goes tokens at (new_word d.names) (λ w us. and_then (initialiser (d.names ++ w ∷ []) us) (λ o rest. Ok (with_init d w o, rest))) w h

  pub decl_stops : first (new_word d.names) (kinds (drop at tokens)) ≡ None → decl d (kinds (drop at tokens)) ≡ Err (kinds (drop at tokens))
  unfolding decl
  decl_stops h = some_stops tokens at (new_word d.names) (λ w us. and_then (initialiser (d.names ++ w ∷ []) us) (λ o rest. Ok (with_init d w o, rest))) h

module _ (d : Declared) (tokens : List Token) (at : ℕ) (names : Names) (w : List ℕ) where
  decl_at : first (new_word d.names) (kinds (drop at tokens)) ≡ Some w → names ≡ d.names ++ w ∷ [] →
      decl d (kinds (drop at tokens)) ≡ and_then (initialiser names (kinds (drop (at + 1) tokens))) (λ o rest. Ok (record { names = names; inits = d.inits ++ o ∷ [] }, rest))
  decl_at h e =
      decl_goes d tokens at w h ∙ ap (λ n. and_then (initialiser n (kinds (drop (at + 1) tokens))) (λ o rest. Ok (record { names = n; inits = d.inits ++ o ∷ [] }, rest))) (sym e)

  pub decl_read : (o : Option Expr) (inits : List (Option Expr)) (next : ℕ) → first (new_word d.names) (kinds (drop at tokens)) ≡ Some w → names ≡ d.names ++ w ∷ [] →
      initialiser names (kinds (drop (at + 1) tokens)) ≡ Ok (o, kinds (drop next tokens)) → inits ≡ d.inits ++ o ∷ [] →
      decl d (kinds (drop at tokens)) ≡ Ok (record { names = names; inits = inits }, kinds (drop next tokens))
  decl_read o inits next h e is more =
      decl_at h e ∙ ap (λ p. and_then p (λ o rest. Ok (record { names = names; inits = d.inits ++ o ∷ [] }, rest))) is ∙ ap (λ l. Ok (record { names = names; inits = l }, kinds (drop next tokens))) (sym more)

  pub decl_refused : (e : Fail ℕ) → first (new_word d.names) (kinds (drop at tokens)) ≡ Some w → names ≡ d.names ++ w ∷ [] →
      AnswersAt {A = Option Expr} tokens (Err e) (initialiser names (kinds (drop (at + 1) tokens))) → AnswersAt {A = Declared} tokens (Err e) (decl d (kinds (drop at tokens)))
  decl_refused e h is told =
      subst (λ p. AnswersAt {A = Declared} tokens (Err e) p) (sym (decl_at h is)) (refused_then tokens e (initialiser names (kinds (drop (at + 1) tokens))) (λ o rest. Ok (record { names = names; inits = d.inits ++ o ∷ [] }, rest)) told)

-- a declaration declares one name more
pub decl_more : (d e : Declared) (ts rest : Kinds) → length d.names < 256 → decl d ts ≡ Ok (e, rest) → length e.names ≡ length d.names + 1
decl_more d e ts rest room is =
    let h : Told (IsDecl d) (decl d) ts (Ok (e, rest)) = subst (λ p. Told (IsDecl d) (decl d) ts p) is (right_decl d room ts) in
    one_more d e ts rest (sound (IsDecl d) (decl d) ts e rest h)

-- a new word is one that may be declared
pub new_word_fresh : (names : Names) (ts : Kinds) (w : List ℕ) → first (new_word names) ts ≡ Some w → place names w ≡ None
new_word_fresh names [] w h = absurd (cc)
new_word_fresh names (x ∷ ts) w h = let p = new_word_is names x w h in is_new_fresh names w p.1

module _ (most i : ℕ) (d : Declared) (tokens : List Token) (at : ℕ) where
  pub decls_end : i < most → starts is_int (kinds (drop at tokens)) ≡ false → decls_on (most - i) d (kinds (drop at tokens)) ≡ Ok (d, kinds (drop at tokens))
  decls_end h e =
      let is : most - i ≡ suc (most - (i + 1)) = omega arith in
      ap (λ k. decls_on k d (kinds (drop at tokens))) is ∙ test_or_not tokens at is_int (λ us. and_then (decl d us) (decls_on (most - (i + 1)))) (λ us. Ok (d, us)) e

  pub decls_goes : i < most → starts is_int (kinds (drop at tokens)) ≡ true → decls_on (most - i) d (kinds (drop at tokens)) ≡ and_then (decl d (kinds (drop (at + 1) tokens))) (decls_on (most - (i + 1)))
  decls_goes h e =
      let is : most - i ≡ suc (most - (i + 1)) = omega arith in
      ap (λ k. decls_on k d (kinds (drop at tokens))) is ∙ test_or_goes tokens at is_int (λ us. and_then (decl d us) (decls_on (most - (i + 1)))) (λ us. Ok (d, us)) e

  pub decls_full : most ≤ i → starts is_int (kinds (drop at tokens)) ≡ true → decls_on (most - i) d (kinds (drop at tokens)) ≡ Err (kinds (drop at tokens))
  decls_full h e =
      let is : most - i ≡ 0 = omega arith in
      ap (λ k. decls_on k d (kinds (drop at tokens))) is ∙ ap (λ b. if b then Err (kinds (drop at tokens)) else Ok (d, kinds (drop at tokens))) e

  pub decls_spent : most ≤ i → starts is_int (kinds (drop at tokens)) ≡ false → decls_on (most - i) d (kinds (drop at tokens)) ≡ Ok (d, kinds (drop at tokens))
  decls_spent h e =
      let is : most - i ≡ 0 = omega arith in
      ap (λ k. decls_on k d (kinds (drop at tokens))) is ∙ ap (λ b. if b then Err (kinds (drop at tokens)) else Ok (d, kinds (drop at tokens))) e

pub decls_begin : (ts : Kinds) → decls ts ≡ decls_on 256 (record { names = []; inits = [] }) ts
unfolding decls
decls_begin ts = refl

-- ---- programs

module _ (tokens : List Token) (at : ℕ) where
  pub opened_goes : first_is m.CloseParen (drop at tokens) ≡ true → opened (kinds (drop at tokens)) ≡ mark m.OpenBrace (tt {0}) (kinds (drop (at + 1) tokens))
  unfolding opened
  opened_goes h = mark_goes tokens at m.CloseParen (mark m.OpenBrace (tt {0})) h

  pub opened_stops : first_is m.CloseParen (drop at tokens) ≡ false → opened (kinds (drop at tokens)) ≡ Err (kinds (drop at tokens))
  unfolding opened
  opened_stops h = mark_stops tokens at m.CloseParen (mark m.OpenBrace (tt {0})) h

  pub params_void : starts (is_word (codes "void")) (kinds (drop at tokens)) ≡ true → no_params (kinds (drop at tokens)) ≡ opened (kinds (drop (at + 1) tokens))
  params_void h = test_or_goes tokens at (is_word (codes "void")) opened opened h

  pub params_bare : starts (is_word (codes "void")) (kinds (drop at tokens)) ≡ false → no_params (kinds (drop at tokens)) ≡ opened (kinds (drop at tokens))
  params_bare h = test_or_not tokens at (is_word (codes "void")) opened opened h

module _ (names : Names) (tokens : List Token) (at next : ℕ) (value : Expr) (left : ℕ) where
  behind_value : sum 63 names 256 (kinds (drop at tokens)) ≡ Ok ((value, left), kinds (drop next tokens)) → returned names (kinds (drop at tokens)) ≡ past (is_mark m.Semicolon) (mark m.CloseBrace value) (kinds (drop next tokens))
  unfolding returned
  behind_value e = ap (λ q. and_then q (λ p. past (is_mark m.Semicolon) (mark m.CloseBrace p.0))) e

  pub returned_goes : sum 63 names 256 (kinds (drop at tokens)) ≡ Ok ((value, left), kinds (drop next tokens)) → first_is m.Semicolon (drop next tokens) ≡ true →
      returned names (kinds (drop at tokens)) ≡ mark m.CloseBrace value (kinds (drop (next + 1) tokens))
  returned_goes e h = behind_value e ∙ mark_goes tokens next m.Semicolon (mark m.CloseBrace value) h

  pub returned_stops : sum 63 names 256 (kinds (drop at tokens)) ≡ Ok ((value, left), kinds (drop next tokens)) → first_is m.Semicolon (drop next tokens) ≡ false →
      returned names (kinds (drop at tokens)) ≡ Err (kinds (drop next tokens))
  returned_stops e h = behind_value e ∙ mark_stops tokens next m.Semicolon (mark m.CloseBrace value) h

pub returned_is : (names : Names) (ts : Kinds) → returned names ts ≡ and_then (sum 63 names 256 ts) (λ p. past (is_mark m.Semicolon) (mark m.CloseBrace p.0))
unfolding returned
returned_is names ts = refl

module _ (tokens : List Token) where
  pub head_no_int : starts is_int (kinds (drop 0 tokens)) ≡ false → head (kinds tokens) ≡ Err (kinds tokens)
  unfolding head
  head_no_int h = test_stops tokens 0 is_int (past (is_word (codes "main")) (past (is_mark m.OpenParen) no_params)) h

  head_main : starts is_int (kinds (drop 0 tokens)) ≡ true → head (kinds tokens) ≡ past (is_word (codes "main")) (past (is_mark m.OpenParen) no_params) (kinds (drop 1 tokens))
  unfolding head
  head_main h = test_goes tokens 0 is_int (past (is_word (codes "main")) (past (is_mark m.OpenParen) no_params)) h

  pub head_no_main : starts is_int (kinds (drop 0 tokens)) ≡ true → starts (is_word (codes "main")) (kinds (drop 1 tokens)) ≡ false → head (kinds tokens) ≡ Err (kinds (drop 1 tokens))
  head_no_main h k = head_main h ∙ test_stops tokens 1 (is_word (codes "main")) (past (is_mark m.OpenParen) no_params) k

  head_bracket : starts is_int (kinds (drop 0 tokens)) ≡ true → starts (is_word (codes "main")) (kinds (drop 1 tokens)) ≡ true → head (kinds tokens) ≡ past (is_mark m.OpenParen) no_params (kinds (drop 2 tokens))
  head_bracket h k = head_main h ∙ test_goes tokens 1 (is_word (codes "main")) (past (is_mark m.OpenParen) no_params) k

  pub head_no_bracket : starts is_int (kinds (drop 0 tokens)) ≡ true → starts (is_word (codes "main")) (kinds (drop 1 tokens)) ≡ true → first_is m.OpenParen (drop 2 tokens) ≡ false → head (kinds tokens) ≡ Err (kinds (drop 2 tokens))
  head_no_bracket h k e = head_bracket h k ∙ mark_stops tokens 2 m.OpenParen no_params e

  pub head_goes : starts is_int (kinds (drop 0 tokens)) ≡ true → starts (is_word (codes "main")) (kinds (drop 1 tokens)) ≡ true → first_is m.OpenParen (drop 2 tokens) ≡ true → head (kinds tokens) ≡ no_params (kinds (drop 3 tokens))
  head_goes h k e = head_bracket h k ∙ mark_goes tokens 2 m.OpenParen no_params e

  pub end_behind : (p : Program) (at : ℕ) (token : Token) → at < length tokens → (get_or tokens at token).kind ≡ t.End → at + 1 < length tokens → end p (kinds (drop at tokens)) ≡ Err (kinds (drop (at + 1) tokens))
  end_behind p at token h is more =
      ap (end p) (kinds_at tokens at token h ∙ ap (λ x. x ∷ kinds (drop (at + 1) tokens)) is ∙ ap (λ l. t.End ∷ l) (kinds_at tokens (at + 1) token more))
      ∙ ap Err (sym (kinds_at tokens (at + 1) token more))

pub body_is : (d : Declared) (ts : Kinds) → body d ts ≡ and_then (stmts d.names [] ts) (λ ss us. and_then (returned d.names us) (λ e rest. Ok (record { inits = d.inits; stmts = ss; result = e }, rest)))
unfolding body
body_is d ts = refl

pub main_is : (ts : Kinds) → main ts ≡ and_then (head ts) (λ u us. and_then (decls us) body)
unfolding main
main_is ts = refl

-- ---- by functions

pub ruleset format_steps = (format_goes, format_stops, format_end, format_not)

pub ruleset args_steps = (args_goes, args_stops, args_end, refused_then)

pub ruleset print_steps = (print_goes, print_stops, refused_then)

pub ruleset printed_steps = (printed_is, refused_then)

pub ruleset set_steps = (set_stops, set_goes, refused_then)

pub ruleset stmt_steps = (stmt_print, stmt_set, stmt_stops)

pub ruleset stmts_steps = (stmts_end, stmts_goes, stmts_spent, stmts_begin, refused_then)

pub ruleset init_steps = (init_goes, init_plain, refused_then)

pub ruleset decl_steps = (decl_stops, new_word_fresh)

pub ruleset decls_steps = (decls_begin, decls_goes, decls_end, decls_full, decls_spent, refused_then)

pub ruleset main_steps = (main_is, refused_then)

pub ruleset head_steps = (head_no_int, head_no_main, head_no_bracket, head_goes)

pub ruleset params_steps = (params_void, params_bare)

pub ruleset opened_steps = (opened_goes, opened_stops)

pub ruleset body_steps = (body_is, refused_then)

pub ruleset returned_steps = (returned_goes, returned_stops, returned_is, refused_then)
