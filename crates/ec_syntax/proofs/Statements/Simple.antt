-- Simple statements are decided where expressions are.
use Rattle.std.proofs.Common.{refl, inl, inr, ◌≤◌, ℕ, suc, Bool, false, ◌||◌, codes, List, [], ◌∷◌, ◌++◌, length, Some, None}
use Rattle.ec_base.specs.declared.limits.TheConstants.{MAX_NESTING}
use Rattle.ec_base.specs.declared.token.Mark.TheVariants as mk
use Rattle.ec_base.specs.declared.token.Token.{Token}
use Rattle.ec_syntax.specs.declared.expression.Expr.{Expr}
use Rattle.ec_syntax.specs.declared.statement.Stmt.{Stmt}
use Rattle.ec_syntax.specs.declared.statement.StmtKind.{StmtKind}
use Rattle.ec_syntax.specs.declared.statement.StmtKind.TheVariants.{Empty, WriteTo, AddTo, Print, Return}
use Rattle.ec_syntax.specs.declared.quantity.Quantity.TheVariants.{Arguments}
use Rattle.ec_syntax.specs.Grammar.State.{State, Asked}
use Rattle.ec_syntax.specs.Grammar.Tokens as T
use Rattle.ec_syntax.specs.Grammar.Tokens.{is_mark, is_word}
use Rattle.ec_syntax.specs.Grammar.Language as L
use Rattle.ec_syntax.specs.Grammar.Language.{Language}
use Rattle.ec_syntax.specs.Grammar.Expressions as LE
use Rattle.ec_syntax.specs.Grammar.Expressions.{unary, expr}
use Rattle.ec_syntax.specs.Grammar.Statements as LS
use Rattle.ec_syntax.specs.Descent.Reader as R
use Rattle.ec_syntax.specs.Descent.Reader.{Reader}
use Rattle.ec_syntax.specs.Descent.Tokens as RT
use Rattle.ec_syntax.specs.Descent.Tokens.{is_string, begins_expr}
use Rattle.ec_syntax.specs.Descent.Expressions as RE
use Rattle.ec_syntax.specs.Descent.Statements as RS
use Rattle.ec_syntax.proofs.Decision.Procedures.{Apart}
use Rattle.ec_syntax.proofs.Lookahead.FirstSets.{one_of, or_within, or_apart, apart_or, within_left, within_right, itself, swapped, expr_not_word, none, none_apart, none_within, apart_none}
use Rattle.ec_syntax.proofs.Decision.Limited.{Told, followed, made, made_maybe, reindexed, everywhere, further, given, either, turning, placed}
use Rattle.ec_syntax.proofs.Terminals.Tokens.{mark_told, word_told, string_told}
use Rattle.ec_syntax.proofs.Lookahead.FollowSets.{goes_operand, goes_expr}
use Rattle.ec_syntax.proofs.Nesting.Parts.{Room, parted, kth_told}
use Rattle.ec_syntax.proofs.Nesting.Delimiters.{bracketed_told}
use Rattle.ec_syntax.proofs.Statements.AssignmentsAndCalls.{inner_of, act_words, act_told, ended_told, ended_maybe_told}
use Rattle.ec_syntax.proofs.Tokens.Classes.{from_mark, from_word}
use Rattle.ec_syntax.proofs.Tokens.Samples.{Sample, writeto_sample, addto_sample, printf_sample, return_sample}

-- ---- the reader, with what it reads one deeper

abbrev pub argument_by : ℕ → (Token → Bool) → Reader Expr → List Expr → Reader (List Expr)
argument_by room start e es = R.◌>>◌ (RT.mark mk.Comma) (R.◌>>=◌ (R.kth Arguments (suc (length es)) start room e) (λ e. R.give (es ++ e ∷ [])))

abbrev pub printed_by : ℕ → (Token → Bool) → Reader Expr → Reader StmtKind
printed_by room start e = R.◌>>=◌ RT.string (λ s. R.◌>>=◌ (R.turns (is_mark mk.Comma) (argument_by room start e) []) (λ es. R.give (Print s es)))

abbrev pub paired_by : List ℕ → ℕ → (Token → Bool) → Reader Expr → Reader (Expr × Expr)
paired_by w room start e = R.◌>>◌ (RT.word w) (RE.bracketed room start (RS.pair e))

abbrev pub simple_by : ℕ → (Token → Bool) → Reader Expr → Reader Stmt
simple_by room start e =
    R.when (is_mark mk.Semicolon) (RS.ended (R.give Empty))
    (R.when (is_word (codes "writeto")) (RS.closed (R.◌>>=◌ (R.part (paired_by (codes "writeto") room start e)) (λ p. R.give (WriteTo p.0 p.1))))
    (R.when (is_word (codes "addto")) (RS.closed (R.◌>>=◌ (R.part (paired_by (codes "addto") room start e)) (λ p. R.give (AddTo p.0 p.1))))
    (R.when (is_word (codes "printf")) (RS.closed (R.part (R.◌>>◌ (RT.word (codes "printf")) (RE.bracketed room is_string (printed_by room start e)))))
    (R.when (is_word (codes "return")) (RS.ended (R.◌>>=◌ (R.part (R.◌>>◌ (RT.word (codes "return")) (RS.returned (RE.expr (suc room))))) (λ e. R.give (Return e))))
    (RS.ended (R.part (R.◌>>=◌ (RE.unary (suc room)) (RS.acted (RE.expr (suc room))))))))))

-- ---- what stands one deeper

abbrev goes_list : Token → Bool
goes_list = one_of goes_expr (is_mark mk.Comma)

comma_expr : Apart (is_mark mk.Comma) goes_expr
comma_expr = from_mark mk.Comma goes_expr false (λ at. refl)

module _ {fits inner able : Type 0} {d room : ℕ} (r : Room fits inner d room) (e : Reader Expr) (l : Language Expr)
    {first : Token → Bool} (E : Told {X = Unit {0}} inner able (suc d) (λ x. e) (λ x. l) ⊥ first goes_expr) where
  pair_told : Told {X = Unit {0}} inner able (suc d) (λ x. RS.pair e) (λ x. LS.pair (suc d) l) ⊥ first goes_expr
  pair_told = followed (λ x a. R.◌>>◌ (RT.mark mk.Comma) (R.◌>>=◌ e (λ b. R.give (a, b)))) E
      (followed (λ xa u. R.◌>>=◌ e (λ b. R.give (xa.1, b))) (mark_told (Unit {0} × Expr) inner able (suc d) r.deep none mk.Comma)
      (made (λ (xau : (Unit {0} × Expr) × Unit {0}) b. (xau.0.1, b)) (everywhere ((Unit {0} × Expr) × Unit {0}) E)) (apart_none first) (λ e. absurd e) (λ e. e)) comma_expr (λ e. absurd e) (λ e. e)

  argument_told : (Y : Type 0) → Told {X = Y × List Expr} inner able (suc d) (λ x. argument_by room first e x.1)
      (λ x. L.◌>>◌ (T.mark (suc d) mk.Comma) (L.◌>>=◌ (L.kth Arguments (suc (length x.1)) l) (λ e. L.give (x.1 ++ e ∷ [])))) ⊥ (is_mark mk.Comma) goes_expr
  argument_told Y = followed (λ x u. R.◌>>=◌ (R.kth Arguments (suc (length x.1)) first room e) (λ e. R.give (x.1 ++ e ∷ []))) (mark_told (Y × List Expr) inner able (suc d) r.deep none mk.Comma)
      (made (λ (xu : (Y × List Expr) × Unit {0}) e. xu.0.1 ++ e ∷ []) (kth_told Arguments refl (λ xu. suc (length xu.0.1)) room r.some r.deep (everywhere ((Y × List Expr) × Unit {0}) E))) (apart_none first) (λ e. absurd e) (λ e. e)

  arguments_told : (Y : Type 0) → Told {X = Y} inner able (suc d)
      (λ y. R.turns (is_mark mk.Comma) (argument_by room first e) [])
      (λ y. L.turns (λ es. L.◌>>◌ (T.mark (suc d) mk.Comma) (L.◌>>=◌ (L.kth Arguments (suc (length es)) l) (λ e. L.give (es ++ e ∷ [])))) []) (Unit {0}) (is_mark mk.Comma) goes_list
  arguments_told Y = reindexed (λ y. (y, [])) (turning (λ (y : Y) es. argument_by room first e es)
      (λ y es. L.◌>>◌ (T.mark (suc d) mk.Comma) (L.◌>>=◌ (L.kth Arguments (suc (length es)) l) (λ e. L.give (es ++ e ∷ [])))) (argument_told Y)
      comma_expr (within_left goes_expr goes_expr (is_mark mk.Comma) (itself goes_expr)) (within_right (is_mark mk.Comma) goes_expr (is_mark mk.Comma) (itself (is_mark mk.Comma))))

  printed_told : Told {X = Unit {0}} inner able (suc d) (λ x. printed_by room first e)
      (λ x. LS.printed (suc d) l) ⊥ is_string goes_list
  printed_told = followed (λ x s. R.◌>>=◌ (R.turns (is_mark mk.Comma) (argument_by room first e) []) (λ es. R.give (Print s es))) (string_told (Unit {0}) inner able (suc d) r.deep none)
      (made_maybe (λ (xs : Unit {0} × List ℕ) es. Print xs.1 es) (arguments_told (Unit {0} × List ℕ))) (apart_none (is_mark mk.Comma)) (λ u. none_within goes_list) (λ e. e)

  paired_told : (w : List ℕ) → Sample (is_word w) →
      Told {X = Unit {0}} fits able d (λ x. R.part (paired_by w room first e))
      (λ x. L.part (L.◌>>◌ (T.word d w) (LE.bracketed d (LS.pair (suc d) l)))) ⊥ (is_word w) none
  paired_told w sample = parted (followed (λ x u. RE.bracketed room first (RS.pair e)) (word_told (Unit {0}) fits able d r.small none w sample)
      (everywhere (Unit {0} × Unit {0}) (bracketed_told r none pair_told (from_mark mk.CloseParen goes_expr false (λ at. refl)))) (apart_none (is_mark mk.OpenParen)) (λ e. absurd e) (λ e. e))

  printing_told : Told {X = Unit {0}} fits able d
      (λ x. R.part (R.◌>>◌ (RT.word (codes "printf")) (RE.bracketed room is_string (printed_by room first e))))
      (λ x. L.part (L.◌>>◌ (T.word d (codes "printf")) (LE.bracketed d (LS.printed (suc d) l)))) ⊥ (is_word (codes "printf")) none
  printing_told = parted (followed (λ x u. RE.bracketed room is_string (printed_by room first e)) (word_told (Unit {0}) fits able d r.small none (codes "printf") printf_sample)
      (everywhere (Unit {0} × Unit {0}) (bracketed_told r none printed_told (from_mark mk.CloseParen goes_list false (λ at. refl)))) (apart_none (is_mark mk.OpenParen)) (λ e. absurd e) (λ e. e))

-- one that is placed without its `;`
pub closed_told : {X : Type 0} {fits able : Type 0} {d : ℕ} (small : fits → d ≤ MAX_NESTING) (p : X → Reader StmtKind)
    (l : X → Language StmtKind) {start goes : Token → Bool} (out : Token → Bool) →
    Told fits able d p l ⊥ start goes → Apart (is_mark mk.Semicolon) goes →
    Told fits able d (λ x. RS.closed (p x)) (λ x. LS.closed d (l x)) ⊥ start out
closed_told {X} {fits} {able} {d} small p l out h apart = followed (λ x s. R.◌>>◌ (RT.mark mk.Semicolon) (R.give s)) (placed (λ x. LS.statement) h)
    (made (λ (xs : X × Stmt) u. xs.1) (mark_told (X × Stmt) fits able d small out mk.Semicolon)) apart (λ e. absurd e) (λ e. e)

-- ---- the language in the order in which it is read

abbrev returned_words : ℕ → Language Expr → Language StmtKind
returned_words d value = L.◌>>=◌ (L.part (L.◌>>◌ (T.word d (codes "return")) (L.maybe value))) (λ e. L.give (Return e))

abbrev paired_words : List ℕ → ℕ → Language Expr → Language (Expr × Expr)
paired_words w d l = L.part (L.◌>>◌ (T.word d w) (LE.bracketed d (LS.pair (suc d) l)))

-- `call` is what a call's arguments are made of
abbrev pub simple_words : ℕ → ℕ → Language Expr → Language Expr → Language Stmt
simple_words nested d call l =
    L.◌or◌ (LS.ended d (L.give Empty))
    (L.◌or◌ (LS.closed d (L.◌>>=◌ (paired_words (codes "writeto") d l) (λ p. L.give (WriteTo p.0 p.1))))
    (L.◌or◌ (LS.closed d (L.◌>>=◌ (paired_words (codes "addto") d l) (λ p. L.give (AddTo p.0 p.1))))
    (L.◌or◌ (LS.closed d (L.part (L.◌>>◌ (T.word d (codes "printf")) (LE.bracketed d (LS.printed (suc d) l)))))
    (L.◌or◌ (LS.ended d (returned_words d (expr nested d))) (act_words nested d call)))))

pub simple_to : (nested d : ℕ) (l : Language Expr) (asked : Asked) (s : State) (a : Stmt) (m : State) →
    simple_words nested d l l asked s a m → LS.simple nested d l asked s a m
simple_to nested d l asked s a m (inl h) = inl h
simple_to nested d l asked s a m (inr (inl h)) = inr (inr (inr (inl h)))
simple_to nested d l asked s a m (inr (inr (inl h))) = inr (inr (inr (inr (inl h))))
simple_to nested d l asked s a m (inr (inr (inr (inl h)))) = inr (inr (inr (inr (inr (inl h)))))
simple_to nested d l asked s a m (inr (inr (inr (inr (inl h))))) = inr (inr (inr (inr (inr (inr h)))))
simple_to nested d l asked s a m (inr (inr (inr (inr (inr (inl h)))))) = inr (inl h)
simple_to nested d l asked s a m (inr (inr (inr (inr (inr (inr h)))))) = inr (inr (inl h))

pub simple_from : (nested d : ℕ) (l : Language Expr) (asked : Asked) (s : State) (a : Stmt) (m : State) →
    LS.simple nested d l asked s a m → simple_words nested d l l asked s a m
simple_from nested d l asked s a m (inl h) = inl h
simple_from nested d l asked s a m (inr (inr (inr (inl h)))) = inr (inl h)
simple_from nested d l asked s a m (inr (inr (inr (inr (inl h))))) = inr (inr (inl h))
simple_from nested d l asked s a m (inr (inr (inr (inr (inr (inl h)))))) = inr (inr (inr (inl h)))
simple_from nested d l asked s a m (inr (inr (inr (inr (inr (inr h)))))) = inr (inr (inr (inr (inl h))))
simple_from nested d l asked s a m (inr (inl h)) = inr (inr (inr (inr (inr (inl h)))))
simple_from nested d l asked s a m (inr (inr (inl h))) = inr (inr (inr (inr (inr (inr h)))))

-- ---- a value that is returned

abbrev goes_returned : Token → Bool
goes_returned = one_of goes_expr begins_expr

semicolon_expr : Apart (is_mark mk.Semicolon) begins_expr
semicolon_expr = from_mark mk.Semicolon begins_expr false (λ at. refl)

semicolon_returned : Apart (is_mark mk.Semicolon) goes_returned
semicolon_returned = apart_or (is_mark mk.Semicolon) goes_expr begins_expr (from_mark mk.Semicolon goes_expr false (λ at. refl)) semicolon_expr

module _ {fits able : Type 0} {d : ℕ} (small : fits → d ≤ MAX_NESTING) (v : Reader Expr) (value : Language Expr)
    (V : Told {X = Unit {0}} fits able d (λ x. v) (λ x. value) ⊥ begins_expr goes_expr) (out : Token → Bool) where
  maybe_told : Told {X = Unit {0}} fits able d (λ x. RS.returned v) (λ x. L.maybe value) (Unit {0})
      (λ t. begins_expr t || none t) goes_returned
  maybe_told = either begins_expr (made (λ x e. Some e) (further (within_left goes_expr goes_expr begins_expr (itself goes_expr)) V)) (given (λ x. None) fits able d goes_returned)
      (itself begins_expr) (none_apart begins_expr) (λ u. within_right begins_expr goes_expr begins_expr (itself begins_expr))

  return_told : Told {X = Unit {0}} fits able d
      (λ x. RS.ended (R.◌>>=◌ (R.part (R.◌>>◌ (RT.word (codes "return")) (RS.returned v))) (λ e. R.give (Return e))))
      (λ x. LS.ended d (returned_words d value)) ⊥ (is_word (codes "return")) out
  return_told = ended_told small (λ x. R.◌>>=◌ (R.part (R.◌>>◌ (RT.word (codes "return")) (RS.returned v))) (λ e. R.give (Return e))) (λ x. returned_words d value) out
      (made (λ x e. Return e) (parted (followed (λ x u. RS.returned v) (word_told (Unit {0}) fits able d small none (codes "return") return_sample)
      (everywhere (Unit {0} × Unit {0}) maybe_told) (apart_none _) (λ u. none_within goes_returned) (λ e. e)))) semicolon_returned

-- ---- all simple statements

abbrev begins_5 : Token → Bool
begins_5 x = is_word (codes "return") x || begins_expr x

abbrev begins_4 : Token → Bool
begins_4 x = is_word (codes "printf") x || begins_5 x

abbrev begins_3 : Token → Bool
begins_3 x = is_word (codes "addto") x || begins_4 x

abbrev begins_2 : Token → Bool
begins_2 x = is_word (codes "writeto") x || begins_3 x

-- what begins a simple statement
abbrev pub begins_simple : Token → Bool
begins_simple x = (none x || is_mark mk.Semicolon x) || begins_2 x

apart_5 : Apart begins_5 (is_word (codes "printf"))
apart_5 = or_apart (is_word (codes "return")) begins_expr (is_word (codes "printf")) (from_word (codes "return") (is_word (codes "printf")) false (λ at. refl)) (expr_not_word (codes "printf") (λ at. refl))

apart_4 : Apart begins_4 (is_word (codes "addto"))
apart_4 = or_apart (is_word (codes "printf")) begins_5 (is_word (codes "addto")) (from_word (codes "printf") (is_word (codes "addto")) false (λ at. refl))
    (or_apart (is_word (codes "return")) begins_expr (is_word (codes "addto")) (from_word (codes "return") (is_word (codes "addto")) false (λ at. refl)) (expr_not_word (codes "addto") (λ at. refl)))

apart_3 : Apart begins_3 (is_word (codes "writeto"))
apart_3 = or_apart (is_word (codes "addto")) begins_4 (is_word (codes "writeto")) (from_word (codes "addto") (is_word (codes "writeto")) false (λ at. refl))
    (or_apart (is_word (codes "printf")) begins_5 (is_word (codes "writeto")) (from_word (codes "printf") (is_word (codes "writeto")) false (λ at. refl))
    (or_apart (is_word (codes "return")) begins_expr (is_word (codes "writeto")) (from_word (codes "return") (is_word (codes "writeto")) false (λ at. refl)) (expr_not_word (codes "writeto") (λ at. refl))))

apart_2 : Apart begins_2 (is_mark mk.Semicolon)
apart_2 = swapped (is_mark mk.Semicolon) begins_2 (from_mark mk.Semicolon begins_2 false (λ at. refl))

module _ {fits inner able : Type 0} {d room : ℕ} (r : Room fits inner d room) (e : Reader Expr) (l : Language Expr)
    {first : Token → Bool} (E : Told {X = Unit {0}} inner able (suc d) (λ x. e) (λ x. l) ⊥ first goes_expr)
    (nested : ℕ) (U : Told {X = Unit {0}} fits able d (λ x. RE.unary (suc room)) (λ x. unary (suc nested) d) ⊥ begins_expr goes_operand)
    (V : Told {X = Unit {0}} fits able d (λ x. RE.expr (suc room)) (λ x. expr (suc nested) d) ⊥ begins_expr goes_expr) (out : Token → Bool) where
  empty_told : Told {X = Unit {0}} fits able d (λ x. RS.ended (R.give Empty))
      (λ x. LS.ended d (L.give Empty)) ⊥ (λ t. none t || is_mark mk.Semicolon t) out
  empty_told = ended_maybe_told r.small (λ x. R.give Empty) (λ x. L.give Empty) out (given (λ x. Empty) fits able d none) (apart_none (is_mark mk.Semicolon))

  pub simple_told : Told {X = Unit {0}} fits able d (λ x. simple_by room first e)
      (λ x. simple_words (suc nested) d (inner_of nested d) l) ⊥ begins_simple out
  simple_told =
      either (is_mark mk.Semicolon) empty_told
      (either (is_word (codes "writeto")) (closed_told r.small (λ x. R.◌>>=◌ (R.part (paired_by (codes "writeto") room first e)) (λ p. R.give (WriteTo p.0 p.1))) (λ x. L.◌>>=◌ (paired_words (codes "writeto") d l) (λ p. L.give (WriteTo p.0 p.1))) out
      (made (λ x p. WriteTo p.0 p.1) (paired_told r e l E (codes "writeto") writeto_sample)) (apart_none (is_mark mk.Semicolon)))
      (either (is_word (codes "addto")) (closed_told r.small (λ x. R.◌>>=◌ (R.part (paired_by (codes "addto") room first e)) (λ p. R.give (AddTo p.0 p.1))) (λ x. L.◌>>=◌ (paired_words (codes "addto") d l) (λ p. L.give (AddTo p.0 p.1))) out
      (made (λ x p. AddTo p.0 p.1) (paired_told r e l E (codes "addto") addto_sample)) (apart_none (is_mark mk.Semicolon)))
      (either (is_word (codes "printf")) (closed_told r.small (λ x. R.part (R.◌>>◌ (RT.word (codes "printf")) (RE.bracketed room is_string (printed_by room first e)))) (λ x. L.part (L.◌>>◌ (T.word d (codes "printf")) (LE.bracketed d (LS.printed (suc d) l)))) out
      (printing_told r e l E) (apart_none (is_mark mk.Semicolon)))
      (either (is_word (codes "return")) (return_told r.small (RE.expr (suc room)) (expr (suc nested) d) V out) (act_told r.small nested (suc room) U V out)
      (itself (is_word (codes "return"))) (expr_not_word (codes "return") (λ at. refl)) (λ e. absurd e))
      (itself (is_word (codes "printf"))) apart_5 (λ e. absurd e))
      (itself (is_word (codes "addto"))) apart_4 (λ e. absurd e))
      (itself (is_word (codes "writeto"))) apart_3 (λ e. absurd e))
      (or_within none (is_mark mk.Semicolon) (is_mark mk.Semicolon) (none_within (is_mark mk.Semicolon)) (itself (is_mark mk.Semicolon))) apart_2 (λ e. absurd e)
