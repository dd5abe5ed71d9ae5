-- What is in the grammar is read.
use Rattle.std.proofs.Common.{◌≡◌, refl, sym, ◌∙◌, ap, subst, ℕ, zero, suc, ◌+◌, Bool, true, false, true≢false, List, [], ◌∷◌, ◌++◌, length, drop, append_assoc, append-nil, length-append, codes, arith}
use Rattle.std.specs.Prelude.{Option, Some, None, option_map, Ok, Err, if◌then◌else◌}
use Rattle.std.proofs.lemmas.Bool.{le-leb}
use Rattle.ec_base.specs.Format.{conversions}
use Rattle.ec_base.specs.declared.token.TokenKind.TheVariants as t
use Rattle.ec_base.specs.declared.token.Mark.TheVariants as m
use Rattle.ec_small.specs.declared.tree.Expr.{Expr}
use Rattle.ec_small.specs.declared.tree.Stmt.{Stmt}
use Rattle.ec_small.specs.declared.tree.Stmt.TheVariants.{Set, Print}
use Rattle.ec_small.specs.declared.tree.Program.{Program}
use Rattle.ec_small.specs.declared.declaration.Declared.{Declared}
use Rattle.ec_small.specs.Words.{same, place, is_name}
use Rattle.ec_small.specs.Grammar.{Kinds, Names, IsSum, IsNew, IsDecls, IsArgs, IsFormat, IsStmt, IsStmts, IsHead, IsProgram}
use Rattle.ec_small.specs.Descent.{and_then, is_mark, is_word, starts, only_some, past, past_some, mark, initialiser, is_int, with_init, decl, decls_on, decls, args_on, few, format_count, with_count, format, printed, print_stmt, set_stmt, variable_of, stmt, stmts, opened, head, returned, body, main, end, program}
use Rattle.ec_small.proofs.Sums.{Stops, read_sum}
use Rattle.ec_small.proofs.Fronts.{same_is, same_itself, is_new_of}
use Rattle.ec_small.proofs.Programs.{stmts_once, more_stmts, built}

-- ---- what stands behind a sum

stops_semicolon : (j : ℕ) (rest : Kinds) → Stops j (t.Mark m.Semicolon ∷ rest)
stops_semicolon zero rest = tt
stops_semicolon (suc j) rest = tt

stops_comma : (j : ℕ) (rest : Kinds) → Stops j (t.Mark m.Comma ∷ rest)
stops_comma zero rest = tt
stops_comma (suc j) rest = tt

stops_close : (j : ℕ) (rest : Kinds) → Stops j (t.Mark m.CloseParen ∷ rest)
stops_close zero rest = tt
stops_close (suc j) rest = tt

-- ---- names are no reserved words

abbrev AllNames : Names → Type 0
AllNames [] = Unit {0}
AllNames (w ∷ names) = (is_name w ≡ true) × AllNames names

all_more : (names : Names) (w : List ℕ) → AllNames names → is_name w ≡ true → AllNames (names ++ w ∷ [])
all_more [] w h e = (e, tt)
all_more (x ∷ names) w h e = (h.0, all_more names w h.1 e)

place_is_name : (names : Names) (w : List ℕ) (k : ℕ) → AllNames names → place names w ≡ Some k → is_name w ≡ true
place_is_name [] w k h e = absurd (cc)
place_is_name (x ∷ names) w k h e = by (same x w) refl (λ j f. place_is_name names w j h.1 f)
  where
    behind : (o : Option ℕ) → (if false then Some 0 else option_map suc o) ≡ Some k → (j : ℕ) × (o ≡ Some j)
    behind (Some j) e = (j, refl)
    behind None e = absurd (cc)

    by : (b : Bool) → same x w ≡ b → ((j : ℕ) → place names w ≡ Some j → is_name w ≡ true) → is_name w ≡ true
    by true is later = subst (λ z. is_name z ≡ true) (same_is x w is) h.0
    by false is later = let j = behind (place names w) (sym (ap (λ b. if b then Some 0 else option_map suc (place names w)) is) ∙ e) in later j.0 j.1

apart : (w r : List ℕ) → is_name w ≡ true → is_name r ≡ false → same w r ≡ false
apart w r h e = by (same w r) refl
  where
    by : (b : Bool) → same w r ≡ b → b ≡ false
    by true is = absurd (true≢false (sym h ∙ ap is_name (same_is w r is) ∙ e))
    by false is = refl

all_declared : {names after : Names} {ts rest : Kinds} {inits : List (Option Expr)} → IsDecls names ts inits after rest → AllNames names → AllNames after
all_declared IsDecls.none h = h
all_declared (IsDecls.plain {names = names} {w = w} i new d) h = all_declared d (all_more names w h new.name)
all_declared (IsDecls.initial {names = names} {w = w} i new s d) h = all_declared d (all_more names w h new.name)

-- ---- declarations

decls_stop : (k : ℕ) (d : Declared) (ts : Kinds) → starts is_int ts ≡ false → decls_on k d ts ≡ Ok (d, ts)
decls_stop zero d ts e = ap (λ b. if b then Err ts else Ok (d, ts)) e
decls_stop (suc k) d ts e = ap (λ b. if b then and_then (decl d (drop 1 ts)) (decls_on k) else Ok (d, ts)) e

decls_step : (k : ℕ) (d : Declared) (int w : List ℕ) (us vs : Kinds) (o : Option Expr) → int ≡ codes "int" → IsNew d.names w → initialiser (d.names ++ w ∷ []) us ≡ Ok (o, vs) →
    decls_on (suc k) d (t.Word int ∷ t.Word w ∷ us) ≡ decls_on k (with_init d w o) vs
unfolding decl
decls_step k d int w us vs o e new is =
    ap (λ b. if b then and_then (decl d (t.Word w ∷ us)) (decls_on k) else Ok (d, t.Word int ∷ t.Word w ∷ us)) (same_itself int (codes "int") e)
    ∙ ap (λ b. and_then (only_some (if b then Some w else None) (λ a. and_then (initialiser (d.names ++ a ∷ []) us) (λ o rest. Ok (with_init d a o, rest))) (t.Word w ∷ us)) (decls_on k)) (is_new_of d.names w new)
    ∙ ap (λ p. and_then (and_then p (λ o rest. Ok (with_init d w o, rest))) (decls_on k)) is

read_given : (names : Names) (ts us : Kinds) (e : Expr) (j : ℕ) → IsSum 63 256 names ts e j (t.Mark m.Semicolon ∷ us) → initialiser names (t.Mark m.Assign ∷ ts) ≡ Ok (Some e, us)
unfolding initialiser
read_given names ts us e j s = ap (λ p. and_then p (λ p. mark m.Semicolon (Some p.0))) (read_sum 63 256 names ts e j (t.Mark m.Semicolon ∷ us) s (stops_semicolon j us))

read_plain : (names : Names) (ts : Kinds) → initialiser names (t.Mark m.Semicolon ∷ ts) ≡ Ok (None, ts)
unfolding initialiser
read_plain names ts = refl

abbrev declared : Names → List (Option Expr) → Declared
declared names inits = record { names = names; inits = inits }

read_decls : {names after : Names} {ts rest : Kinds} {more : List (Option Expr)} → IsDecls names ts more after rest → starts is_int rest ≡ false → (k : ℕ) → length names + k ≡ 256 → (inits : List (Option Expr)) →
    decls_on k (declared names inits) ts ≡ Ok (declared after (inits ++ more), rest)
read_decls (IsDecls.none {names = names} {ts = ts}) stop k room inits = decls_stop k (declared names inits) ts stop ∙ ap (λ l. Ok (declared names l, ts)) (sym (append-nil inits))
read_decls (IsDecls.plain i new d) stop zero room inits = absurd (omega (arith, new.room))
read_decls (IsDecls.plain {names = names} {after = after} {int = int} {w = w} {ts = ts} {rest = rest} {inits = more} i new d) stop (suc k) room inits =
    decls_step k (declared names inits) int w (t.Mark m.Semicolon ∷ ts) ts None i new (read_plain (names ++ w ∷ []) ts)
    ∙ read_decls d stop k (omega (arith, length-append names (w ∷ []))) (inits ++ None ∷ [])
    ∙ ap (λ l. Ok (declared after l, rest)) (append_assoc inits (None ∷ []) more)
read_decls (IsDecls.initial i new s d) stop zero room inits = absurd (omega (arith, new.room))
read_decls (IsDecls.initial {j = j} {names = names} {after = after} {int = int} {w = w} {ts = ts} {us = us} {rest = rest} {e = e} {inits = more} i new s d) stop (suc k) room inits =
    decls_step k (declared names inits) int w (t.Mark m.Assign ∷ ts) us (Some e) i new (read_given (names ++ w ∷ []) ts us e j s)
    ∙ read_decls d stop k (omega (arith, length-append names (w ∷ []))) (inits ++ Some e ∷ [])
    ∙ ap (λ l. Ok (declared after l, rest)) (append_assoc inits (Some e ∷ []) more)

-- ---- statements

args_front : {names : Names} {count i : ℕ} {ts us : Kinds} {es : List Expr} → IsArgs names count i ts es us → (rest : Kinds) → us ≡ t.Mark m.CloseParen ∷ rest → Stops i ts
args_front (IsArgs.none {i = i}) rest e = subst (Stops i) (sym e) (stops_close i rest)
args_front (IsArgs.more {i = i} {ts = ts} s h) rest e = stops_comma i ts

read_args : {names : Names} {count i : ℕ} {ts us : Kinds} {more : List Expr} → IsArgs names count i ts more us → (rest : Kinds) → us ≡ t.Mark m.CloseParen ∷ rest → (es : List Expr) →
    args_on count names i es ts ≡ Ok (es ++ more, rest)
read_args (IsArgs.none) rest e es = ap (mark m.CloseParen es) e ∙ ap (λ l. Ok (l, rest)) (sym (append-nil es))
read_args (IsArgs.more {count = count} {i = i} {j = j} {names = names} {ts = ts} {us = us} {e = x} {es = more} s h) rest e es =
    ap (λ p. and_then p (λ p. args_on count names p.1 (es ++ p.0 ∷ []))) (read_sum 62 i names ts x j us s (args_front h rest e))
    ∙ read_args h rest e (es ++ x ∷ [])
    ∙ ap (λ l. Ok (l, rest)) (append_assoc es (x ∷ []) more)

format_given : (s : List ℕ) (count : ℕ) → IsFormat s count → with_count s (format_count s) ≡ Some (record { string = s; count = count })
format_given s count h =
    ap (λ b. with_count s (if b then few (conversions s) else None)) (le-leb (length s) 255 h.short)
    ∙ ap (λ o. with_count s (few o)) h.asks
    ∙ ap (λ b. with_count s (if b then Some count else None)) (le-leb count 8 h.few)

read_stmt : {names : Names} {ts rest : Kinds} {s : Stmt} → IsStmt names ts s rest → AllNames names → stmt names ts ≡ Ok (s, rest)
unfolding stmt print_stmt set_stmt format printed
read_stmt (IsStmt.set {k = k} {j = j} {names = names} {w = w} {ts = ts} {rest = rest} {e = e} p s) h =
    ap (λ b. if b then print_stmt names (t.Mark m.Assign ∷ ts) else past_some (variable_of names) (set_stmt names) (t.Word w ∷ t.Mark m.Assign ∷ ts)) (apart w (codes "printf") (place_is_name names w k h p) refl)
    ∙ ap (λ o. only_some o (λ a. set_stmt names a (t.Mark m.Assign ∷ ts)) (t.Word w ∷ t.Mark m.Assign ∷ ts)) p
    ∙ ap (λ p. and_then p (λ p. mark m.Semicolon (Set k p.0))) (read_sum 63 255 names ts e j (t.Mark m.Semicolon ∷ rest) s (stops_semicolon j rest))
read_stmt (IsStmt.print {count = count} {names = names} {w = w} {s = s} {ts = ts} {rest = rest} {es = es} is f a) h =
    ap (λ b. if b then print_stmt names (t.Mark m.OpenParen ∷ t.Str s ∷ ts) else past_some (variable_of names) (set_stmt names) (t.Word w ∷ t.Mark m.OpenParen ∷ t.Str s ∷ ts)) (same_itself w (codes "printf") is)
    ∙ ap (λ o. and_then (only_some o (λ a. Ok (a, ts)) (t.Str s ∷ ts)) (printed names)) (format_given s count f)
    ∙ ap (λ p. and_then p (λ es. mark m.Semicolon (Print s es))) (read_args a (t.Mark m.Semicolon ∷ rest) refl [])

-- a statement begins with none of the other reserved words
stmt_front : {names : Names} {ts rest : Kinds} {s : Stmt} → IsStmt names ts s rest → AllNames names → (r : List ℕ) → is_name r ≡ false → same (codes "printf") r ≡ false → starts (is_word r) ts ≡ false
stmt_front (IsStmt.set {k = k} {names = names} {w = w} p s) h r e f = apart w r (place_is_name names w k h p) e
stmt_front (IsStmt.print is a b) h r e f = ap (λ z. same z r) is ∙ f

read_stmts : {names : Names} {ts us : Kinds} {more : List Stmt} → IsStmts names ts more us → AllNames names → (return : List ℕ) (rest : Kinds) → return ≡ codes "return" → us ≡ t.Word return ∷ rest → (ss : List Stmt) →
    stmts names ss ts ≡ Ok (ss ++ more, rest)
read_stmts (IsStmts.none {names = names}) h return rest is e ss =
    ap (stmts names ss) e ∙ stmts_once names ss (t.Word return ∷ rest)
    ∙ ap (λ b. if b then Ok (ss, rest) else more_stmts names ss (t.Word return ∷ rest)) (same_itself return (codes "return") is)
    ∙ ap (λ l. Ok (l, rest)) (sym (append-nil ss))
read_stmts (IsStmts.more {names = names} {ts = ts} {us = us} {s = s} {ss = more} a b) h return rest is e ss =
    stmts_once names ss ts
    ∙ ap (λ b. if b then Ok (ss, drop 1 ts) else more_stmts names ss ts) (stmt_front a h (codes "return") refl refl)
    ∙ ap (λ p. and_then p (λ s. stmts names (ss ++ s ∷ []))) (read_stmt a h)
    ∙ read_stmts b h return rest is e (ss ++ s ∷ [])
    ∙ ap (λ l. Ok (l, rest)) (append_assoc ss (s ∷ []) more)

-- no declaration stands where a statement does
no_int : {names : Names} {ts us : Kinds} {ss : List Stmt} → IsStmts names ts ss us → AllNames names → (return : List ℕ) (rest : Kinds) → return ≡ codes "return" → us ≡ t.Word return ∷ rest → starts is_int ts ≡ false
no_int IsStmts.none h return rest is e = ap (starts is_int) e ∙ ap (λ z. same z (codes "int")) is
no_int (IsStmts.more a b) h return rest is e = stmt_front a h (codes "int") refl refl

-- ---- programs

read_head : {ts rest : Kinds} → IsHead ts rest → head ts ≡ Ok (tt, rest)
unfolding head opened
read_head (IsHead.bare {int = int} {main = main} {rest = rest} a b) =
    ap (λ z. head (t.Word z ∷ t.Word main ∷ t.Mark m.OpenParen ∷ t.Mark m.CloseParen ∷ t.Mark m.OpenBrace ∷ rest)) a
    ∙ ap (λ z. head (t.Word (codes "int") ∷ t.Word z ∷ t.Mark m.OpenParen ∷ t.Mark m.CloseParen ∷ t.Mark m.OpenBrace ∷ rest)) b
read_head (IsHead.void {int = int} {main = main} {void = void} {rest = rest} a b c) =
    ap (λ z. head (t.Word z ∷ t.Word main ∷ t.Mark m.OpenParen ∷ t.Word void ∷ t.Mark m.CloseParen ∷ t.Mark m.OpenBrace ∷ rest)) a
    ∙ ap (λ z. head (t.Word (codes "int") ∷ t.Word z ∷ t.Mark m.OpenParen ∷ t.Word void ∷ t.Mark m.CloseParen ∷ t.Mark m.OpenBrace ∷ rest)) b
    ∙ ap (λ z. head (t.Word (codes "int") ∷ t.Word (codes "main") ∷ t.Mark m.OpenParen ∷ t.Word z ∷ t.Mark m.CloseParen ∷ t.Mark m.OpenBrace ∷ rest)) c

module _ {j : ℕ} {us vs ws rest : Kinds} {names : Names} {inits : List (Option Expr)} {ss : List Stmt} {return : List ℕ} {e : Expr} where
  read_inside : IsDecls [] us inits names vs → IsStmts names vs ss (t.Word return ∷ ws) → return ≡ codes "return" → IsSum 63 256 names ws e j (t.Mark m.Semicolon ∷ t.Mark m.CloseBrace ∷ rest) →
      and_then (decls us) body ≡ Ok (record { inits = inits; stmts = ss; result = e }, rest)
  unfolding decls body returned
  read_inside d b r s =
      ap (λ p. and_then p body) (read_decls d (no_int b (all_declared d tt) return ws r refl) 256 refl [])
      ∙ ap (λ p. and_then p (λ ss us. and_then (returned names us) (λ e rest. Ok (built (declared names inits) ss e, rest)))) (read_stmts b (all_declared d tt) return ws r refl [])
      ∙ ap (λ p. and_then (and_then p (λ p. past (is_mark m.Semicolon) (mark m.CloseBrace p.0))) (λ e rest. Ok (built (declared names inits) ss e, rest)))
      (read_sum 63 256 names ws e j (t.Mark m.Semicolon ∷ t.Mark m.CloseBrace ∷ rest) s (stops_semicolon j (t.Mark m.CloseBrace ∷ rest)))

-- a program is read whole
pub read_program : {ts : Kinds} {p : Program} → IsProgram ts p → program ts ≡ Ok (p, [])
unfolding main
read_program (IsProgram.program {ts = ts} {us = us} {inits = inits} {stmts = ss} {e = e} h d b r s) =
    ap (λ p. and_then (and_then p (λ u us. and_then (decls us) body)) end) (read_head h)
    ∙ ap (λ p. and_then p end) (read_inside d b r s)
