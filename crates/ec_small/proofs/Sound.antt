-- Every tree of a small program is sound.
use Rattle.std.proofs.Common.{◌≡◌, refl, sym, ◌∙◌, ap, subst, ℕ, suc, ◌+◌, ◌<◌, ◌≤◌, true, ◌&&◌, nat_lt, nat_le, List, [], ◌∷◌, ◌++◌, length, length-append, Option, Some, arith, lt-ltb, le-leb, eq-eqb}
use Rattle.std.specs.List.{list_all}
use Rattle.std.proofs.lemmas.Bool.{and_from}
use Rattle.ec_base.specs.Format.{conversions}
use Rattle.ec_base.specs.declared.token.Token.{Token}
use Rattle.ec_small.specs.declared.tree.Expr.{Expr}
use Rattle.ec_small.specs.declared.tree.Stmt.{Stmt}
use Rattle.ec_small.specs.declared.tree.Program.{Program}
use Rattle.ec_small.specs.Grammar as g
use Rattle.ec_small.specs.Grammar.{Kinds, Names, IsSum, IsNew, IsDecls, IsArgs, IsFormat, IsStmt, IsStmts, IsProgram, Reads, kinds}
use Rattle.ec_small.specs.Sound.{operators, is_sound, is_sound_init, asks, is_sound_stmt, Sound}
use Rattle.ec_small.proofs.SoundExpr.{place_below, Keeps, sum_keeps, sound_sum}

-- ---- declarations

one_more : (names : Names) (w : List ℕ) → length (names ++ w ∷ []) ≡ length names + 1
one_more names w = length-append names (w ∷ [])

-- each declaration adds a name
pub decls_count : {names after : Names} {ts rest : Kinds} {inits : List (Option Expr)} → IsDecls names ts inits after rest → length after ≡ length names + length inits
decls_count g.IsDecls.none = omega arith
decls_count (g.plain {names = names} {after = after} {w = w} {inits = inits} int new ds) =
    let more : length (names ++ w ∷ []) ≡ length names + 1 = one_more names w in
    let is : length after ≡ length (names ++ w ∷ []) + length inits = decls_count ds in
    omega arith
decls_count (g.initial {names = names} {after = after} {w = w} {inits = inits} int new s ds) =
    let more : length (names ++ w ∷ []) ≡ length names + 1 = one_more names w in
    let is : length after ≡ length (names ++ w ∷ []) + length inits = decls_count ds in
    omega arith

-- there is room for each name
few_decls : {names after : Names} {ts rest : Kinds} {inits : List (Option Expr)} → IsDecls names ts inits after rest → length names ≤ 256 → length after ≤ 256
few_decls g.IsDecls.none few = few
few_decls (g.plain {names = names} {w = w} int new ds) few =
    let more : length (names ++ w ∷ []) ≡ length names + 1 = one_more names w in
    let room : length names < 256 = new.room in
    few_decls ds (omega arith)
few_decls (g.initial {names = names} {w = w} int new s ds) few =
    let more : length (names ++ w ∷ []) ≡ length names + 1 = one_more names w in
    let room : length names < 256 = new.room in
    few_decls ds (omega arith)

-- an initialiser is sound over all names that are declared in the end
sound_inits : {names after : Names} {ts rest : Kinds} {inits : List (Option Expr)} → IsDecls names ts inits after rest → (count : ℕ) → length after ≤ count → list_all (is_sound_init count) inits ≡ true
sound_inits g.IsDecls.none count all = refl
sound_inits (g.plain int new ds) count all = sound_inits ds count all
sound_inits (g.initial {names = names} {after = after} {w = w} {e = e} {inits = inits} int new s ds) count all =
    let is : length after ≡ length (names ++ w ∷ []) + length inits = decls_count ds in
    and_from (is_sound count e) (list_all (is_sound_init count) inits) (sound_sum s (omega arith) count (omega arith)) (sound_inits ds count all)

-- ---- statements

-- so many arguments, as the rule says
args_count : {names : Names} {count i : ℕ} {ts rest : Kinds} {es : List Expr} → IsArgs names count i ts es rest → length es ≡ count
args_count g.IsArgs.none = refl
args_count (g.IsArgs.more s es_are) = ap suc (args_count es_are)

sound_args : {names : Names} {count i : ℕ} {ts rest : Kinds} {es : List Expr} → IsArgs names count i ts es rest → i ≤ 256 → list_all (is_sound (length names)) es ≡ true
sound_args g.IsArgs.none small = refl
sound_args (g.IsArgs.more {i = i} {j = j} {names = names} {e = e} {es = es} s es_are) small =
    let x : Keeps names i e j = sum_keeps s in
    let room : operators e + j ≤ i = x.room in
    and_from (is_sound (length names) e) (list_all (is_sound (length names)) es) (sound_sum s small (length names) (omega arith)) (sound_args es_are (omega arith))

asks_same : (n : ℕ) (o : Option ℕ) → o ≡ Some n → asks o n ≡ true
asks_same n o is = ap (λ o. asks o n) is ∙ eq-eqb n n refl

sound_stmt : {names : Names} {ts rest : Kinds} {s : Stmt} → IsStmt names ts s rest → is_sound_stmt (length names) s ≡ true
sound_stmt (g.set {k = k} {names = names} {w = w} {e = e} is h) =
    and_from (nat_lt k (length names)) (is_sound (length names) e) (lt-ltb k (length names) (place_below names w k is)) (sound_sum h (omega arith) (length names) (omega arith))
sound_stmt (g.print {count = count} {names = names} {s = s} {es = es} is format args) =
    let so : length es ≡ count = args_count args in
    let short : length s ≤ 255 = format.short in
    let few : count ≤ 8 = format.few in
    let is_short = nat_le (length s) 255 in
    let is_asked = asks (conversions s) (length es) in
    let is_few = nat_le (length es) 8 in
    let asked : is_asked ≡ true = asks_same (length es) (conversions s) (format.asks ∙ ap Some (sym so)) in
    and_from (is_short && is_asked && is_few) (list_all (is_sound (length names)) es)
    (and_from (is_short && is_asked) is_few (and_from is_short is_asked (le-leb (length s) 255 short) asked) (le-leb (length es) 8 (omega arith)))
    (sound_args args (omega arith))

sound_stmts : {names : Names} {ts rest : Kinds} {ss : List Stmt} → IsStmts names ts ss rest → list_all (is_sound_stmt (length names)) ss ≡ true
sound_stmts g.IsStmts.none = refl
sound_stmts (g.IsStmts.more {names = names} {s = s} {ss = ss} h hs) =
    and_from (is_sound_stmt (length names) s) (list_all (is_sound_stmt (length names)) ss) (sound_stmt h) (sound_stmts hs)

-- ---- programs

-- the tree of a small program is sound
pub sound : (ts : Kinds) (p : Program) → IsProgram ts p → Sound p
sound ts p (g.program {names = names} {inits = inits} {stmts = stmts} {e = e} head decls stmts_are return result) =
    let counted : length names ≡ 0 + length inits = decls_count decls in
    let is : length names ≡ length inits = omega arith in
    let few : length names ≤ 256 = few_decls decls (omega arith) in
    record {
      few = omega arith;
      inits = sound_inits decls (length inits) (omega arith);
      stmts = subst (λ n. list_all (is_sound_stmt n) stmts ≡ true) is (sound_stmts stmts_are);
      result = sound_sum result (omega arith) (length inits) (omega arith);
    }

pub sound_read : (tokens : List Token) (p : Program) → Reads tokens p → Sound p
sound_read tokens p h = sound (kinds tokens) p h
