-- What is read of declarations and statements is in the grammar, and where reading stops nothing goes on.
use Rattle.std.proofs.Common.{◌≡◌, refl, sym, ◌∙◌, ap, subst, ℕ, zero, suc, ◌+◌, ◌<◌, Bool, true, false, ◌&&◌, nat_le, List, [], ◌∷◌, ◌++◌, length, append_assoc, append-nil, length-append, codes, arith}
use Rattle.std.specs.Prelude.{pos, Option, Some, None, Ok, Err, if◌then◌else◌}
use Rattle.std.proofs.lemmas.Bool.{leb-true}
use Rattle.ec_base.specs.Format.{conversions}
use Rattle.ec_base.specs.declared.token.TokenKind.{TokenKind}
use Rattle.ec_base.specs.declared.token.TokenKind.TheVariants as t
use Rattle.ec_base.specs.declared.token.Mark.{Mark}
use Rattle.ec_base.specs.declared.token.Mark.TheVariants as m
use Rattle.ec_small.specs.declared.tree.Expr.{Expr}
use Rattle.ec_small.specs.declared.tree.Expr.TheVariants.{Number}
use Rattle.ec_small.specs.declared.tree.Stmt.{Stmt}
use Rattle.ec_small.specs.declared.tree.Stmt.TheVariants.{Set, Print}
use Rattle.ec_small.specs.declared.declaration.Declared.{Declared}
use Rattle.ec_small.specs.declared.statement.Format.{Format}
use Rattle.ec_small.specs.Words.{place}
use Rattle.ec_base.specs.Lexical.{AllLexical}
use Rattle.ec_small.specs.Grammar.{Kinds, Names, IsItem, IsProduct, IsSum, IsNew, IsDecls, IsArgs, IsFormat, IsStmt}
use Rattle.ec_small.specs.Descent.{Read, and_then, Sized, is_mark, is_word, only, past, past_some, mark, mark_if, sum, new_word, initial, initialiser, is_int, with_init, decl, decls_on, args_on, few, with_count, format_of, format, printed, print_stmt, set_stmt, variable_of, stmt}
use Rattle.ec_small.proofs.Rules.{Rule, Stuck, Judged}
use Rattle.ec_small.proofs.Sums.{Sums, WholeSums, Stops, local_sum, read_sum, judged_sum}
use Rattle.ec_small.proofs.Parts.{Same, Ended, Told, Right, Here, at_once, stops_here, told_by, sound, told_then, right_then, ended_then, ended_past, right_past, right_some, right_choice}
use Rattle.ec_small.proofs.Fronts.{mark_is, word_is, new_is, new_word_is}
use Rattle.ec_small.proofs.Fresh.{new_name}

-- ---- sums

stops_still : (j : ℕ) (x : TokenKind) (r behind : Kinds) → Stops j (x ∷ r) → Stops j (x ∷ behind)
stops_still zero x r behind s = tt
stops_still (suc j) (t.Mark m.Star) r behind s = s
stops_still (suc j) (t.Mark m.Plus) r behind s = s
stops_still (suc j) (t.Mark m.Minus) r behind s = s
stops_still (suc j) x r behind s = tt

pub right_sum : (n : ℕ) (names : Names) (i : ℕ) → Right (Sums n names i) (sum n names i)
right_sum n names i ts = by (sum n names i ts) (judged_sum n names i ts)
  where
    still : (done r : Kinds) (e : Expr) (j : ℕ) → Stops j r → ((after : Kinds) → IsSum n i names (done ++ after) e j after) → Same (sum n names i) done r (λ us. Ok ((e, j), us))
    still done [] e j s h = tt
    still done (x ∷ r) e j s h = λ behind. read_sum n i names (done ++ (x ∷ behind)) e j (x ∷ behind) (h (x ∷ behind)) (stops_still j x r behind s)

    stuck : (done r : Kinds) → Stuck (sum n names i) done r → Same (sum n names i) done r Err
    stuck done [] s = tt
    stuck done (x ∷ r) s = s

    ended : (done ys : Kinds) (e : Expr) (j : ℕ) → IsSum n i names (done ++ (ys ++ [])) e j [] → AllLexical ys → Ended (Sums n names i) done
    ended done ys e j h lexical =
        let l = local_sum n i names (done ++ (ys ++ [])) e j [] h in
        let same : l.0 ≡ done ++ ys = sym (append-nil l.0) ∙ sym l.1 ∙ ap (λ z. done ++ z) (append-nil ys) in
        (ys, (e, j), (λ after. subst (λ z. IsSum n i names z e j after) (ap (λ z. z ++ after) same ∙ append_assoc done ys after) (l.2 after)), lexical)

    by : (p : Read Sized) → Judged (WholeSums n names i) (Sums n names i) (sum n names i) ts p → Told (Sums n names i) (sum n names i) ts p
    by (Ok p) h = let l = local_sum n i names ts p.0.0 p.0.1 p.1 h.0 in (l.0, l.1, l.2, still l.0 p.1 p.0.0 p.0.1 h.1 l.2)
    by (Err r) o = let q = o.2 [] in (o.0, o.1, ended o.0 q.0 q.1.0 q.1.1 q.2 q.3, stuck o.0 r o.3)

-- a number is a sum
pub ended_sum : (n : ℕ) (names : Names) (i : ℕ) → Ended (Sums n names i) []
ended_sum n names i = (t.Number (pos 0) ∷ [], (Number (pos 0), i), (λ after. IsSum.one (IsProduct.single IsItem.number)), refl)

-- ---- the last token of something

abbrev pub Lasts : {A : Type 0} → Mark → A → Rule A
Lasts mk a us b rest = (us ≡ t.Mark mk ∷ rest) × (a ≡ b)

join_last : {A : Type 0} (mk : Mark) (a : A) (x : TokenKind) (us : Kinds) (b : A) (rest : Kinds) → is_mark mk x ≡ true → Here a us b rest → Lasts mk a (x ∷ us) b rest
join_last mk a x us b rest e h = (ap (λ z. z ∷ us) (mark_is mk x e) ∙ ap (λ l. t.Mark mk ∷ l) h.1, h.0)

pub right_here : {A : Type 0} (a : A) → Right (Here a) (λ rest. Ok (a, rest))
right_here a [] = ([], refl, (λ after. (refl, refl)), tt)
right_here a (x ∷ us) = ([], refl, (λ after. (refl, refl)), λ behind. refl)

pub ended_mark : {A : Type 0} (mk : Mark) (a : A) → Ended (Lasts mk a) []
ended_mark mk a = (t.Mark mk ∷ [], a, (λ after. (refl, refl)), refl)

mark_past : {A : Type 0} (mk : Mark) (a : A) (ts : Kinds) → past (is_mark mk) (λ rest. Ok (a, rest)) ts ≡ mark mk a ts
mark_past mk a [] = refl
mark_past mk a (x ∷ ts) = by (is_mark mk x)
  where
    by : (b : Bool) → only b (Ok (a, ts)) (x ∷ ts) ≡ mark_if b a x ts
    by true = refl
    by false = refl

pub right_mark : {A : Type 0} (mk : Mark) (a : A) → is_mark mk (t.Mark mk) ≡ true → Right (Lasts mk a) (mark mk a)
right_mark {A} mk a e ts =
    subst (λ (f : Kinds → Read A). Told (Lasts mk a) f ts (f ts)) (λ i us. mark_past mk a us i)
    (right_past (is_mark mk) (t.Mark mk) (Here a) (Lasts mk a) (λ rest. Ok (a, rest)) (join_last mk a) e refl ([], a, (λ after. (refl, refl)), refl) (right_here a) ts)

-- ---- declarations

pub data IsInit : Names → Kinds → Option Expr → Kinds → Type 0 where
  plain : {names : Names} {rest : Kinds} → IsInit names (t.Mark m.Semicolon ∷ rest) None rest
  given : {j : ℕ} {names : Names} {ts rest : Kinds} {e : Expr} → IsSum 63 256 names ts e j (t.Mark m.Semicolon ∷ rest) → IsInit names (t.Mark m.Assign ∷ ts) (Some e) rest

abbrev Givens : Names → Rule (Option Expr)
Givens names us o rest = IsInit names (t.Mark m.Assign ∷ us) o rest

right_initial : (names : Names) → Right (Givens names) (initial names)
right_initial names =
    right_then (Sums 63 names 256) (λ p. Lasts m.Semicolon (Some p.0)) (Givens names) (sum 63 names 256) (λ p. mark m.Semicolon (Some p.0)) join
    (λ p. ended_mark m.Semicolon (Some p.0)) (right_sum 63 names 256) (λ p. right_mark m.Semicolon (Some p.0) refl)
  where
    join : (ts : Kinds) (p : Sized) (us : Kinds) (o : Option Expr) (rest : Kinds) → Sums 63 names 256 ts p us → Lasts m.Semicolon (Some p.0) us o rest → Givens names ts o rest
    join ts p us o rest s l = subst (λ z. IsInit names (t.Mark m.Assign ∷ ts) z rest) l.1 (IsInit.given (subst (λ z. IsSum 63 256 names ts p.0 p.1 z) l.0 s))

right_initialiser : (names : Names) → Right (IsInit names) (initialiser names)
unfolding initialiser
right_initialiser names =
    right_choice (is_mark m.Assign) (Givens names) (Lasts m.Semicolon None) (IsInit names) (initial names) (mark m.Semicolon None) join turn (right_initial names) (right_mark m.Semicolon None refl)
  where
    join : (x : TokenKind) (us : Kinds) (o : Option Expr) (rest : Kinds) → is_mark m.Assign x ≡ true → Givens names us o rest → IsInit names (x ∷ us) o rest
    join x us o rest e h = subst (λ z. IsInit names (z ∷ us) o rest) (sym (mark_is m.Assign x e)) h

    turn : (us : Kinds) (o : Option Expr) (rest : Kinds) → Lasts m.Semicolon None us o rest → IsInit names us o rest
    turn us o rest l = subst (λ z. IsInit names us z rest) l.1 (subst (λ z. IsInit names z None rest) (sym l.0) IsInit.plain)

-- a declaration behind the word `int`
pub data IsDecl : Declared → Kinds → Declared → Kinds → Type 0 where
  one : {d : Declared} {w : List ℕ} {us rest : Kinds} {o : Option Expr} → IsNew d.names w → IsInit (d.names ++ w ∷ []) us o rest → IsDecl d (t.Word w ∷ us) (with_init d w o) rest

-- declarations behind those that were read
abbrev pub Decls : Declared → Rule Declared
Decls d ts e rest = (more : List (Option Expr)) × (e.inits ≡ d.inits ++ more) × IsDecls d.names ts more e.names rest

no_decls : (d : Declared) (ts : Kinds) → Decls d ts d ts
no_decls d ts = ([], sym (append-nil d.inits), IsDecls.none)

pub ended_decls : (d : Declared) → Ended (Decls d) []
ended_decls d = ([], d, (λ after. no_decls d after), refl)

-- what stands behind the word `int`, and behind the name
abbrev Ints : Declared → Rule Declared
Ints d us e rest = Decls d (t.Word (codes "int") ∷ us) e rest

abbrev Nameds : Declared → List ℕ → Rule Declared
Nameds d w us e rest = IsNew d.names w → IsDecl d (t.Word w ∷ us) e rest

module _ (d : Declared) where
  join_init : (w : List ℕ) (ts : Kinds) (o : Option Expr) (us : Kinds) (e : Declared) (rest : Kinds) → IsInit (d.names ++ w ∷ []) ts o us → Here (with_init d w o) us e rest → Nameds d w ts e rest
  join_init w ts o us e rest h k = λ new. subst (λ z. IsDecl d (t.Word w ∷ ts) z rest) k.0 (IsDecl.one new (subst (λ z. IsInit (d.names ++ w ∷ []) ts o z) k.1 h))

  join_new : length d.names < 256 → (x : TokenKind) (w : List ℕ) (us : Kinds) (e : Declared) (rest : Kinds) → new_word d.names x ≡ Some w → Nameds d w us e rest → IsDecl d (x ∷ us) e rest
  join_new room x w us e rest is h = let p = new_word_is d.names x w is in subst (λ z. IsDecl d (z ∷ us) e rest) (sym p.0) (h (new_is d.names w p.1 room))

  ended_decl : length d.names < 256 → Ended (IsDecl d) []
  ended_decl room =
      let new = new_name d.names room in
      (t.Word new.0 ∷ t.Mark m.Semicolon ∷ [], with_init d new.0 None, (λ after. IsDecl.one (new_is d.names new.0 new.1 room) IsInit.plain), ap (λ b. b && true) new.2)

  pub right_decl : length d.names < 256 → Right (IsDecl d) (decl d)
  unfolding decl
  right_decl room =
      right_some (new_word d.names) (Nameds d) (IsDecl d) (λ w us. and_then (initialiser (d.names ++ w ∷ []) us) (λ o rest. Ok (with_init d w o, rest))) (join_new room) (ended_decl room)
      (λ x w e. right_then (IsInit (d.names ++ w ∷ [])) (λ o. Here (with_init d w o)) (Nameds d w) (initialiser (d.names ++ w ∷ [])) (λ o rest. Ok (with_init d w o, rest))
      (join_init w) (λ o. ([], with_init d w o, (λ after. (refl, refl)), refl)) (right_initialiser (d.names ++ w ∷ [])) (λ o. right_here (with_init d w o)))

  decls_full : (x : TokenKind) (us : Kinds) (b : Bool) → is_int x ≡ b → Told (Decls d) (decls_on zero d) (x ∷ us) (if b then Err (x ∷ us) else Ok (d, x ∷ us))
  decls_full x us true e = stops_here (Decls d) (decls_on zero d) (x ∷ us) (ended_decls d) (λ behind. ap (λ b. if b then Err (x ∷ behind) else Ok (d, x ∷ behind)) e)
  decls_full x us false e = at_once (Decls d) (decls_on zero d) d (x ∷ us) (no_decls d) (λ behind. ap (λ b. if b then Err (x ∷ behind) else Ok (d, x ∷ behind)) e)

  join_int : (x : TokenKind) (us : Kinds) (e : Declared) (rest : Kinds) → is_int x ≡ true → Ints d us e rest → Decls d (x ∷ us) e rest
  join_int x us e rest is h = subst (λ z. Decls d (z ∷ us) e rest) (sym (word_is (codes "int") x is)) h

  turn_decls : (us : Kinds) (e : Declared) (rest : Kinds) → Here d us e rest → Decls d us e rest
  turn_decls us e rest h = subst (λ z. Decls d us z rest) h.0 (subst (λ z. Decls d us d z) h.1 (no_decls d us))

join_decl : (d : Declared) (ts : Kinds) (e : Declared) (us : Kinds) (f : Declared) (rest : Kinds) → IsDecl d ts e us → Decls e us f rest → Ints d ts f rest
join_decl d ts e us f rest (IsDecl.one {o = None} new IsInit.plain) h = (None ∷ h.0, h.1 ∙ append_assoc d.inits (None ∷ []) h.0, IsDecls.plain refl new h.2)
join_decl d ts e us f rest (IsDecl.one new (IsInit.given {e = x} s)) h = (Some x ∷ h.0, h.1 ∙ append_assoc d.inits (Some x ∷ []) h.0, IsDecls.initial refl new s h.2)

pub one_more : (d e : Declared) (ts us : Kinds) → IsDecl d ts e us → length e.names ≡ length d.names + 1
one_more d e ts us (IsDecl.one {w = w} new h) = length-append d.names (w ∷ [])

pub right_decls : (k : ℕ) (d : Declared) → length d.names + k ≡ 256 → Right (Decls d) (decls_on k d)
right_decls zero d room [] = at_once (Decls d) (decls_on zero d) d [] (no_decls d) tt
right_decls zero d room (x ∷ us) = decls_full d x us (is_int x) refl
right_decls (suc k) d room ts =
    right_choice is_int (Ints d) (Here d) (Decls d) (λ us. and_then (decl d us) (decls_on k)) (λ us. Ok (d, us)) (join_int d) (turn_decls d)
    (λ us. told_then (IsDecl d) Decls (Ints d) (decl d) (decls_on k) (join_decl d) ended_decls us (decl d us) (right_decl d (omega arith) us)
    (λ e vs h. right_decls k e (omega (arith, one_more d e us vs (sound (IsDecl d) (decl d) us e vs h))) vs))
    (right_here d) ts

-- ---- statements

-- arguments behind those that were read, and the closing bracket
abbrev pub Args : ℕ → Names → ℕ → List Expr → Rule (List Expr)
Args count names i es ts all rest = (more : List Expr) × (all ≡ es ++ more) × IsArgs names count i ts more (t.Mark m.CloseParen ∷ rest)

-- what stands behind the comma
abbrev Commas : ℕ → Names → ℕ → List Expr → Rule (List Expr)
Commas count names i es us all rest = Args (suc count) names i es (t.Mark m.Comma ∷ us) all rest

module _ (names : Names) (i : ℕ) (es : List Expr) where
  join_arg : (count : ℕ) (ts : Kinds) (p : Sized) (us : Kinds) (all : List Expr) (rest : Kinds) → Sums 62 names i ts p us → Args count names p.1 (es ++ p.0 ∷ []) us all rest → Commas count names i es ts all rest
  join_arg count ts p us all rest s h = (p.0 ∷ h.0, h.1 ∙ append_assoc es (p.0 ∷ []) h.0, IsArgs.more s h.2)

  join_comma : (count : ℕ) (x : TokenKind) (us : Kinds) (all : List Expr) (rest : Kinds) → is_mark m.Comma x ≡ true → Commas count names i es us all rest → Args (suc count) names i es (x ∷ us) all rest
  join_comma count x us all rest e h = subst (λ z. Args (suc count) names i es (z ∷ us) all rest) (sym (mark_is m.Comma x e)) h

  join_close : (us : Kinds) (all : List Expr) (rest : Kinds) → Lasts m.CloseParen es us all rest → Args zero names i es us all rest
  join_close us all rest l = ([], sym l.1 ∙ sym (append-nil es), subst (λ z. IsArgs names zero i us [] z) l.0 IsArgs.none)

pub ended_args : (count : ℕ) (names : Names) (i : ℕ) (es : List Expr) → Ended (Args count names i es) []
ended_args zero names i es = (t.Mark m.CloseParen ∷ [], es, (λ after. ([], sym (append-nil es), IsArgs.none)), refl)
ended_args (suc count) names i es =
    ended_past (is_mark m.Comma) (t.Mark m.Comma) (Commas count names i es) (Args (suc count) names i es) (args_on (suc count) names i es) (join_comma names i es count) refl refl
    (ended_then (Sums 62 names i) (λ p. Args count names p.1 (es ++ p.0 ∷ [])) (Commas count names i es) (sum 62 names i) (λ p. args_on count names p.1 (es ++ p.0 ∷ []))
    (join_arg names i es count) (ended_sum 62 names i) (λ p. ended_args count names p.1 (es ++ p.0 ∷ [])))

pub right_args : (count : ℕ) (names : Names) (i : ℕ) (es : List Expr) → Right (Args count names i es) (args_on count names i es)
right_args zero names i es ts = told_by (Lasts m.CloseParen es) (Args zero names i es) (mark m.CloseParen es) ts (mark m.CloseParen es ts) (join_close names i es) (right_mark m.CloseParen es refl ts)
right_args (suc count) names i es ts =
    right_past (is_mark m.Comma) (t.Mark m.Comma) (Commas count names i es) (Args (suc count) names i es) next (join_comma names i es count) refl refl
    (ended_then (Sums 62 names i) (λ p. Args count names p.1 (es ++ p.0 ∷ [])) (Commas count names i es) (sum 62 names i) (λ p. args_on count names p.1 (es ++ p.0 ∷ []))
    (join_arg names i es count) (ended_sum 62 names i) (λ p. ended_args count names p.1 (es ++ p.0 ∷ [])))
    (right_then (Sums 62 names i) (λ p. Args count names p.1 (es ++ p.0 ∷ [])) (Commas count names i es) (sum 62 names i) (λ p. args_on count names p.1 (es ++ p.0 ∷ []))
    (join_arg names i es count) (λ p. ended_args count names p.1 (es ++ p.0 ∷ [])) (right_sum 62 names i) (λ p. right_args count names p.1 (es ++ p.0 ∷ [])))
    ts
  where
    next : Kinds → Read (List Expr)
    next = λ us. and_then (sum 62 names i us) (λ p. args_on count names p.1 (es ++ p.0 ∷ []))

-- ---- strings

abbrev pub Formats : Rule Format
Formats us f rest = (us ≡ t.Str f.string ∷ rest) × IsFormat f.string f.count

format_is : (x : TokenKind) (f : Format) → format_of x ≡ Some f → (x ≡ t.Str f.string) × IsFormat f.string f.count
format_is (t.Str s) f h = long (nat_le (length s) 255) refl h
  where
    many : (n : ℕ) (b : Bool) → nat_le n 8 ≡ b → conversions s ≡ Some n → nat_le (length s) 255 ≡ true → with_count s (if b then Some n else None) ≡ Some f → (t.Str s ≡ t.Str f.string) × IsFormat f.string f.count
    many n true e is short h =
        let here : f ≡ record { string = s; count = n } = cc in
        subst (λ g. (t.Str s ≡ t.Str g.string) × IsFormat g.string g.count) (sym here) (refl, record { short = leb-true (length s) 255 short; asks = is; few = leb-true n 8 e })
    many n false e is short h = absurd (cc)

    counted : (o : Option ℕ) → conversions s ≡ o → nat_le (length s) 255 ≡ true → with_count s (few o) ≡ Some f → (t.Str s ≡ t.Str f.string) × IsFormat f.string f.count
    counted None is short h = absurd (cc)
    counted (Some n) is short h = many n (nat_le n 8) refl is short h

    long : (b : Bool) → nat_le (length s) 255 ≡ b → with_count s (if b then few (conversions s) else None) ≡ Some f → (t.Str s ≡ t.Str f.string) × IsFormat f.string f.count
    long true e h = counted (conversions s) refl e h
    long false e h = absurd (cc)
format_is (t.Word w) f h = absurd (cc)
format_is (t.Number n) f h = absurd (cc)
format_is (t.Mark k) f h = absurd (cc)
format_is t.End f h = absurd (cc)

join_format : (x : TokenKind) (f : Format) (us : Kinds) (g : Format) (rest : Kinds) → format_of x ≡ Some f → Here f us g rest → Formats (x ∷ us) g rest
join_format x f us g rest e h =
    let p = format_is x f e in
    subst (λ z. (x ∷ us ≡ t.Str z.string ∷ rest) × IsFormat z.string z.count) h.0 (ap (λ z. z ∷ us) p.0 ∙ ap (λ l. t.Str f.string ∷ l) h.1, p.1)

-- the empty string asks for no argument
abbrev empty : Format
empty = record { string = []; count = 0 }

empty_is : IsFormat [] 0
empty_is = record { short = omega arith; asks = refl; few = omega arith }

right_format : Right Formats format
unfolding format
right_format = right_some format_of (λ f. Here f) Formats (λ f rest. Ok (f, rest)) join_format (t.Str [] ∷ [], empty, (λ after. (refl, empty_is)), refl) (λ x f e. right_here f)

-- ---- statements

-- what stands behind the word `printf`, behind the bracket and behind the string
abbrev Prints : Names → Rule Stmt
Prints names us s rest = IsStmt names (t.Word (codes "printf") ∷ us) s rest

abbrev Brackets : Names → Rule Stmt
Brackets names us s rest = Prints names (t.Mark m.OpenParen ∷ us) s rest

abbrev Strings : Names → Format → Rule Stmt
Strings names f us s rest = IsFormat f.string f.count → Brackets names (t.Str f.string ∷ us) s rest

-- what stands behind a variable, and behind the mark `=`
abbrev Sets : Names → ℕ → Rule Stmt
Sets names k us s rest = (w : List ℕ) → place names w ≡ Some k → IsStmt names (t.Word w ∷ us) s rest

abbrev Values : Names → ℕ → Rule Stmt
Values names k us s rest = Sets names k (t.Mark m.Assign ∷ us) s rest

module _ (names : Names) where
  join_printed : (f : Format) (ts : Kinds) (es : List Expr) (us : Kinds) (s : Stmt) (rest : Kinds) → Args f.count names 254 [] ts es us → Lasts m.Semicolon (Print f.string es) us s rest → Strings names f ts s rest
  join_printed f ts es us s rest h l = λ is.
      let args : IsArgs names f.count 254 ts es (t.Mark m.CloseParen ∷ t.Mark m.Semicolon ∷ rest) = subst (λ z. IsArgs names f.count 254 ts z (t.Mark m.CloseParen ∷ t.Mark m.Semicolon ∷ rest)) (sym h.1) (subst (λ z. IsArgs names f.count 254 ts h.0 (t.Mark m.CloseParen ∷ z)) l.0 h.2) in
      subst (λ z. IsStmt names (t.Word (codes "printf") ∷ t.Mark m.OpenParen ∷ t.Str f.string ∷ ts) z rest) l.1 (IsStmt.print refl is args)

  ended_printed : (f : Format) → Ended (Strings names f) []
  unfolding printed
  ended_printed f =
      ended_then (Args f.count names 254 []) (λ es. Lasts m.Semicolon (Print f.string es)) (Strings names f) (args_on f.count names 254 []) (λ es. mark m.Semicolon (Print f.string es))
      (join_printed f) (ended_args f.count names 254 []) (λ es. ended_mark m.Semicolon (Print f.string es))

  right_printed : (f : Format) → Right (Strings names f) (printed names f)
  unfolding printed
  right_printed f =
      right_then (Args f.count names 254 []) (λ es. Lasts m.Semicolon (Print f.string es)) (Strings names f) (args_on f.count names 254 []) (λ es. mark m.Semicolon (Print f.string es))
      (join_printed f) (λ es. ended_mark m.Semicolon (Print f.string es)) (right_args f.count names 254 []) (λ es. right_mark m.Semicolon (Print f.string es) refl)

  join_string : (ts : Kinds) (f : Format) (us : Kinds) (s : Stmt) (rest : Kinds) → Formats ts f us → Strings names f us s rest → Brackets names ts s rest
  join_string ts f us s rest h k = subst (λ z. Brackets names z s rest) (sym h.0) (k h.1)

  join_bracket : (x : TokenKind) (us : Kinds) (s : Stmt) (rest : Kinds) → is_mark m.OpenParen x ≡ true → Brackets names us s rest → Prints names (x ∷ us) s rest
  join_bracket x us s rest e h = subst (λ z. Prints names (z ∷ us) s rest) (sym (mark_is m.OpenParen x e)) h

  ended_bracket : Ended (Brackets names) []
  ended_bracket = ended_then Formats (Strings names) (Brackets names) format (printed names) join_string (t.Str [] ∷ [], empty, (λ after. (refl, empty_is)), refl) ended_printed

  right_print : Right (Prints names) (print_stmt names)
  unfolding print_stmt
  right_print =
      right_past (is_mark m.OpenParen) (t.Mark m.OpenParen) (Brackets names) (Prints names) (λ us. and_then (format us) (printed names)) join_bracket refl refl ended_bracket
      (right_then Formats (Strings names) (Brackets names) format (printed names) join_string ended_printed right_format right_printed)

  join_value : (k : ℕ) (ts : Kinds) (p : Sized) (us : Kinds) (s : Stmt) (rest : Kinds) → Sums 63 names 255 ts p us → Lasts m.Semicolon (Set k p.0) us s rest → Values names k ts s rest
  join_value k ts p us s rest h l = λ w is. subst (λ z. IsStmt names (t.Word w ∷ t.Mark m.Assign ∷ ts) z rest) l.1 (IsStmt.set is (subst (λ z. IsSum 63 255 names ts p.0 p.1 z) l.0 h))

  join_assign : (k : ℕ) (x : TokenKind) (us : Kinds) (s : Stmt) (rest : Kinds) → is_mark m.Assign x ≡ true → Values names k us s rest → Sets names k (x ∷ us) s rest
  join_assign k x us s rest e h = subst (λ z. Sets names k (z ∷ us) s rest) (sym (mark_is m.Assign x e)) h

  ended_value : (k : ℕ) → Ended (Values names k) []
  ended_value k =
      ended_then (Sums 63 names 255) (λ p. Lasts m.Semicolon (Set k p.0)) (Values names k) (sum 63 names 255) (λ p. mark m.Semicolon (Set k p.0))
      (join_value k) (ended_sum 63 names 255) (λ p. ended_mark m.Semicolon (Set k p.0))

  right_set : (k : ℕ) → Right (Sets names k) (set_stmt names k)
  unfolding set_stmt
  right_set k =
      right_past (is_mark m.Assign) (t.Mark m.Assign) (Values names k) (Sets names k) (λ us. and_then (sum 63 names 255 us) (λ p. mark m.Semicolon (Set k p.0))) (join_assign k) refl refl (ended_value k)
      (right_then (Sums 63 names 255) (λ p. Lasts m.Semicolon (Set k p.0)) (Values names k) (sum 63 names 255) (λ p. mark m.Semicolon (Set k p.0))
      (join_value k) (λ p. ended_mark m.Semicolon (Set k p.0)) (right_sum 63 names 255) (λ p. right_mark m.Semicolon (Set k p.0) refl))

  variable_is : (x : TokenKind) (k : ℕ) → variable_of names x ≡ Some k → (w : List ℕ) × (x ≡ t.Word w) × (place names w ≡ Some k)
  variable_is (t.Word w) k h = (w, refl, h)
  variable_is (t.Number n) k h = absurd (cc)
  variable_is (t.Str s) k h = absurd (cc)
  variable_is (t.Mark mk) k h = absurd (cc)
  variable_is t.End k h = absurd (cc)

  join_variable : (x : TokenKind) (k : ℕ) (us : Kinds) (s : Stmt) (rest : Kinds) → variable_of names x ≡ Some k → Sets names k us s rest → IsStmt names (x ∷ us) s rest
  join_variable x k us s rest e h = let v = variable_is x k e in subst (λ z. IsStmt names (z ∷ us) s rest) (sym v.1) (h v.0 v.2)

  join_print : (x : TokenKind) (us : Kinds) (s : Stmt) (rest : Kinds) → is_word (codes "printf") x ≡ true → Prints names us s rest → IsStmt names (x ∷ us) s rest
  join_print x us s rest e h = subst (λ z. IsStmt names (z ∷ us) s rest) (sym (word_is (codes "printf") x e)) h

  ended_stmt : Ended (IsStmt names) []
  ended_stmt =
      let b = ended_past (is_mark m.OpenParen) (t.Mark m.OpenParen) (Brackets names) (Prints names) (λ us. and_then (format us) (printed names)) join_bracket refl refl ended_bracket in
      (t.Word (codes "printf") ∷ b.0, b.1, b.2, b.3)

  -- no variable need be there: what may stand at the front of a statement is the word `printf`
  right_variable : Right (IsStmt names) (past_some (variable_of names) (set_stmt names))
  right_variable = right_some (variable_of names) (Sets names) (IsStmt names) (set_stmt names) join_variable ended_stmt (λ x k e. right_set k)

  pub right_stmt : Right (IsStmt names) (stmt names)
  unfolding stmt
  right_stmt =
      right_choice (is_word (codes "printf")) (Prints names) (IsStmt names) (IsStmt names) (print_stmt names) (past_some (variable_of names) (set_stmt names)) join_print (λ us s rest h. h)
      right_print right_variable
