-- What is read of statements in a row and of whole programs is in the grammar, and where reading stops nothing goes on.
use Rattle.std.proofs.Common.{◌≡◌, refl, sym, ◌∙◌, ap, subst, ℕ, zero, suc, ◌<◌, ◌≤◌, Bool, true, false, List, [], ◌∷◌, ◌++◌, length, append_assoc, append-nil, codes, arith}
use Rattle.std.specs.Prelude.{Ok, Err, if◌then◌else◌}
use Rattle.ec_base.specs.declared.token.TokenKind.{TokenKind}
use Rattle.ec_base.specs.declared.token.TokenKind.TheVariants as t
use Rattle.ec_base.specs.declared.token.Mark.TheVariants as m
use Rattle.ec_small.specs.declared.tree.Expr.{Expr}
use Rattle.ec_small.specs.declared.tree.Stmt.{Stmt}
use Rattle.ec_small.specs.declared.tree.Program.{Program}
use Rattle.ec_small.specs.declared.declaration.Declared.{Declared}
use Rattle.ec_small.specs.Grammar.{Kinds, Names, IsSum, IsDecls, IsArgs, IsStmt, IsStmts, IsHead}
use Rattle.ec_small.specs.Descent.{Read, and_then, Sized, is_mark, is_word, past, past_or, mark, sum, is_int, decls, stmt, is_return, stmts_on, stmts, opened, no_params, head, returned, body, main}
use Rattle.ec_small.proofs.Rules.{Rule}
use Rattle.ec_small.proofs.Sums.{Sums, shorter_sum}
use Rattle.ec_small.proofs.Parts.{Ended, Told, Right, Here, sound, told_choice, told_then, right_then, ended_then, ended_past, right_past, right_choice}
use Rattle.ec_small.proofs.Fronts.{mark_is, word_is}
use Rattle.ec_small.proofs.Statements.{Lasts, ended_mark, right_mark, right_here, right_sum, ended_sum, Decls, ended_decls, right_decls, right_stmt}

-- ---- a statement has tokens

shorter_args : {names : Names} {count i : ℕ} {ts rest : Kinds} {es : List Expr} → IsArgs names count i ts es rest → length rest ≤ length ts
shorter_args IsArgs.none = omega arith
shorter_args (IsArgs.more {i = i} {j = j} {names = names} {ts = ts} {us = us} {e = e} s h) = omega (arith, shorter_sum 62 i names ts e j us s, shorter_args h)

pub shorter_stmt : {names : Names} {ts rest : Kinds} {s : Stmt} → IsStmt names ts s rest → length rest < length ts
shorter_stmt (IsStmt.set {j = j} {names = names} {ts = ts} {rest = rest} {e = e} p s) = omega (arith, shorter_sum 63 255 names ts e j (t.Mark m.Semicolon ∷ rest) s)
shorter_stmt (IsStmt.print w f h) = omega (arith, shorter_args h)

-- ---- the turns that are left don't matter

module _ (k k' : ℕ) (names : Names) (ss : List Stmt)
    (same : (s : Stmt) (rest : Kinds) → length rest < k → length rest < k' → stmts_on k names (ss ++ s ∷ []) rest ≡ stmts_on k' names (ss ++ s ∷ []) rest) where
  same_next : (x : TokenKind) (us : Kinds) (p : Read Stmt) → Told (IsStmt names) (stmt names) (x ∷ us) p → length us < k → length us < k' →
      and_then p (λ s. stmts_on k names (ss ++ s ∷ [])) ≡ and_then p (λ s. stmts_on k' names (ss ++ s ∷ []))
  same_next x us (Err r) h a b = refl
  same_next x us (Ok p) h a b =
      let short : length p.1 < length (x ∷ us) = shorter_stmt (sound (IsStmt names) (stmt names) (x ∷ us) p.0 p.1 h) in
      same p.0 p.1 (omega arith) (omega arith)

  same_turn : (ts : Kinds) → length ts ≤ k → length ts ≤ k' → stmts_on (suc k) names ss ts ≡ stmts_on (suc k') names ss ts
  unfolding stmt
  same_turn [] a b = refl
  same_turn (x ∷ us) a b = by (is_return x)
    where
      by : (b : Bool) → (if b then Ok (ss, us) else and_then (stmt names (x ∷ us)) (λ s. stmts_on k names (ss ++ s ∷ []))) ≡ (if b then Ok (ss, us) else and_then (stmt names (x ∷ us)) (λ s. stmts_on k' names (ss ++ s ∷ [])))
      by true = refl
      by false = same_next x us (stmt names (x ∷ us)) (right_stmt names (x ∷ us)) (omega arith) (omega arith)

turns_enough : (k k' : ℕ) (names : Names) (ss : List Stmt) (ts : Kinds) → length ts < k → length ts < k' → stmts_on k names ss ts ≡ stmts_on k' names ss ts
turns_enough zero k' names ss ts a b = absurd (omega arith)
turns_enough (suc k) zero names ss ts a b = absurd (omega arith)
turns_enough (suc k) (suc k') names ss ts a b = same_turn k k' names ss (λ s rest. turns_enough k k' names (ss ++ s ∷ []) rest) ts (omega arith) (omega arith)

-- a statement and those behind it
abbrev pub more_stmts : Names → List Stmt → Kinds → Read (List Stmt)
more_stmts names ss ts = and_then (stmt names ts) (λ s. stmts names (ss ++ s ∷ []))

abbrev stmts_next : Names → List Stmt → Kinds → Read (List Stmt)
stmts_next names ss = past_or is_return (λ rest. Ok (ss, rest)) (more_stmts names ss)

module _ (names : Names) (ss : List Stmt) where
  next_once : (x : TokenKind) (us : Kinds) (p : Read Stmt) → Told (IsStmt names) (stmt names) (x ∷ us) p →
      and_then p (λ s. stmts_on (suc (length us)) names (ss ++ s ∷ [])) ≡ and_then p (λ s. stmts names (ss ++ s ∷ []))
  unfolding stmts
  next_once x us (Err r) h = refl
  next_once x us (Ok p) h =
      let short : length p.1 < length (x ∷ us) = shorter_stmt (sound (IsStmt names) (stmt names) (x ∷ us) p.0 p.1 h) in
      turns_enough (suc (length us)) (suc (length p.1)) names (ss ++ p.0 ∷ []) p.1 (omega arith) (omega arith)

  pub stmts_once : (ts : Kinds) → stmts names ss ts ≡ stmts_next names ss ts
  unfolding stmts stmt
  stmts_once [] = refl
  stmts_once (x ∷ us) = ap (λ p. if is_return x then Ok (ss, us) else p) (next_once x us (stmt names (x ∷ us)) (right_stmt names (x ∷ us)))

-- ---- statements in a row

-- statements behind those that were read, and the word `return`
abbrev pub Stmts : Names → List Stmt → Rule (List Stmt)
Stmts names ss ts all rest = (more : List Stmt) × (all ≡ ss ++ more) × IsStmts names ts more (t.Word (codes "return") ∷ rest)

module _ (names : Names) (ss : List Stmt) where
  no_stmts : (rest : Kinds) → Stmts names ss (t.Word (codes "return") ∷ rest) ss rest
  no_stmts rest = ([], sym (append-nil ss), IsStmts.none)

  join_return : (x : TokenKind) (us : Kinds) (all : List Stmt) (rest : Kinds) → is_return x ≡ true → Here ss us all rest → Stmts names ss (x ∷ us) all rest
  join_return x us all rest e h =
      subst (λ z. Stmts names ss (z ∷ us) all rest) (sym (word_is (codes "return") x e)) (subst (λ z. Stmts names ss (t.Word (codes "return") ∷ z) all rest) (sym h.1) (subst (λ z. Stmts names ss (t.Word (codes "return") ∷ rest) z rest) h.0 (no_stmts rest)))

  join_stmt : (ts : Kinds) (s : Stmt) (us : Kinds) (all : List Stmt) (rest : Kinds) → IsStmt names ts s us → Stmts names (ss ++ s ∷ []) us all rest → Stmts names ss ts all rest
  join_stmt ts s us all rest h k = (s ∷ k.0, k.1 ∙ append_assoc ss (s ∷ []) k.0, IsStmts.more h k.2)

pub ended_stmts : (names : Names) (ss : List Stmt) → Ended (Stmts names ss) []
ended_stmts names ss = (t.Word (codes "return") ∷ [], ss, no_stmts names ss, refl)

module _ (names : Names) where
  told_stmts : (n : ℕ) (ss : List Stmt) (ts : Kinds) → length ts < n → Told (Stmts names ss) (stmts names ss) ts (stmts names ss ts)
  told_stmts zero ss ts short = absurd (omega arith)
  told_stmts (suc n) ss ts short =
      let told : Told (Stmts names ss) (stmts_next names ss) ts (stmts_next names ss ts) =
      told_choice is_return (Here ss) (Stmts names ss) (Stmts names ss) (λ rest. Ok (ss, rest)) (more_stmts names ss) (join_return names ss) (λ us all rest h. h) ts (right_here ss)
      (told_then (IsStmt names) (λ s. Stmts names (ss ++ s ∷ [])) (Stmts names ss) (stmt names) (λ s. stmts names (ss ++ s ∷ [])) (join_stmt names ss) (λ s. ended_stmts names (ss ++ s ∷ [])) ts (stmt names ts)
      (right_stmt names ts)
      (λ s us h. let less : length us < length ts = shorter_stmt (sound (IsStmt names) (stmt names) ts s us h) in told_stmts n (ss ++ s ∷ []) us (omega arith))) in
      subst (λ (f : Kinds → Read (List Stmt)). Told (Stmts names ss) f ts (f ts)) (λ i us. sym (stmts_once names ss us) i) told

  pub right_stmts : (ss : List Stmt) → Right (Stmts names ss) (stmts names ss)
  right_stmts ss ts = told_stmts (suc (length ts)) ss ts (omega arith)

-- ---- the head

abbrev Openeds : Rule (Unit {0})
Openeds us u rest = us ≡ t.Mark m.CloseParen ∷ t.Mark m.OpenBrace ∷ rest

-- what stands behind the word `int`, behind the word `main`, and behind the bracket
abbrev pub Heads : Rule (Unit {0})
Heads ts u rest = IsHead ts rest

abbrev Mains : Rule (Unit {0})
Mains us u rest = IsHead (t.Word (codes "int") ∷ us) rest

abbrev Brackets : Rule (Unit {0})
Brackets us u rest = Mains (t.Word (codes "main") ∷ us) u rest

abbrev Params : Rule (Unit {0})
Params us u rest = Brackets (t.Mark m.OpenParen ∷ us) u rest

join_close : (x : TokenKind) (us : Kinds) (u : Unit {0}) (rest : Kinds) → is_mark m.CloseParen x ≡ true → Lasts m.OpenBrace (tt {0}) us u rest → Openeds (x ∷ us) u rest
join_close x us u rest e l = ap (λ z. z ∷ us) (mark_is m.CloseParen x e) ∙ ap (λ z. t.Mark m.CloseParen ∷ z) l.0

right_opened : Right Openeds opened
unfolding opened
right_opened = right_past (is_mark m.CloseParen) (t.Mark m.CloseParen) (Lasts m.OpenBrace (tt {0})) Openeds (mark m.OpenBrace (tt {0})) join_close refl refl (ended_mark m.OpenBrace (tt {0})) (right_mark m.OpenBrace (tt {0}) refl)

join_void : (x : TokenKind) (us : Kinds) (u : Unit {0}) (rest : Kinds) → is_word (codes "void") x ≡ true → Openeds us u rest → Params (x ∷ us) u rest
join_void x us u rest e h = subst (λ z. Params (z ∷ us) u rest) (sym (word_is (codes "void") x e)) (subst (λ z. Params (t.Word (codes "void") ∷ z) u rest) (sym h) (IsHead.void refl refl refl))

turn_bare : (us : Kinds) (u : Unit {0}) (rest : Kinds) → Openeds us u rest → Params us u rest
turn_bare us u rest h = subst (λ z. Params z u rest) (sym h) (IsHead.bare refl refl)

right_params : Right Params no_params
right_params = right_choice (is_word (codes "void")) Openeds Openeds Params opened opened join_void turn_bare right_opened right_opened

join_bracket : (x : TokenKind) (us : Kinds) (u : Unit {0}) (rest : Kinds) → is_mark m.OpenParen x ≡ true → Params us u rest → Brackets (x ∷ us) u rest
join_bracket x us u rest e h = subst (λ z. Brackets (z ∷ us) u rest) (sym (mark_is m.OpenParen x e)) h

join_main : (x : TokenKind) (us : Kinds) (u : Unit {0}) (rest : Kinds) → is_word (codes "main") x ≡ true → Brackets us u rest → Mains (x ∷ us) u rest
join_main x us u rest e h = subst (λ z. Mains (z ∷ us) u rest) (sym (word_is (codes "main") x e)) h

join_int : (x : TokenKind) (us : Kinds) (u : Unit {0}) (rest : Kinds) → is_int x ≡ true → Mains us u rest → Heads (x ∷ us) u rest
join_int x us u rest e h = subst (λ z. Heads (z ∷ us) u rest) (sym (word_is (codes "int") x e)) h

ended_params : Ended Params []
ended_params = (t.Mark m.CloseParen ∷ t.Mark m.OpenBrace ∷ [], tt, (λ after. IsHead.bare refl refl), refl)

ended_bracket : Ended Brackets []
ended_bracket = ended_past (is_mark m.OpenParen) (t.Mark m.OpenParen) Params Brackets no_params join_bracket refl refl ended_params

ended_main : Ended Mains []
ended_main = ended_past (is_word (codes "main")) (t.Word (codes "main")) Brackets Mains (past (is_mark m.OpenParen) no_params) join_main refl refl ended_bracket

right_head : Right Heads head
unfolding head
right_head =
    right_past is_int (t.Word (codes "int")) Mains Heads (past (is_word (codes "main")) (past (is_mark m.OpenParen) no_params)) join_int refl refl ended_main
    (right_past (is_word (codes "main")) (t.Word (codes "main")) Brackets Mains (past (is_mark m.OpenParen) no_params) join_main refl refl ended_bracket
    (right_past (is_mark m.OpenParen) (t.Mark m.OpenParen) Params Brackets no_params join_bracket refl refl ended_params right_params))

-- ---- the result, the statements before it and the declarations before them

abbrev pub Results : Names → Rule Expr
Results names ts e rest = (j : ℕ) × IsSum 63 256 names ts e j (t.Mark m.Semicolon ∷ t.Mark m.CloseBrace ∷ rest)

abbrev Closes : Expr → Rule Expr
Closes e us b rest = (us ≡ t.Mark m.Semicolon ∷ t.Mark m.CloseBrace ∷ rest) × (e ≡ b)

module _ (names : Names) where
  join_semicolon : (e : Expr) (x : TokenKind) (us : Kinds) (b : Expr) (rest : Kinds) → is_mark m.Semicolon x ≡ true → Lasts m.CloseBrace e us b rest → Closes e (x ∷ us) b rest
  join_semicolon e x us b rest is l = (ap (λ z. z ∷ us) (mark_is m.Semicolon x is) ∙ ap (λ z. t.Mark m.Semicolon ∷ z) l.0, l.1)

  ended_closes : (e : Expr) → Ended (Closes e) []
  ended_closes e = (t.Mark m.Semicolon ∷ t.Mark m.CloseBrace ∷ [], e, (λ after. (refl, refl)), refl)

  join_result : (ts : Kinds) (p : Sized) (us : Kinds) (b : Expr) (rest : Kinds) → Sums 63 names 256 ts p us → Closes p.0 us b rest → Results names ts b rest
  join_result ts p us b rest s c = (p.1, subst (λ z. IsSum 63 256 names ts z p.1 (t.Mark m.Semicolon ∷ t.Mark m.CloseBrace ∷ rest)) c.1 (subst (λ z. IsSum 63 256 names ts p.0 p.1 z) c.0 s))

  ended_result : Ended (Results names) []
  unfolding returned
  ended_result =
      ended_then (Sums 63 names 256) (λ p. Closes p.0) (Results names) (sum 63 names 256) (λ p. past (is_mark m.Semicolon) (mark m.CloseBrace p.0)) join_result (ended_sum 63 names 256) (λ p. ended_closes p.0)

  right_result : Right (Results names) (returned names)
  unfolding returned
  right_result =
      right_then (Sums 63 names 256) (λ p. Closes p.0) (Results names) (sum 63 names 256) (λ p. past (is_mark m.Semicolon) (mark m.CloseBrace p.0)) join_result (λ p. ended_closes p.0) (right_sum 63 names 256)
      (λ p. right_past (is_mark m.Semicolon) (t.Mark m.Semicolon) (Lasts m.CloseBrace p.0) (Closes p.0) (mark m.CloseBrace p.0) (join_semicolon p.0) refl refl (ended_mark m.CloseBrace p.0) (right_mark m.CloseBrace p.0 refl))

-- statements, the word `return` and the result
pub record IsBody (names : Names) (ts : Kinds) (ss : List Stmt) (e : Expr) (rest : Kinds) : Type 0 where
  pub left : Kinds
  pub stmts : IsStmts names ts ss (t.Word (codes "return") ∷ left)
  pub result : Results names left e rest

abbrev pub Bodies : Declared → Rule Program
Bodies d ts p rest = (p.inits ≡ d.inits) × IsBody d.names ts p.stmts p.result rest

-- what stands behind the word `return`
abbrev Returns : Declared → List Stmt → Rule Program
Returns d ss us p rest = (p.inits ≡ d.inits) × (p.stmts ≡ ss) × Results d.names us p.result rest

abbrev pub built : Declared → List Stmt → Expr → Program
built d ss e = record { inits = d.inits; stmts = ss; result = e }

module _ (d : Declared) where
  join_built : (ss : List Stmt) (ts : Kinds) (e : Expr) (us : Kinds) (p : Program) (rest : Kinds) → Results d.names ts e us → Here (built d ss e) us p rest → Returns d ss ts p rest
  join_built ss ts e us p rest r h =
      subst (λ z. (z.inits ≡ d.inits) × (z.stmts ≡ ss) × Results d.names ts z.result rest) h.0 (refl, refl, subst (λ z. Results d.names ts e z) h.1 r)

  ended_built : (ss : List Stmt) (e : Expr) → Ended (Here (built d ss e)) []
  ended_built ss e = ([], built d ss e, (λ after. (refl, refl)), refl)

  ended_returns : (ss : List Stmt) → Ended (Returns d ss) []
  ended_returns ss = ended_then (Results d.names) (λ e. Here (built d ss e)) (Returns d ss) (returned d.names) (λ e rest. Ok (built d ss e, rest)) (join_built ss) (ended_result d.names) (ended_built ss)

  right_returns : (ss : List Stmt) → Right (Returns d ss) (λ us. and_then (returned d.names us) (λ e rest. Ok (built d ss e, rest)))
  right_returns ss = right_then (Results d.names) (λ e. Here (built d ss e)) (Returns d ss) (returned d.names) (λ e rest. Ok (built d ss e, rest)) (join_built ss) (ended_built ss) (right_result d.names) (λ e. right_here (built d ss e))

  join_body : (ts : Kinds) (ss : List Stmt) (us : Kinds) (p : Program) (rest : Kinds) → Stmts d.names [] ts ss us → Returns d ss us p rest → Bodies d ts p rest
  join_body ts ss us p rest s r =
      (r.0, record { left = us; stmts = subst (λ z. IsStmts d.names ts z (t.Word (codes "return") ∷ us)) (sym s.1 ∙ sym r.1) s.2; result = r.2 })

  ended_body : Ended (Bodies d) []
  unfolding body
  ended_body = ended_then (Stmts d.names []) (Returns d) (Bodies d) (stmts d.names []) (λ ss us. and_then (returned d.names us) (λ e rest. Ok (built d ss e, rest))) join_body (ended_stmts d.names []) ended_returns

  right_body : Right (Bodies d) (body d)
  unfolding body
  right_body = right_then (Stmts d.names []) (Returns d) (Bodies d) (stmts d.names []) (λ ss us. and_then (returned d.names us) (λ e rest. Ok (built d ss e, rest))) join_body ended_returns (right_stmts d.names []) right_returns

-- declarations and what stands behind them
pub record IsInside (ts : Kinds) (p : Program) (rest : Kinds) : Type 0 where
  pub names : Names
  pub left : Kinds
  pub decls : IsDecls [] ts p.inits names left
  pub body : IsBody names left p.stmts p.result rest

pub record IsMain (ts : Kinds) (p : Program) (rest : Kinds) : Type 0 where
  pub left : Kinds
  pub head : IsHead ts left
  pub inside : IsInside left p rest

-- nothing was declared
abbrev pub nothing : Declared
nothing = record { names = []; inits = [] }

join_decls : (ts : Kinds) (d : Declared) (us : Kinds) (p : Program) (rest : Kinds) → Decls nothing ts d us → Bodies d us p rest → IsInside ts p rest
join_decls ts d us p rest h b = record { names = d.names; left = us; decls = subst (λ z. IsDecls [] ts z d.names us) (sym h.1 ∙ sym b.0) h.2; body = b.1 }

right_all_decls : Right (Decls nothing) decls
unfolding decls
right_all_decls = right_decls 256 nothing refl

right_inside : Right IsInside (λ us. and_then (decls us) body)
right_inside = right_then (Decls nothing) Bodies IsInside decls body join_decls ended_body right_all_decls right_body

ended_inside : Ended IsInside []
ended_inside = ended_then (Decls nothing) Bodies IsInside decls body join_decls (ended_decls nothing) ended_body

join_head : (ts : Kinds) (u : Unit {0}) (us : Kinds) (p : Program) (rest : Kinds) → Heads ts u us → IsInside us p rest → IsMain ts p rest
join_head ts u us p rest h i = record { left = us; head = h; inside = i }

pub right_main : Right IsMain main
unfolding main
right_main = right_then Heads (λ u. IsInside) IsMain head (λ u us. and_then (decls us) body) join_head (λ u. ended_inside) right_head (λ u. right_inside)
