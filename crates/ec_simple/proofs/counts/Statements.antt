-- Each statement that is read keeps to counts, and weighs no more than its tokens.
use Rattle.std.proofs.Common.{◌≡◌, refl, ◌∙◌, ap, ℕ, zero, suc, ◌+◌, ◌≤◌, true, List, [], ◌∷◌, ◌++◌, length, Some, None, codes, arith}
use Rattle.std.proofs.lemmas.List.{length-append}
use Rattle.ec_base.specs.declared.limits.TheConstants.{MAX_BRANCHES, MAX_PRINT_ARGUMENTS, MAX_STRING}
use Rattle.ec_base.specs.declared.token.Mark.TheVariants as m
use Rattle.ec_base.specs.declared.token.Span.{Span}
use Rattle.ec_simple.specs.Counts.{stmt_keeps, stmts_keep, size, sizes}
use Rattle.ec_syntax.specs.declared.expression.Expr.{Expr}
use Rattle.ec_syntax.specs.declared.quantity.Quantity.TheVariants.{Arguments, Branches}
use Rattle.ec_syntax.specs.declared.statement.Assign.{Assign}
use Rattle.ec_syntax.specs.declared.statement.Body.{roll-Body}
use Rattle.ec_syntax.specs.declared.statement.Stmt.{Stmt}
use Rattle.ec_syntax.specs.declared.statement.StmtKind.{StmtKind}
use Rattle.ec_syntax.specs.declared.statement.StmtKind.TheVariants as v
use Rattle.ec_syntax.specs.Grammar.Expressions as E
use Rattle.ec_syntax.specs.Grammar.Language as L
use Rattle.ec_syntax.specs.Grammar.Language.{Language, ◌>>=◌, ◌>>◌}
use Rattle.ec_syntax.specs.Grammar.Statements as S
use Rattle.ec_syntax.specs.Grammar.Statements.Form.{Braced, Bare}
use Rattle.ec_syntax.specs.Grammar.Tokens as T
use Rattle.ec_types.specs.Meaning.Resolution.{Scope}
use Rattle.ec_simple.proofs.counts.Costs.{Costs, steady_costs, given_costs, token_costs, then_costs, either_costs, never_costs, turns_cost, part_costs, kth_costs, placed_costs, made_costs, before_mark, bracketed_costs, header_costs}
use Rattle.ec_simple.proofs.counts.Grammar.{word_steady, mark_steady, expr_steady, bracketed_steady, pair_steady, header_steady, assignment_steady, call_steady, declaration_steady}
use Rattle.ec_simple.proofs.counts.Steady.{Steady, steady_bind, steady_turns, steady_maybe, steady_part, steady_lacks, token_read}
use Rattle.ec_simple.proofs.counts.Trees.{tree, trees, inside, kind, sizes_more, keep_more, Light, empty_light, set_light, eval_light, write_to_light, add_to_light, return_light, print_light, stmt_is, body_is, Is, block_is, par_is, if_else_is, only_if_is, Holding, while_holds, for_holds, forall_holds}

-- one item more, within a limit
one_more : {A : Type 0} (xs : List A) (x : A) (most : ℕ) → suc (length xs) ≤ most → length (xs ++ x ∷ []) ≤ most
one_more xs x most h = let n = length-append xs (x ∷ []) in omega (arith, n, h)

string_costs : (d w : ℕ) → Costs (T.string d) w (λ _. w) (λ s. length s ≤ MAX_STRING)
string_costs d w = record {
  each = λ s a m r.
      let h : suc (length m.left) ≡ length s.left = (token_read s a m r).shorter in
      (r.within.0, omega (arith, h));
}

arguments_cost :
    (d w : ℕ) {value : Language Expr} → Steady value →
    Costs (T.listed d (λ es. L.kth Arguments (suc (length es)) value) []) w (λ _. w)
    (λ es. length es ≤ MAX_PRINT_ARGUMENTS)
arguments_cost d w {value} h = turns_cost one (omega arith) (omega arith)
  where
    one :
        (es : List Expr) → length es ≤ MAX_PRINT_ARGUMENTS →
        Costs (L.◌>>◌ (T.mark d m.Comma) (L.append (L.kth Arguments (suc (length es)) value) es)) w (λ _. w)
        (λ fs. length fs ≤ MAX_PRINT_ARGUMENTS)
    one es few =
        then_costs (steady_costs (mark_steady d m.Comma) w) (λ _ _.
        made_costs (λ e. es ++ e ∷ []) (kth_costs Arguments (suc (length es)) (steady_costs h w))
        (λ e k. (omega arith, one_more es e MAX_PRINT_ARGUMENTS k.0)))

module _ (c : Scope) where
  -- each statement that is read keeps to counts and is paid for
  abbrev pub Fits : Language Stmt → Type 0
  Fits l = (w : ℕ) → Costs l w (λ x. w + size (tree c x)) (λ x. stmt_keeps (tree c x) ≡ true)

  abbrev KindFits : Language StmtKind → Type 0
  KindFits p = (w : ℕ) (at : Span) → Costs p w (λ x. w + size (kind c x at)) (λ x. stmt_keeps (kind c x at) ≡ true)

  or_fits : {p q : Language Stmt} → Fits p → Fits q → Fits (L.◌or◌ p q)
  or_fits h k w = either_costs (h w) (k w)

  placed_fits : {p : Language StmtKind} → KindFits p → Fits (L.placed S.statement p)
  placed_fits h w =
      placed_costs S.statement (h w) (λ x at k.
      let e = stmt_is c x at in
      let n = ap size e in
      (omega (arith, n), ap stmt_keeps e ∙ k))

  -- ---- statements that hold no others, which their `;` pays for

  abbrev LightFits : Language StmtKind → Type 0
  LightFits p = (w : ℕ) → Costs p w (λ _. w) (Light c)

  ended_fits : (d : ℕ) {p : Language StmtKind} → LightFits p → Fits (S.ended d p)
  ended_fits d h =
      placed_fits (λ w at. then_costs (h w) (λ x k. then_costs (token_costs w) (λ _ _.
      let n = (k at).0 in
      given_costs (omega (arith, n)) (k at).1)))

  closed_fits : (d : ℕ) {p : Language StmtKind} → LightFits p → Fits (S.closed d p)
  closed_fits d {p} h w =
      then_costs there (λ s k. then_costs (token_costs w) (λ _ _.
      let n = k.0 in
      given_costs (omega (arith, n)) k.1))
    where
      there :
          Costs (L.placed S.statement p) w (λ _. w)
          (λ s. (size (tree c s) ≡ 1) × (stmt_keeps (tree c s) ≡ true))
      there =
          placed_costs S.statement {v = λ _ _. w} {H = λ _ x. Light c x} (λ at. h w) (λ x at k.
          let e = stmt_is c x at in
          (omega arith, (ap size e ∙ (k at).0, ap stmt_keeps e ∙ (k at).1)))

  light_fits :
      {A : Type 0} {p : Language A} (make : A → StmtKind) → Steady p → ((a : A) → Light c (make a)) →
      LightFits (L.◌>>=◌ p (λ a. L.give (make a)))
  light_fits make h k w = made_costs make (steady_costs h w) (λ a _. (omega arith, k a))

  printed_fits : (d : ℕ) {value : Language Expr} → Steady value → LightFits (S.printed d value)
  printed_fits d h w =
      then_costs (string_costs d w) (λ s k. made_costs (v.Print s) (arguments_cost d w h) (λ es few.
      (omega arith, print_light c s es k few)))

  pair_fits :
      (d : ℕ) (word : List ℕ) {inner : Language Expr} (make : Expr → Expr → StmtKind) → Steady inner →
      ((a b : Expr) → Light c (make a b)) →
      LightFits (L.◌>>=◌ (L.part (L.◌>>◌ (T.word d word) (E.bracketed d (S.pair (suc d) inner)))) (λ p. L.give (make p.0 p.1)))
  pair_fits d word {inner} make h k =
      light_fits (λ p. make p.0 p.1) (steady_part (steady_bind (word_steady d word) (λ _.
      bracketed_steady d (S.pair (suc d) inner) (pair_steady (suc d) inner h)))) (λ p. k p.0 p.1)

  simple_fits : (nested d : ℕ) {inner : Language Expr} → Steady inner → Fits (S.simple nested d inner)
  simple_fits nested d {inner} h =
      or_fits (ended_fits d (λ w. given_costs (omega arith) (empty_light c)))
      (or_fits (ended_fits d (light_fits v.Set (steady_part (assignment_steady nested d)) (set_light c)))
      (or_fits (ended_fits d (light_fits v.Eval (steady_part (call_steady d inner h)) (eval_light c)))
      (or_fits (closed_fits d (pair_fits d (codes "writeto") v.WriteTo h (write_to_light c)))
      (or_fits (closed_fits d (pair_fits d (codes "addto") v.AddTo h (add_to_light c)))
      (or_fits (closed_fits d (λ w. part_costs (then_costs (steady_costs (word_steady d (codes "printf")) w) (λ _ _.
      bracketed_costs d (printed_fits (suc d) h w)))))
      (ended_fits d (light_fits v.Return (steady_part (steady_bind (word_steady d (codes "return")) (λ _.
      steady_maybe (expr_steady nested d)))) (return_light c))))))))

  -- ---- lists of statements and bodies

  sequence_costs :
      {l : Language Stmt} → Fits l → (w : ℕ) →
      Costs (S.sequence l) w (λ ss. w + sizes (trees c ss)) (λ ss. stmts_keep (trees c ss) ≡ true)
  sequence_costs {l} h w = turns_cost one refl (omega arith)
    where
      one :
          (ss : List Stmt) → stmts_keep (trees c ss) ≡ true →
          Costs (L.append l ss) (w + sizes (trees c ss)) (λ us. w + sizes (trees c us))
          (λ us. stmts_keep (trees c us) ≡ true)
      one ss k =
          made_costs (λ x. ss ++ x ∷ []) (h (w + sizes (trees c ss))) (λ x j.
          let n = sizes_more c ss x in
          (omega (arith, n), keep_more c ss x k j))

  -- the opening brace pays for the block
  pub braces_costs :
      (d : ℕ) {value : Language Expr} {l : Language Stmt} → Steady value → Fits l → (w : ℕ) →
      Costs (S.braces d value l) w (λ b. suc w + sizes (inside c b)) (λ b. stmts_keep (inside c b) ≡ true)
  braces_costs d {value} {l} h g w =
      then_costs (token_costs w) (λ _ _. before_mark (suc d) m.CloseBrace contents)
    where
      contents :
          Costs (S.contents (suc d) value l) (suc w) (λ b. suc w + sizes (inside c b))
          (λ b. stmts_keep (inside c b) ≡ true)
      contents =
          then_costs (steady_costs (steady_turns (λ ds. declaration_steady (suc d) value ds h)) (suc w)) (λ ds _.
          made_costs (λ ss. roll-Body (record { decls = ds; stmts = ss })) (sequence_costs g (suc w)) (λ ss k.
          let e = body_is c ds ss in
          let n = ap sizes e in
          (omega (arith, n), ap stmts_keep e ∙ k)))

  -- what weighs so much, where that is paid for
  is_fit : (x : StmtKind) (at : Span) (n w paid : ℕ) → Is c x n → w + n ≤ paid →
      (w + size (kind c x at) ≤ paid) × (stmt_keeps (kind c x at) ≡ true)
  is_fit x at n w paid h k = let e = (h at).0 in (omega (arith, e, k), (h at).1)

  block_fits : (d : ℕ) {value : Language Expr} {l : Language Stmt} → Steady value → Fits l → Fits (S.block d value l)
  block_fits d h g =
      placed_fits (λ w at. made_costs v.Body (braces_costs d h g w) (λ b k.
      is_fit (v.Body b) at (suc (sizes (inside c b))) w (suc w + sizes (inside c b)) (block_is c b k) (omega arith)))

  -- ---- statements that hold others, which their first token pays for

  branches_cost :
      {l : Language Stmt} → Fits l → (w : ℕ) →
      Costs (L.turns (λ ss. L.append (L.kth Branches (suc (length ss)) l) ss) []) w (λ ss. w + sizes (trees c ss))
      (λ ss. (length ss ≤ MAX_BRANCHES) × (stmts_keep (trees c ss) ≡ true))
  branches_cost {l} h w = turns_cost one (omega arith, refl) (omega arith)
    where
      one :
          (ss : List Stmt) → (length ss ≤ MAX_BRANCHES) × (stmts_keep (trees c ss) ≡ true) →
          Costs (L.append (L.kth Branches (suc (length ss)) l) ss) (w + sizes (trees c ss)) (λ us. w + sizes (trees c us))
          (λ us. (length us ≤ MAX_BRANCHES) × (stmts_keep (trees c us) ≡ true))
      one ss k =
          made_costs (λ x. ss ++ x ∷ []) (kth_costs Branches (suc (length ss)) (h (w + sizes (trees c ss)))) (λ x j.
          let n = sizes_more c ss x in
          (omega (arith, n), (one_more ss x MAX_BRANCHES j.0, keep_more c ss x k.1 j.1)))

  parallel_fits : (d : ℕ) {l : Language Stmt} → Fits l → KindFits (S.parallel d l)
  parallel_fits d g w at =
      then_costs (token_costs w) (λ _ _. then_costs (branches_cost g (suc w)) (λ ss k.
      then_costs (steady_costs (mark_steady (suc d) m.ClosePar) (suc w + sizes (trees c ss))) (λ _ _.
      let x = is_fit (v.Par ss) at (suc (sizes (trees c ss))) w (suc w + sizes (trees c ss)) (par_is c ss k.0 k.1)
      (omega arith) in
      given_costs x.0 x.1)))

  module _ (d : ℕ) {test : Language Expr} (h : Steady test) {body : Language Stmt} (g : Fits body) where
    choice_fits : KindFits (S.choice d test body)
    choice_fits w at =
        then_costs (token_costs w) (λ _ _.
        then_costs (steady_costs (header_steady d (L.part test) (steady_part h)) (suc w)) (λ x _.
        then_costs (g (suc w)) (λ a k.
        let paid = suc w + size (tree c a) in
        either_costs
        (then_costs (steady_costs (word_steady d (codes "else")) paid) (λ _ _.
        made_costs (λ b. v.If x a (Some b)) (g paid) (λ b j.
        is_fit (v.If x a (Some b)) at (suc (size (tree c a) + size (tree c b))) w (paid + size (tree c b))
        (if_else_is c x a b k j) (omega arith))))
        (then_costs (steady_costs steady_lacks paid) (λ _ _.
        let y = is_fit (v.If x a None) at (suc (size (tree c a) + 0)) w paid (only_if_is c x a k) (omega arith) in
        given_costs y.0 y.1)))))

    held_costs :
        (make : Stmt → StmtKind) → Holding c make → (w : ℕ) (at : Span) →
        Costs (L.◌>>=◌ body (λ b. L.give (make b))) (suc w) (λ x. w + size (kind c x at))
        (λ x. stmt_keeps (kind c x at) ≡ true)
    held_costs make k w at =
        made_costs make (g (suc w)) (λ b j.
        is_fit (make b) at (suc (size (tree c b))) w (suc w + size (tree c b)) (k b j) (omega arith))

    loop_fits : KindFits (S.loop d test body)
    loop_fits w at =
        then_costs (token_costs w) (λ _ _.
        then_costs (steady_costs (header_steady d (L.part test) (steady_part h)) (suc w)) (λ x _.
        held_costs (v.While x) (while_holds c x) w at))

    module _ {set : Language Assign} (a : Steady set) where
      abbrev for_head : Language (Stmt → StmtKind)
      for_head = do
        i ← L.maybe (L.part set)
        T.mark (suc d) m.Semicolon
        x ← L.maybe (L.part test)
        T.mark (suc d) m.Semicolon
        n ← L.maybe (L.part set)
        L.give (λ b. v.For i x n b)

      for_head_costs : (w : ℕ) → Costs for_head w (λ _. w) (Holding c)
      for_head_costs w =
          then_costs (steady_costs (steady_maybe (steady_part a)) w) (λ i _.
          then_costs (steady_costs (mark_steady (suc d) m.Semicolon) w) (λ _ _.
          then_costs (steady_costs (steady_maybe (steady_part h)) w) (λ x _.
          then_costs (steady_costs (mark_steady (suc d) m.Semicolon) w) (λ _ _.
          then_costs (steady_costs (steady_maybe (steady_part a)) w) (λ n _.
          given_costs (omega arith) (for_holds c i x n))))))

      for_fits : KindFits (S.for_loop d set test body)
      for_fits w at =
          then_costs (token_costs w) (λ _ _. then_costs (header_costs d (for_head_costs (suc w))) (λ make k.
          held_costs make k w at))

      abbrev forall_head : Language (Stmt → StmtKind)
      forall_head = do
        i ← L.part set
        T.mark (suc d) m.Semicolon
        x ← L.part test
        T.mark (suc d) m.Semicolon
        n ← L.part set
        L.give (λ b. v.Forall i x n b)

      forall_head_costs : (w : ℕ) → Costs forall_head w (λ _. w) (Holding c)
      forall_head_costs w =
          then_costs (steady_costs (steady_part a) w) (λ i _.
          then_costs (steady_costs (mark_steady (suc d) m.Semicolon) w) (λ _ _.
          then_costs (steady_costs (steady_part h) w) (λ x _.
          then_costs (steady_costs (mark_steady (suc d) m.Semicolon) w) (λ _ _.
          then_costs (steady_costs (steady_part a) w) (λ n _.
          given_costs (omega arith) (forall_holds c i x n))))))

      forall_fits : KindFits (S.forall_loop d set test body)
      forall_fits w at =
          then_costs (token_costs w) (λ _ _. then_costs (header_costs d (forall_head_costs (suc w))) (λ make k.
          held_costs make k w at))

  -- ---- all together

  bare_fits : (nested d : ℕ) {stmt body : Language Stmt} → Fits stmt → Fits body → Fits (S.bare nested d stmt body)
  bare_fits nested d g k =
      let inner = expr_steady nested (suc d) in
      let set = assignment_steady nested (suc d) in
      or_fits (simple_fits (suc nested) d inner)
      (or_fits (placed_fits (parallel_fits d g))
      (or_fits (placed_fits (choice_fits d inner k))
      (or_fits (placed_fits (loop_fits d inner k))
      (or_fits (placed_fits (for_fits d inner k set))
      (placed_fits (forall_fits d inner k set))))))

  formed_fits : (nested : ℕ) (form : S.Form) (d : ℕ) → Fits (S.formed nested form d)
  formed_fits zero form d = λ w. never_costs
  formed_fits (suc nested) Braced d =
      block_fits d (expr_steady nested (suc d))
      (or_fits (formed_fits nested Braced (suc d)) (formed_fits nested Bare (suc d)))
  formed_fits (suc nested) Bare d =
      let within = or_fits (formed_fits nested Braced (suc d)) (formed_fits nested Bare (suc d)) in
      bare_fits nested d within
      (or_fits (block_fits d (expr_steady nested (suc d)) within) (formed_fits nested Bare (suc d)))

  pub stmt_fits : (nested d : ℕ) → Fits (S.stmt nested d)
  stmt_fits nested d = or_fits (formed_fits nested Braced d) (formed_fits nested Bare d)
