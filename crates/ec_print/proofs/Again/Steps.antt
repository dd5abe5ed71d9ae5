-- Assignments, read again. What was read from `i++` is written as `i = i + 1`.
use Rattle.std.proofs.Common.{◌≡◌, refl, sym, ◌∙◌, ap, ap₂, subst, inl, inr, ◌≤◌, arith, ℕ, suc, Bool, true, false, List, [], ◌∷◌, length, pos, Some}
use Rattle.ec_base.specs.declared.operator.BinOp.{BinOp}
use Rattle.ec_base.specs.declared.token.Mark.{Mark}
use Rattle.ec_base.specs.declared.token.Mark.TheVariants as m
use Rattle.ec_base.specs.declared.token.Span.{Span}
use Rattle.ec_base.specs.declared.token.Token.{Token}
use Rattle.ec_base.specs.declared.token.TokenKind.TheVariants as t
use Rattle.ec_syntax.specs.Grammar.Expressions as E
use Rattle.ec_syntax.specs.Grammar.Language as L
use Rattle.ec_syntax.specs.Grammar.Language.{Language}
use Rattle.ec_syntax.specs.Grammar.Language.Turns.{over, more}
use Rattle.ec_syntax.specs.Grammar.Statements as Z
use Rattle.ec_syntax.specs.Grammar.State.{State, limits}
use Rattle.ec_syntax.specs.Grammar.Tokens as T
use Rattle.ec_syntax.specs.Grammar.Words.{is_name}
use Rattle.ec_syntax.specs.declared.expression.Expr.{Expr}
use Rattle.ec_syntax.specs.declared.expression.ExprKind.{ExprKind}
use Rattle.ec_syntax.specs.declared.expression.ExprKind.TheVariants as v
use Rattle.ec_syntax.specs.declared.statement.Assign.{Assign}
use Rattle.ec_syntax.proofs.Tokens.Classes.{token_of}
use Rattle.ec_print.specs.Unplaced as U
use Rattle.ec_print.proofs.Again.Readings.{Again, Agree, Kinds, Quiet, as_language, behind, is_else}
use Rattle.ec_print.proofs.Again.Tokens.{taken}
use Rattle.ec_print.proofs.Again.Marks.{anything, name_at, name_picked}
use Rattle.ec_print.proofs.Again.Rules.{made, placed_again}
use Rattle.ec_print.proofs.Again.Folds.{seen, binary_alike}

-- ---- tokens at any place

-- no mark or number is an `else`, and no name
pub quiet_mark : (k : Mark) (y : Token) → y.kind ≡ t.Mark k → is_else y ≡ false
quiet_mark k y e = ap (λ z. is_else (token_of z y.at)) e

-- the test of this mark passes it
abbrev Passes : Mark → Type 0
Passes k = (at : Span) → T.only (T.is_mark k) (token_of (t.Mark k) at) ≡ Some (tt {0})

any_mark : (k : Mark) → Passes k → (y : Token) → y.kind ≡ t.Mark k → T.only (T.is_mark k) y ≡ Some (tt {0})
any_mark k passes y e = ap (λ z. T.only (T.is_mark k) (token_of z y.at)) e ∙ passes y.at

module _ {d : ℕ} (nested : d ≤ 64) where
  -- any sign, where one more is within the limit
  pub any_sign : {s n : State} (k : Mark) → Passes k → suc s.marks ≤ 256 → ((t : State) (rest : List Token) (end : ℕ) → Agree true s t → Agree true n (record (T.with_mark t) { left = rest; end = end })) →
      Again true s n (T.sign d k) (t.Mark k ∷ []) anything
  any_sign {s} k passes room on = taken nested (λ y e first. quiet_mark k y e)
      (λ y e. record { value = tt; picked = any_mark k passes y e; liked = tt; within = λ t a. (subst (λ z. suc z ≤ 256) (sym (a.marks refl)) room, tt) }) on

  -- a mark that isn't counted
  pub free_mark : {tight : Bool} {s n : State} (k : Mark) → Passes k → ((t : State) (rest : List Token) (end : ℕ) → Agree tight s t → Agree tight n (record t { left = rest; end = end })) → Again tight s n (T.mark d k) (t.Mark k ∷ []) anything
  free_mark {s = s} k passes on = taken nested (λ y e first. quiet_mark k y e)
      (λ y e. record { value = tt; picked = any_mark k passes y e; liked = tt; within = λ t a. tt }) on

  -- an operator that is chosen by this mark
  any_operator : {s n : State} (k : Mark) (make : Expr → Expr → ExprKind) → ((at : Span) → E.of_mark (E.at_level 1) (token_of (t.Mark k) at) ≡ Some make) → suc s.marks ≤ 256 →
      ((t : State) (rest : List Token) (end : ℕ) → Agree true s t → Agree true n (record (T.with_mark t) { left = rest; end = end })) → Again true s n (T.operator d (E.of_mark (E.at_level 1))) (t.Mark k ∷ []) (λ b. b ≡ make)
  any_operator {s} k make picks room on = taken nested (λ y e first. quiet_mark k y e)
      (λ y e. record { value = make; picked = ap (λ z. E.of_mark (E.at_level 1) (token_of z y.at)) e ∙ picks y.at; liked = refl; within = λ t a. (subst (λ z. suc z ≤ 256) (sym (a.marks refl)) room, tt) }) on

  -- the number 1
  any_one : {s n : State} → ((t : State) (rest : List Token) (end : ℕ) → Agree true s t → Agree true n (record t { left = rest; end = end })) → Again true s n (T.number d) (t.Number (pos 1) ∷ []) (λ b. b ≡ pos 1)
  any_one on = taken nested (λ y e first. ap (λ z. is_else (token_of z y.at)) e)
      (λ y e. record { value = pos 1; picked = ap (λ z. T.number_of (token_of z y.at)) e; liked = refl; within = λ t a. tt }) on

  -- a name that is no reserved word, and no longer than names may be
  any_name : {s n : State} (w : List ℕ) → is_name w ≡ true → length w ≤ 64 → ((y : Token) → y.kind ≡ t.Word w → Quiet s.left → is_else y ≡ false) →
      ((t : State) (rest : List Token) (end : ℕ) → Agree true s t → Agree true n (record t { left = rest; end = end })) → Again true s n (T.name d) (t.Word w ∷ []) (λ b. b.text ≡ w)
  any_name w free short calm on = taken nested calm
      (λ y e. record { value = name_at w y.at; picked = name_picked w y free e; liked = refl; within = λ t a. (short, tt) }) on

-- ---- a variable and a number as operands

-- an expression of a name or number alone
module _ (d nested : ℕ) {s n : State} where
  as_unary : {ks : Kinds} {like : Expr → Type 0} → Again true s n (E.primary d (E.unary nested (suc d))) ks like → Again true s n (E.unary (suc nested) d) ks like
  as_unary h = as_language (λ t b o r. inr (inr (b, o, r, over))) h

  variable_alone : (w : List ℕ) (at : Span) → Again true s n (T.name d) (t.Word w ∷ []) (λ b. b.text ≡ w) → Again true s n (E.unary (suc nested) d) (t.Word w ∷ []) (λ b. U.expression b ≡ U.expression (E.expression (v.Var w) at))
  variable_alone w at h = as_unary (as_language (λ t b o r. inr (inr (inl r))) (placed_again E.expression (λ y bt k. seen y (v.Var w) bt at k) (made (λ b. v.Var b.text) (λ b k. ap (λ z. U.kind (v.Var z)) k) h)))

  one_alone : (at : Span) → Again true s n (T.number d) (t.Number (pos 1) ∷ []) (λ b. b ≡ pos 1) → Again true s n (E.unary (suc nested) d) (t.Number (pos 1) ∷ []) (λ b. U.expression b ≡ U.expression (E.expression (v.Number (pos 1)) at))
  one_alone at h = as_unary (as_language (λ t b o r. inl r) (placed_again E.expression (λ y bt k. seen y (v.Number (pos 1)) bt at k) (made v.Number (λ b k. ap (λ z. U.kind (v.Number z)) k) h)))

-- an expression of some levels is one of more
lift : (d level : ℕ) (l : Language Expr) (t : State) (b : Expr) (o : State) → E.levels d level l limits t b o → E.levels d (suc level) l limits t b o
lift d level l t b o r = (b, o, r, over)

lift_eight : (d : ℕ) (l : Language Expr) (t : State) (b : Expr) (o : State) → E.levels d 2 l limits t b o → E.levels d 10 l limits t b o
lift_eight d l t b o r =
    lift d 9 l t b o (lift d 8 l t b o (lift d 7 l t b o (lift d 6 l t b o (lift d 5 l t b o (lift d 4 l t b o (lift d 3 l t b o (lift d 2 l t b o r)))))))

-- an operator of the second level between two operands
abbrev between : ℕ → Language Expr → Language Expr
between d l = L.◌>>=◌ l (λ a. L.◌>>=◌ (T.operator d (E.of_mark (E.at_level 1))) (λ make. L.◌>>=◌ l (λ b. L.give (E.joined make a b))))

between_expr : (d : ℕ) (l : Language Expr) (t : State) (c : Expr) (o : State) → between d l limits t c o → E.expr_of d l limits t c o
between_expr d l t c o (a, i, r, (make, j, q, (b, k, p, e))) =
    lift_eight d l t c o (a, i, (lift d 0 l t a i r), more (make, j, q, (b, k, (lift d 0 l j b k p), e)) over)

-- ---- steps

-- behind so many operators of the part, before these tokens
abbrev pub behind_marks : State → ℕ → List Token → State
behind_marks s k ts = record s { marks = k; left = ts }

module _ (nested d : ℕ) (deep : d ≤ 64) (s : State) (ts : List Token) (w : List ℕ) (at : Span) (free : is_name w ≡ true) (short : length w ≤ 64)
    (calm : (y : Token) → y.kind ≡ t.Word w → Quiet s.left → is_else y ≡ false) (quiet : (y : Token) → y.kind ≡ t.Word w → is_else y ≡ false) where
  first_variable : Again true (record s { marks = 0 }) (behind_marks s 0 ts) (E.unary (suc nested) d) (t.Word w ∷ []) (λ b. U.expression b ≡ U.expression (E.expression (v.Var w) at))
  first_variable = variable_alone d nested w at
      (any_name deep w free short calm (λ t rest end a. record { marks = a.marks; variables = a.variables; functions = a.functions; structs = a.structs }))

  second_variable : Again true (behind_marks s 1 ts) (behind_marks s 1 ts) (E.unary (suc nested) d) (t.Word w ∷ []) (λ b. U.expression b ≡ U.expression (E.expression (v.Var w) at))
  second_variable = variable_alone d nested w at
      (any_name deep w free short (λ y e _. quiet y e) (λ t rest end a. record { marks = a.marks; variables = a.variables; functions = a.functions; structs = a.structs }))

  the_one : Again true (behind_marks s 2 ts) (behind_marks s 2 ts) (E.unary (suc nested) d) (t.Number (pos 1) ∷ []) (λ b. U.expression b ≡ U.expression (E.expression (v.Number (pos 1)) at))
  the_one = one_alone d nested at (any_one deep (λ t rest end a. record { marks = a.marks; variables = a.variables; functions = a.functions; structs = a.structs }))

  the_sign : Again true (behind_marks s 0 ts) (behind_marks s 1 ts) (T.sign d m.Assign) (t.Mark m.Assign ∷ []) anything
  the_sign = any_sign deep m.Assign (λ at. refl) (omega arith) (λ t rest end a. record { marks = λ e. ap suc (a.marks e); variables = a.variables; functions = a.functions; structs = a.structs })

  the_operator : (k : Mark) (o : BinOp) → ((at : Span) → E.of_mark (E.at_level 1) (token_of (t.Mark k) at) ≡ Some (v.Binary o)) → Again true (behind_marks s 1 ts) (behind_marks s 2 ts) (T.operator d (E.of_mark (E.at_level 1))) (t.Mark k ∷ []) (λ b. b ≡ v.Binary o)
  the_operator k o picks = any_operator deep k (v.Binary o) picks (omega arith) (λ t rest end a. record { marks = λ e. ap suc (a.marks e); variables = a.variables; functions = a.functions; structs = a.structs })

  abbrev pub sum_kinds : Mark → Kinds
  sum_kinds k = t.Word w ∷ (t.Mark k ∷ (t.Number (pos 1) ∷ []))

  abbrev pub sum_of : BinOp → Expr
  sum_of o = E.expression (v.Binary o (E.expression (v.Var w) at) (E.expression (v.Number (pos 1)) at)) at

  the_sum : (k : Mark) (o : BinOp) → ((at : Span) → E.of_mark (E.at_level 1) (token_of (t.Mark k) at) ≡ Some (v.Binary o)) →
      Again true (behind_marks s 1 ts) (behind_marks s 2 ts) (E.expr (suc nested) d) (sum_kinds k) (λ b. U.expression b ≡ U.expression (sum_of o))
  the_sum k o picks =
      let one = E.expression (v.Number (pos 1)) at in
      let var = E.expression (v.Var w) at in
      as_language (between_expr d (E.unary (suc nested) d))
      (behind var refl second_variable (λ a h. behind (v.Binary o) refl (the_operator k o picks) (λ make e.
      made (E.joined make a) (λ b g. seen (make a b) (v.Binary o var one) (L.span a.at.from b.at.to) at (ap (λ z. U.kind (z a b)) e ∙ binary_alike a var h b one g o)) the_one)))

  pub the_step : (k : Mark) (o : BinOp) → ((at : Span) → E.of_mark (E.at_level 1) (token_of (t.Mark k) at) ≡ Some (v.Binary o)) →
      Again true (record s { marks = 0 }) (behind_marks s 2 ts) (Z.assignment (suc nested) d) (t.Word w ∷ (t.Mark m.Assign ∷ sum_kinds k)) (λ b. U.assignment b ≡ U.assignment (Z.stepped o (name_at w at)))
  the_step k o picks =
      let var = E.expression (v.Var w) at in
      let make : Expr → Expr → Assign = λ x y. record { left = x; right = y } in
      as_language (λ t b n r. inl r)
      (behind var refl first_variable (λ a h. behind tt tt the_sign (λ _ _.
      made (make a) (λ b g. ap₂ make h g) (the_sum k o picks))))
