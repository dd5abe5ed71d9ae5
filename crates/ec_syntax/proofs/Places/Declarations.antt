-- Declarations and assignments stand where they are read.
use Rattle.std.proofs.Common.{◌≡◌, refl, sym, ◌∙◌, ap, ◌<◌, ℕ, Bool, true, false, ◌==◌, if◌then◌else◌, List, [], ◌∷◌, ◌++◌, map, pos, arith, eqb-true, inl, inr, subst}
use Rattle.std.proofs.lemmas.Bool.{eq-eqb}
use Rattle.ec_base.specs.declared.operator.BinOp.{BinOp}
use Rattle.ec_base.specs.declared.operator.BinOp.TheVariants.{Add, Sub}
use Rattle.ec_base.specs.declared.token.Mark.TheVariants as m
use Rattle.ec_syntax.specs.declared.expression.Expr.{Expr}
use Rattle.ec_syntax.specs.declared.expression.ExprKind.TheVariants.{Number, Var, Binary}
use Rattle.ec_syntax.specs.declared.name.Base.{Base}
use Rattle.ec_syntax.specs.declared.name.Mode.{Mode}
use Rattle.ec_syntax.specs.declared.name.Name.{Name}
use Rattle.ec_syntax.specs.declared.statement.Assign.{Assign}
use Rattle.ec_syntax.specs.declared.statement.Decl.{Decl}
use Rattle.ec_syntax.specs.Grammar.Expressions as E
use Rattle.ec_syntax.specs.Grammar.Language.{Language}
use Rattle.ec_syntax.specs.Grammar.Statements as S
use Rattle.ec_syntax.specs.Grammar.Statements.Form.{Braced, Bare}
use Rattle.ec_syntax.specs.Grammar.Tokens as T
use Rattle.ec_syntax.specs.Grammar.Tokens.{is_word}
use Rattle.ec_syntax.specs.Grammar.Types as Y
use Rattle.ec_syntax.specs.Parts as P
use Rattle.ec_syntax.specs.Parts.{Role, Parts, one, ◌ahead_of◌, joined}
use Rattle.ec_syntax.specs.Parts.Role.{Plain, Variable}
use Rattle.ec_syntax.specs.Places.{AreSides, Stands}
use Rattle.ec_syntax.proofs.Folds.Expressions as tree
use Rattle.ec_syntax.proofs.Places.Expressions.{unary_adds, expr_adds}
use Rattle.ec_syntax.proofs.Places.Operators.{held, plain_at}
use Rattle.ec_syntax.proofs.Places.Rules.{Lays, lays_behind, given, behind, firstly, made, either, perhaps, part_lays}
use Rattle.ec_syntax.proofs.Places.Standing.{ahead_of_assoc, joined-more, parted, Gives, gives_self, stands_ahead_of, gives_behind}
use Rattle.ec_syntax.proofs.Places.Tokens.{mark_lays, sign_lays, declared_lays, gives_none, gives_two, stars_lay, value_base_lays, mode_lays, Adds, commas_lay}

-- ---- declarations

module _ (d : ℕ) {l : Language Expr} (h : Adds true l P.expression) where
  declarator_adds : (how : Mode) (b : Base) → Adds false (S.declarator d l how b) P.declaration
  declarator_adds how b before =
      behind (stars_lay (T.mark d m.Star) (mark_lays m.Star) 0) (λ k. behind (declared_lays Variable) (λ n.
      let us = before ahead_of one Variable n.at Parts.nothing in
      made (λ init. let decl : Decl = record { name = n; mode = how; ty = Y.typed b k; init = init } in decl)
      (λ init. gives_two before (one Variable n.at Parts.nothing) (P.optional P.expression init) refl)
      (perhaps {f = λ e. us ahead_of P.expression e} {g = λ init. us ahead_of P.optional P.expression init}
      (λ e. gives_self) (gives_none us refl) (behind (mark_lays m.Assign) (λ _. part_lays (h us))))))

  pub declaration_lays : (us : Parts) (ds : List Decl) → Lays false (us ahead_of joined (map P.declaration ds))
      (S.declaration d l ds) (λ all. us ahead_of joined (map P.declaration all))
  declaration_lays us ds =
      behind (mode_lays d) (λ how. behind (value_base_lays d)
      (λ b. behind (declarator_adds how b (us ahead_of joined (map P.declaration ds))) (λ first.
      behind
      (lays_behind (ap (λ z. us ahead_of z) (joined-more P.declaration ds first)
      ∙ sym (ahead_of_assoc us (joined (map P.declaration ds)) (P.declaration first)))
      (commas_lay P.declaration (λ _. declarator_adds how b) d us (ds ++ first ∷ [])))
      (λ all. behind (mark_lays m.Semicolon) (λ _. given gives_self)))))

-- ---- assignments

abbrev both : Expr → Expr → Assign
both a b = record { left = a; right = b }

-- where one side begins behind the other, all of it counts
right_apart : (a b : Expr) → a.at.from < b.at.from → P.right_side (both a b) ≡ P.expression b
right_apart a b h =
    by (a.at.from == b.at.from) (λ e. let same : a.at.from ≡ b.at.from =
    eqb-true a.at.from b.at.from e in absurd (omega (arith, h, same)))
  where
    by : (c : Bool) → (c ≡ true → ⊥) → (if c then P.but_plain (P.expression b) else P.expression b) ≡ P.expression b
    by true h = absurd (h refl)
    by false h = refl

sets : (before : Parts) (a b : Expr) →
    Gives ((before ahead_of P.expression a) ahead_of P.expression b) (before ahead_of P.assignment (both a b))
sets before a b = record { on = by }
  where
    by : (from to : ℕ) → Stands from to ((before ahead_of P.expression a) ahead_of P.expression b) →
        Stands from to (before ahead_of P.assignment (both a b))
    by from to h =
        let p = parted (before ahead_of P.expression a) (P.expression b) from to h in
        let q = parted before (P.expression a) from p.mid p.before in
        let x = held a q.mid p.mid q.after in
        let y = held b p.mid to p.after in
        let all = stands_ahead_of (P.expression a) (P.expression b) q.mid p.mid to q.after p.after in
        let right = right_apart a b (omega (arith, x.filled, x.ends, y.begins)) in
        let apart : AreSides (both a b) = inl (omega (arith, x.ends, y.begins)) in
        stands_ahead_of before (P.assignment (both a b)) from q.mid to q.before
        (apart, subst (λ z. Stands q.mid to (P.expression a ahead_of z)) (sym right) all)

-- those of `i++` stand where `i` does
same_place : (n : ℕ) → (n == n) ≡ true
same_place n = eq-eqb n n refl

step_parts : (o : BinOp) (i : Name) →
    P.expression (S.stepped o i).left ahead_of P.right_side (S.stepped o i) ≡ one Plain i.at Parts.nothing
step_parts o i =
    let x = E.expression (Var i.text) i.at in
    let y = E.expression (Number (pos 1)) i.at in
    let var : P.expression x ≡ one Plain i.at Parts.nothing =
    plain_at (Var i.text) (tree.var_fold P.of_kind P.of_place P.of_call P.of_expression i.text) i.at in
    let num : P.expression y ≡ one Plain i.at Parts.nothing =
    plain_at (Number (pos 1)) (tree.number_fold P.of_kind P.of_place P.of_call P.of_expression (pos 1)) i.at in
    let sum = plain_at (Binary o x y) (tree.binary_fold P.of_kind P.of_place P.of_call P.of_expression o x y) i.at in
    ap
    (λ c. P.expression x ahead_of (if c then P.but_plain (P.expression (E.expression (Binary o x y) i.at)) else
    P.expression (E.expression (Binary o x y) i.at))) (same_place i.at.from)
    ∙ ap (λ z. P.expression x ahead_of P.but_plain z) sum
    ∙ ap (λ z. P.expression x ahead_of P.but_plain (one Plain i.at (z ahead_of P.expression y))) var
    ∙ ap (λ z. P.expression x ahead_of P.but_plain (one Plain i.at (one Plain i.at Parts.nothing ahead_of z))) num
    ∙ ap (λ z. z ahead_of Parts.nothing) var

steps : (before : Parts) (o : BinOp) (i : Name) →
    Gives (before ahead_of one Plain i.at Parts.nothing) (before ahead_of P.assignment (S.stepped o i))
steps before o i = gives_behind before (one Plain i.at Parts.nothing) (P.assignment (S.stepped o i)) (record {
  on = λ from to h. (inr (o, i, refl), subst (λ z. Stands from to z) (sym (step_parts o i)) h);
})

pub assignment_adds : (nested d : ℕ) → Adds true (S.assignment nested d) P.assignment
assignment_adds nested d before =
    either (firstly (unary_adds nested d before)
    (λ a. behind (sign_lays m.Assign) (λ _. made (both a) (sets before a)
    (expr_adds nested d (before ahead_of P.expression a)))))
    (either (firstly (declared_lays Plain) (λ i. behind (sign_lays m.Increment) (λ _. given (steps before Add i))))
    (firstly (declared_lays Plain) (λ i. behind (sign_lays m.Decrement) (λ _. given (steps before Sub i)))))
