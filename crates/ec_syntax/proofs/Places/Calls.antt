-- Calls stand where they are read.
use Rattle.std.proofs.Common.{◌≡◌, refl, ◌∙◌, ap, ℕ, suc, true, false, List, [], ◌∷◌, map, codes}
use Rattle.ec_base.specs.declared.token.Mark.TheVariants as m
use Rattle.ec_base.specs.declared.token.Span.{Span}
use Rattle.ec_syntax.specs.declared.expression.Call.{Call, roll-Call}
use Rattle.ec_syntax.specs.declared.expression.Expr.{Expr}
use Rattle.ec_syntax.specs.declared.expression.ExprKind.TheVariants as v
use Rattle.ec_syntax.specs.declared.expression.Placement.{Placement}
use Rattle.ec_syntax.specs.declared.expression.Placement.TheVariants.{OwnerOf, Node}
use Rattle.ec_syntax.specs.declared.name.Name.{Name}
use Rattle.ec_syntax.specs.Grammar.Expressions as E
use Rattle.ec_syntax.specs.Grammar.Expressions.{at_level, prefix_of}
use Rattle.ec_syntax.specs.Grammar.Language as L
use Rattle.ec_syntax.specs.Grammar.Language.{Language, span}
use Rattle.ec_syntax.specs.Grammar.State.{State, limits}
use Rattle.ec_syntax.specs.Grammar.Tokens as T
use Rattle.ec_syntax.specs.Parts as P
use Rattle.ec_syntax.specs.Parts.{Role, Parts, one, ◌ahead_of◌, joined}
use Rattle.ec_syntax.specs.Parts.Role.{Plain, Calling}
use Rattle.ec_syntax.proofs.Folds.Expressions as tree
use Rattle.ec_syntax.proofs.Places.Placing.{Enters, strictly, entered, placed_lays}
use Rattle.ec_syntax.proofs.Places.Rules.{lays_behind, given, reads_as, behind, firstly, made, either}
use Rattle.ec_syntax.proofs.Places.Standing.{Gives, ahead_of_nothing, gives_self, gives_on, gives_behind, doubled}
use Rattle.ec_syntax.proofs.Places.Tokens.{name_inside, word_lays, sign_lays, gives_none, gives_one, bracketed_lays, Adds, commas_lay}
use Rattle.ec_syntax.proofs.Places.Operators.{plain_at}

-- ---- parts of calls

module _ {l : Language Expr} (h : Adds true l P.expression) where
  arguments_add : (d : ℕ) → Adds false (E.arguments d l) (λ es. joined (map P.expression es))
  arguments_add d before =
      either (given (gives_none before refl))
      (behind (h before) (λ e. lays_behind (ap (λ z. before ahead_of z) (ahead_of_nothing (P.expression e)))
      (commas_lay P.expression (λ _. h) d before (e ∷ []))))

  place_adds : (d : ℕ) → Adds false (E.place d l) P.placement
  place_adds d before =
      either (given (gives_none before (tree.here_fold P.of_kind P.of_place P.of_call P.of_expression)))
      (behind (sign_lays m.At) (λ _.
      either (firstly (word_lays (codes "OWNER_OF")) (λ _. made OwnerOf (λ e. gives_one before (tree.owner_fold P.of_kind P.of_place P.of_call P.of_expression e)) (bracketed_lays d (h before))))
      (either (firstly (word_lays (codes "HOME")) (λ _. given (gives_none before (tree.home_fold P.of_kind P.of_place P.of_call P.of_expression))))
      (either (firstly (word_lays (codes "NODE")) (λ _. made Node (λ e. gives_one before (tree.node_fold P.of_kind P.of_place P.of_call P.of_expression e)) (bracketed_lays d (h before))))
      (firstly (word_lays (codes "ANYWHERE")) (λ _. given (gives_none before (tree.anywhere_fold P.of_kind P.of_place P.of_call P.of_expression))))))))

-- what a call is made of
abbrev Called : Type 0
Called = Name × (List Expr × Placement)

abbrev call_of : Called → Span → Call
call_of c at = roll-Call (record { name = c.0; args = c.1.0; place = c.1.1; at = at })

abbrev called : ℕ → Language Expr → Language Called
called d l = L.◌>>=◌ (T.name d) (λ n. L.◌>>=◌ (E.bracketed d (E.arguments (suc d) l)) (λ args. L.◌>>=◌ (E.place d l) (λ p. L.give (n, (args, p)))))

abbrev within_call : Called → Parts
within_call c = joined (map P.expression c.1.0) ahead_of P.placement c.1.1

call_at : (c : Called) (at : Span) → P.call (call_of c at) ≡ one Calling at (within_call c)
call_at c at = tree.call_of_fold P.of_kind P.of_place P.of_call P.of_expression c.0 c.1.0 c.1.1 at

-- the expression that is a call
abbrev whole : Called → Span → Expr
whole c at = E.expression (v.Call (call_of c at)) at

whole_at : (c : Called) (at : Span) → P.expression (whole c at) ≡ one Plain at (one Calling at (within_call c))
whole_at c at =
    plain_at (v.Call (call_of c at)) (tree.call_fold P.of_kind P.of_place P.of_call P.of_expression (call_of c at)) at
    ∙ ap (λ z. one Plain at z) (call_at c at)

whole_gives : (before : Parts) (c : Called) (at : Span) →
    Gives (before ahead_of one Calling at (within_call c)) (before ahead_of P.expression (whole c at))
whole_gives before c at =
    gives_on (gives_behind before _ _ (doubled Calling at (within_call c))) (gives_one before (whole_at c at))

-- a call, or what is made of it, is read as its parts are
called_as : {B : Type 0} (d : ℕ) (l : Language Expr) (make : Call → Span → B) (s : State) (b : B) (n : State) →
    L.placed (λ f at. make (f at) at) (E.called d l) limits s b n → L.placed (λ c at. make (call_of c at) at) (called d l) limits s b n
called_as d l make s b n (from, s₁, e, (f, m, (name, m₁, r₁, (args, m₂, r₂, (p, m₃, r₃, (ef, es)))), (to, m₄, e₄, (eb, en)))) =
    (from, s₁, e, ((name, (args, p)), m, (name, m₁, r₁, (args, m₂, r₂, (p, m₃, r₃, (refl, es)))), (to, m₄, e₄, (eb ∙ ap (λ z. make (z (span from to)) (span from to)) ef, en))))

module _ {l : Language Expr} (h : Adds true l P.expression) (d : ℕ) where
  called_enters : Enters (called d l) within_call
  called_enters =
      entered name_inside (λ n. behind (bracketed_lays d (arguments_add h (suc d) Parts.nothing)) (λ args.
      made (λ p. let c : Called = (n, (args, p)) in c) (λ p. gives_self) (place_adds h d (joined (map P.expression args)))))

  pub call_adds : Adds true (E.call d l) P.call
  call_adds before =
      reads_as (L.placed (λ c at. call_of c at) (called d l)) (called_as d l (λ c at. c))
      (placed_lays (λ _. Calling) call_of (λ c at. gives_one before (call_at c at)) (strictly (λ _. Calling) called_enters))

  pub call_expression_adds :
      Adds true (L.placed (λ make at. E.expression (v.Call (make at)) at) (E.called d l)) P.expression
  call_expression_adds before =
      reads_as (L.placed whole (called d l)) (called_as d l (λ c at. E.expression (v.Call c) at))
      (placed_lays (λ _. Calling) whole (whole_gives before) (strictly (λ _. Calling) called_enters))
