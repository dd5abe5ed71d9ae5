-- The place that comes first.
use Rattle.std.proofs.Common.{◌≡◌, refl, ℕ, suc, ◌<◌, sym, ap, ◌∙◌, Bool, true, false, if◌then◌else◌, List, [], ◌∷◌, ◌++◌, map, drop, get_or, length, drop-cons, Option, Some, None, option_map, rules}
use Rattle.ec_base.specs.declared.token.Span.{Span}
use Rattle.ec_syntax.specs.declared.expression.Expr.{Expr}
use Rattle.ec_syntax.specs.declared.statement.Body.{Body, out-Body}
use Rattle.ec_syntax.specs.declared.statement.Decl.{Decl}
use Rattle.ec_syntax.specs.declared.statement.Stmt.{Stmt}
use Rattle.ec_syntax.specs.declared.statement.StmtKind.TheFolds.{the_lemmas as stmt_folds}
use Rattle.ec_syntax.specs.declared.statement.StmtKind.TheVariants.{If}
use Rattle.ec_calls.specs.Effects.{of_declaration, all_of, or_nothing, doing, statement_doing}
use Rattle.ec_calls.specs.Seen.{is_before, earlier, earliest}
use Rattle.ec_calls.proofs.Places.{no_later_trans, not_before, is_not_before, before_trans}

pub earlier_none : (a : Option Span) → earlier a None ≡ a
earlier_none None = refl
earlier_none (Some a) = refl

pub earlier_assoc : (a b d : Option Span) → earlier (earlier a b) d ≡ earlier a (earlier b d)
earlier_assoc None b d = refl
earlier_assoc (Some a) None d = refl
earlier_assoc (Some a) (Some b) None = earlier_none (earlier (Some a) (Some b))
earlier_assoc (Some a) (Some b) (Some d) = by (is_before b a) (is_before d b) refl refl
  where
    chosen : Bool → Span → Span → Option Span
    chosen x p q = if x then Some p else Some q

    by : (x y : Bool) → is_before b a ≡ x → is_before d b ≡ y
        → earlier (chosen x b a) (Some d) ≡ earlier (Some a) (chosen y d b)
    by true true h k = ap (λ x. chosen x d b) k ∙ sym (ap (λ x. chosen x d a) (before_trans d b a k h))
    by true false h k = ap (λ x. chosen x d b) k ∙ sym (ap (λ x. chosen x b a) h)
    by false true h k = refl
    by false false h k =
        let later = is_not_before d a (no_later_trans a b d (not_before b a h) (not_before d b k)) in
        ap (λ x. chosen x d a) later ∙ sym (ap (λ x. chosen x b a) h)

pub earliest-append : (a b : List Span) → earlier (earliest a) (earliest b) ≡ earliest (a ++ b)
earliest-append [] b = refl
earliest-append (p ∷ a) b = earlier_assoc (Some p) (earliest a) (earliest b)
    ∙ ap (earlier (Some p)) (earliest-append a b)

-- declarations print nothing
none_declared : (ds : List Decl) → (all_of (map of_declaration ds)).prints ≡ []
none_declared [] = refl
none_declared (d ∷ ds) = none_declared ds

abbrev pub all_printed : List Stmt → List Span
all_printed ss = (all_of (map statement_doing ss)).prints

pub of_body : (b : Body) → (doing b).prints ≡ all_printed (out-Body b).stmts
of_body b =
    let h : (doing b).prints ≡ (all_of (map of_declaration (out-Body b).decls)).prints
    ++ all_printed (out-Body b).stmts = search (rules, stmt_folds) in
    h ∙ ap (λ v. v ++ all_printed (out-Body b).stmts) (none_declared (out-Body b).decls)

-- one statement more
pub one_later :
    (ss : List Stmt) (i at : ℕ) (s : Stmt) (now next end : Option Span) → suc i ≡ at → i < length ss
    → s ≡ get_or ss i s
    → next ≡ earlier now (earliest (statement_doing s).prints)
    → earlier now (earliest (all_printed (drop i ss))) ≡ end
    → earlier next (earliest (all_printed (drop at ss))) ≡ end
one_later ss i at s now next end later h is adds so_far =
    let here : all_printed (drop i ss) ≡ (statement_doing s).prints ++ all_printed (drop at ss) =
    ap all_printed (drop-cons ss i s h) ∙ ap (λ v. (statement_doing v).prints ++ all_printed (drop (suc i) ss)) (sym is)
    ∙ ap (λ n. (statement_doing s).prints ++ all_printed (drop n ss)) later in
    ap (λ v. earlier v (earliest (all_printed (drop at ss)))) adds
    ∙ earlier_assoc now (earliest (statement_doing s).prints) (earliest (all_printed (drop at ss)))
    ∙ ap (earlier now) (earliest-append (statement_doing s).prints (all_printed (drop at ss)) ∙ ap earliest (sym here))
    ∙ so_far

pub of_If :
    (s : Stmt) (e : Expr) (a : Stmt) (o : Option Stmt) → s.kind ≡ If e a o
    → (statement_doing s).prints ≡ (statement_doing a).prints ++ (or_nothing (option_map statement_doing o)).prints
of_If s e a o q = search (rules, stmt_folds, q)
