-- The variables of a body.
use Rattle.std.proofs.Common.{rules, ◌≡◌, refl, sym, ◌∙◌, ap, List, [], ◌∷◌, ◌++◌, append_assoc, map, Result, Ok, Err, OnOk}
use Rattle.ec_syntax.specs.declared.name.Name.{Name}
use Rattle.ec_syntax.specs.declared.statement.Body.{Body, out-Body}
use Rattle.ec_syntax.specs.declared.statement.Decl.{Decl}
use Rattle.ec_syntax.specs.declared.statement.Stmt.{Stmt}
use Rattle.ec_syntax.specs.declared.statement.StmtKind.TheFolds.{the_lemmas as folds}
use Rattle.ec_calls.specs.Effects.{all_of, doing, of_declaration, statement_doing}

declared : (ds : List Decl) → (all_of (map of_declaration ds)).variables ≡ map (λ d. d.name) ds
declared [] = refl
declared (d ∷ ds) = ap (λ l. d.name ∷ l) (declared ds)

-- the variables that statements declare
abbrev pub within : List Stmt → List Name
within ss = (all_of (map statement_doing ss)).variables

body_variables : (b : Body) → (doing b).variables ≡ map (λ d. d.name) (out-Body b).decls ++ within (out-Body b).stmts
body_variables b =
    let h : (doing b).variables ≡ (all_of (map of_declaration (out-Body b).decls)).variables ++ within (out-Body b).stmts = search (rules, folds) in
    h ∙ ap (λ l. l ++ within (out-Body b).stmts) (declared (out-Body b).decls)

both_parts :
    (b : Body) (ds : List Decl) (ss : List Stmt) (before between after : List Name) → ds ≡ (out-Body b).decls → ss ≡ (out-Body b).stmts
    → between ≡ before ++ map (λ d. d.name) ds → after ≡ between ++ within ss → after ≡ before ++ (doing b).variables
both_parts b ds ss before between after first second named is =
    is
    ∙ ap (λ l. l ++ within ss) named
    ∙ append_assoc before (map (λ d. d.name) ds) (within ss)
    ∙ ap (λ l. before ++ (map (λ d. d.name) l ++ within ss)) first
    ∙ ap (λ l. before ++ (map (λ d. d.name) (out-Body b).decls ++ within l)) second
    ∙ ap (λ l. before ++ l) (sym (body_variables b))

-- declarations and statements, one after the other
pub body_declares :
    {A E : Type 0} (r : Result A E) (b : Body) (ds : List Decl) (ss : List Stmt) (before between after : List Name) → ds ≡ (out-Body b).decls
    → ss ≡ (out-Body b).stmts → between ≡ before ++ map (λ d. d.name) ds → OnOk r (after ≡ between ++ within ss)
    → OnOk r (after ≡ before ++ (doing b).variables)
body_declares (Ok v) b ds ss before between after first second named is = both_parts b ds ss before between after first second named is
body_declares (Err e) b ds ss before between after first second named is = tt
