-- Declarations behind their first variable.
use Rattle.std.proofs.Common.{◌≡◌, sym, ◌∙◌, ap, List, [], ◌∷◌, ◌++◌, Err}
use Rattle.ec_base.specs.declared.fail.Fail.{Fail}
use Rattle.ec_base.specs.declared.fail.Fail.TheVariants.{Memory, Refused}
use Rattle.ec_base.specs.declared.token.Mark.TheVariants.{Semicolon}
use Rattle.ec_syntax.specs.declared.expression.Expr.{Expr}
use Rattle.ec_syntax.specs.declared.name.Base.{Base}
use Rattle.ec_syntax.specs.declared.name.Mode.{Mode}
use Rattle.ec_syntax.specs.declared.quantity.Fault.{Fault}
use Rattle.ec_syntax.specs.declared.statement.Decl.{Decl}
use Rattle.ec_syntax.specs.Grammar.State.{State}
use Rattle.ec_syntax.specs.Descent.Reader.{Reader, Outcome, and_then, give, ◌>>=◌, ◌>>◌}
use Rattle.ec_syntax.specs.Descent.Reader.Outcome.{Done, Stopped}
use Rattle.ec_syntax.specs.Descent.Tokens.{mark}
use Rattle.ec_syntax.specs.Descent.Statements.{declarator, declarators}
use Rattle.ec_reader.specs.Answers.{Told}
use Rattle.ec_reader.specs.Another.{declaration_on}

module _ (value : Reader Expr) (how : Mode) (b : Base) (before : List Decl) where
  abbrev after_all : List Decl → Reader (List Decl)
  after_all all = mark Semicolon >> give all

  abbrev after_first : Decl → Reader (List Decl)
  after_first first = declarators value how b (before ++ first ∷ []) >>= after_all

  module _ (s m : State) (first : Decl) (read : declarator value how b s ≡ Done first m) (ds : List Decl) (are : ds ≡ before ++ first ∷ []) where
    goes : (o : Outcome (List Decl)) → declarators value how b ds m ≡ o → declaration_on value how b before s ≡ and_then o after_all
    goes o e = ap (λ p. and_then p after_first) read ∙ ap (λ p. and_then p after_all) (ap (λ x. declarators value how b x m) (sym are) ∙ e)

    pub variables_stop : (e : Fail Fault) (n : State) → Told (declarators value how b ds m) (Err e) n → Told (declaration_on value how b before s) (Err e) n
    variables_stop Memory n told = tt
    variables_stop (Refused fault) n told = goes (Stopped fault n.left) told

    module _ (all : List Decl) (k : State) (more : declarators value how b ds m ≡ Done all k) where
      pub mark_stops : (e : Fail Fault) (n : State) → Told (mark Semicolon k) (Err e) n → Told (declaration_on value how b before s) (Err e) n
      mark_stops Memory n told = tt
      mark_stops (Refused fault) n told = goes (Done all k) more ∙ ap (λ p. and_then p (λ u. give all)) told

      pub declared : (u : Unit {0}) (n : State) → mark Semicolon k ≡ Done u n → declaration_on value how b before s ≡ Done all n
      declared u n told = goes (Done all k) more ∙ ap (λ p. and_then p (λ u. give all)) told
