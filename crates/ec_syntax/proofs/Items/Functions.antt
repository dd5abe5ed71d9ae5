-- Functions are decided.
use Rattle.std.proofs.Common.{◌≤◌, ℕ, Bool, false, List, codes, refl, ap, arith, ◌+◌}
use Rattle.ec_base.specs.declared.limits.TheConstants.{MAX_NESTING}
use Rattle.ec_base.specs.declared.token.Mark.TheVariants as m
use Rattle.ec_base.specs.declared.token.Token.{Token}
use Rattle.ec_syntax.specs.declared.item.Item.{Item}
use Rattle.ec_syntax.specs.declared.item.Item.TheVariants.{Func as Function}
use Rattle.ec_syntax.specs.declared.name.Base.{Base}
use Rattle.ec_syntax.specs.declared.name.Name.{Name}
use Rattle.ec_syntax.specs.declared.name.Ty.{Ty}
use Rattle.ec_syntax.specs.declared.statement.Body.{Body}
use Rattle.ec_syntax.specs.declared.statement.Decl.{Decl}
use Rattle.ec_syntax.specs.Grammar.Language as L
use Rattle.ec_syntax.specs.Grammar.Language.{Language, ◌>>=◌, ◌>>◌}
use Rattle.ec_syntax.specs.Grammar.Tokens as LT
use Rattle.ec_syntax.specs.Grammar.Tokens.{is_mark}
use Rattle.ec_syntax.specs.Grammar.Types as LY
use Rattle.ec_syntax.specs.Grammar.Types.{typed}
use Rattle.ec_syntax.specs.Grammar.Expressions as LE
use Rattle.ec_syntax.specs.Grammar.Statements as LS
use Rattle.ec_syntax.specs.Grammar.Items as LI
use Rattle.ec_syntax.specs.Descent.Reader as R
use Rattle.ec_syntax.specs.Descent.Reader.{Reader, and_then, ◌>>=◌ as ◌▸=◌, ◌>>◌ as ◌▸◌}
use Rattle.ec_syntax.specs.Descent.Tokens as RT
use Rattle.ec_syntax.specs.Descent.Tokens.{begins_stmt}
use Rattle.ec_syntax.specs.Descent.Expressions as RE
use Rattle.ec_syntax.specs.Descent.Statements as RS
use Rattle.ec_syntax.specs.Descent.Items as RI
use Rattle.ec_syntax.proofs.Decision.Procedures.{Decides, enough}
use Rattle.ec_syntax.proofs.Decision.Basics.{reindexed, same_reader, weaker}
use Rattle.ec_syntax.proofs.Decision.Sequencing.{followed_maybe}
use Rattle.ec_syntax.proofs.Lookahead.FirstSets.{one_of, itself, none, none_within}
use Rattle.ec_syntax.proofs.Items.Tokens.{mark_decides, stars_decides, function_name_decides}
use Rattle.ec_syntax.proofs.Decision.Limited.{always}
use Rattle.ec_syntax.proofs.Nesting.Parts.{Room}
use Rattle.ec_syntax.proofs.Statements.Blocks.{braces_told}
use Rattle.ec_syntax.proofs.Expressions.Nested.{expr_decides}
use Rattle.ec_syntax.proofs.Statements.Nested.{stmt_decides}
use Rattle.ec_syntax.proofs.Decision.Equations.{not_read}
use Rattle.ec_syntax.proofs.Items.Structs.{after, made, star_or_name, name_not_mark, mark_not_else}
use Rattle.ec_syntax.proofs.Items.Parameters.{begins_list, goes_told, parameters_decide}
use Rattle.ec_syntax.proofs.Items.ParameterReader.{Closes, parameters_told}
use Rattle.ec_syntax.proofs.Tokens.Classes.{from_mark, name_not}

-- ---- parameters and what stands behind their bracket

-- behind parameters
abbrev closed : {B : Type 0} → (List Decl → Reader B) → List Decl → Reader B
closed f ps = RT.mark m.CloseParen ▸ f ps

closes : {B : Type 0} (f : List Decl → Reader B) → Closes (closed f)
closes f ps s e = ap (λ o. and_then o (λ _. f ps)) (not_read (is_mark m.CloseParen) s e)

module _ {X B able : Type 0} {d : ℕ} {g : X → List Decl → Language B} {first goes : Token → Bool}
    (f : X → List Decl → Reader B) where
  bracket_decides : Decides {X = X × List Decl} able d (λ x. f x.0 x.1) (λ x. g x.0 x.1) ⊥ first goes →
      Decides {X = X} able 1 (λ x. RI.parameters ▸= closed (f x))
      (λ x. LI.parameters >>= (λ ps. LT.mark 1 m.CloseParen >> g x ps)) ⊥
      (one_of (one_of begins_list none) (is_mark m.CloseParen)) goes
  bracket_decides h = same_reader (λ x s. parameters_told (closed (f x)) (closes (f x)) s)
      (followed_maybe _ parameters_decide (after _ (mark_decides (omega arith) m.CloseParen) (reindexed (λ x. x.0) h))
      (from_mark m.CloseParen goes_told false (λ at. refl)) (λ e. absurd e) (mark_not_else m.CloseParen) tt)

-- ---- bodies

-- at depth 0 there is room for all the nesting
whole : Room (Unit {0}) (Unit {0}) 0 MAX_NESTING
whole = record { small = λ _. omega arith; deep = λ _. omega arith; some = λ _. omega arith; sum = λ _. refl; into = λ _ _. tt }

abbrev body : ℕ → Language Body
body nested = LS.braces 0 (LE.expr nested 1) (LS.stmt nested 1)

abbrev body_reader : Reader Body
body_reader = RS.braces MAX_NESTING (RE.expr MAX_NESTING) (RS.stmt MAX_NESTING)

-- of expressions and statements nested deep enough
body_deep : (nested : ℕ) → Decides {X = Unit {0}} (MAX_NESTING + 2 ≤ nested) 0 (λ _. body_reader)
    (λ _. body nested) ⊥ (is_mark m.OpenBrace) none
body_deep nested = (braces_told whole (RE.expr MAX_NESTING) (LE.expr nested 1) (always (expr_decides MAX_NESTING nested 1 refl)) (RS.stmt MAX_NESTING) (LS.stmt nested 1) (always (stmt_decides MAX_NESTING nested 1 refl)) (itself begins_stmt)).decides tt

body_decides : {X : Type 0} {goes : Token → Bool} (nested : ℕ) →
    Decides {X = X} (enough ≤ nested) 0 (λ _. body_reader) (λ _. body nested) ⊥ (is_mark m.OpenBrace) goes
body_decides nested = reindexed (λ _. tt) (weaker (λ deep. omega (arith, deep)) (λ e. e) (λ e. e) (none_within _) (body_deep nested))

-- ---- functions

abbrev function : Name → Ty → List Decl → Body → Item
function n result ps body = Function (record { name = n; result = result; params = ps; body = body })

-- behind the type of its result
abbrev pub typed_procedure : ℕ → Ty → Language Item
typed_procedure nested ty = LT.function_name 0 >>= (λ n. LT.mark 0 m.OpenParen >> (LI.parameters >>= (λ ps. LT.mark 1 m.CloseParen >> (body nested >>= (λ c. L.give (function n ty ps c))))))

-- behind the base of its result
abbrev pub procedure : ℕ → Base → Language Item
procedure nested b = LY.stars (LT.mark 0 m.Star) 0 >>= (λ k. typed_procedure nested (typed b k))

bodied_decides : {X : Type 0} {goes : Token → Bool} (nested : ℕ) (n : X → Name) (ty : X → Ty) (ps : X → List Decl) →
    Decides {X = X} (enough ≤ nested) 0 (λ x. body_reader ▸= (λ c. R.give (function (n x) (ty x) (ps x) c)))
    (λ x. body nested >>= (λ c. L.give (function (n x) (ty x) (ps x) c))) ⊥ (is_mark m.OpenBrace) goes
bodied_decides nested n ty ps = made (λ x c. function (n x) (ty x) (ps x) c) (body_decides nested)

pub procedure_decides : {X : Type 0} {goes : Token → Bool} (nested : ℕ) (b : X → Base) →
    Decides {X = X} (enough ≤ nested) 0 (λ x. RI.procedure MAX_NESTING (b x))
    (λ x. procedure nested (b x)) ⊥ star_or_name goes
procedure_decides nested b =
    followed_maybe _ (stars_decides (omega arith) (λ _. 0)) (after _ (function_name_decides (omega arith)) (after _ (mark_decides (omega arith) m.OpenParen)
    (bracket_decides (λ x ps. body_reader ▸= (λ c. R.give (function x.0.1 (typed (b x.0.0.0) x.0.0.1) ps c)))
    (bodied_decides nested (λ x. x.0.0.1) (λ x. typed (b x.0.0.0.0) x.0.0.0.1) (λ x. x.1)))))
    (name_not_mark m.Star) (λ e. absurd e) (name_not (codes "else") refl) tt
