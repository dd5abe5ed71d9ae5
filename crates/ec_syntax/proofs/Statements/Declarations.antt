-- Declarations are decided where expressions are.
use Rattle.std.proofs.Common.{refl, ◌≤◌, ℕ, Bool, true, false, ◌||◌, codes, List, [], ◌∷◌, ◌++◌, Option, Some, None}
use Rattle.ec_base.specs.declared.limits.TheConstants.{MAX_NESTING}
use Rattle.ec_base.specs.declared.token.Mark.TheVariants as mk
use Rattle.ec_base.specs.declared.token.Token.{Token}
use Rattle.ec_syntax.specs.declared.expression.Expr.{Expr}
use Rattle.ec_syntax.specs.declared.name.Base.{Base}
use Rattle.ec_syntax.specs.declared.name.Mode.{Mode}
use Rattle.ec_syntax.specs.declared.name.Name.{Name}
use Rattle.ec_syntax.specs.declared.statement.Decl.{Decl}
use Rattle.ec_syntax.specs.Grammar.Tokens as T
use Rattle.ec_syntax.specs.Grammar.Tokens.{is_mark, is_word}
use Rattle.ec_syntax.specs.Grammar.Types as types
use Rattle.ec_syntax.specs.Grammar.Types.{typed}
use Rattle.ec_syntax.specs.Grammar.Language as L
use Rattle.ec_syntax.specs.Grammar.Language.{Language}
use Rattle.ec_syntax.specs.Grammar.Statements as LS
use Rattle.ec_syntax.specs.Descent.Reader as R
use Rattle.ec_syntax.specs.Descent.Reader.{Reader}
use Rattle.ec_syntax.specs.Descent.Tokens as RT
use Rattle.ec_syntax.specs.Descent.Tokens.{is_name, begins_declaration}
use Rattle.ec_syntax.specs.Descent.Statements as RS
use Rattle.ec_syntax.proofs.Decision.Procedures.{is_else, Within, Apart}
use Rattle.ec_syntax.proofs.Lookahead.FirstSets.{one_of, or_within, or_apart, within_left, within_right, itself, split, none, none_apart, none_within, apart_none}
use Rattle.ec_syntax.proofs.Decision.Limited.{Told, followed, followed_maybe, made, made_maybe, reindexed, everywhere, further, renamed, given, either, turning, same_reader}
use Rattle.ec_syntax.proofs.Nesting.Parts.{parted}
use Rattle.ec_syntax.proofs.Terminals.Tokens.{mark_told, variable_name_told}
use Rattle.ec_syntax.proofs.Terminals.Types.{goes_stars, goes_mode, stars_told, variable_base_told, mode_told}
use Rattle.ec_syntax.proofs.Lookahead.FollowSets.{goes_expr}
use Rattle.ec_syntax.proofs.Tokens.Classes.{from_mark, from_word, from_name, name_not}
use Rattle.ec_syntax.proofs.Decision.Equations.{bind_assoc}

-- ---- what may go on

-- behind a declared variable
abbrev pub goes_variable : Token → Bool
goes_variable = one_of goes_expr (is_mark mk.Assign)

-- behind declared variables
abbrev pub goes_variables : Token → Bool
goes_variables = one_of goes_variable (is_mark mk.Comma)

comma_goes : Apart (is_mark mk.Comma) goes_variable
comma_goes = from_mark mk.Comma goes_variable false (λ at. refl)

semicolon_goes : Apart (is_mark mk.Semicolon) goes_variables
semicolon_goes = from_mark mk.Semicolon goes_variables false (λ at. refl)

semicolon_else : Apart (is_mark mk.Semicolon) is_else
semicolon_else = from_mark mk.Semicolon is_else false (λ at. refl)

abbrev begins_declarator : Token → Bool
begins_declarator x = is_mark mk.Star x || is_name x

abbrev begins_base : Token → Bool
begins_base x = is_word (codes "int") x || is_word (codes "struct") x

base_mode : Apart begins_base goes_mode
base_mode = or_apart (is_word (codes "int")) (is_word (codes "struct")) goes_mode (from_word (codes "int") goes_mode false (λ at. refl)) (from_word (codes "struct") goes_mode false (λ at. refl))

base_else : Apart begins_base is_else
base_else = or_apart (is_word (codes "int")) (is_word (codes "struct")) is_else (from_word (codes "int") is_else false (λ at. refl)) (from_word (codes "struct") is_else false (λ at. refl))

abbrev mode_or_base : Token → Bool
mode_or_base t = goes_mode t || begins_base t

mode_base_to : Within mode_or_base begins_declaration
mode_base_to = or_within goes_mode begins_base begins_declaration
    (or_within (is_word (codes "local")) (is_word (codes "shared")) begins_declaration (from_word (codes "local") begins_declaration true (λ at. refl)) (from_word (codes "shared") begins_declaration true (λ at. refl)))
    (or_within (is_word (codes "int")) (is_word (codes "struct")) begins_declaration (from_word (codes "int") begins_declaration true (λ at. refl)) (from_word (codes "struct") begins_declaration true (λ at. refl)))

mode_base_from : Within begins_declaration mode_or_base
mode_base_from x = split _ _ (split _ _ (split _ _ (from_word (codes "local") mode_or_base true (λ at. refl) x) (from_word (codes "shared") mode_or_base true (λ at. refl) x))
    (from_word (codes "int") mode_or_base true (λ at. refl) x)) (from_word (codes "struct") mode_or_base true (λ at. refl) x)

abbrev ended_read : Reader (List Decl) → Reader (List Decl)
ended_read p = R.◌>>=◌ p (λ all. R.◌>>◌ (RT.mark mk.Semicolon) (R.give all))

abbrev ended_word : ℕ → Language (List Decl) → Language (List Decl)
ended_word d l = L.◌>>=◌ l (λ all. L.◌>>◌ (T.mark d mk.Semicolon) (L.give all))

module _ {fits able : Type 0} (d : ℕ) (small : fits → d ≤ MAX_NESTING) (v : Reader Expr) (value : Language Expr)
    {first : Token → Bool} (V : Told {X = Unit {0}} fits able d (λ x. v) (λ x. value) ⊥ first goes_expr) where
  -- ---- one variable

  value_told : (Y : Type 0) → Told {X = Y} fits able d (λ y. R.part v) (λ y. L.part value) ⊥ first goes_variable
  value_told Y = further (within_left goes_expr goes_expr (is_mark mk.Assign) (itself goes_expr)) (everywhere Y (parted V))

  abbrev assigned : Reader Expr
  assigned = R.◌>>◌ (RT.mark mk.Assign) (R.part v)

  assigned_told : (Y : Type 0) → Told {X = Y} fits able d (λ y. assigned)
      (λ y. L.◌>>◌ (T.mark d mk.Assign) (L.part value)) ⊥ (is_mark mk.Assign) goes_variable
  assigned_told Y = followed (λ y u. R.part v) (mark_told Y fits able d small none mk.Assign) (value_told (Y × Unit {0})) (apart_none first) (λ e. absurd e) (λ e. e)

  initialiser_told : (Y : Type 0) → Told {X = Y} fits able d (λ y. RS.initialiser v)
      (λ y. L.maybe (L.◌>>◌ (T.mark d mk.Assign) (L.part value))) (Unit {0})
      (λ t. is_mark mk.Assign t || none t) goes_variable
  initialiser_told Y = either (is_mark mk.Assign)
      (same_reader (λ y s. bind_assoc (RT.mark mk.Assign) (λ u. R.part v) (λ e. R.give (Some e)) s) (made (λ y e. Some e) (assigned_told Y)))
      (given (λ y. None) fits able d goes_variable) (itself (is_mark mk.Assign)) (none_apart (is_mark mk.Assign)) (λ u. within_right (is_mark mk.Assign) goes_expr (is_mark mk.Assign) (itself (is_mark mk.Assign)))

  module _ (Y : Type 0) (how : Y → Mode) (base : Y → Base) where
    abbrev made_of : (Y × ℕ) × Name → Option Expr → Decl
    made_of x init = record { name = x.1; mode = how x.0.0; ty = typed (base x.0.0) x.0.1; init = init }

    named_told : Told {X = Y × ℕ} fits able d
        (λ x. R.◌>>=◌ RT.variable_name (λ n. R.◌>>=◌ (RS.initialiser v) (λ init. R.give (made_of (x, n) init))))
        (λ x. L.◌>>=◌ (T.variable_name d) (λ n. L.◌>>=◌ (L.maybe (L.◌>>◌ (T.mark d mk.Assign) (L.part value))) (λ init. L.give (made_of (x, n) init)))) ⊥ is_name goes_variable
    named_told = followed (λ x n. R.◌>>=◌ (RS.initialiser v) (λ init. R.give (made_of (x, n) init))) (variable_name_told (Y × ℕ) fits able d small none)
        (made_maybe (λ xn init. made_of (xn.0, xn.1) init) (initialiser_told ((Y × ℕ) × Name))) (apart_none _) (λ u. none_within goes_variable) (λ e. e)

    declarator_told : Told {X = Y} fits able d (λ y. RS.declarator v (how y) (base y))
        (λ y. LS.declarator d value (how y) (base y)) ⊥ begins_declarator goes_variable
    declarator_told = followed_maybe (λ y k. R.◌>>=◌ RT.variable_name (λ n. R.◌>>=◌ (RS.initialiser v) (λ init. R.give (made_of ((y, k), n) init))))
        (stars_told fits able d small (RT.mark mk.Star) (T.mark d mk.Star) (λ Y goes. mark_told Y fits able d small goes mk.Star) Y (λ y. 0)) named_told
        (from_name goes_stars false (λ w at free. refl)) (λ e. absurd e) (name_not (codes "else") refl) tt

    -- ---- the variables behind the first

    abbrev more_read : Y → List Decl → Reader (List Decl)
    more_read y ds = R.◌>>◌ (RT.mark mk.Comma) (R.◌>>=◌ (RS.declarator v (how y) (base y)) (λ next. R.give (ds ++ next ∷ [])))

    abbrev more_word : Y → List Decl → Language (List Decl)
    more_word y ds = L.◌>>◌ (T.mark d mk.Comma) (L.◌>>=◌ (LS.declarator d value (how y) (base y)) (λ next. L.give (ds ++ next ∷ [])))

  module _ (Y : Type 0) (how : Y → Mode) (base : Y → Base) where
    more_told : Told {X = Y × List Decl} fits able d (λ x. more_read Y how base x.0 x.1)
        (λ x. more_word Y how base x.0 x.1) ⊥ (is_mark mk.Comma) goes_variable
    more_told = followed (λ x u. R.◌>>=◌ (RS.declarator v (how x.0) (base x.0)) (λ next. R.give (x.1 ++ next ∷ []))) (mark_told (Y × List Decl) fits able d small none mk.Comma)
        (made (λ (xu : (Y × List Decl) × Unit {0}) next. xu.0.1 ++ next ∷ []) (declarator_told ((Y × List Decl) × Unit {0}) (λ x. how x.0.0) (λ x. base x.0.0))) (apart_none begins_declarator) (λ e. absurd e) (λ e. e)

    more_all_told : Told {X = Y × List Decl} fits able d (λ x. RS.declarators v (how x.0) (base x.0) x.1)
        (λ x. L.turns (more_word Y how base x.0) x.1) (Unit {0}) (is_mark mk.Comma) goes_variables
    more_all_told = turning (more_read Y how base) (more_word Y how base) more_told comma_goes (within_left goes_variable goes_variable (is_mark mk.Comma) (itself goes_variable))
        (within_right (is_mark mk.Comma) goes_variable (is_mark mk.Comma) (itself (is_mark mk.Comma)))

    ended_told : (goes : Token → Bool) → Told {X = Y × List Decl} fits able d
        (λ x. ended_read (RS.declarators v (how x.0) (base x.0) x.1))
        (λ x. ended_word d (L.turns (more_word Y how base x.0) x.1)) ⊥
        (λ t. is_mark mk.Comma t || is_mark mk.Semicolon t) goes
    ended_told goes = followed_maybe (λ x all. R.◌>>◌ (RT.mark mk.Semicolon) (R.give all)) more_all_told
        (made (λ (xa : (Y × List Decl) × List Decl) u. xa.1) (mark_told ((Y × List Decl) × List Decl) fits able d small goes mk.Semicolon)) semicolon_goes (λ e. absurd e) semicolon_else tt

  -- ---- all of a declaration

  module _ (Y : Type 0) (before : Y → List Decl) (how : Y → Mode) (base : Y → Base) (goes : Token → Bool) where
    all_told : Told {X = Y} fits able d (λ y. R.◌>>=◌ (RS.declarator v (how y) (base y))
        (λ first. ended_read (RS.declarators v (how y) (base y) (before y ++ first ∷ []))))
        (λ y. L.◌>>=◌ (LS.declarator d value (how y) (base y)) (λ first. ended_word d (L.turns (more_word Y how base y) (before y ++ first ∷ [])))) ⊥ begins_declarator goes
    all_told = followed (λ y first. ended_read (RS.declarators v (how y) (base y) (before y ++ first ∷ []))) (declarator_told Y how base)
        (reindexed (λ (yf : Y × Decl). (yf.0, before yf.0 ++ yf.1 ∷ [])) (ended_told Y how base goes))
        (or_apart (is_mark mk.Comma) (is_mark mk.Semicolon) goes_variable comma_goes (from_mark mk.Semicolon goes_variable false (λ at. refl))) (λ e. absurd e) (λ e. e)

  module _ (goes : Token → Bool) where
    abbrev based_read : Mode → List Decl → Reader (List Decl)
    based_read how before = R.◌>>=◌ RT.variable_base (λ b. R.◌>>=◌ (RS.declarator v how b) (λ first. ended_read (RS.declarators v how b (before ++ first ∷ []))))

    abbrev based_word : Mode → List Decl → Language (List Decl)
    based_word how before = L.◌>>=◌ (L.◌or◌ (types.int_base d) (types.struct_base d)) (λ b. L.◌>>=◌ (LS.declarator d value how b) (λ first. ended_word d (L.turns (more_word (Unit {0}) (λ u. how) (λ u. b) tt) (before ++ first ∷ []))))

    based_told : Told {X = List Decl × Mode} fits able d (λ x. based_read x.1 x.0)
        (λ x. based_word x.1 x.0) ⊥ begins_base goes
    based_told = followed (λ x b. R.◌>>=◌ (RS.declarator v x.1 b) (λ first. ended_read (RS.declarators v x.1 b (x.0 ++ first ∷ [])))) (variable_base_told (List Decl × Mode) fits able d small none)
        (all_told ((List Decl × Mode) × Base) (λ xb. xb.0.0) (λ xb. xb.0.1) (λ xb. xb.1) goes) (apart_none begins_declarator) (λ e. absurd e) (λ e. e)

    -- behind the declarations before
    pub declaration_told : Told {X = List Decl} fits able d (λ x. RS.declaration v x)
        (λ x. LS.declaration d value x) ⊥ begins_declaration goes
    declaration_told = renamed mode_base_to mode_base_from (followed_maybe (λ x how. based_read how x) (mode_told (List Decl) fits able d small) based_told base_mode (λ e. absurd e) base_else tt)
