-- Where the parts of a program stand that was read of the tokens of a text.
use Rattle.std.specs.Prelude.{◌≡◌, ◌≢◌, ◌⊎◌, ◌≤◌, ◌<◌, ℕ, suc, if◌then◌else◌, List, [], ◌∷◌, ◌++◌}
use Rattle.std.specs.List.{AllPairs}
use Rattle.ec_base.specs.Lexical.{AreTokens}
use Rattle.ec_base.specs.declared.token.Span.{Span}
use Rattle.ec_base.specs.declared.token.Token.{Token}
use Rattle.ec_base.specs.declared.operator.BinOp.{BinOp}
use Rattle.ec_syntax.specs.declared.item.Program.{Program}
use Rattle.ec_syntax.specs.declared.name.Name.{Name}
use Rattle.ec_syntax.specs.declared.statement.Assign.{Assign}
use Rattle.ec_syntax.specs.Grammar.Reading.{Reads}
use Rattle.ec_syntax.specs.Grammar.Statements.{stepped}
use Rattle.ec_syntax.specs.Parts.{Role, is_plain, Parts, expression, assignment, program}

-- ---- one behind the other

-- What stands in a plain part may begin where it does, what stands in another one begins later.
abbrev pub first : Role → ℕ → ℕ
first role from = if is_plain role then from else suc from

-- The left side of an assignment ends before the right one begins, unless it was read of `i++` or `i--`.
abbrev pub AreSides : Assign → Type 0
AreSides a = (a.left.at.to ≤ a.right.at.from) ⊎ ((op : BinOp) × (i : Name) × (a ≡ stepped op i))

-- The parts stand between two places, each behind the one before. None is empty, and what stands within a part stands
-- there likewise.
abbrev pub Stands : ℕ → ℕ → Parts → Type 0
Stands from to Parts.nothing = from ≤ to
Stands from to (Parts.part role at within behind) =
    from ≤ at.from × at.from < at.to × Stands (first role at.from) at.to within × Stands at.to to behind
Stands from to (Parts.sides a behind) = AreSides a × Stands from to behind

-- a part that isn't plain
pub record Marked : Type 0 where
  pub role : Role
  pub at : Span

-- all parts that aren't plain, each before those within it
abbrev pub marked : Parts → List Marked
marked Parts.nothing = []
marked (Parts.part role at within behind) =
    if is_plain role then marked within ++ marked behind
    else record { role = role; at = at } ∷ marked within ++ marked behind
marked (Parts.sides a behind) = marked behind

-- ---- the laws

-- what counts of an assignment has all its marks
abbrev pub BothSidesCount : Type 0
BothSidesCount = (a : Assign) → marked (assignment a) ≡ marked (expression a.left) ++ marked (expression a.right)

-- the parts of a program stand one behind the other, within their wholes, up to its end
abbrev pub PartsStand : Type 0
PartsStand = (tokens : List Token) (p : Program) → AreTokens tokens → Reads tokens p → Stands 0 p.end.from (program p)

-- each of its calls, `malloc`s, declared names, `forall`s and `printf`s begins before all later ones
abbrev pub MarksRise : Type 0
MarksRise = (tokens : List Token) (p : Program) → AreTokens tokens → Reads tokens p →
    AllPairs (λ a b. a.at.from < b.at.from) (marked (program p))

-- and no two of them have one place
abbrev pub MarksDiffer : Type 0
MarksDiffer = (tokens : List Token) (p : Program) → AreTokens tokens → Reads tokens p →
    AllPairs (λ a b. a.at ≢ b.at) (marked (program p))
