-- Where names stand in a list of names.
use Rattle.std.specs.Prelude.{◌≡◌, ℕ, suc, List, [], ◌∷◌, ◌++◌, length, Option, Some, None, option_map, if◌then◌else◌}
use Rattle.std.specs.Borrow.{Bor}
use Rattle.ec_base.specs.declared.text.Text.{Text}
use Rattle.ec_syntax.specs.Grammar.Words.{same}
use Rattle.indexmap.specs.IndexMap.{IndexMap, get_by}

-- where the name stands first
abbrev pub place : List Text → Text → Option ℕ
place [] name = None
place (x ∷ xs) name = if same x name then Some 0 else option_map suc (place xs name)

-- the map finds where each name stands first
abbrev pub HasPlaces : {S : Type 0} → List Text → IndexMap (Bor Text) ℕ S → Type 0
HasPlaces names map = (name : Text) → get_by (λ key. same name key.now) map ≡ place names name

-- a map of so many names becomes one of these and this one
abbrev pub Takes : {S : Type 0} → Text → ℕ → IndexMap (Bor Text) ℕ S → IndexMap (Bor Text) ℕ S → Type 0
Takes name at old new = (names : List Text) → length names ≡ at → HasPlaces names old → HasPlaces (names ++ name ∷ []) new
