-- Uses as the code notes them, and what it finds of a statement.
use Rattle.std.specs.Prelude.{◌≡◌, ℕ, List, ◌++◌, map}
use Rattle.ec_simple.specs.declared.form.VarUse.{VarUse}
use Rattle.ec_simple.specs.declared.found.Found.{Found}
use Rattle.ec_simple.specs.Uses.{Use}

abbrev pub used : List VarUse → List Use
used us = map (λ u. record { var = u.var; at = u.at }) us

-- behind what was found before
abbrev pub Finds : List Use → List Use → List ℕ → Found → Found → Type 0
Finds reads writes declares old new =
    (used new.reads ≡ used old.reads ++ reads) × (used new.writes ≡ used old.writes ++ writes) × (new.declared ≡ old.declared ++ declares)
