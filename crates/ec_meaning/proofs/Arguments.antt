-- How many arguments a call has.
use Rattle.std.proofs.Common.{◌≡◌, List, [], ◌∷◌, map, length, refl, ap, suc}
use Rattle.ec_types.specs.Meaning.Tree.{Expr}
use Rattle.ec_types.specs.Meaning.Tree.{exprs}
use Rattle.ec_meaning.specs.Opened.{count}

pub counted : {X : Type 0} (f : X → Expr) (es : List X) → count (exprs (map f es)) ≡ length es
counted f [] = refl
counted f (e ∷ es) = ap suc (counted f es)
