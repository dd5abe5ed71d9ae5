-- Written functions, as the code lowers them one by one.
use Rattle.std.specs.Prelude.{◌≡◌, ℕ, if◌then◌else◌, List, [], ◌∷◌, length}
use Rattle.ec_base.specs.declared.text.Text.{Text}
use Rattle.ec_simple.specs.declared.form.SFunc.{SFunc}
use Rattle.ec_simple.specs.Lower.{low_body, written}
use Rattle.ec_simple.specs.Puts.{Funcs, more}
use Rattle.ec_types.specs.Meaning.Tree.{Function}

abbrev pub results : Function → List ℕ
results f = if f.void then [] else length f.variables ∷ []

abbrev pub PutsWritten : List Function → Text → Function → SFunc → Funcs → Funcs → Type 0
PutsWritten all name f s old new =
    (s ≡ written all name f old.next) × (new ≡ more old (low_body all name f old.next).funcs)
