-- A source is refused once, and not where it is accepted, checked or printed.
use Rattle.std.specs.Prelude.{◌≡◌, ℕ, List}
use Rattle.ec_base.specs.declared.token.Token.{Token}
use Rattle.ec_small.specs.declared.tree.Program.{Program}
use Rattle.ec_syntax.specs.declared.item.Program.{Program as Tree}
use Rattle.ec_driver.specs.declared.status.Refusal.{Refusal}
use Rattle.ec_driver.specs.Source.{Accepts, IsChecked, IsSource, IsTypedSource, Misfits, Rejects, Unchecked, Untyped}

abbrev pub SourcesAreRefusedOnce : Type 0
SourcesAreRefusedOnce = (bytes : List ℕ) (r s : Refusal) → Rejects bytes r → Rejects bytes s → r ≡ s

abbrev pub AcceptedIsNotRefused : Type 0
AcceptedIsNotRefused = (bytes : List ℕ) (p : Program) (r : Refusal) → Accepts bytes p → Rejects bytes r → ⊥

abbrev pub ChecksRefuseOnce : Type 0
ChecksRefuseOnce = (bytes : List ℕ) (r s : Refusal) → Unchecked bytes r → Unchecked bytes s → r ≡ s

abbrev pub CheckedIsNotRefused : Type 0
CheckedIsNotRefused = (bytes : List ℕ) (r : Refusal) → IsChecked bytes → Unchecked bytes r → ⊥

abbrev pub ProgramIsNoMisfit : Type 0
ProgramIsNoMisfit =
    (bytes : List ℕ) (tokens : List Token) (tree : Tree) (r : Refusal) → IsSource bytes tokens tree → Misfits bytes r → ⊥

abbrev pub TypedIsNotRefused : Type 0
TypedIsNotRefused =
    (bytes : List ℕ) (tokens : List Token) (tree : Tree) (r : Refusal) → IsTypedSource bytes tokens tree → Untyped bytes r → ⊥

-- all of them
pub record AreRefusedOnce : Type 0 where
  pub runs : SourcesAreRefusedOnce
  pub accepted : AcceptedIsNotRefused
  pub checks : ChecksRefuseOnce
  pub checked : CheckedIsNotRefused
  pub program : ProgramIsNoMisfit
  pub typed : TypedIsNotRefused
