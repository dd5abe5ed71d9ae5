-- Small structs that are found by name.
use Rattle.std.proofs.Common.{◌≡◌, sym, Bool, true, false, if◌then◌else◌, List, [], ◌∷◌, find, Bor, Option, Some, None}
use Rattle.std.proofs.lemmas.Bool.{and_parts}
use Rattle.std.specs.List.{list_all}
use Rattle.std.specs.Option.{option_copied, IfSome}
use Rattle.ec_base.specs.declared.text.Text.{Text}
use Rattle.ec_syntax.specs.declared.item.StructDef.{StructDef}
use Rattle.ec_calls.specs.Items.{struct_named}
use Rattle.ec_types.specs.Sizes.{is_small}

taken : {A : Type 0} (b : Bool) (q : A → Bool) (y x : A) (rest : Option A) →
    q y ≡ true → (rest ≡ Some x → q x ≡ true) → (if b then Some y else rest) ≡ Some x → q x ≡ true
taken true q y x rest here there e = cc
taken false q y x rest here there e = there e

-- what is found passes the test that all pass
found_passes : {A : Type 0} (p q : A → Bool) (xs : List A) (x : A) → list_all q xs ≡ true → find p xs ≡ Some x → q x ≡ true
found_passes p q [] x all e = let no : ⊥ = cc in absurd no
found_passes p q (y ∷ ys) x all e =
    let both = and_parts (q y) (list_all q ys) all in
    taken (p y) q y x (find p ys) both.0 (found_passes p q ys x both.1) e

pub named_small :
    (all : List StructDef) (name : Text) (r : Option (Bor StructDef)) → list_all is_small all ≡ true → option_copied r ≡ struct_named all name
    → IfSome r (λ s. is_small s.now ≡ true)
named_small all name None small e = tt
named_small all name (Some s) small e = found_passes _ is_small all s.now small (sym e)
