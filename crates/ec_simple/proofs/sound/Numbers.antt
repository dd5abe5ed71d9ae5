-- Names and their numbers.
use Rattle.std.proofs.Common.{◌≡◌, refl, sym, ◌∙◌, ap, subst, ℕ, suc, ◌<◌, Bool, true, false, if◌then◌else◌, List, [], ◌∷◌, length, map, find, slice_get, get_or, Option, Some, None, option_map}
use Rattle.std.specs.Option.{option_and_then}
use Rattle.std.proofs.lemmas.Option.{none-some, same_Some, slice_get-map, slice_get_within, get_or_from_slice_get}
use Rattle.ec_base.specs.declared.text.Text.{Text}
use Rattle.ec_syntax.specs.Grammar.Words.{same}
use Rattle.ec_types.specs.Meaning.Layout.{or_zero}
use Rattle.ec_types.specs.Places.{place}
use Rattle.ec_types.proofs.Places.{same_is, find_placed}

-- the place of the first item of this name
abbrev pub number : {A : Type 0} → (A → Text) → List A → Text → ℕ
number text xs name = or_zero (place (map text xs) name)

-- ---- what is found by name stands at its number

pub record Numbered {A : Type 0} (text : A → Text) (xs : List A) (name : Text) (x : A) : Type 0 where
  pub k : ℕ
  pub placed : place (map text xs) name ≡ Some k
  pub there : slice_get xs k ≡ Some x

numbered_at :
    {A : Type 0} (text : A → Text) (xs : List A) (name : Text) (x : A) (o : Option ℕ) →
    place (map text xs) name ≡ o → option_and_then (slice_get xs) o ≡ Some x → Numbered text xs name x
numbered_at text xs name x None at e = absurd (none-some x e)
numbered_at text xs name x (Some k) at e = record { k = k; placed = at; there = e }

pub numbered :
    {A : Type 0} (text : A → Text) (xs : List A) (name : Text) (x : A) →
    find (λ y. same (text y) name) xs ≡ Some x → Numbered text xs name x
numbered text xs name x e =
    numbered_at text xs name x (place (map text xs) name) refl (sym (find_placed text xs name) ∙ e)

module _ {A : Type 0} (text : A → Text) (xs : List A) (name : Text) (x : A) (n : Numbered text xs name x) where
  pub number_is : number text xs name ≡ n.k
  number_is = ap or_zero n.placed

  pub standing : slice_get xs (number text xs name) ≡ Some x
  standing = ap (slice_get xs) number_is ∙ n.there

  pub number_below : number text xs name < length xs
  number_below = slice_get_within xs (number text xs name) x standing

  pub mapped : {B : Type 0} (f : A → B) → slice_get (map f xs) (number text xs name) ≡ Some (f x)
  mapped f = slice_get-map f xs (number text xs name) ∙ ap (option_map f) standing

  pub read : {B : Type 0} (f : A → B) (d : B) → get_or (map f xs) (number text xs name) d ≡ f x
  read f d = get_or_from_slice_get (map f xs) (number text xs name) (f x) d (mapped f)

-- ---- two names at one place are one name

name_at_one :
    (b : Bool) (x : Text) (xs : List Text) (name : Text) (o : Option ℕ) (k : ℕ) → same x name ≡ b →
    ((j : ℕ) → o ≡ Some j → slice_get xs j ≡ Some name) → (if b then Some 0 else option_map suc o) ≡ Some k →
    slice_get (x ∷ xs) k ≡ Some name
name_at_one true x xs name o k e later h =
    let is : 0 ≡ k = cc in subst (λ n. slice_get (x ∷ xs) n ≡ Some name) is (ap Some (same_is x name e))
name_at_one false x xs name None k e later h = absurd (none-some k h)
name_at_one false x xs name (Some j) k e later h =
    let is : suc j ≡ k = cc in subst (λ n. slice_get (x ∷ xs) n ≡ Some name) is (later j refl)

name_at : (xs : List Text) (name : Text) (k : ℕ) → place xs name ≡ Some k → slice_get xs k ≡ Some name
name_at [] name k h = absurd (none-some k h)
name_at (x ∷ xs) name k h = name_at_one (same x name) x xs name (place xs name) k refl (name_at xs name) h

pub one_name : (xs : List Text) (m n : Text) (k : ℕ) → place xs m ≡ Some k → place xs n ≡ Some k → m ≡ n
one_name xs m n k p q = same_Some m n (sym (name_at xs m k p) ∙ name_at xs n k q)
