-- Fields at their places.
use Rattle.std.proofs.Common.{◌≡◌, refl, sym, ◌∙◌, ap, ℕ, suc, ◌+◌, Bool, true, false, if◌then◌else◌, List, [], ◌∷◌, map, sum_by, take, slice_get, zero-add, Option, Some, None, option_map, arith}
use Rattle.std.proofs.lemmas.List.Sums.{sum_by-cons}
use Rattle.std.specs.Option.{option_and_then}
use Rattle.ec_base.specs.declared.text.Text.{Text}
use Rattle.ec_syntax.specs.declared.item.Field.{Field}
use Rattle.ec_syntax.specs.Grammar.Words.{same}
use Rattle.ec_types.specs.Meaning.Layout.{Found, found}
use Rattle.ec_types.specs.Places.{place}
use Rattle.ec_types.specs.Sizes.{cells_of}

-- the cells of so many fields
abbrev pub before : List Field → ℕ → ℕ
before fs k = sum_by (λ f. cells_of f.array) (take k fs)

-- ---- the first field of a name

abbrev at_cell : ℕ → ℕ → Field → Found
at_cell n at f = record { number = n; first = at; field = f }

-- the field that stands there, where the fields begin with a number and at a cell
abbrev standing : ℕ → ℕ → List Field → ℕ → Option Found
standing n at fs k = option_map (at_cell (n + k) (at + before fs k)) (slice_get fs k)

one_before : (at : ℕ) (f : Field) (fs : List Field) (k : ℕ) → (at + cells_of f.array) + before fs k ≡ at + before (f ∷ fs) (suc k)
one_before at f fs k = omega (arith, sum_by-cons (λ g. cells_of g.array) f (take k fs))

later :
    (n at : ℕ) (f : Field) (fs : List Field) (o : Option ℕ) →
    option_and_then (standing (suc n) (at + cells_of f.array) fs) o
    ≡ option_and_then (standing n at (f ∷ fs)) (option_map suc o)
later n at f fs None = refl
later n at f fs (Some k) =
    let one_more : suc n + k ≡ n + suc k = omega arith in
    ap (λ m. option_map (at_cell m ((at + cells_of f.array) + before fs k)) (slice_get fs k)) one_more
    ∙ ap (λ m. option_map (at_cell (n + suc k) m) (slice_get fs k)) (one_before at f fs k)

placed_later :
    (b : Bool) (n at : ℕ) (f : Field) (fs : List Field) (o : Option ℕ) (there : Option Found) →
    there ≡ option_and_then (standing (suc n) (at + cells_of f.array) fs) o →
    (if b then Some (at_cell n at f) else there)
    ≡ option_and_then (standing n at (f ∷ fs)) (if b then Some 0 else option_map suc o)
placed_later true n at f fs o there e =
    let here : n ≡ n + 0 = omega arith in
    ap (λ m. Some (at_cell m at f)) here ∙ ap (λ m. Some (at_cell (n + 0) m f)) (omega arith)
placed_later false n at f fs o there e = e ∙ later n at f fs o

pub found_placed :
    (n at : ℕ) (fs : List Field) (name : Text) →
    found n at fs name ≡ option_and_then (standing n at fs) (place (map (λ f. f.name.text) fs) name)
found_placed n at [] name = refl
found_placed n at (f ∷ fs) name =
    placed_later (same f.name.text name) n at f fs (place (map (λ g. g.name.text) fs) name) _
    (found_placed (suc n) (at + cells_of f.array) fs name)

-- ---- what stands at the place of a name

pub none_named :
    (fs : List Field) (name : Text) (o : Option ℕ) → o ≡ place (map (λ f. f.name.text) fs) name → o ≡ None → None ≡ found 0 0 fs name
none_named fs name o at none = sym (found_placed 0 0 fs name ∙ ap (option_and_then (standing 0 0 fs)) (sym at ∙ none))

named :
    (fs : List Field) (name : Text) (o : Option ℕ) (k : ℕ) → o ≡ place (map (λ f. f.name.text) fs) name → o ≡ Some k
    → standing 0 0 fs k ≡ found 0 0 fs name
named fs name o k at some = sym (found_placed 0 0 fs name ∙ ap (option_and_then (standing 0 0 fs)) (sym at ∙ some))

-- looked up in the same fields
pub none_standing :
    (fs gs : List Field) (name : Text) (o : Option ℕ) (k : ℕ) (r : Option Field) → o ≡ place (map (λ f. f.name.text) fs) name → o ≡ Some k
    → gs ≡ fs → r ≡ slice_get gs k → r ≡ None → None ≡ found 0 0 fs name
none_standing fs gs name o k r at some is look none =
    ap (option_map (at_cell (0 + k) (0 + before fs k))) (sym none ∙ look ∙ ap (λ l. slice_get l k) is) ∙ named fs name o k at some

pub one_standing :
    (fs gs : List Field) (name : Text) (o : Option ℕ) (k first : ℕ) (r : Option Field) (f : Field) → o ≡ place (map (λ g. g.name.text) fs) name
    → o ≡ Some k → gs ≡ fs → r ≡ slice_get gs k → r ≡ Some f → first ≡ before gs k → Some (record { number = k; first = first; field = f }) ≡ found 0 0 fs name
one_standing fs gs name o k first r f at some is look there cells =
    ap (λ n. Some (at_cell n first f)) (sym (zero-add k))
    ∙ ap (λ n. Some (at_cell (0 + k) n f)) (cells ∙ ap (λ l. before l k) is ∙ sym (zero-add (before fs k)))
    ∙ ap (option_map (at_cell (0 + k) (0 + before fs k))) (sym there ∙ look ∙ ap (λ l. slice_get l k) is)
    ∙ named fs name o k at some
