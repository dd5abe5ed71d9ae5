-- Where names stand in a list that grows, and what is found there.
use Rattle.std.proofs.Common.{◌≡◌, refl, sym, ◌∙◌, ap, ℕ, suc, ◌<◌, ◌≤◌, Bool, true, false, List, [], ◌∷◌, ◌++◌, length, map, find, slice_get, Option, Some, None, option_map, option_copied, MatchOption, HoldsAt, if◌then◌else◌, is_some, true≢false}
use Rattle.std.proofs.lemmas.Option.{slice_get-map}
use Rattle.std.proofs.lemmas.Slice.Eq.{bytes_eq-Decides}
use Rattle.std.proofs.lemmas.Map.Text.{hash_map_updates_str}
use Rattle.std.specs.Borrow.{Bor}
use Rattle.std.specs.Option.{option_or, option_and_then}
use Rattle.ec_base.specs.declared.text.Text.{Text}
use Rattle.ec_syntax.specs.Grammar.Words.{same}
use Rattle.indexmap.specs.IndexMap.{IndexMap, Updates, get_by}
use Rattle.ec_types.specs.Places.{place, HasPlaces}
use Rattle.ec_types.proofs.ArgumentLists.{found}

pub same_is : (w v : Text) → same w v ≡ true → w ≡ v
same_is w v h = (bytes_eq-Decides w v).0 h

-- ---- one name more

one_more : (b c : Bool) (o : Option ℕ) (n : ℕ) →
    (if b then Some 0 else option_map suc (option_or o (if c then Some n else None)))
    ≡ option_or (if b then Some 0 else option_map suc o) (if c then Some (suc n) else None)
one_more true c o n = refl
one_more false c (Some k) n = refl
one_more false true None n = refl
one_more false false None n = refl

place_more : (xs : List Text) (x name : Text) →
    place (xs ++ x ∷ []) name ≡ option_or (place xs name) (if same x name then Some (length xs) else None)
place_more [] x name = refl
place_more (y ∷ ys) x name =
    ap (λ o. if same y name then Some 0 else option_map suc o) (place_more ys x name)
    ∙ one_more (same y name) (same x name) (place ys name) (length ys)

or_none : (o : Option ℕ) → option_or o None ≡ o
or_none None = refl
or_none (Some k) = refl

-- a name that stood before leaves the places as they were
place_again : (xs : List Text) (x : Text) (k : ℕ) → place xs x ≡ Some k → (name : Text) → place (xs ++ x ∷ []) name ≡ place xs name
place_again xs x k h name = place_more xs x name ∙ by (same x name) refl
  where
    by : (b : Bool) → same x name ≡ b → option_or (place xs name) (if b then Some (length xs) else None) ≡ place xs name
    by true e =
        let at : place xs name ≡ Some k = ap (place xs) (sym (same_is x name e)) ∙ h in
        ap (λ o. option_or o (Some (length xs))) at ∙ sym at
    by false e = or_none (place xs name)

-- one that didn't stands last
place_new : (xs : List Text) (x : Text) → place xs x ≡ None → (name : Text) →
    place (xs ++ x ∷ []) name ≡ (if same x name then Some (length xs) else place xs name)
place_new xs x h name = place_more xs x name ∙ by (same x name) refl
  where
    by : (b : Bool) → same x name ≡ b → option_or (place xs name) (if b then Some (length xs) else None) ≡ (if b then Some (length xs) else place xs name)
    by true e = ap (λ o. option_or o (Some (length xs))) (ap (place xs) (sym (same_is x name e)) ∙ h)
    by false e = or_none (place xs name)

-- ---- what stands at the place of a name

later : {A : Type 0} (x : A) (xs : List A) (o : Option ℕ) →
    option_and_then (slice_get (x ∷ xs)) (option_map suc o) ≡ option_and_then (slice_get xs) o
later x xs None = refl
later x xs (Some k) = refl

placed_later : {A : Type 0} (b : Bool) (x : A) (xs : List A) (o : Option ℕ) (there : Option A) → there ≡ option_and_then (slice_get xs) o →
    (if b then Some x else there) ≡ option_and_then (slice_get (x ∷ xs)) (if b then Some 0 else option_map suc o)
placed_later true x xs o there e = refl
placed_later false x xs o there e = e ∙ sym (later x xs o)

pub find_placed : {A : Type 0} (text : A → Text) (xs : List A) (name : Text) →
    find (λ x. same (text x) name) xs ≡ option_and_then (slice_get xs) (place (map text xs) name)
find_placed text [] name = refl
find_placed text (x ∷ xs) name = placed_later (same (text x) name) x xs (place (map text xs) name) _ (find_placed text xs name)

-- ---- the map of places

some_of : (o : Option ℕ) → is_some o ≡ true → (k : ℕ) × (o ≡ Some k)
some_of None e = absurd (true≢false (sym e))
some_of (Some k) e = (k, refl)

none_of : (o : Option ℕ) → is_some o ≡ false → o ≡ None
none_of None e = refl
none_of (Some k) e = absurd (true≢false e)

pub keeps_places : {S : Type 0} (names : List Text) (x : Text) (m : IndexMap (Bor Text) ℕ S) →
    is_some (get_by (λ key. same x key.now) m) ≡ true → HasPlaces names m → HasPlaces (names ++ x ∷ []) m
keeps_places names x m there h name =
    let at = some_of (place names x) (ap is_some (sym (h x)) ∙ there) in
    h name ∙ sym (place_again names x at.0 at.1 name)

pub adds_place : {S : Type 0} (names : List Text) (x : Bor Text) (m n : IndexMap (Bor Text) ℕ S) →
    is_some (get_by (λ key. same x.now key.now) m) ≡ false → Updates (λ a b. same a.now b.now) m n x (Some (length names)) →
    HasPlaces names m → HasPlaces (names ++ x.now ∷ []) n
adds_place names x m n fresh added h name =
    hash_map_updates_str x.now m n (Some (length names)) added name
    ∙ ap (λ o. if same x.now name then Some (length names) else o) (h name)
    ∙ sym (place_new names x.now (none_of (place names x.now) (ap is_some (sym (h x.now)) ∙ fresh)) name)

-- ---- what a table finds

pub none_named : {A : Type 0} (text : A → Text) (xs all : List A) (names : List Text) (name : Text) (o : Option ℕ) →
    names ≡ map text xs → xs ≡ all → o ≡ place names name → o ≡ None → None ≡ find (λ x. same (text x) name) all
none_named text xs all names name o are is at none =
    sym
    (find_placed text all name
    ∙ ap (option_and_then (slice_get all)) (ap (λ l. place (map text l) name) (sym is) ∙ ap (λ l. place l name) (sym are) ∙ sym at ∙ none))

pub some_named : {A : Type 0} (text : A → Text) (xs all : List A) (names : List Text) (name : Text) (o : Option ℕ) (k : ℕ) →
    names ≡ map text xs → xs ≡ all → o ≡ place names name → o ≡ Some k → slice_get xs k ≡ find (λ x. same (text x) name) all
some_named text xs all names name o k are is at some =
    ap (λ l. slice_get l k) is
    ∙ sym
    (find_placed text all name
    ∙ ap (option_and_then (slice_get all)) (ap (λ l. place (map text l) name) (sym is) ∙ ap (λ l. place l name) (sym are) ∙ sym at ∙ some))

-- the same in a table that holds references
pub some_lent :
    {A : Type 0} (text : A → Text) (items slice : List (Bor A)) (all : List A) (names : List Text) (name : Text)
    (o : Option ℕ) (k : ℕ) (got : Option (Bor (Bor A))) (result : Option (Bor A)) →
    names ≡ map text (map (λ x. x.now) items) → map (λ x. x.now) items ≡ all → o ≡ place names name → o ≡ Some k →
    slice ≡ items → MatchOption got (length slice ≤ k) (λ x. (k < length slice) × HoldsAt (λ y. x.now ≡ y) slice k) →
    result ≡ option_copied got → option_copied result ≡ find (λ x. same (text x) name) all
some_lent text items slice all names name o k got result is are at some whole look copied =
    ap option_copied (copied ∙ found slice k got look ∙ ap (λ l. slice_get l k) whole)
    ∙ sym (slice_get-map (λ x. x.now) items k)
    ∙ some_named text (map (λ x. x.now) items) all names name o k is are at some
