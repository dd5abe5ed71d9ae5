-- Names that are declared once, and the scope at the start of a function.
use Rattle.std.proofs.Common.{◌≡◌, refl, sym, ◌∙◌, ap, subst, ℕ, zero, suc, ◌<◌, ◌==◌, inl, inr, Bool, true, false, if◌then◌else◌, List, [], ◌∷◌, ◌++◌, append_assoc, length, map, find, slice_get, Option, Some, None, option_map, is_some, Ok, eq-eqb}
use Rattle.std.proofs.lemmas.Bool.{false≢true, or_left, or_right, or_cases, eqb-true}
use Rattle.std.proofs.lemmas.List.{map-append}
use Rattle.std.proofs.lemmas.List.Folds.{find-append}
use Rattle.std.proofs.lemmas.Option.{none-some}
use Rattle.std.specs.Option.{option_or}
use Rattle.ec_base.specs.declared.text.Text.{Text}
use Rattle.ec_simple.specs.Sound.{IsIn}
use Rattle.ec_simple.specs.Uses.{member}
use Rattle.ec_syntax.specs.declared.item.StructDef.{StructDef}
use Rattle.ec_syntax.specs.declared.name.Name.{Name}
use Rattle.ec_syntax.specs.declared.statement.Decl.{Decl}
use Rattle.ec_syntax.specs.Grammar.Words.{same}
use Rattle.ec_types.specs.Declarations.{is_parameter}
use Rattle.ec_types.specs.Judged.{Fine, every}
use Rattle.ec_types.specs.Names.{earlier, fresh, distinct}
use Rattle.ec_types.specs.Types.{value_type, int, pointer_to}
use Rattle.ec_simple.proofs.sound.Each.{Each, each_so}
use Rattle.ec_simple.proofs.sound.Numbers.{number, numbered, number_below}
use Rattle.ec_simple.proofs.sound.Right.{fine_left, fine_right}
use Rattle.ec_simple.proofs.sound.Scopes.{same_itself, standing, is_fresh, Taken, Standing, IsNamed, placed_at}
use Rattle.ec_simple.proofs.sound.Shapes.{base_known}
use Rattle.ec_simple.proofs.sound.Statements.{numbers}
use Rattle.ec_simple.proofs.sound.Variables.{name_of, InScope}

-- ---- lists

pub every_right : {A : Type 0} (j : A → Fine) (xs : List A) → every (map j xs) ≡ Ok tt → Each (λ x. j x ≡ Ok tt) xs
every_right j [] e = tt
every_right j (x ∷ xs) e =
    let rest = every (map j xs) in (fine_left (j x) rest e, every_right j xs (fine_right (j x) rest e))

pub each_at : {A : Type 0} (P : A → Type 0) (xs : List A) (k : ℕ) (x : A) → Each P xs → slice_get xs k ≡ Some x → P x
each_at P [] k x h e = absurd (none-some x e)
each_at P (y ∷ ys) zero x h e = let same_item : y ≡ x = cc in subst P same_item h.0
each_at P (y ∷ ys) (suc k) x h e = each_at P ys k x h.1 e

pub each_in : (P : ℕ → Type 0) (xs : List ℕ) (x : ℕ) → Each P xs → IsIn x xs → P x
each_in P [] x h e = absurd (false≢true e)
each_in P (y ∷ ys) x h e = elim (or_cases (y == x) (member x ys) e) [
  | inl q ↦ subst P (eqb-true y x q) h.0
  | inr q ↦ each_in P ys x h.1 q
]

-- ---- a name that is declared once stands for its declaration

found_by :
    {A : Type 0} (name : A → Name) (x : A) (o : Option Name) (r : Option A) (b : Bool) → o ≡ option_map name r →
    (if b then Some (name x) else o) ≡ option_map name (if b then Some x else r)
found_by name x o r true e = refl
found_by name x o r false e = e

found_map :
    {A : Type 0} (name : A → Name) (xs : List A) (n : Text) →
    standing (map name xs) n ≡ option_map name (find (λ x. same (name x).text n) xs)
found_map name [] n = refl
found_map name (x ∷ xs) n =
    found_by name x (standing (map name xs) n) (find (λ y. same (name y).text n) xs) (same (name x).text n)
    (found_map name xs n)

no_item : {A : Type 0} (name : A → Name) (o : Option A) → option_map name o ≡ None → o ≡ None
no_item name None e = refl
no_item name (Some x) e = absurd (none-some (name x) (sym e))

abbrev pub Named : {A : Type 0} → (A → Name) → List A → A → Type 0
Named name all x = find (λ y. same (name y).text (name x).text) all ≡ Some x

named_here :
    {A : Type 0} (name : A → Name) (before rest : List A) (x : A) → standing (map name before) (name x).text ≡ None →
    Named name (before ++ x ∷ rest) x
named_here {A = A} name before rest x new =
    let test = λ (y : A). same (name y).text (name x).text in
    find-append test before (x ∷ rest)
    ∙ ap (λ o. option_or o (find test (x ∷ rest)))
    (no_item name (find test before) (sym (found_map name before (name x).text) ∙ new))
    ∙ ap (λ b. if b then Some x else find test rest) (same_itself (name x).text)

pub each_named :
    {A : Type 0} (name : A → Name) (before xs : List A) → distinct (map name before) (map name xs) ≡ Ok tt →
    Each (Named name (before ++ xs)) xs
each_named name before [] e = tt
each_named name before (x ∷ xs) e =
    let one = fresh (earlier (map name before) (name x)) (name x) in
    let rest = distinct (map name before ++ name x ∷ []) (map name xs) in (
      named_here name before xs x (is_fresh (map name before) (name x) (fine_left one rest e)),
      subst (λ l. Each (Named name l) xs) (append_assoc before (x ∷ []) xs)
          (each_named name (before ++ x ∷ []) xs
          (subst (λ l. distinct l (map name xs) ≡ Ok tt) (sym (map-append name before (x ∷ [])))
          (fine_right one rest e))),
    )

-- ---- parameters

each_inside : (vs ds : List Decl) → Each (λ d. IsIn (number name_of vs (name_of d)) (numbers vs ds)) ds
each_inside vs [] = tt
each_inside vs (d ∷ ds) =
    let x = number name_of vs (name_of d) in (
      or_left (x == x) _ (eq-eqb x x refl),
      each_so (λ e. IsIn (number name_of vs (name_of e)) (numbers vs ds))
          (λ e. IsIn (number name_of vs (name_of e)) (x ∷ numbers vs ds))
          (λ e h. or_right (x == number name_of vs (name_of e)) _ h) ds (each_inside vs ds),
    )

stood_behind : (b : Bool) (m : Name) (o : Option Name) → is_some o ≡ true → is_some (if b then Some m else o) ≡ true
stood_behind true m o h = refl
stood_behind false m o h = h

taken_behind : (vs : List Decl) (before : List Name) (m : Name) (y : ℕ) → Taken vs before y → Taken vs (m ∷ before) y
taken_behind vs before m y t =
    record {
      text = t.text;
      placed = t.placed;
      stood = stood_behind (same m.text t.text) m (standing before t.text)
          t.stood;
    }

each_taken : (vs ds : List Decl) → Each (IsNamed vs) ds → Each (Taken vs (map (λ d. d.name) ds)) (numbers vs ds)
each_taken vs [] h = tt
each_taken vs (d ∷ ds) h =
    let before = map (λ d. d.name) ds in (
      record {
        text = name_of d;
        placed = placed_at vs d h.0;
        stood = ap (λ b. is_some (if b then Some d.name else standing before (name_of d))) (same_itself (name_of d));
      },
      each_so (Taken vs before) (Taken vs (d.name ∷ before)) (taken_behind vs before d.name) (numbers vs ds)
          (each_taken vs ds h.1),
    )

-- a parameter is right, and its struct is declared
pub record Parameter (ss : List StructDef) (d : Decl) : Type 0 where
  pub right : is_parameter d ≡ true
  pub known : base_known ss (value_type d.ty).base ≡ true

each_scoped :
    (ss : List StructDef) (vs : List Decl) (sc : List ℕ) (ds : List Decl) → Each (IsNamed vs) ds →
    Each (λ d. IsIn (number name_of vs (name_of d)) sc) ds → Each (Parameter ss) ds → Each (InScope ss vs sc) ds
each_scoped ss vs sc [] h k p = tt
each_scoped ss vs sc (d ∷ ds) h k p = (
  record { named = h.0; inside = k.0; shared = pointer_to int; right = p.0.right; known = p.0.known },
  each_scoped ss vs sc ds h.1 k.1 p.1,
)

pub start_standing :
    (ss : List StructDef) (vs ds : List Decl) → Each (IsNamed vs) ds → Each (Parameter ss) ds →
    Standing ss vs ds (numbers vs ds) (map (λ d. d.name) ds)
start_standing ss vs ds h p =
    record { decls = each_scoped ss vs (numbers vs ds) ds h (each_inside vs ds) p; numbers = each_taken vs ds h }

pub each_below : (vs ds : List Decl) → Each (IsNamed vs) ds → Each (λ x. x < length vs) (numbers vs ds)
each_below vs [] h = tt
each_below vs (d ∷ ds) h =
    (number_below name_of vs (name_of d) d (numbered name_of vs (name_of d) d h.0), each_below vs ds h.1)
