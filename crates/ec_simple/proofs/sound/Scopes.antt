-- Scopes that grow by declarations, and names that are new.
use Rattle.std.proofs.Common.{◌≡◌, refl, sym, ◌∙◌, ap, subst, ℕ, ◌==◌, true, false, if◌then◌else◌, List, [], ◌∷◌, ◌++◌, append_assoc, append-nil, map, find, Option, Some, None, option_map, is_some, Ok, eq-eqb}
use Rattle.std.proofs.lemmas.Bool.{false≢true, or_left, or_right, or_from, ne_eqb}
use Rattle.std.proofs.lemmas.List.Folds.{find-append}
use Rattle.std.proofs.lemmas.Slice.Eq.{bytes_eq-Decides}
use Rattle.std.specs.Option.{option_or}
use Rattle.ec_base.specs.declared.text.Text.{Text}
use Rattle.ec_simple.specs.Sound.{IsNew}
use Rattle.ec_simple.specs.Uses.{member}
use Rattle.ec_syntax.specs.declared.item.StructDef.{StructDef}
use Rattle.ec_syntax.specs.declared.name.Name.{Name}
use Rattle.ec_syntax.specs.declared.statement.Decl.{Decl}
use Rattle.ec_syntax.specs.Grammar.Words.{same}
use Rattle.ec_types.specs.declared.value_type.ValueType.{ValueType}
use Rattle.ec_types.specs.Declarations.{may_be}
use Rattle.ec_types.specs.Names.{variable_named, earlier, fresh, distinct}
use Rattle.ec_types.specs.Places.{place}
use Rattle.ec_types.specs.Types.{value_type}
use Rattle.ec_simple.proofs.sound.Each.{Each, each_append, each_so}
use Rattle.ec_simple.proofs.sound.Numbers.{number, numbered, number_is, one_name}
use Rattle.ec_simple.proofs.sound.Right.{fine_left, fine_right, fine_both, not_right}
use Rattle.ec_simple.proofs.sound.Shapes.{base_known}
use Rattle.ec_simple.proofs.sound.Variables.{name_of, InScope}

pub same_itself : (n : Text) → same n n ≡ true
same_itself n = (bytes_eq-Decides n n).1 refl

-- ---- names that are declared once

abbrev pub standing : List Name → Text → Option Name
standing before n = find (λ m. same m.text n) before

no_earlier : (o : Option Name) (n : Name) → fresh (option_map (λ m. m.at) o) n ≡ Ok tt → o ≡ None
no_earlier None n e = refl
no_earlier (Some m) n e = not_right e

pub is_fresh : (before : List Name) (n : Name) → fresh (earlier before n) n ≡ Ok tt → standing before n.text ≡ None
is_fresh before n e = no_earlier (standing before n.text) n e

pub record Apart (before a b : List Name) : Type 0 where
  pub front : distinct before a ≡ Ok tt
  pub back : distinct (before ++ a) b ≡ Ok tt

pub apart : (before a b : List Name) → distinct before (a ++ b) ≡ Ok tt → Apart before a b
apart before [] b e = record { front = refl; back = subst (λ l. distinct l b ≡ Ok tt) (sym (append-nil before)) e }
apart before (n ∷ a) b e =
    let one = fresh (earlier before n) n in
    let rest = distinct (before ++ n ∷ []) (a ++ b) in
    let h = apart (before ++ n ∷ []) a b (fine_right one rest e) in
    record {
      front = fine_both one (distinct (before ++ n ∷ []) a) (fine_left one rest e) h.front;
      back = subst (λ l. distinct l b ≡ Ok tt) (append_assoc before (n ∷ []) a) h.back;
    }

-- ---- what stands among names

abbrev pub Stood : List Name → Text → Type 0
Stood before n = is_some (standing before n) ≡ true

some_or : {A : Type 0} (o r : Option A) → is_some o ≡ true → is_some (option_or o r) ≡ true
some_or None r h = absurd (false≢true h)
some_or (Some x) r h = refl

or_some : {A : Type 0} (o r : Option A) → is_some r ≡ true → is_some (option_or o r) ≡ true
or_some None r h = h
or_some (Some x) r h = refl

stood_later : (before more : List Name) (n : Text) → Stood before n → Stood (before ++ more) n
stood_later before more n h =
    ap is_some (find-append (λ m. same m.text n) before more) ∙ some_or (standing before n) (standing more n) h

stood_last : (before : List Name) (n : Name) → Stood (before ++ n ∷ []) n.text
stood_last before n =
    ap is_some (find-append (λ m. same m.text n.text) before (n ∷ []))
    ∙ or_some (standing before n.text) (standing (n ∷ []) n.text)
    (ap (λ b. is_some (if b then Some n else standing [] n.text)) (same_itself n.text))

-- ---- scopes

-- a number in scope is that of a name that was declared
pub record Taken (vs : List Decl) (before : List Name) (y : ℕ) : Type 0 where
  pub text : Text
  pub placed : place (map name_of vs) text ≡ Some y
  pub stood : Stood before text

-- variables in scope and their numbers, behind the declarations of these names
pub record Standing (ss : List StructDef) (vs : List Decl) (scope : List Decl) (sc : List ℕ) (before : List Name) :
    Type 0 where
  pub decls : Each (InScope ss vs sc) scope
  pub numbers : Each (Taken vs before) sc

taken_later : (vs : List Decl) (before more : List Name) (y : ℕ) → Taken vs before y → Taken vs (before ++ more) y
taken_later vs before more y t =
    record { text = t.text; placed = t.placed; stood = stood_later before more t.text t.stood }

pub later :
    (ss : List StructDef) (vs scope : List Decl) (sc : List ℕ) (before more : List Name) →
    Standing ss vs scope sc before →
    Standing ss vs scope sc (before ++ more)
later ss vs scope sc before more h = record {
  decls = h.decls;
  numbers = each_so (Taken vs before) (Taken vs (before ++ more)) (taken_later vs before more) sc h.numbers;
}

in_more :
    (ss : List StructDef) (vs : List Decl) (x : ℕ) (sc : List ℕ) (d : Decl) → InScope ss vs sc d →
    InScope ss vs (x ∷ sc) d
in_more ss vs x sc d h = record {
  named = h.named;
  inside = or_right (x == number name_of vs d.name.text) _ h.inside;
  shared = h.shared;
  right = h.right;
  known = h.known;
}

-- the declaration that the function has of this name
abbrev pub IsNamed : List Decl → Decl → Type 0
IsNamed vs d = variable_named vs d.name.text ≡ Some d

pub placed_at :
    (vs : List Decl) (d : Decl) → IsNamed vs d →
    place (map name_of vs) d.name.text ≡ Some (number name_of vs d.name.text)
placed_at vs d h =
    let n = numbered name_of vs d.name.text d h in
    n.placed ∙ ap Some (sym (number_is name_of vs d.name.text d n))

pub declared_one :
    (ss : List StructDef) (vs scope : List Decl) (sc : List ℕ) (before : List Name) (d : Decl) (shared : ValueType) →
    Standing ss vs scope sc before → IsNamed vs d → may_be shared d.mode (value_type d.ty) ≡ true →
    base_known ss (value_type d.ty).base ≡ true →
    Standing ss vs (scope ++ d ∷ []) (number name_of vs d.name.text ∷ sc) (before ++ d.name ∷ [])
declared_one ss vs scope sc before d shared h named right known =
    let x = number name_of vs d.name.text in
    record {
      decls =
          each_append (InScope ss vs (x ∷ sc)) scope (d ∷ [])
          (each_so (InScope ss vs sc) (InScope ss vs (x ∷ sc)) (in_more ss vs x sc) scope h.decls) (
            record {
              named = named;
              inside = or_left (x == x) _ (eq-eqb x x refl);
              shared = shared;
              right = right;
              known = known;
            },
            tt,
          );
      numbers = (
        record { text = d.name.text; placed = placed_at vs d named; stood = stood_last before d.name },
        each_so (Taken vs before) (Taken vs (before ++ d.name ∷ [])) (taken_later vs before (d.name ∷ [])) sc h.numbers,
      );
    }

-- ---- numbers of new names

other_number :
    (vs : List Decl) (before : List Name) (n : Text) (k y : ℕ) → Taken vs before y → place (map name_of vs) n ≡ Some k →
    standing before n ≡ None → (y == k) ≡ false
other_number vs before n k y t at new = ne_eqb y k (λ e.
    let one : t.text ≡ n = one_name (map name_of vs) t.text n k (t.placed ∙ ap Some e) at in
    let stood : is_some (standing before n) ≡ true = subst (Stood before) one t.stood in
    false≢true (sym (ap is_some new) ∙ stood))

pub is_new :
    (vs : List Decl) (before : List Name) (n : Text) (k : ℕ) (sc : List ℕ) → Each (Taken vs before) sc →
    place (map name_of vs) n ≡ Some k → standing before n ≡ None → IsNew k sc
is_new vs before n k [] h at new = refl
is_new vs before n k (y ∷ sc) h at new =
    or_from (y == k) (member k sc) (other_number vs before n k y h.0 at new) (is_new vs before n k sc h.1 at new)
