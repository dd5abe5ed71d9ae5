-- The first functions of each name, and their numbers.
use Rattle.std.proofs.Common.{◌≡◌, refl, ℕ, suc, ◌<◌, sym, ap, subst, ◌∙◌, Bool, true, false, true≢false, cond, if◌then◌else◌, List, [], ◌∷◌, ◌++◌, length, length-append, get_or, append_assoc, append-nil, ◌+◌, inl, inr, Option, Some, None, option_map, is_some, arith}
use Rattle.std.specs.Prelude.{fold}
use Rattle.std.specs.Option.{option_or}
use Rattle.std.proofs.lemmas.Bool.{cases_lt}
use Rattle.std.proofs.lemmas.List.{map-append, get_or_append_left, get_or_push}
use Rattle.std.proofs.lemmas.List.Folds.{find-append}
use Rattle.std.proofs.lemmas.Slice.Eq.{bytes_eq-Decides}
use Rattle.ec_base.specs.declared.text.Text.{Text}
use Rattle.ec_syntax.specs.declared.item.Func.{Func}
use Rattle.ec_syntax.specs.Grammar.Words.{same}
use Rattle.ec_calls.specs.Items.{function_named}
use Rattle.ec_calls.specs.Prints.{number}
use Rattle.ec_calls.specs.Seen.{added, firsts, names_of}

pub same_is : (x y : Text) → same x y ≡ true → x ≡ y
same_is x y h = (bytes_eq-Decides x y).0 h

same_itself : (x : Text) → same x x ≡ true
same_itself x = (bytes_eq-Decides x x).1 refl

pub none_some : {A B : Type 0} (a : A) → None ≡ Some a → B
none_some a h = absurd (true≢false (sym (ap is_some h)))

-- ---- numbers and look-ups

-- the function of this number is the first of the name
pub record Numbered (gs : List Func) (name : Text) (k : ℕ) (d : Func) : Type 0 where
  pub below : k < length gs
  pub is : function_named gs name ≡ Some (get_or gs k d)
  pub called : (get_or gs k d).name.text ≡ name

the_number : {a : ℕ} {b : ℕ} → ◌≡◌ {A = Option ℕ} (Some a) (Some b) → a ≡ b
the_number p = ap (λ v. elim v [ None ↦ 0 | Some n ↦ n ]) p

abbrev first_or_later : Bool → Option ℕ → Option ℕ
first_or_later b o = if b then Some 0 else option_map suc o

module _ (g : Func) (gs : List Func) (name : Text) where
  numbered_here : (k : ℕ) (d : Func) → same g.name.text name ≡ true → 0 ≡ k → Numbered (g ∷ gs) name k d
  numbered_here k d e is = subst (λ v. Numbered (g ∷ gs) name v d) is (record {
    below = omega arith;
    is = ap (λ b. cond b (Some g) (function_named gs name)) e;
    called = same_is g.name.text name e;
  })

  numbered_later : (n k : ℕ) (d : Func) → same g.name.text name ≡ false → suc n ≡ k → Numbered gs name n d
      → Numbered (g ∷ gs) name k d
  numbered_later n k d e is later = subst (λ v. Numbered (g ∷ gs) name v d) is (record {
    below = let b : n < length gs = later.below in omega arith;
    is = ap (λ b. cond b (Some g) (function_named gs name)) e ∙ later.is;
    called = later.called;
  })

  numbered_step :
      (k : ℕ) (d : Func) (b : Bool) (o : Option ℕ) → same g.name.text name ≡ b
      → ((n : ℕ) → o ≡ Some n → Numbered gs name n d)
      → first_or_later b o ≡ Some k → Numbered (g ∷ gs) name k d
  numbered_step k d true o e later h = numbered_here k d e (the_number h)
  numbered_step k d false None e later h = none_some k h
  numbered_step k d false (Some n) e later h = numbered_later n k d e (the_number h) (later n refl)

  unnumbered_step :
      (b : Bool) (o : Option ℕ) → same g.name.text name ≡ b → (o ≡ None → function_named gs name ≡ None)
      → first_or_later b o ≡ None
      → function_named (g ∷ gs) name ≡ None
  unnumbered_step true o e later h = none_some 0 (sym h)
  unnumbered_step false None e later h = ap (λ b. cond b (Some g) (function_named gs name)) e ∙ later refl
  unnumbered_step false (Some n) e later h = none_some (suc n) (sym h)

pub numbered : (gs : List Func) (name : Text) (k : ℕ) (d : Func) → number (names_of gs) name ≡ Some k
    → Numbered gs name k d
numbered [] name k d h = none_some k h
numbered (g ∷ gs) name k d h =
    numbered_step g gs name k d (same g.name.text name) (number (names_of gs) name) refl
    (λ n q. numbered gs name n d q) h

pub unnumbered : (gs : List Func) (name : Text) → number (names_of gs) name ≡ None → function_named gs name ≡ None
unnumbered [] name h = refl
unnumbered (g ∷ gs) name h =
    unnumbered_step g gs name (same g.name.text name) (number (names_of gs) name) refl (λ q. unnumbered gs name q) h

-- a name that a function has, has a number
pub record HasNumber (gs : List Func) (name : Text) (f : Func) : Type 0 where
  pub k : ℕ
  pub is : number (names_of gs) name ≡ Some k
  pub below : k < length gs
  pub there : get_or gs k f ≡ f

pub has_number : (gs : List Func) (name : Text) (f : Func) → function_named gs name ≡ Some f → HasNumber gs name f
has_number gs name f h = by (number (names_of gs) name) refl
  where
    the_same : (a b : Func) → ◌≡◌ {A = Option Func} (Some a) (Some b) → a ≡ b
    the_same a b p = ap (λ v. elim v [ None ↦ a | Some x ↦ x ]) p

    by : (o : Option ℕ) → number (names_of gs) name ≡ o → HasNumber gs name f
    by None q = none_some f (sym (unnumbered gs name q) ∙ h)
    by (Some k) q =
        let n = numbered gs name k f q in
        record { k = k; is = q; below = n.below; there = the_same (get_or gs k f) f (sym n.is ∙ h) }

-- ---- one function more

pub known_added : (gs : List Func) (f : Func) (k : ℕ) → number (names_of gs) f.name.text ≡ Some k → added gs f ≡ gs
known_added gs f k h = ap (λ o. if is_some o then gs else gs ++ f ∷ []) (numbered gs f.name.text k f h).is

pub new_added : (gs : List Func) (f : Func) → number (names_of gs) f.name.text ≡ None → added gs f ≡ gs ++ f ∷ []
new_added gs f h = ap (λ o. if is_some o then gs else gs ++ f ∷ []) (unnumbered gs f.name.text h)

pub new_names : (gs : List Func) (f : Func) → number (names_of gs) f.name.text ≡ None
    → names_of gs ++ f.name.text ∷ [] ≡ names_of (added gs f)
new_names gs f h = sym (map-append (λ (g : Func). g.name.text) gs (f ∷ [])) ∙ ap names_of (sym (new_added gs f h))

-- ---- all of them

-- these are the first functions of each name, each once
pub record AreFirsts (gs fs : List Func) : Type 0 where
  pub same_named : (name : Text) → function_named gs name ≡ function_named fs name
  pub distinct : (k : ℕ) (d : Func) → k < length gs
      → function_named gs (get_or gs k d).name.text ≡ Some (get_or gs k d)

abbrev alone : Func → Text → Option Func
alone f name = cond (same f.name.text name) (Some f) None

named_behind : (gs : List Func) (f : Func) (name : Text)
    → function_named (gs ++ f ∷ []) name ≡ option_or (function_named gs name) (alone f name)
named_behind gs f name = find-append (λ (g : Func). same g.name.text name) gs (f ∷ [])

not_alone : (f : Func) (name : Text) → (f.name.text ≡ name → ⊥) → alone f name ≡ None
not_alone f name h = by (same f.name.text name) refl
  where
    by : (b : Bool) → same f.name.text name ≡ b → alone f name ≡ None
    by true e = absurd (h (same_is f.name.text name e))
    by false e = ap (λ b. cond b (Some f) None) e

-- a function of a name that there is
module _ (gs seen : List Func) (f g : Func) (h : AreFirsts gs seen)
    (there : function_named gs f.name.text ≡ Some g) where
  old_same : (name : Text) (o : Option Func) → function_named gs name ≡ o → o ≡ option_or o (alone f name)
  old_same name (Some x) e = refl
  old_same name None e = sym (not_alone f name (λ q. none_some g (sym e ∙ ap (function_named gs) (sym q) ∙ there)))

  old_added : AreFirsts gs (seen ++ f ∷ [])
  old_added = record {
    same_named = λ name. old_same name (function_named gs name) refl
        ∙ ap (λ o. option_or o (alone f name)) (h.same_named name) ∙ sym (named_behind seen f name);
    distinct = h.distinct;
  }

-- a function of a new name
module _ (gs seen : List Func) (f : Func) (h : AreFirsts gs seen) (new : function_named gs f.name.text ≡ None) where
  new_distinct : (k : ℕ) (d : Func) → k < length (gs ++ f ∷ [])
      → function_named (gs ++ f ∷ []) (get_or (gs ++ f ∷ []) k d).name.text ≡ Some (get_or (gs ++ f ∷ []) k d)
  new_distinct k d below = elim (cases_lt k (length gs)) [
    | inl q ↦
        let is : get_or (gs ++ f ∷ []) k d ≡ get_or gs k d = get_or_append_left gs (f ∷ []) d k q in
        ap (λ (x : Func). function_named (gs ++ f ∷ []) x.name.text) is ∙ named_behind gs f (get_or gs k d).name.text
        ∙ ap (λ o. option_or o (alone f (get_or gs k d).name.text)) (h.distinct k d q) ∙ ap Some (sym is)
    | inr q ↦
        let n : length (gs ++ f ∷ []) ≡ length gs + 1 = length-append gs (f ∷ []) in
        let is : get_or (gs ++ f ∷ []) k d ≡ f = get_or_push gs f d k (omega arith) in
        ap (λ (x : Func). function_named (gs ++ f ∷ []) x.name.text) is ∙ named_behind gs f f.name.text
        ∙ ap (λ o. option_or o (alone f f.name.text)) new ∙ ap (λ b. cond b (Some f) None) (same_itself f.name.text)
        ∙ ap Some (sym is)
  ]

  appended : AreFirsts (gs ++ f ∷ []) (seen ++ f ∷ [])
  appended = record {
    same_named = λ name. named_behind gs f name ∙ ap (λ o. option_or o (alone f name)) (h.same_named name)
        ∙ sym (named_behind seen f name);
    distinct = new_distinct;
  }

one_added : (gs seen : List Func) (f : Func) → AreFirsts gs seen → AreFirsts (added gs f) (seen ++ f ∷ [])
one_added gs seen f h = by (function_named gs f.name.text) refl
  where
    with_f : Option Func → List Func
    with_f o = if is_some o then gs else gs ++ f ∷ []

    by : (o : Option Func) → function_named gs f.name.text ≡ o → AreFirsts (added gs f) (seen ++ f ∷ [])
    by None e = subst (λ v. AreFirsts v (seen ++ f ∷ [])) (sym (ap with_f e)) (appended gs seen f h e)
    by (Some g) e = subst (λ v. AreFirsts v (seen ++ f ∷ [])) (sym (ap with_f e)) (old_added gs seen f g h e)

all_added : (gs seen rest : List Func) → AreFirsts gs seen → AreFirsts (fold added gs rest) (seen ++ rest)
all_added gs seen [] h = subst (AreFirsts gs) (sym (append-nil seen)) h
all_added gs seen (f ∷ rest) h =
    subst (AreFirsts (fold added (added gs f) rest)) (append_assoc seen (f ∷ []) rest)
    (all_added (added gs f) (seen ++ f ∷ []) rest (one_added gs seen f h))

pub are_firsts : (fs : List Func) → AreFirsts (firsts fs) fs
are_firsts fs = all_added [] [] fs (record { same_named = λ name. refl; distinct = λ k d below. absurd (omega arith) })
