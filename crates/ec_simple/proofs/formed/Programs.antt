-- The simple form of a typed program is formed.
use Rattle.std.proofs.Common.{◌≡◌, refl, sym, ap, ◌∙◌, subst, ℕ, zero, suc, ◌+◌, ◌<◌, arith, true, false, List, [], ◌∷◌, ◌++◌, map, length, codes, slice_get, get_or, Some, is_some}
use Rattle.std.proofs.lemmas.List.{length-map, map-append}
use Rattle.std.proofs.lemmas.Option.{get_or_from_slice_get}
use Rattle.std.specs.List.{list_all}
use Rattle.ec_base.specs.declared.text.Text.{Text}
use Rattle.ec_calls.specs.Items.{functions, structs}
use Rattle.ec_simple.specs.declared.form.SFunc.{SFunc}
use Rattle.ec_simple.specs.declared.form.Shape.{Shape}
use Rattle.ec_simple.specs.declared.form.Form.{Form}
use Rattle.ec_simple.specs.Expressions.{no_function}
use Rattle.ec_simple.specs.Formed.{is_main, is_formed_function, has_main, IsFormed}
use Rattle.ec_simple.specs.Kinds.{KindsFunction}
use Rattle.ec_simple.specs.Lower.{shapes, scope_of, low_body, written, all_written, all_outlined, simple_form, lowered}
use Rattle.ec_simple.specs.Meaning.{main_number}
use Rattle.ec_simple.proofs.formed.Code.{both_true}
use Rattle.ec_simple.proofs.Same.{names, has_main as main_named}
use Rattle.ec_simple.proofs.formed.Inside.{at_all}
use Rattle.ec_simple.proofs.formed.Standing.{At, Callable, Stands, at_left, at_right}
use Rattle.ec_simple.proofs.formed.Tests.{all_both}
use Rattle.ec_simple.proofs.formed.Written.{callable, written_formed}
use Rattle.ec_simple.proofs.lockstep.Alike.{function_in}
use Rattle.ec_simple.proofs.lockstep.Calls.{SoundProgram, at_number, written_length}
use Rattle.ec_simple.proofs.lockstep.Programs.{HasMain, place_front, written_names, main_is, below as main_below}
use Rattle.ec_simple.proofs.sound.Main.{main_is as main_there}
use Rattle.ec_simple.proofs.sound.Programs.{sound_functions, kinds_functions}
use Rattle.ec_syntax.specs.declared.item.Program.{Program as Source}
use Rattle.ec_types.specs.Meaning.Resolution as resolution
use Rattle.ec_types.specs.Meaning.Tree.{Function}
use Rattle.ec_types.specs.Places.{place as place_among}
use Rattle.ec_types.specs.Programs.{IsTyped}

-- each of a program's functions has its kinds, by whatever name and number of its first branch
abbrev pub KindsProgram : List Shape → List Function → Type 0
KindsProgram shapes fs =
    (i : ℕ) (f : Function) → slice_get fs i ≡ Some f → (name : Text) (g : ℕ) →
    KindsFunction shapes (scope_of fs name f g) f

-- shapes of results, also of functions that aren't there
results_below : (n : ℕ) → 0 < n → (fs : List Function) →
    ((i : ℕ) (f : Function) → slice_get fs i ≡ Some f → f.shape < n) → (i : ℕ) → (get_or fs i no_function).shape < n
results_below n l [] h i = l
results_below n l (f ∷ fs) h zero = h 0 f refl
results_below n l (f ∷ fs) h (suc i) = results_below n l fs (λ j g e. h (suc j) g e) i

module _ (shapes : List Shape) (names : List Text) (fs : List Function) (same : length names ≡ length fs)
    (more : 1 < length shapes) (sound : SoundProgram shapes fs) (kinds : KindsProgram shapes fs) where
  abbrev form : Form
  form = simple_form shapes names fs

  -- ---- functions

  callable_at : (k : ℕ) → k < length fs → Callable form k (function_in fs k)
  callable_at k l =
      let h = at_number shapes names fs same k l in
      subst (λ f. Callable form k f) (sym (get_or_from_slice_get fs k h.function no_function h.here))
      (callable fs h.name h.function h.first form (sound k h.function h.here h.name h.first) k h.there)

  stands : (i : ℕ) (f : Function) → slice_get fs i ≡ Some f → (name : Text) (g : ℕ) →
      Stands form (scope_of fs name f g)
  stands i f e name g = record {
    functions = callable_at;
    variables = (kinds i f e name g).variables;
    results =
        results_below (length shapes) (omega (arith, more)) fs (λ j h is. (kinds j h is name g).result);
    shared = (kinds i f e name g).shared;
    shapes = more;
  }

  abbrev Formed : List SFunc → Type 0
  Formed l = list_all (is_formed_function form) l ≡ true

  -- what holds of a function by whatever name and number of its first branch
  abbrev Good : Function → Type 0
  Good f =
      (name : Text) (g : ℕ) → At form.funcs g (low_body fs name f g).funcs →
      (is_formed_function form (written fs name f g) ≡ true) × Formed (low_body fs name f g).funcs

  good : (i : ℕ) (f : Function) → slice_get fs i ≡ Some f → Good f
  good i f e name g h =
      written_formed fs name f g form (sound i f e name g) (kinds i f e name g) (stands i f e name g) h

  all_good : (ns : List Text) (gs : List Function) (g : ℕ) →
      ((i : ℕ) (f : Function) → slice_get gs i ≡ Some f → Good f) →
      At form.funcs g (all_outlined fs ns gs g) →
      Formed (all_written fs ns gs g) × Formed (all_outlined fs ns gs g)
  all_good [] gs g h there = (refl, refl)
  all_good (n ∷ ns) [] g h there = (refl, refl)
  all_good (n ∷ ns) (f ∷ gs) g h there =
      let own = (low_body fs n f g).funcs in
      let rest = all_outlined fs ns gs (g + length own) in
      let one = h 0 f refl n g (at_left form.funcs g own rest there) in
      let others = all_good ns gs (g + length own) (λ i k e. h (suc i) k e) (at_right form.funcs g own rest there) in (
        both_true (is_formed_function form (written fs n f g)) _ one.0 others.0,
        all_both (is_formed_function form) own rest one.1 others.1,
      )

  functions_formed : Formed form.funcs
  functions_formed =
      let n = length fs in
      let ws = all_written fs names fs n in
      let os = all_outlined fs names fs n in
      let k = written_length fs names fs n same in
      let begins : 0 + length ws ≡ n = omega (arith, k) in
      let done =
      all_good names fs n good
      (subst (λ j. At form.funcs j os) begins (at_right form.funcs 0 ws os (at_all form.funcs))) in
      all_both (is_formed_function form) ws os done.0 done.1

  -- ---- main

  module _ (m : ℕ) (main : HasMain names fs m) where
    named : place_among (map (λ f. f.name) form.funcs) (codes "main") ≡ Some m
    named =
        let n = length fs in
        let ws = all_written fs names fs n in
        let os = all_outlined fs names fs n in
        ap (λ l. place_among l (codes "main"))
        (map-append (λ f. f.name) ws os ∙ ap (λ l. l ++ map (λ f. f.name) os) (written_names fs names fs n same))
        ∙ place_front names (map (λ f. f.name) os) (codes "main") m main.named

    main_formed : is_main (slice_get form.funcs (main_number form)) ≡ true
    main_formed =
        let below = main_below shapes names fs same sound m main [] in
        let h = at_number shapes names fs same m below in
        let is = get_or_from_slice_get fs m h.function no_function h.here in
        ap (λ k. is_main (slice_get form.funcs k)) (main_is shapes names fs same sound m main [])
        ∙ (ap is_main h.there ∙ go h.name h.function h.first (sym (ap (λ f. f.void) is) ∙ main.gives))
      where
        go : (name : Text) (f : Function) (g : ℕ) → f.void ≡ false → is_main (Some (written fs name f g)) ≡ true
        go name f g e = rw e refl

    pub formed : IsFormed form
    formed = both_true _ (has_main form) functions_formed (both_true _ _ (ap is_some named) main_formed)

-- ---- programs

pub programs_formed : (p : Source) → IsTyped p → IsFormed (lowered p)
programs_formed p t =
    let fs = resolution.program p in
    let same : length (names p) ≡ length fs =
    length-map (functions p) (λ f. f.name.text)
    ∙ sym (length-map (functions p) (resolution.function (structs p) (functions p))) in
    formed (shapes (structs p)) (names p) fs same (omega arith) (sound_functions p t) (kinds_functions p t)
    (resolution.main_number p) (main_named p (main_there p t))
