-- A typed program and its simple form mean the same.
use Rattle.std.proofs.Common.{◌≡◌, sym, ◌∙◌, subst, ℕ, ⊎_elim, false, List, [], ◌∷◌, map, length, None, get_or}
use Rattle.std.proofs.lemmas.List.{length-map}
use Rattle.std.proofs.lemmas.Option.{get_or_from_slice_get}
use Rattle.ec_base.specs.declared.text.Text.{Text}
use Rattle.ec_calls.specs.Items.{functions, structs}
use Rattle.ec_simple.specs.Expressions.{no_function, no_variable}
use Rattle.ec_simple.specs.Laws.{SimpleFormsMeanTheSame, simple_mean}
use Rattle.ec_simple.specs.Lower.{shapes}
use Rattle.ec_simple.specs.Sound.{IsIn}
use Rattle.ec_simple.proofs.lockstep.Alike.{function_in}
use Rattle.ec_simple.proofs.lockstep.Programs.{HasMain, in_lockstep}
use Rattle.ec_simple.proofs.lockstep.Used.{nowhere}
use Rattle.ec_simple.proofs.lockstep.Variables.{head_or_tail}
use Rattle.ec_simple.proofs.sound.Each.{Each}
use Rattle.ec_simple.proofs.sound.Main.{Main, IsInt, main_is}
use Rattle.ec_simple.proofs.sound.Programs.{sound_functions}
use Rattle.ec_simple.proofs.ticks.Free.{told_by, nodes_are_free, ends_trans, prints_trans}
use Rattle.ec_syntax.specs.declared.item.Program.{Program as Source}
use Rattle.ec_types.specs.Meaning.Programs.{mean}
use Rattle.ec_types.specs.Meaning.Resolution as resolution

abbrev pub names : Source → List Text
names p = map (λ f. f.name.text) (functions p)

each_in : (P : ℕ → Type 0) (xs : List ℕ) → Each P xs → (x : ℕ) → IsIn x xs → P x
each_in P [] h x i = nowhere i
each_in P (y ∷ xs) h x i = ⊎_elim (λ e. subst P e h.0) (λ j. each_in P xs h.1 x j) (head_or_tail x y xs i)

pub has_main : (p : Source) → Main p → HasMain (names p) (resolution.program p) (resolution.main_number p)
has_main p m =
    let fs = resolution.program p in
    let k = resolution.main_number p in
    let is : m.function ≡ function_in fs k = sym (get_or_from_slice_get fs k m.function no_function m.there) in
    record {
      named = m.placed;
      gives = subst (λ f. f.void ≡ false) is m.void;
      plain = subst (λ f. (x : ℕ) → IsIn x f.params → (get_or f.variables x no_variable).pointer ≡ None) is
          (λ x i. (each_in
          (λ y. IsInt (get_or m.function.variables y no_variable)) m.function.params m.ints x i).pointer);
    }

pub mean_the_same : SimpleFormsMeanTheSame
mean_the_same p args t =
    let fs = resolution.program p in
    let k = resolution.main_number p in
    let free = nodes_are_free fs k args in
    let same : length (names p) ≡ length fs =
    length-map (functions p) (λ f. f.name.text)
    ∙ sym (length-map (functions p) (resolution.function (structs p) (functions p))) in
    let step = in_lockstep (shapes (structs p)) (names p) fs same (sound_functions p t) k
    (has_main p (main_is p t)) args in
    record {
      ends = ends_trans (mean p args) (told_by false fs k args) (simple_mean p args) free.ends step.ends;
      ended = ends_trans (simple_mean p args) (told_by false fs k args) (mean p args) step.ended free.ended;
      prints = prints_trans (mean p args) (told_by false fs k args) (simple_mean p args) free.prints step.prints;
      printed = prints_trans (simple_mean p args) (told_by false fs k args) (mean p args) step.printed free.printed;
    }
