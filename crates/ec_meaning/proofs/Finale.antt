-- What steps one after the other come to: the evaluator starts where the meaning does, and each step that goes on keeps it.
use Rattle.std.proofs.Common.{◌≡◌, refl, sym, ap, subst, ◌∙◌, ℕ, suc, ◌+◌, ◌<◌, ◌≤◌, arith, Bool, true, false, List, [], ◌∷◌, map, slice_get, ℤ, Bor, Option, Some, None, option_map, unwrap_or}
use Rattle.std.specs.Option.{option_copied}
use Rattle.std.proofs.lemmas.Option.{slice_get-map}
use Rattle.ec_resolve.specs.declared.action.Function.{Function}
use Rattle.ec_resolve.specs.Erased as erased
use Rattle.ec_syntax.specs.declared.item.Program.{Program as Source}
use Rattle.ec_types.specs.Meaning.Values.{Num}
use Rattle.ec_types.specs.Meaning.State as state
use Rattle.ec_types.specs.Meaning.State.{Vars, set_all, unset}
use Rattle.ec_types.specs.Meaning.Programs.{root, main_or, mean, told}
use Rattle.ec_types.specs.Meaning.Resolution as resolution
use Rattle.ec_meaning.specs.declared.shared_state.Core.{Core}
use Rattle.ec_meaning.specs.declared.machine.Machine.{Machine}
use Rattle.ec_meaning.specs.declared.machine.Step.{Step}
use Rattle.ec_meaning.specs.Machine as m
use Rattle.ec_meaning.specs.Machine.{comes_to, shown, ticked}
use Rattle.ec_meaning.specs.declared.value.Value.{Value}
use Rattle.ec_meaning.specs.declared.value.Value.TheVariants as value
use Rattle.ec_meaning.specs.Seen.{Untold, Tells, core, val, works, hand}
use Rattle.ec_meaning.specs.Works as w
use Rattle.ec_meaning.specs.Started.{OfMain, Starts}
use Rattle.ec_meaning.specs.Steps.{program, seen, IsSound, Advances, Means, Reaches, Ends}
use Rattle.ec_meaning.proofs.Order.{InOrder-start}
use Rattle.ec_meaning.proofs.Starts.{told-shown, starting, starts}

-- the same paths tell the same
pub tells_same : (u v : Untold) (c : Core) → v.paths ≡ u.paths → Tells u c → Tells v c
tells_same u v c e t = record {
  blocks = λ k b is. ap (λ f. f k) e ∙ t.blocks k b is;
  apart = λ i j same. t.apart i j (sym (ap (λ f. f i) e) ∙ same ∙ ap (λ f. f j) e);
}

-- ---- ticks

ticked-plus : (b : Bool) (n j : ℕ) → n + ticked b j ≡ ticked b n + j
ticked-plus true n j = omega arith
ticked-plus false n j = refl

ticked-some : (b : Bool) (n : ℕ) → 0 < n → 0 < ticked b n
ticked-some true n l = omega arith
ticked-some false n l = l

ticked-below : (b : Bool) (spent j n : ℕ) → 0 < spent → ticked b spent + j ≤ n → ticked b j < n
ticked-below true spent j n some l = omega arith
ticked-below false spent j n some l = omega arith

ticked-within : (b : Bool) (spent j n : ℕ) → ticked b spent + j ≤ n → spent + ticked b j ≤ n
ticked-within true spent j n l = omega arith
ticked-within false spent j n l = l

module _ (s : Source) (args : List ℤ) (pointer : Bool) where
  -- what a state comes to, with the ticks behind so many, is what the source means
  abbrev pub MeansHere : ℕ → Machine → Untold → Type 0
  MeansHere spent x u =
      (n j : ℕ) → spent + j ≤ n → told (spent + j) (comes_to (program x) n pointer (seen u x) j) ≡ mean s args (spent + j)

  means_on :
      (old new : Machine) (spent : ℕ) (b : Bool) (v w : Untold) → 0 < spent → new.functions ≡ old.functions →
      m.Turns (program old) pointer b (seen v old) (seen w new) → MeansHere spent old v → MeansHere (ticked b spent) new w
  means_on old new spent b v w some same turns here n j l =
      let k = ticked b spent + j in
      told-shown k (comes_to (program new) n pointer (seen w new) j)
      ∙ ap (λ fs. told k (shown (comes_to (map erased.function fs.now) n pointer (seen w new) j))) same
      ∙ ap (told k) (sym (turns n j (ticked-below b spent j n some l)))
      ∙ sym (told-shown k (comes_to (program old) n pointer (seen v old) (ticked b j)))
      ∙ subst (λ i. told i (comes_to (program old) n pointer (seen v old) (ticked b j)) ≡ mean s args i)
      (ticked-plus b spent j) (here n (ticked b j) (ticked-within b spent j n l))

  pub advanced :
      (total : ℕ) (old new : Machine) → Reaches s args pointer total old → Advances pointer old new →
      Reaches s args pointer total new
  advanced total old new r a = record {
    spent = ticked a.spends r.spent;
    some = ticked-some a.spends r.spent r.some;
    all = sym (ticked-plus a.spends r.spent new.ticks) ∙ ap (λ t. r.spent + t) (sym a.ticks) ∙ r.all;
    sound = a.keeps.sound r.sound;
    means = on;
  }
    where
      on : (u : Untold) → Tells u new.core → Means s args pointer (ticked a.spends r.spent) new u
      on u t =
          let before = r.means u (a.keeps.remembers u t) in
          let after = a.turns before.later (tells_same u before.later new.core before.paths t) in
          record {
            later = after.later;
            paths = after.paths ∙ before.paths;
            means =
                means_on old new r.spent a.spends before.later after.later r.some a.keeps.functions after.turns before.means;
          }

-- ---- the start

-- the activation of main is open and nowhere else
abbrev first : Untold → Untold
first u = record { paths = u.paths; places = (state.opened state.Here root).places; forks = [] }

core_starts : (u : Untold) (c : Core) → OfMain c → core (first u) c ≡ state.opened state.Here root
core_starts u c o = rw (o.births, o.most, o.output, o.blocks) refl

machine_starts :
    (functions : List Function) (main : Function) (args : List ℤ) (ticks : ℕ) (x : Machine) (u : Untold) →
    Starts functions main args ticks x →
    seen (first u) x ≡ starting (erased.function main) (map Num args) (state.opened state.Here root)
machine_starts functions main args ticks x u t =
    rw (t.works (first u), t.hand (first u), t.waiting, core_starts u x.core t.core) refl

sound_start :
    (functions : List Function) (main : Function) (args : List ℤ) (ticks : ℕ) (x : Machine) →
    Starts functions main args ticks x → IsSound x
sound_start functions main args ticks x t = record {
  ordered = InOrder-start x.core t.core.births t.core.blocks;
  counted = rw (t.core.births, t.waiting) refl;
  shallow = omega (arith, t.core.most);
}

-- main is the source's
started :
    (s : Source) (functions : List Function) (main : Function) (args : List ℤ) (ticks : ℕ) (x : Machine) →
    Starts functions main args ticks x → map erased.function functions ≡ resolution.program s →
    erased.function main ≡ main_or (slice_get (resolution.program s) (resolution.main_number s)) →
    Reaches s args (erased.function main).pointer (suc ticks) x
started s functions main args ticks x t fs is = record {
  spent = 1;
  some = omega arith;
  all = omega (arith, t.left);
  sound = sound_start functions main args ticks x t;
  means = λ u tells. record { later = first u; paths = refl; means = here u };
}
  where
    same : program x ≡ resolution.program s
    same = ap (map erased.function) t.functions_are ∙ fs

    here : (u : Untold) → MeansHere s args (erased.function main).pointer 1 x (first u)
    here u n j l =
        let start = state.opened state.Here root in
        let k : suc j ≡ 1 + j = omega arith in
        subst (λ k. told k (comes_to (program x) n (erased.function main).pointer (seen (first u) x) j) ≡ mean s args k) k
        (ap (λ p. told (suc j) (comes_to p n (erased.function main).pointer (seen (first u) x) j)) same
        ∙ ap (λ y. told (suc j) (comes_to (resolution.program s) n (erased.function main).pointer y j))
        (machine_starts functions main args ticks x u t)
        ∙ ap (λ g. told (suc j) (comes_to (resolution.program s) n g.pointer (starting g (map Num args) start) j)) is
        ∙ starts s args n j (omega arith))

numbers : (u : Untold) (args : List ℤ) → map (val u) (map value.Int args) ≡ map Num args
numbers u [] = refl
numbers u (n ∷ ns) = ap (λ vs. Num n ∷ vs) (numbers u ns)

abbrev with_vars : Vars → w.Hand
with_vars vs = record { values = []; accesses = []; vars = vs }

-- main's frame, values for its arguments, and its core
pub starts_there :
    (functions : List Function) (main : Function) (args : List ℤ) (ticks : ℕ) (x : Machine) (us : List Value) →
    x.functions.now ≡ functions →
    ((u : Untold) → works u x.running.works
    ≡ w.Declare (erased.function main).decls ∷ w.Statements (erased.function main).body ∷ []) →
    ((u : Untold) → hand u x.running.hand ≡ with_vars (set_all main.params (map (val u) us) unset)) →
    us ≡ map value.Int args → x.waiting ≡ [] → OfMain x.core → x.ticks ≡ ticks → Starts functions main args ticks x
starts_there functions main args ticks x us fs works hand is waiting core left = record {
  functions_are = fs;
  works = works;
  hand = λ u. hand u ∙ ap (λ vs. with_vars (set_all main.params vs unset)) (ap (map (val u)) is ∙ numbers u args);
  waiting = waiting;
  core = core;
  left = left;
}

-- main's function is found by its number, or stands for one where there is none
main_is :
    (s : Source) (functions : List Function) (k : ℕ) (r : Option (Bor Function)) (empty main : Bor Function) →
    map erased.function functions ≡ resolution.program s → k ≡ resolution.main_number s →
    option_copied r ≡ slice_get functions k → main ≡ unwrap_or r empty → erased.function empty.now ≡ main_or None →
    erased.function main.now ≡ main_or (slice_get (resolution.program s) (resolution.main_number s))
main_is s functions k r empty main fs at got is none =
    ap (λ b. erased.function b.now) is ∙ by r
    ∙ ap main_or
    (ap (option_map erased.function) got ∙ sym (slice_get-map erased.function functions k) ∙ ap (λ q. slice_get q k) fs
    ∙ ap (slice_get (resolution.program s)) at)
  where
    by : (r : Option (Bor Function)) →
        erased.function (unwrap_or r empty).now ≡ main_or (option_map erased.function (option_copied r))
    by None = none
    by (Some b) = refl

-- what the loop ends in, where it starts with main's function
pub ends_there :
    (s : Source) (functions : List Function) (k : ℕ) (r : Option (Bor Function)) (empty main : Bor Function) (args : List ℤ)
    (ticks total : ℕ) (start new : Machine) (last : Step) → map erased.function functions ≡ resolution.program s →
    k ≡ resolution.main_number s → option_copied r ≡ slice_get functions k → main ≡ unwrap_or r empty →
    erased.function empty.now ≡ main_or None → Starts functions main.now args ticks start → suc ticks ≡ total →
    ((s : Source) (args : List ℤ) (pointer : Bool) (total : ℕ) → Reaches s args pointer total start →
    Ends s args pointer total new last) →
    Ends s args (erased.function main.now).pointer total new last
ends_there s functions k r empty main args ticks total start new last fs at got is none t more run =
    let pointer = (erased.function main.now).pointer in
    let source = main_is s functions k r empty main fs at got is none in
    run s args pointer total
    (subst (λ n. Reaches s args pointer n start) more (started s functions main.now args ticks start t fs source))
