-- The entries that run main's fibers.
use Rattle.std.proofs.Common.{◌≡◌, ◌+◌, ◌-◌, ◌==◌, ◌&&◌, ℕ, true, List, [], ◌∷◌, ◌++◌, length, replicate, Some, pos, refl, ap, sym, ◌∙◌, subst, slice_get, arith}
use Rattle.std.proofs.lemmas.Bool.{eq-eqb}
use Rattle.std.specs.Prelude.{if◌then◌else◌}
use Rattle.std.proofs.lemmas.List.{length-replicate}
use Rattle.ec_base.specs.declared.value.Value.{Value}
use Rattle.ec_base.specs.declared.value.Value.TheVariants.{Int}
use Rattle.ec_core.specs.declared.code.Instr.{Instr}
use Rattle.ec_core.specs.declared.message.Entry.{Entry}
use Rattle.ec_core.specs.declared.message.Entry.TheVariants as e
use Rattle.ec_core.specs.declared.message.Message.{Message}
use Rattle.ec_core.specs.declared.eu.Frame.{Frame}
use Rattle.ec_core.specs.State.{Exec}
use Rattle.ec_core.specs.Fiber.{does, does_fiber, suits, runs_in}
use Rattle.ec_core.specs.Entry.{entry, first_cells}
use Rattle.ec_small.specs.declared.tree.Program.{Program}
use Rattle.ec_small.specs.Meaning.{State, declared_from}
use Rattle.ec_small.specs.Sound.{Sound}
use Rattle.ec_split.specs.Cut.{code_of, main_of, fiber, init_instrs, temporaries}
use Rattle.ec_agree.proofs.Shapes.Cells.{root_frame, main_frame, frames_with, in_main, held_fresh, var_fresh}
use Rattle.ec_agree.proofs.Shapes.Stages.{Point, Next, GoodNext, Ahead, Shows, frames_at, messages, main_call}
use Rattle.ec_agree.proofs.Runs.Statements.{declares, declares_silently}
use Rattle.ec_agree.proofs.Runs.Fibers.{rest_of, fiber_at}
use Rattle.ec_agree.proofs.Runs.Halting.{halts}

-- a unit with these frames and this output
abbrev unit_of : List Frame → List ℕ → List Message → Exec
unit_of frames out outbox = record { frames = frames; spawned = []; outbox = outbox; output = out }

-- an entry runs a fiber of main to its end, which does what the meaning says
pub record Runs (p : Program) (x : Entry) (frames : List Frame) (out : List ℕ) : Type 0 where
  pub next : Next
  pub does : (o : List Message) →
      entry (code_of p) 0 x (unit_of frames out o) ≡ unit_of (frames_at next) out (o ++ messages next)
  pub good : GoodNext p out next

-- how many cells main has
abbrev width_of : Program → ℕ
width_of p = length p.inits + temporaries p

main_suits : (p : Program) (cells : List Value) → length cells ≡ width_of p →
    suits (main_of p) (Some (main_frame true cells)) ≡ true
main_suits p cells size =
    ap (λ z. (true && (z == width_of p)) && (1 == 1)) size ∙ ap (λ z. (true && z) && (1 == 1)) (eq-eqb (width_of p) (width_of p) refl)

-- main's fiber k runs
main_runs : (p : Program) (k : ℕ) (code : List Instr) (cells : List Value) (u : Exec) →
    length cells ≡ width_of p →
    slice_get (main_of p).fibers k ≡ Some (fiber code) →
    runs_in 0 1 k (Some (main_of p)) (in_main cells u) ≡ does 0 1 code (in_main cells u)
main_runs p k code cells u size is =
    let s = in_main cells u in
    ap (λ z. if z then does_fiber 0 1 (slice_get (main_of p).fibers k) s else s) (main_suits p cells size)
    ∙ ap (λ z. does_fiber 0 1 z s) is

-- a fiber that a print has started
pub main_goes_on : (p : Program) → Sound p → (filled : ℕ) (point : Point) → Ahead p point →
    Runs p (e.Start 1 point.fiber 0 filled) (frames_with true point.cells) point.state.output
main_goes_on p sound filled point ahead =
    let k = point.fiber in
    let code = rest_of (length p.inits) k point.stmts p.result in
    let out = point.state.output in
    let stands = fiber_at p ahead.before k [] point.stmts ahead.passed ahead.fibers in
    let end = halts p sound k point.stmts point.state point.cells (record {
      before = ahead.before;
      begun = [];
      passed = ahead.passed;
      fibers = ahead.fibers;
      last = ahead.last;
      shows = ahead.shows;
      sound = ahead.sound;
      wide = ahead.wide;
    }) in
    record {
      next = end.next;
      does = λ o. main_runs p k code point.cells (unit_of [] out o) ahead.shows.size stands ∙ end.runs (unit_of [] out o);
      good = end.good;
    }

-- ---- the first fiber

abbrev new_cells : Program → List Value
new_cells p = first_cells (width_of p) []

-- before the first declaration
abbrev new_state : Program → State
new_state p = record { vars = replicate (length p.inits) (pos 0); output = []; ticks = 1 }

less_none : (n : ℕ) → n - 0 ≡ n
less_none n = omega arith

new_shows : (p : Program) → Shows p (new_state p).vars (new_cells p)
new_shows p = record {
  count = length-replicate (length p.inits) (pos 0);
  size = length-replicate (width_of p - 0) (Int (pos 0)) ∙ less_none (width_of p);
  shown = λ k h. held_fresh (width_of p - 0) k ∙ ap (λ z. Int z) (sym (var_fresh (length p.inits) k));
}

-- main's call
pub main_enters : (p : Program) → Sound p → Runs p (e.Enter main_call) (root_frame (Int (pos 0)) ∷ []) []
main_enters p sound =
    let n = length p.inits in
    let new = new_state p in
    let first = init_instrs n 0 p.inits in
    let code = rest_of n 0 p.stmts p.result in
    let one = declares p p.inits 0 new (new_cells p) (omega arith) sound.inits (omega arith) (new_shows p) in
    let end = halts p sound 0 p.stmts (declared_from 0 p.inits new) one.cells (record {
      before = [];
      begun = first;
      passed = refl;
      fibers = refl;
      last = refl;
      shows = one.shows;
      sound = sound.stmts;
      wide = omega arith;
    }) in
    let stands = fiber_at p [] 0 first p.stmts refl refl in
    record {
      next = end.next;
      does = λ o.
          main_runs p 0 (first ++ code) (new_cells p) (unit_of [] [] o) (new_shows p).size stands
          ∙ (one.leads code (unit_of [] [] o) ∙ end.runs (unit_of [] [] o));
      good = subst (λ z. GoodNext p z end.next) (declares_silently p.inits 0 new) end.good;
    }
