-- Loops whose tests and bodies are alike are alike, turn by turn.
use Rattle.std.proofs.Common.{refl, subst, ℕ, zero, suc, ◌≤◌, Bool, true, false, if◌then◌else◌, List, arith}
use Rattle.ec_simple.specs.declared.form.Shape.{Shape}
use Rattle.ec_simple.specs.Meaning.{Runs, SCaller, turns as simple_turns}
use Rattle.ec_simple.proofs.lockstep.Alike.{Alike, alike_spend}
use Rattle.ec_simple.proofs.lockstep.Together.{Together, together_less, together_map, together_then, together_pure, together_if}
use Rattle.ec_simple.proofs.lockstep.Values.{Valued}
use Rattle.ec_simple.proofs.lockstep.Variables.{Numbers, Agrees}
use Rattle.ec_simple.proofs.lockstep.Stages.{Did, did_kept, did_then}
use Rattle.ec_types.specs.Meaning.Evaluation.{Caller, turns}
use Rattle.ec_types.specs.Meaning.State.{Core, Does, Vars, pure, tick, ◌>>=◌}
use Rattle.ec_types.specs.Meaning.Values.{Val, holds}

-- a tick on both sides
pub together_tick : {A B : Type 0} {may : Bool} {P : A → B → Type 0} {f : Does A} {g : Does B} (m : ℕ) →
    Together may m P f g → Together may (suc m) P (tick true f) (tick true g)
together_tick {may = may} {P = P} {f = f} {g = g} m s =
    record { is = λ c r l. alike_spend may P f g c r (λ q e. s.is c q (omega (arith, e, l))) }

-- with no ticks left neither makes a turn
module _ (shapes : List Shape) (call : Caller) (n : ℕ) (scall : SCaller) (sn : ℕ) (may : Bool)
    (P : Vars → Vars → Type 0)
    (test : Vars → Does Val) (body : Vars → Does Vars) (before : Runs) (to : ℕ) (sbody : Runs) where
  no_turn : (i j : ℕ) (vs us : Vars) (c : Core) →
      Alike may P zero (turns false call true n i test body vs c zero)
      (simple_turns shapes true scall sn j before to sbody us c zero)
  no_turn zero zero vs us c = refl
  no_turn zero (suc j) vs us c = refl
  no_turn (suc i) zero vs us c = refl
  no_turn (suc i) (suc j) vs us c = refl

  pub together_idle : (i j : ℕ) (vs us : Vars) →
      Together may zero P (turns false call true n i test body vs)
      (simple_turns shapes true scall sn j before to sbody us)
  together_idle i j vs us =
      record {
        is = λ c r l. subst (λ q. Alike may P q (turns false call true n i test body vs c q)
            (simple_turns shapes true scall sn j before to sbody us c q)) (omega (arith, l)) (no_turn i j vs us c);
      }

-- t is the first temporary of the test, u the first of the body
module _ (shapes : List Shape) (call : Caller) (n : ℕ) (scall : SCaller) (sn k : ℕ) (may : Bool) (place : ℕ → ℕ)
    (v : ℕ) (sc : List ℕ) (numbers : Numbers place sc v)
    (t u to : ℕ) (above : v ≤ t) (behind : t ≤ u) (test : Vars → Does Val) (body : Vars → Does Vars)
    (before sbody : Runs)
    (tests : (vs us : Vars) → Agrees place sc vs us → Together may k (Valued t to us) (test vs) (before us))
    (bodies : (vs us : Vars) → Agrees place sc vs us → Together may k (Did place v sc u us) (body vs) (sbody us)) where
  pub turns_run : (i j m : ℕ) → m ≤ i → m ≤ j → m ≤ k → (vs us : Vars) → Agrees place sc vs us →
      Together may m (Did place v sc t us) (turns false call true n i test body vs)
      (simple_turns shapes true scall sn j before to sbody us)
  turns_run i j zero li lj lk vs us g =
      together_idle shapes call n scall sn may (Did place v sc t us) test body before to sbody i j vs us
  turns_run zero j (suc m) li lj lk vs us g = absurd (omega (arith, li))
  turns_run (suc i) zero (suc m) li lj lk vs us g = absurd (omega (arith, lj))
  turns_run (suc i) (suc j) (suc m) li lj lk vs us g =
      let more = turns false call true n i test body in
      let smore = simple_turns shapes true scall sn j before to sbody in
      together_tick m
      (together_then (together_less m k (omega (arith, lk)) (tests vs us g))
      (λ a ws p.
      let same = did_kept place v sc t vs us ws numbers above g p.1 in
      subst (λ b. Together may m (Did place v sc t us) (if holds b then (body vs >>= more) else pure vs)
      (if holds (ws to) then (sbody ws >>= smore) else pure ws)) p.0
      (together_if (holds (ws to))
      (λ e. together_then (together_less m k (omega (arith, lk)) (bodies vs ws same.agrees))
      (λ xs ys d. together_map (λ a b f. did_then place v sc t t us xs ys a b (omega arith)
      (did_then place v sc t u us vs ws xs ys behind same d) f)
      (turns_run i j m (omega (arith, li)) (omega (arith, lj)) (omega (arith, lk)) xs ys d.agrees)))
      (λ e. together_pure same))))
