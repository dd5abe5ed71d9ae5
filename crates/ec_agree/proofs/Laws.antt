-- From the stages to the two laws.
use Rattle.std.proofs.Common.{◌≡◌, ◌<◌, ℕ, true, Option, List, [], ◌∷◌, ◌++◌, Some, None, refl, ap, sym, ◌∙◌, subst, slice_get, arith}
use Rattle.std.specs.Prelude.{ℤ}
use Rattle.ec_core.specs.declared.choice.Act.{Act}
use Rattle.ec_core.specs.declared.choice.Act.TheVariants.{EuReady, EuEvent, SuEvent, SuReady}
use Rattle.ec_core.specs.declared.message.Entry.{Entry}
use Rattle.ec_core.specs.declared.message.Message.{Message}
use Rattle.ec_core.specs.declared.slots.Slot.{Slot}
use Rattle.ec_core.specs.declared.node.Node.{Node}
use Rattle.ec_core.specs.Queues.{has_some}
use Rattle.ec_core.specs.Fiber.{as_int, held_in, cells_in}
use Rattle.ec_core.specs.Slots.{Row, slot_of, fillings_of}
use Rattle.ec_core.specs.Step.{enabled}
use Rattle.ec_core.specs.Run.{start, HasEnded}
use Rattle.ec_small.specs.declared.tree.Program.{Program}
use Rattle.ec_small.specs.Meaning.{meaning}
use Rattle.ec_split.specs.Cut.{code_of}
use Rattle.ec_core.specs.declared.eu.Frame.{Frame}
use Rattle.ec_agree.specs.Agree.{Agrees, own, EndedRunsAgree, UnendedRunsGoOn}
use Rattle.ec_agree.proofs.Shapes.Seen.{Seen, Looks}
use Rattle.ec_agree.proofs.Shapes.Stages.{Stage, Entering, Halted, Sending, Printing, Told, Starting, Answering, Forgot, Answered, Closing, Over, Asks, Answers, expected, Good, rows}
use Rattle.ec_agree.proofs.Every.{StandsIn, runs, started}

-- ---- a world that has ended

-- how often the root's slot was filled
abbrev filled : List Row → ℕ
filled slots = fillings_of (slot_of 0 0 slots)

abbrev cell : List Frame → ℤ
cell frames = as_int (held_in (cells_in (slice_get frames 0)) 0)

-- whether the root's slot is filled is seen
ended_seen : (s : Node) (a : Seen) → Looks s a → HasEnded (s ∷ []) → 0 < filled a.slots
ended_seen s a k h = subst (λ z. 0 < filled z.slots) k.is h

rows_unfilled : (main : Option Slot) → 0 < filled (rows main) → ⊥
rows_unfilled None h = omega (arith, h)
rows_unfilled (Some x) h = omega (arith, h)

over : (p : Program) (s : Node) (stage : Stage) → Good p stage → Looks s (expected stage) →
    0 < filled (expected stage).slots → Agrees (s ∷ []) (meaning p)
over p s Entering g k h = absurd (omega (arith, h))
over p s (Halted main out next) g k h = absurd (rows_unfilled main h)
over p s (Sending f bytes out point) g k h = absurd (omega (arith, h))
over p s (Printing f bytes out point) g k h = absurd (omega (arith, h))
over p s (Told f point) g k h = absurd (omega (arith, h))
over p s (Starting f point) g k h = absurd (omega (arith, h))
over p s (Answering main n out) g k h = absurd (rows_unfilled main h)
over p s (Forgot others n out) g k h = absurd (omega (arith, h))
over p s (Answered main n out) g k h = absurd (rows_unfilled main h)
over p s (Closing others n out) g k h = absurd (omega (arith, h))
over p s (Over others n out) g k h = record {
  ending = refl;
  output = ap (λ z. z.output) k.is ∙ g.output;
  result = ap (λ z. cell z.frames) k.is ∙ g.result;
  store = refl;
}

agrees : (p : Program) (w : List Node) → StandsIn p w → HasEnded w → Agrees w (meaning p)
agrees p w k h =
    let s = k.node in
    let j = k.stands in
    let b = ended_seen s (expected j.stage) j.looks (subst HasEnded k.is h) in
    subst (λ z. Agrees z (meaning p)) (sym k.is) (over p s j.stage j.good j.looks b)

pub ended_runs_agree : EndedRunsAgree
ended_runs_agree p sound args list w h e = agrees p w (runs p sound list (start (code_of p) 1 args) w (started p args) h) e

-- ---- a world that goes on

abbrev Goes : List Node → Type 0
Goes w = (act : Act) × (enabled (own act) w ≡ true)

-- what is on its way to the synchronisation unit moves on, or is taken
pipe_goes : (s : Node) (events outbox : List Message) (x : Message) (rest : List Message) →
    s.events ≡ events → s.eu.outbox ≡ outbox → events ++ outbox ≡ x ∷ rest → Goes (s ∷ [])
pipe_goes s (y ∷ events) outbox x rest h k l = (SuEvent, ap has_some h)
pipe_goes s [] (y ∷ outbox) x rest h k l = (EuEvent, ap has_some k)
pipe_goes s [] [] x rest h k l = absurd (cc)

ready_goes : (s : Node) (ready more : List Entry) (x : Entry) (rest : List Entry) → s.ready ≡ ready →
    s.su.ready ≡ more → ready ++ more ≡ x ∷ rest → Goes (s ∷ [])
ready_goes s (y ∷ ready) more x rest h k l = (EuReady, ap has_some h)
ready_goes s [] (y ∷ more) x rest h k l = (SuReady, ap has_some k)
ready_goes s [] [] x rest h k l = absurd (cc)

piped : (s : Node) (a : Seen) (x : Message) (rest : List Message) → a.pipe ≡ x ∷ rest → Looks s a →
    Goes (s ∷ [])
piped s a x rest h k = pipe_goes s s.events s.eu.outbox x rest refl refl (ap (λ z. z.pipe) k.is ∙ h)

waits : (s : Node) (a : Seen) (x : Entry) (rest : List Entry) → a.ready ≡ x ∷ rest → Looks s a → Goes (s ∷ [])
waits s a x rest h k = ready_goes s s.ready s.su.ready x rest refl refl (ap (λ z. z.ready) k.is ∙ h)

goes : (p : Program) (s : Node) (stage : Stage) → Looks s (expected stage) → (HasEnded (s ∷ []) → ⊥) →
    Goes (s ∷ [])
goes p s Entering k n = waits s (expected Entering) _ _ refl k
goes p s (Halted main out (Asks bytes point)) k n = piped s (expected (Halted main out (Asks bytes point))) _ _ refl k
goes p s (Halted main out (Answers x)) k n = piped s (expected (Halted main out (Answers x))) _ _ refl k
goes p s (Sending f bytes out point) k n = piped s (expected (Sending f bytes out point)) _ _ refl k
goes p s (Printing f bytes out point) k n = waits s (expected (Printing f bytes out point)) _ _ refl k
goes p s (Told f point) k n = piped s (expected (Told f point)) _ _ refl k
goes p s (Starting f point) k n = waits s (expected (Starting f point)) _ _ refl k
goes p s (Answering main x out) k n = waits s (expected (Answering main x out)) _ _ refl k
goes p s (Forgot others x out) k n = waits s (expected (Forgot others x out)) _ _ refl k
goes p s (Answered main x out) k n = piped s (expected (Answered main x out)) _ _ refl k
goes p s (Closing others x out) k n = piped s (expected (Closing others x out)) _ _ refl k
goes p s (Over others x out) k n = absurd (n (subst (λ z. 0 < filled z.slots) (sym k.is) (omega arith)))

goes_on : (p : Program) (w : List Node) → StandsIn p w → (HasEnded w → ⊥) → Goes w
goes_on p w k n = subst Goes (sym k.is) (goes p k.node k.stands.stage k.stands.looks (λ e. n (subst HasEnded (sym k.is) e)))

pub unended_runs_go_on : UnendedRunsGoOn
unended_runs_go_on p sound args list w h n = goes_on p w (runs p sound list (start (code_of p) 1 args) w (started p args) h) n
