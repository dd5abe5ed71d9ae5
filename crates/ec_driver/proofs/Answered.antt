-- What is told of an answer of the evaluator is what is told of the meaning.
use Rattle.std.proofs.Common.{◌≡◌, ◌≤◌, refl, ap, sym, ◌∙◌, subst, ℕ, ◌+◌, ◌-◌, List, ℤ, if◌then◌else◌, arith}
use Rattle.std.proofs.lemmas.Bool.{le-leb, lt-leb}
use Rattle.ec_base.specs.declared.limits.TheConstants.{MAX_ACTIVATIONS}
use Rattle.ec_base.specs.declared.memory.Memory.{Memory}
use Rattle.ec_meaning.specs.declared.meant.Meant.{Meant}
use Rattle.ec_meaning.specs.declared.meant.MeantEnd.{MeantEnd}
use Rattle.ec_meaning.specs.declared.meant.MeantEnd.TheVariants as end
use Rattle.ec_meaning.specs.Means.{Agrees, IsMeant, IsTooDeep}
use Rattle.ec_syntax.specs.declared.item.Program.{Program}
use Rattle.ec_types.specs.Meaning.Laws.{MostGrows}
use Rattle.ec_types.specs.Meaning.Programs as meaning
use Rattle.ec_types.specs.Meaning.Programs.{Meaning, mean}
use Rattle.ec_driver.specs.Answered as answered
use Rattle.ec_driver.specs.Ending.{bare, ending}
use Rattle.ec_driver.specs.Lines.{line_of}
use Rattle.ec_driver.specs.Meant.{meant, status_of, told, too_deep}
use Rattle.ec_driver.specs.declared.status.Status.TheVariants as status

-- an answer that agrees
agreed : (m : Meaning) (a : Meant) (e : meaning.Ending) → m.ending ≡ e → answered.status_of a.ending ≡ status_of e → Agrees m a → answered.told_of a ≡ meant m
agreed m a e is same g =
    ap (λ s. ending (bare s) a.output (line_of s a.result)) (same ∙ ap status_of (sym is))
    ∙ ap (λ o. ending (bare (status_of m.ending)) o (line_of (status_of m.ending) a.result)) g.output
    ∙ ap (λ r. ending (bare (status_of m.ending)) m.output (line_of (status_of m.ending) r)) g.result
    ∙ sym (ap (λ b. if b then told m else too_deep) (le-leb m.most MAX_ACTIVATIONS g.shallow))

deep : (grows : MostGrows) (p : Program) (args : List ℤ) (k : ℕ) (a : Meant) → a.ending ≡ end.TooDeep → IsTooDeep p args k a → answered.told_of a ≡ meant (mean p args k)
deep grows p args k a is d =
    let more = grows p args a.ticks (k - a.ticks) in
    let all : a.ticks + (k - a.ticks) ≡ k = omega (arith, d.within) in
    let most : (mean p args a.ticks).most ≤ (mean p args k).most = subst (λ n. (mean p args a.ticks).most ≤ (mean p args n).most) all more in
    ap (λ e. ending (bare (answered.status_of e)) a.output (line_of (answered.status_of e) a.result)) is
    ∙ ap (λ o. ending (bare status.TooDeep) o (line_of status.TooDeep a.result)) d.output
    ∙ sym (ap (λ b. if b then told (mean p args k) else too_deep) (lt-leb (mean p args k).most MAX_ACTIVATIONS (omega (arith, most, d.deep))))

abbrev answer : MeantEnd → List ℕ → ℤ → Memory → ℕ → Meant
answer ending output result store ticks = record { ending = ending; output = output; result = result; store = store; ticks = ticks }

split : (grows : MostGrows) (p : Program) (args : List ℤ) (k : ℕ) (e : MeantEnd) (o : List ℕ) (r : ℤ) (store : Memory) (t : ℕ) →
    IsMeant p args k (answer e o r store t) → answered.told_of (answer e o r store t) ≡ meant (mean p args k)
split grows p args k end.Ended o r store t h = agreed (mean p args k) (answer end.Ended o r store t) meaning.Ended h.0 refl h.1
split grows p args k (end.Trapped u) o r store t h = agreed (mean p args k) (answer (end.Trapped u) o r store t) (meaning.Trapped u) h.0 refl h.1
split grows p args k end.OutOfTicks o r store t h = agreed (mean p args k) (answer end.OutOfTicks o r store t) meaning.Unfinished h.0 refl h.1
split grows p args k end.TooDeep o r store t h = deep grows p args k (answer end.TooDeep o r store t) refl h

pub answered_is_meant : (grows : MostGrows) (p : Program) (args : List ℤ) (k : ℕ) (a : Meant) → IsMeant p args k a → answered.told_of a ≡ meant (mean p args k)
answered_is_meant grows p args k a m = split grows p args k a.ending a.output a.result a.store a.ticks m
