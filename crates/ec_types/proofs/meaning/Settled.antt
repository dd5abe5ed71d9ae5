-- Meanings are settled: what has ended stays, and what goes on has spent its ticks and with more goes on from there.
use Rattle.std.proofs.Common.{◌≡◌, refl, sym, ap, ◌∙◌, subst, ℕ, ◌+◌, ◌≤◌, arith, List, pos, ℤ}
use Rattle.ec_syntax.specs.declared.item.Program.{Program as Source}
use Rattle.ec_types.specs.Meaning.Values.{Val, number}
use Rattle.ec_types.specs.Meaning.State.{Out, With, Returns, Traps, Going}
use Rattle.ec_types.specs.Meaning.Programs.{Meaning, Ended, Trapped, Unfinished, HasEnded, IsFinal, meant, told, run_source, mean}
use Rattle.ec_types.specs.Meaning.Resolution as resolution
use Rattle.ec_types.specs.Meaning.Laws.{EndsStay, OneEnd, OutputGrows, MostGrows, WithinTicks, GoesOnWithoutTicks}
use Rattle.ec_types.proofs.meaning.Growth.{Grown, grows_refl}
use Rattle.ec_types.proofs.meaning.More.{Up, more_run}
use Rattle.ec_types.proofs.meaning.Spent.{Left, spent_run}

abbrev Increases : Meaning → Meaning → Type 0
Increases m n = Grown m.output m.most n.output n.most

-- ---- what is told of a program's run

-- what is told with j ticks more of a run that goes on from the one within k
module _ (k j : ℕ) where
  told_stays : (x y : Out Val) → Up j x y → HasEnded (told k x).ending → told (k + j) y ≡ told k x
  told_stays (With v, c, q) y h e = ap (told (k + j)) h ∙ ap (meant Ended (number v) c) (omega arith)
  told_stays (Returns v, c, q) y h e = ap (told (k + j)) h ∙ ap (meant Ended (number v) c) (omega arith)
  told_stays (Traps t, c, q) y h e = ap (told (k + j)) h ∙ ap (meant (Trapped t) (pos 0) c) (omega arith)
  told_stays (Going, c, q) y h e = absurd e

  same_grows : (x y z : Out Val) → y ≡ z → Increases (told k x) (told (k + j) z) → Increases (told k x) (told (k + j) y)
  same_grows x y z e g = subst (λ o. Increases (told k x) (told (k + j) o)) (sym e) g

  told_grows : (x y : Out Val) → Up j x y → Increases (told k x) (told (k + j) y)
  told_grows (With v, c, q) y h = same_grows (With v, c, q) y (With v, c, q + j) h (grows_refl c)
  told_grows (Returns v, c, q) y h = same_grows (Returns v, c, q) y (Returns v, c, q + j) h (grows_refl c)
  told_grows (Traps t, c, q) y h = same_grows (Traps t, c, q) y (Traps t, c, q + j) h (grows_refl c)
  told_grows (Going, c, q) (With v, d, r) h = h
  told_grows (Going, c, q) (Returns v, d, r) h = h
  told_grows (Going, c, q) (Traps t, d, r) h = h
  told_grows (Going, c, q) (Going, d, r) h = h

within_ticks_told : (k : ℕ) (x : Out Val) → (told k x).ticks ≤ k
within_ticks_told k (With v, c, q) = omega arith
within_ticks_told k (Returns v, c, q) = omega arith
within_ticks_told k (Traps t, c, q) = omega arith
within_ticks_told k (Going, c, q) = omega arith

goes_on_told : (k : ℕ) (x : Out Val) → Left k x → (told k x).ending ≡ Unfinished → (told k x).ticks ≡ k
goes_on_told k (With v, c, q) l e = absurd (cc)
goes_on_told k (Returns v, c, q) l e = absurd (cc)
goes_on_told k (Traps t, c, q) l e = absurd (cc)
goes_on_told k (Going, c, q) l e = omega (arith, l)

-- ---- the laws

module _ (p : Source) (args : List ℤ) where
  goes_on : (k more : ℕ) → Up more (run_source p args k) (run_source p args (k + more))
  goes_on k more = more_run (resolution.program p) (resolution.main_number p) args k more

  increases : (k more : ℕ) → Increases (mean p args k) (mean p args (k + more))
  increases k more = told_grows k more (run_source p args k) (run_source p args (k + more)) (goes_on k more)

  final_stays : (m : Meaning) (f : IsFinal p args m) (more : ℕ) → mean p args (f.ticks + more) ≡ m
  final_stays m f more =
      let k = f.ticks in
      told_stays k more (run_source p args k) (run_source p args (k + more)) (goes_on k more)
      (subst (λ n. HasEnded n.ending) (sym f.means) f.ended) ∙ f.means

pub ends_stay : EndsStay
ends_stay p args k more e = final_stays p args (mean p args k) (record { ticks = k; means = refl; ended = e }) more

pub one_end : OneEnd
one_end p args m n f g =
    sym (final_stays p args m f g.ticks) ∙ ap (mean p args) (omega arith) ∙ final_stays p args n g f.ticks

pub output_grows : OutputGrows
output_grows p args k more = (increases p args k more).output

pub most_grows : MostGrows
most_grows p args k more = (increases p args k more).most

pub within_ticks : WithinTicks
within_ticks p args k = within_ticks_told k (run_source p args k)

pub goes_on_without_ticks : GoesOnWithoutTicks
goes_on_without_ticks p args k =
    goes_on_told k (run_source p args k) (spent_run (resolution.program p) (resolution.main_number p) args k)
