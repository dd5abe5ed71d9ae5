-- How a command that reads one source may end, and what follows of its status.
use Rattle.std.proofs.Common.{◌≡◌, ◌⊎◌, inl, inr, ℕ, Bool, true, false, if◌then◌else◌, List, [], ◌∷◌, nat_le, ℤ, refl, ap, sym, ◌∙◌, subst, Result, Ok, Err, nat_lt, slice_get}
use Rattle.ec_core.specs.Run.{filled_in}
use Rattle.ec_edge.specs.Shelf.{SeenShelf, Told, holds}
use Rattle.ec_edge.specs.Sink.{SeenSink}
use Rattle.ec_driver.specs.declared.command.Command.{Command}
use Rattle.ec_driver.specs.declared.command.Command.TheVariants.{Check, Print, Means, Run}
use Rattle.ec_driver.specs.declared.command.RunWords.{RunWords}
use Rattle.ec_driver.specs.declared.command.WordsRefusal.{WordsRefusal}
use Rattle.ec_driver.specs.declared.status.Refusal.{Refusal}
use Rattle.ec_driver.specs.declared.status.Report.{Report}
use Rattle.ec_driver.specs.declared.status.Status.{Status}
use Rattle.ec_driver.specs.declared.status.Status.TheVariants.{Done, WordsRefused, SourceRefused, Trapped, StepsSpent, ReadFault, WriteFault, NoMemory, TooDeep}
use Rattle.ec_driver.specs.Command.{told_command}
use Rattle.ec_driver.specs.Ending.{Ending, Reports, Sinks, stop}
use Rattle.ec_driver.specs.Kept.{Runs}
use Rattle.ec_driver.specs.Load.{Unread}
use Rattle.ec_driver.specs.Once.{AreRefusedOnce}
use Rattle.ec_driver.specs.Meant.{MeansSo, meant, status_of, too_deep, told as told_meaning}
use Rattle.ec_syntax.specs.declared.item.Program.{Program as Tree}
use Rattle.ec_driver.specs.Source.{HasTree, IsChecked, IsProgram, IsSmall, IsTypedText, Misfits, Rejects, Unchecked, Untyped}
use Rattle.ec_base.specs.declared.limits.TheConstants.{MAX_ACTIVATIONS, MAX_TICKS}
use Rattle.ec_types.specs.Meaning.Programs.{Meaning, mean}
use Rattle.ec_types.specs.Meaning.Programs as meaning
use Rattle.ec_driver.specs.Status.{IsOfOrFails, IsOrFails, ReadsAs, done, failed, kind_of}
use Rattle.ec_driver.specs.Task.{AcceptsTold, Checks, Does, Ends, HoldTexts, IsRefusal, IsText, MayEnd, RefusesTold, Shows, WordsMayEnd, ended, of_source, refused, unread, wanting}

-- ---- endings of one source

module _ (file : List ℕ) (rejects : List ℕ → Refusal → Type 0) (accepts : List ℕ → Type 0) (ends : List ℕ → Ending → Type 0) (told : List ℕ → Told) where
  pub unread_ends : (s : Status) → Unread rejects (told file) s → MayEnd (of_source file rejects accepts ends) told (stop s)
  unread_ends (SourceRefused r) u = refused (u.0 ∷ []) (SourceRefused r) (u.1, tt) u.2 refl
  unread_ends ReadFault u = unread refl
  unread_ends NoMemory u = wanting refl
  unread_ends Done u = absurd u
  unread_ends WordsRefused u = absurd u
  unread_ends (Trapped t) u = absurd u
  unread_ends StepsSpent u = absurd u
  unread_ends WriteFault u = absurd u
  unread_ends TooDeep u = absurd u

  pub source_ends : (text : List ℕ) (e : Ending) → IsText (told file) text → ends text e → MayEnd (of_source file rejects accepts ends) told e
  source_ends text e is h = ended (text ∷ []) (is, tt) h

  pub ends_by : (text : List ℕ) (e : Ending) → IsText (told file) text → (e ≡ stop NoMemory) ⊎ ends text e → MayEnd (of_source file rejects accepts ends) told e
  ends_by text e is (inl want) = wanting want
  ends_by text e is (inr h) = source_ends text e is h

-- a file that isn't read has a status that can be said
pub unread_said : (rejects : List ℕ → Refusal → Type 0) (told : Told) (s : Status) → Unread rejects told s → s ≡ WriteFault → ⊥
unread_said rejects told s u e = subst (Unread rejects told) e u

-- the ending of a command is that of its words
pub of_words : (words : List (List ℕ)) (c : Command) (shelf : SeenShelf) (out out_after err err_after : SeenSink) (x : Report) → told_command words ≡ Ok c →
    Does c shelf out out_after err err_after x → Ends words shelf out out_after err err_after x
of_words words c shelf out out_after err err_after x is (e, may, shows) = (e, subst (λ r. WordsMayEnd r shelf.told e) (sym is) may, shows)

-- words that are no command, or were not read for want of memory
pub words_wanting : (r : Result Command WordsRefusal) (told : List ℕ → Told) → WordsMayEnd r told (stop NoMemory)
words_wanting (Ok c) told = wanting refl
words_wanting (Err r) told = inl refl

-- ---- the count of read faults

reads_of : (s t : Status) (m n : ℕ) → ((kind_of s ≡ failed → ⊥) → s ≡ t) → ReadsAs t m n → ReadsAs s m n
reads_of Done t m n h r = subst (λ z. ReadsAs z m n) (sym (h (λ c. cc))) r
reads_of WordsRefused t m n h r = subst (λ z. ReadsAs z m n) (sym (h (λ c. cc))) r
reads_of (SourceRefused q) t m n h r = subst (λ z. ReadsAs z m n) (sym (h (λ c. cc))) r
reads_of (Trapped q) t m n h r = subst (λ z. ReadsAs z m n) (sym (h (λ c. cc))) r
reads_of StepsSpent t m n h r = subst (λ z. ReadsAs z m n) (sym (h (λ c. cc))) r
reads_of TooDeep t m n h r = subst (λ z. ReadsAs z m n) (sym (h (λ c. cc))) r
reads_of ReadFault t m n h r = subst (λ z. ReadsAs z m n) (sym (h (λ c. cc))) r
reads_of WriteFault t m n h r = tt
reads_of NoMemory t m n h r = tt

pub reads_shown : (e : Ending) (x : Report) (d : Sinks) (m n : ℕ) → Reports e x d → ReadsAs e.report.status m n → ReadsAs x.status m n
reads_shown e x d m n shows r = reads_of x.status e.report.status m n (λ plain. (shows.delivers plain).status) r

if_reads : (b : Bool) (m n : ℕ) → n ≡ m → ReadsAs (if b then Done else StepsSpent) m n
if_reads true m n h = h
if_reads false m n h = h

-- a run counts no read fault
pub run_reads : (c : RunWords) (text : List ℕ) (e : Ending) (m n : ℕ) → (e ≡ stop NoMemory) ⊎ Runs c text e → n ≡ m → ReadsAs e.report.status m n
run_reads c text e m n (inl is) h = subst (λ (z : Ending). ReadsAs z.report.status m n) (sym is) tt
run_reads c text e m n (inr (code, r, w, to, is)) h =
    subst (λ (z : Ending). ReadsAs z.report.status m n) (sym is) (if_reads (nat_lt 0 (filled_in (slice_get w 0))) m n h)

told_reads : (e : meaning.Ending) (m n : ℕ) → n ≡ m → ReadsAs (status_of e) m n
told_reads meaning.Ended m n h = h
told_reads (meaning.Trapped t) m n h = h
told_reads meaning.Unfinished m n h = h

meant_reads_by : (b : Bool) (x : Meaning) (m n : ℕ) → n ≡ m → ReadsAs (if b then told_meaning x else too_deep).report.status m n
meant_reads_by true x m n h = told_reads x.ending m n h
meant_reads_by false x m n h = h

-- what is told of a meaning counts no read fault
pub means_reads : (x : Meaning) (e : Ending) (m n : ℕ) → (e ≡ stop NoMemory) ⊎ (e ≡ meant x) → n ≡ m → ReadsAs e.report.status m n
means_reads x e m n (inl is) h = subst (λ (z : Ending). ReadsAs z.report.status m n) (sym is) tt
means_reads x e m n (inr is) h = subst (λ (z : Ending). ReadsAs z.report.status m n) (sym is) (meant_reads_by (nat_le x.most MAX_ACTIVATIONS) x m n h)

-- the meaning of the tree of a text is one of the text
pub meant_so : (args given : List ℤ) (text : List ℕ) (tree : Tree) (e : Ending) → given ≡ args → HasTree text tree →
    (e ≡ stop NoMemory) ⊎ (e ≡ meant (mean tree given MAX_TICKS)) → (e ≡ stop NoMemory) ⊎ MeansSo args text e
meant_so args given text tree e same has (inl is) = inl is
meant_so args given text tree e same has (inr is) = inr (tree, has, is ∙ ap (λ l. meant (mean tree l MAX_TICKS)) same)

-- ---- one ending alone for a text that is told

fails_or_not : (s : Status) → (kind_of s ≡ failed) ⊎ (kind_of s ≡ failed → ⊥)
fails_or_not Done = inr (λ c. cc)
fails_or_not WordsRefused = inr (λ c. cc)
fails_or_not (SourceRefused r) = inr (λ c. cc)
fails_or_not (Trapped t) = inr (λ c. cc)
fails_or_not StepsSpent = inr (λ c. cc)
fails_or_not TooDeep = inr (λ c. cc)
fails_or_not ReadFault = inr (λ c. cc)
fails_or_not WriteFault = inl refl
fails_or_not NoMemory = inl refl

held : (told : Told) (text bytes : List ℕ) → told ≡ holds bytes → IsText told text → text ≡ bytes
held told text bytes e is = let same : IsText (holds bytes) text = subst (λ t. IsText t text) e is in same

same_refusal : (P Q : Refusal → Type 0) (s t : Status) → ((q r : Refusal) → P q → Q r → q ≡ r) → IsRefusal P s → IsRefusal Q t → s ≡ t
same_refusal P Q (SourceRefused q) (SourceRefused r) once a b = ap SourceRefused (once q r a b)
same_refusal P Q (SourceRefused q) Done once a b = absurd b
same_refusal P Q (SourceRefused q) WordsRefused once a b = absurd b
same_refusal P Q (SourceRefused q) (Trapped t) once a b = absurd b
same_refusal P Q (SourceRefused q) StepsSpent once a b = absurd b
same_refusal P Q (SourceRefused q) TooDeep once a b = absurd b
same_refusal P Q (SourceRefused q) ReadFault once a b = absurd b
same_refusal P Q (SourceRefused q) WriteFault once a b = absurd b
same_refusal P Q (SourceRefused q) NoMemory once a b = absurd b
same_refusal P Q Done t once a b = absurd a
same_refusal P Q WordsRefused t once a b = absurd a
same_refusal P Q (Trapped q) t once a b = absurd a
same_refusal P Q StepsSpent t once a b = absurd a
same_refusal P Q TooDeep t once a b = absurd a
same_refusal P Q ReadFault t once a b = absurd a
same_refusal P Q WriteFault t once a b = absurd a
same_refusal P Q NoMemory t once a b = absurd a

refused_for : (P : Refusal → Type 0) (s : Status) → IsRefusal P s → (r : Refusal) × P r
refused_for P (SourceRefused r) a = (r, a)
refused_for P Done a = absurd a
refused_for P WordsRefused a = absurd a
refused_for P (Trapped t) a = absurd a
refused_for P StepsSpent a = absurd a
refused_for P TooDeep a = absurd a
refused_for P ReadFault a = absurd a
refused_for P WriteFault a = absurd a
refused_for P NoMemory a = absurd a

-- what is known of the one row of a command
pub record IsExact (rejects : List ℕ → Refusal → Type 0) (accepts : List ℕ → Type 0) (ends : List ℕ → Ending → Type 0) : Type 0 where
  pub once : (text : List ℕ) (q r : Refusal) → rejects text q → rejects text r → q ≡ r
  pub apart : (text : List ℕ) (r : Refusal) → accepts text → rejects text r → ⊥
  pub fits : (text : List ℕ) (e : Ending) → ends text e → accepts text
  pub is_done : (text : List ℕ) (e : Ending) → ends text e → kind_of e.report.status ≡ done

module _ (file : List ℕ) (rejects : List ℕ → Refusal → Type 0) (accepts : List ℕ → Type 0) (ends : List ℕ → Ending → Type 0) (told : List ℕ → Told) (exact : IsExact rejects accepts ends) where
  refused_so : (s : Status) (text : List ℕ) (t : Status) (e : Ending) → s ≡ e.report.status → told file ≡ holds text → IsRefusal (rejects text) t → MayEnd (of_source file rejects accepts ends) told e → IsOrFails t s
  refused_so s text t e same here r (wanting is) = inr (inr (ap kind_of same ∙ ap (λ (z : Ending). kind_of z.report.status) is))
  refused_so s text t e same here r (unread is) = inr (inl (same ∙ ap (λ (z : Ending). z.report.status) is))
  refused_so s text t e same here r (refused [] u are h is) = absurd h
  refused_so s text t e same here r (refused (other ∷ []) u are h is) =
      let mine = subst (λ z. IsRefusal (rejects z) u) (held (told file) other text here are.0) h in
      inl (same ∙ ap (λ (z : Ending). z.report.status) is ∙ same_refusal (rejects text) (rejects text) u t (exact.once text) mine r)
  refused_so s text t e same here r (refused (other ∷ more ∷ texts) u are h is) = absurd h
  refused_so s text t e same here r (ended [] are h) = absurd h
  refused_so s text t e same here r (ended (other ∷ []) are h) =
      let accepted = subst accepts (held (told file) other text here are.0) (exact.fits other e h) in
      let why = refused_for (rejects text) t r in
      absurd (exact.apart text why.0 accepted why.1)
  refused_so s text t e same here r (ended (other ∷ more ∷ texts) are h) = absurd h

  done_so : (s : Status) (text : List ℕ) (e : Ending) → s ≡ e.report.status → told file ≡ holds text → accepts text → MayEnd (of_source file rejects accepts ends) told e → IsOfOrFails done s
  done_so s text e same here a (wanting is) = inr (inr (ap kind_of same ∙ ap (λ (z : Ending). kind_of z.report.status) is))
  done_so s text e same here a (unread is) = inr (inl (same ∙ ap (λ (z : Ending). z.report.status) is))
  done_so s text e same here a (refused [] u are h is) = absurd h
  done_so s text e same here a (refused (other ∷ []) u are h is) =
      let why = refused_for (rejects other) u h in
      absurd (exact.apart other why.0 (subst accepts (sym (held (told file) other text here are.0)) a) why.1)
  done_so s text e same here a (refused (other ∷ more ∷ texts) u are h is) = absurd h
  done_so s text e same here a (ended [] are h) = absurd h
  done_so s text e same here a (ended (other ∷ []) are h) = inl (ap kind_of same ∙ exact.is_done other e h)
  done_so s text e same here a (ended (other ∷ more ∷ texts) are h) = absurd h

  pub refuses_told : (s : Status) (e : Ending) → ((kind_of s ≡ failed → ⊥) → s ≡ e.report.status) → MayEnd (of_source file rejects accepts ends) told e →
      (texts : List (List ℕ)) (t : Status) → HoldTexts told (file ∷ []) texts → (of_source file rejects accepts ends).refuses texts t → IsOrFails t s
  refuses_told s e same may [] t here r = absurd r
  refuses_told s e same may (text ∷ []) t here r =
      elim (fails_or_not s) [ inl f ↦ inr (inr f) | inr plain ↦ refused_so s text t e (same plain) here.0 r may ]
  refuses_told s e same may (text ∷ other ∷ texts) t here r = absurd r

  pub accepts_told : (s : Status) (e : Ending) → ((kind_of s ≡ failed → ⊥) → s ≡ e.report.status) → MayEnd (of_source file rejects accepts ends) told e →
      (texts : List (List ℕ)) → HoldTexts told (file ∷ []) texts → (of_source file rejects accepts ends).accepts texts → IsOfOrFails done s
  accepts_told s e same may [] here a = absurd a
  accepts_told s e same may (text ∷ []) here a =
      elim (fails_or_not s) [ inl f ↦ inr (inr f) | inr plain ↦ done_so s text e (same plain) here.0 a may ]
  accepts_told s e same may (text ∷ other ∷ texts) here a = absurd a

-- ---- each command

if_done : (b : Bool) → kind_of (if b then Done else StepsSpent) ≡ done
if_done true = refl
if_done false = refl

told_done : (e : meaning.Ending) → kind_of (status_of e) ≡ done
told_done meaning.Ended = refl
told_done (meaning.Trapped t) = refl
told_done meaning.Unfinished = refl

meant_done_by : (b : Bool) (m : Meaning) → kind_of (if b then told_meaning m else too_deep).report.status ≡ done
meant_done_by true m = told_done m.ending
meant_done_by false m = refl

meant_done : (m : Meaning) → kind_of (meant m).report.status ≡ done
meant_done m = meant_done_by (nat_le m.most MAX_ACTIVATIONS) m

module _ (law : AreRefusedOnce) where
  check_is_exact : IsExact Unchecked IsChecked Checks
  check_is_exact = record {
    once = law.checks;
    apart = λ text r a. law.checked text r a;
    fits = λ text e h. h.0;
    is_done = λ text e h. ap (λ (z : Ending). kind_of z.report.status) h.1;
  }

  print_is_exact : IsExact Misfits IsProgram Shows
  print_is_exact = record {
    once = λ text q r a b. law.runs text q r (inl (inl a)) (inl (inl b));
    apart = λ text r a. law.program text a.0 a.1 r a.2;
    fits = λ text e h. (h.1.0, h.1.1, h.1.2);
    is_done = λ text e h. ap (λ (z : Ending). kind_of z.report.status) h.2;
  }

  means_is_exact : (args : List ℤ) → IsExact Untyped IsTypedText (MeansSo args)
  means_is_exact args = record {
    once = λ text q r a b. law.runs text q r (inl a) (inl b);
    apart = λ text r a. law.typed text a.1.0 a.0 r a.1.1;
    fits = λ text e h. (h.0, h.1);
    is_done = λ text e h. ap (λ (z : Ending). kind_of z.report.status) h.2 ∙ meant_done (mean h.0 args MAX_TICKS);
  }

  run_is_exact : (c : RunWords) → IsExact Rejects IsSmall (Runs c)
  run_is_exact c = record {
    once = law.runs;
    apart = λ text r a. law.accepted text a.0 r a.1;
    fits = λ text e h. (h.3.program, h.3.accepts);
    is_done = λ text e h. ap (λ (z : Ending). kind_of z.report.status) h.4 ∙ if_done (nat_lt 0 (filled_in (slice_get h.2 0)));
  }

  module _ (shelf : SeenShelf) (out out_after err err_after : SeenSink) (x : Report) where
    pub refuses : (c : Command) → Does c shelf out out_after err err_after x → RefusesTold c shelf x.status
    refuses (Check file) (e, may, shows) = refuses_told file Unchecked IsChecked Checks shelf.told check_is_exact x.status e (λ plain. (shows.delivers plain).status) may
    refuses (Print file) (e, may, shows) = refuses_told file Misfits IsProgram Shows shelf.told print_is_exact x.status e (λ plain. (shows.delivers plain).status) may
    refuses (Means file args) (e, may, shows) = refuses_told file Untyped IsTypedText (MeansSo args) shelf.told (means_is_exact args) x.status e (λ plain. (shows.delivers plain).status) may
    refuses (Run c) (e, may, shows) = refuses_told c.file Rejects IsSmall (Runs c) shelf.told (run_is_exact c) x.status e (λ plain. (shows.delivers plain).status) may

    pub accepted : (c : Command) → Does c shelf out out_after err err_after x → AcceptsTold c shelf x.status
    accepted (Check file) (e, may, shows) = accepts_told file Unchecked IsChecked Checks shelf.told check_is_exact x.status e (λ plain. (shows.delivers plain).status) may
    accepted (Print file) (e, may, shows) = accepts_told file Misfits IsProgram Shows shelf.told print_is_exact x.status e (λ plain. (shows.delivers plain).status) may
    accepted (Means file args) (e, may, shows) = accepts_told file Untyped IsTypedText (MeansSo args) shelf.told (means_is_exact args) x.status e (λ plain. (shows.delivers plain).status) may
    accepted (Run c) (e, may, shows) = accepts_told c.file Rejects IsSmall (Runs c) shelf.told (run_is_exact c) x.status e (λ plain. (shows.delivers plain).status) may
