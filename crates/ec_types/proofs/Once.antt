-- A program has one verdict.
use Rattle.std.proofs.Common.{◌≡◌, sym, ◌∙◌, ap, subst, List, [], Ok, Err}
use Rattle.std.proofs.lemmas.Option.{same_Some}
use Rattle.ec_types.specs.declared.refusal.TypeRefusal.{TypeRefusal}
use Rattle.ec_types.specs.Judged.{Fine}
use Rattle.ec_calls.specs.Items.{functions}
use Rattle.ec_types.specs.Once.{OneRefusal, TypedIsNotRefused}
use Rattle.ec_calls.proofs.Uniqueness.{prints_are_unique}
use Rattle.ec_types.specs.Programs.{judged_program}
use Rattle.ec_types.specs.Refusals.{first}

-- ---- verdicts

abbrev IsFine : Fine → Type 0
IsFine (Ok a) = Unit {0}
IsFine (Err why) = ⊥

abbrev why_of : Fine → List TypeRefusal
why_of (Ok a) = []
why_of (Err why) = why

pub typed_is_not_refused : TypedIsNotRefused
typed_is_not_refused p r t f =
    subst IsFine (sym t.fine ∙ ap (λ g. judged_program g p) (prints_are_unique (functions p) t.prints f.prints t.first f.first) ∙ f.refused) tt

-- ---- the first of a list

pub one_refusal : OneRefusal
one_refusal p r s h g =
    let same = ap (λ f. judged_program f p) (prints_are_unique (functions p) g.prints h.prints g.first h.first) in
    let all : g.all ≡ h.all = ap why_of (sym g.refused ∙ same ∙ h.refused) in
    same_Some r s (sym h.least ∙ sym (ap first all) ∙ g.least)
