use Rattle.std.proofs.Common.{length, sym, ap, subst, ◌∙◌}
use Rattle.ec_meaning.specs.Means.{IsRising}
use Rattle.ec_meaning.specs.Shown.{ShowsBlocks, ShowsStore}
use Rattle.ec_meaning.proofs.Remembered.{ShowsStore-pairs, IsRising-pairs}
use Rattle.ec_meaning.proofs.remembering.memory.Goals as goal

pub returns-clause-store : goal.returns-clause-store
returns-clause-store c =
    let blocks = c.args.blocks.items in
    let shown = c.in_ok-shown.shown.items in
    let shows = subst (λ given. ShowsBlocks given given shown) c.deref.ensures.value c.in_ok-shown.ensures.shown in
    subst (λ all. ShowsStore blocks record { blocks = all }) (sym (c.from_vec.ensures ∙ c.in_ok-pairs.ensures))
    (ShowsStore-pairs blocks shown shows)

pub returns-clause-rising : goal.returns-clause-rising
returns-clause-rising c rising =
    let long = c.in_ok-shown.ensures.length ∙ ap length c.deref.ensures.value in
    subst (λ all. IsRising record { blocks = all }) (sym (c.from_vec.ensures ∙ c.in_ok-pairs.ensures))
    (IsRising-pairs c.args.blocks.items c.in_ok-shown.shown.items long rising)
