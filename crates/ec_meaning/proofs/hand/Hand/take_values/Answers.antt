use Rattle.std.proofs.Common.{ap, sym, ◌∙◌, List, map}
use Rattle.std.proofs.lemmas.List.{drop-map}
use Rattle.std.proofs.lemmas.Result.{IfOk-weaker, on_ok_weaker}
use Rattle.ec_types.specs.Meaning.Values.{Val}
use Rattle.ec_meaning.specs.Seen.{val, hand}
use Rattle.ec_meaning.specs.declared.value.Value.{Value}
use Rattle.ec_meaning.proofs.Lists.{map-taken}
use Rattle.ec_meaning.proofs.hand.Hand.take_values.Goals as goal

pub returns-clause-args : goal.returns-clause-args
returns-clause-args c =
    IfOk-weaker c.take_last.result _ _ (λ vs is u. ap (map (val u)) is ∙ map-taken (val u) c.args.self.now.values c.args.count)
    c.take_last.ensures.taken

pub returns-clause-rest : goal.returns-clause-rest
returns-clause-rest c =
    on_ok_weaker c.take_last.result
    (λ is u.
    ap (λ (vs : List Value). (hand u (record c.args.self.now { values = vs }))) is
    ∙ ap (λ (vs : List Val). record (hand u c.args.self.now) { values = vs }) (sym (drop-map (val u) c.args.count c.args.self.now.values)))
    c.take_last.ensures.left
