use Rattle.std.proofs.Common.{◌≡◌, rules, sym, ap, ◌∙◌, length, map}
use Rattle.std.proofs.lemmas.List.{length-map}
use Rattle.ec_resolve.specs.Erased as erased
use Rattle.ec_simple.specs.Used.{used}
use Rattle.ec_simple.specs.Uses.{numbers_below, outside}
use Rattle.ec_simple.proofs.scope.Scope.seen_around.Goals as goal

pub returns-clause-copied_out : goal.returns-clause-copied_out
returns-clause-copied_out c =
    let variables = c.args.self.now.variables.now in
    let writes = used c.args.found.writes in
    let found : used c.in_ok-writes.writes ≡ outside c.args.found.declared writes = search rules in
    let out : c.in_ok-copied_out.copied_out ≡ numbers_below (length variables) (used c.in_ok-writes.writes) = search rules in
    out ∙ ap (λ n. numbers_below n (used c.in_ok-writes.writes)) (sym (length-map variables erased.variable))
    ∙ ap (numbers_below (length (map erased.variable variables))) found
