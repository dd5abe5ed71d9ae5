use Rattle.ec_resolve.specs.Erased.{statement}
use Rattle.ec_simple.specs.Seen.{scope}
use Rattle.ec_simple.specs.Used.{used}
use Rattle.ec_simple.proofs.puts.Surroundings.{copies_in, copies_out, owns}
use Rattle.ec_simple.proofs.scope.Scope.around.Goals as goal

pub returns-clause-copied_in : goal.returns-clause-copied_in
returns-clause-copied_in c =
    let f = c.in_ok-found.found in
    copies_in (scope c.args.self.now) (used c.args.more.now) (statement c.args.s.now) f.declared (used f.reads) (used f.writes)
    c.seen_around.result c.in_ok-found.ensures.declared c.in_ok-found.ensures.reads c.in_ok-found.ensures.writes c.seen_around.ensures.copied_in

pub returns-clause-own : goal.returns-clause-own
returns-clause-own c =
    let f = c.in_ok-found.found in
    let k = scope c.args.self.now in
    let s = statement c.args.s.now in
    owns k (used c.args.more.now) s f.declared (used f.reads) (used f.writes) c.seen_around.result
    c.in_ok-found.ensures.declared c.seen_around.ensures.own
    (copies_in k (used c.args.more.now) s f.declared (used f.reads) (used f.writes)
    c.seen_around.result c.in_ok-found.ensures.declared c.in_ok-found.ensures.reads c.in_ok-found.ensures.writes c.seen_around.ensures.copied_in)

pub returns-clause-copied_out : goal.returns-clause-copied_out
returns-clause-copied_out c =
    let f = c.in_ok-found.found in
    copies_out (scope c.args.self.now) (used c.args.more.now) (statement c.args.s.now) f.declared (used f.reads) (used f.writes)
    c.seen_around.result c.in_ok-found.ensures.declared c.in_ok-found.ensures.writes c.seen_around.ensures.copied_out
