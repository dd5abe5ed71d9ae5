use Rattle.std.proofs.Common.{refl, subst, map, [], ◌∷◌}
use Rattle.ec_types.specs.Meaning.Memory as memory
use Rattle.ec_meaning.specs.declared.value.Value.TheVariants.{Int}
use Rattle.std.proofs.Common.{pos}
use Rattle.ec_meaning.specs.Seen.{Performs, val, core}
use Rattle.ec_meaning.proofs.Handled.{gave}
use Rattle.ec_meaning.proofs.performing.share.Goals as goal

pub returns-clause-does : goal.returns-clause-does
returns-clause-does c = λ u call n r t.
    gave u 0 0 c.args.hand.now
    (record { values = c.give.new.values; accesses = c.args.hand.now.accesses; vars = c.args.hand.now.vars })
    c.born-answer.result c.give.result
    (memory.born (val u (Int (pos 0)) ∷ []) (core u c.args.core.now) r) (core u c.born-answer.new.self) r
    (subst (λ vs. Performs (val u) c.born-answer.result (memory.born (map (val u) vs) (core u c.args.core.now) r) (core u c.born-answer.new.self) r)
    c.in_ok-from_slice.ensures.items (c.born-answer.ensures.does u r t))
    c.give.ensures refl refl
