use Rattle.std.proofs.Common.{◌≡◌, ◌∙◌, List, [], ◌∷◌, drop, get_or, refl, ap}
use Rattle.ec_types.specs.Meaning.Values.{Val, zero_value}
use Rattle.ec_meaning.specs.Acts as acts
use Rattle.ec_meaning.specs.Seen as seen
use Rattle.ec_meaning.proofs.hand.Hand.pop_pair.Goals as goal

next : (vs : List Val) → get_or (drop 1 vs) 0 zero_value ≡ get_or vs 1 zero_value
next [] = refl
next (v ∷ vs) = refl

pub returns-clause-left : goal.returns-clause-left
returns-clause-left c =
    λ u. c.pop-left.ensures.value u ∙ ap acts.top (c.pop-right.ensures.rest u) ∙ next (seen.hand u c.args.self.now).values
