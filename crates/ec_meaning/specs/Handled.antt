-- What functions make of a hand and of works, for every view of them.
use Rattle.std.specs.Prelude.{◌≡◌, List, ◌++◌}
use Rattle.ec_meaning.specs.Works as w
use Rattle.ec_meaning.specs.Seen.{Untold, hand, works}
use Rattle.ec_meaning.specs.declared.hand.Frame.{Frame}
use Rattle.ec_meaning.specs.declared.hand.Hand.{Hand}

-- a hand is this of what it was
abbrev pub Becomes : (Untold → w.Hand → w.Hand) → Hand → Hand → Type 0
Becomes f old new = (u : Untold) → hand u new ≡ f u (hand u old)

-- works are put before the others, by the hand as it was
abbrev pub Puts : (Untold → w.Hand → List w.Work) → Frame → Frame → Type 0
Puts f old new = (u : Untold) → works u new.works ≡ f u (hand u old.hand) ++ works u old.works
