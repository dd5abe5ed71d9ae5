use Rattle.std.proofs.Common.{map}
use Rattle.ec_types.proofs.Places.{none_named, some_lent}
use Rattle.ec_types.proofs.items.Functions.named.Goals as goal

pub returns-in-None : goal.returns-in-None
returns-in-None c =
    none_named (λ f. f.name.text) (map (λ f. f.now) c.self.inside.all.items) c.args.self.now c.self.inside.names c.args.name.now c.place.result
    c.self.invariant c.self.view_is c.place.ensures c.in-None.is

pub returns-in-Some : goal.returns-in-Some
returns-in-Some c =
    some_lent (λ f. f.name.text) c.self.inside.all.items c.deref.result.now c.args.self.now c.self.inside.names c.args.name.now
    c.place.result c.in-Some.at c.get.result c.copied.result
    c.self.invariant c.self.view_is c.place.ensures c.in-Some.is c.deref.ensures.value (c.get.ensures.lookup).3 c.copied.ensures
