use Rattle.std.proofs.Common.{sym, ◌∙◌, subst, Some}
use Rattle.ec_syntax.specs.Grammar.Words.{same}
use Rattle.indexmap.specs.IndexMap.{Updates}
use Rattle.ec_types.proofs.Places.{keeps_places, adds_place}
use Rattle.ec_types.proofs.table.note.Goals as goal

pub returns-then-contains_key-clause-ok : goal.returns-then-contains_key-clause-ok
returns-then-contains_key-clause-ok c names at h =
    keeps_places names c.args.name.now c.args.places.now (sym c.contains_key.ensures ∙ c.if-contains_key.true) h

pub returns-clause-ok : goal.returns-clause-ok
returns-clause-ok c names at h =
    adds_place names c.args.name c.args.places.now c.insert.new.self (sym c.contains_key.ensures ∙ c.if-contains_key.false)
    (subst (λ n. Updates (λ a b. same a.now b.now) c.args.places.now c.insert.new.self c.args.name (Some n)) (sym at) c.in_ok-insert.ensures.updates) h
