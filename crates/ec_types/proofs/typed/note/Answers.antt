use Rattle.std.proofs.Common.{sym, ◌∙◌, ap, subst, Some, is_some}
use Rattle.ec_syntax.specs.Grammar.Words.{same}
use Rattle.indexmap.specs.IndexMap.{Updates}
use Rattle.ec_types.specs.Tables.{size_in}
use Rattle.ec_types.proofs.SizeTables.{keeps_size, adds_size, exactly}
use Rattle.ec_types.proofs.typed.note.Goals as goal

pub returns-then-contains_key : goal.returns-then-contains_key
returns-then-contains_key c =
    keeps_size c.args.table.now c.args.s.now
    (ap (λ t. is_some (size_in c.args.table.now t)) (sym c.as_slice.ensures) ∙ sym c.contains_key.ensures ∙ c.if-contains_key.true)

pub returns : goal.returns
returns c =
    adds_size c.args.table.now c.insert.new.self c.args.s.now c.into_vec-name.result (c.into_vec-name.ensures ∙ c.in_ok-copy.ensures)
    (ap (λ t. is_some (size_in c.args.table.now t)) (sym c.as_slice.ensures) ∙ sym c.contains_key.ensures ∙ c.if-contains_key.false)
    (subst (λ n. Updates (λ a b. same a.items b.items) c.args.table.now c.insert.new.self c.into_vec-name.result (Some n))
    (exactly c.args.s.now c.cells.result c.requires c.cells.ensures) c.in_ok-insert.ensures.updates)
