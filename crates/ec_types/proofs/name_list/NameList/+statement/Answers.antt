use Rattle.ec_types.proofs.Variables.{body_declares}
use Rattle.ec_types.proofs.name_list.NameList.+statement.Goals as goal

pub body-returns : goal.body-returns
body-returns t c =
    body_declares c.statements.result c.args.b.now c.as_slice.result.now c.as_slice-2.result.now c.args.self.now c.declarations.new.self
    c.statements.new.self c.as_slice.ensures c.as_slice-2.ensures c.in_ok-declarations.ensures c.statements.ensures
