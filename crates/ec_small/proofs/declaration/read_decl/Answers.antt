use Rattle.std.proofs.lemmas.Result.{err_from_is_err_and}
use Rattle.ec_small.proofs.Steps.{decl_read, decl_refused}
use Rattle.ec_small.proofs.declaration.read_decl.Goals as goal

pub returns-in_err-init : goal.returns-in_err-init
returns-in_err-init c =
    let p = err_from_is_err_and c.from_residual-in_err-init.result c.from_residual-in_err-init.ensures.1 in
    rw (p.1, p.2) (decl_refused c.args.declared c.args.tokens.now c.args.at c.declare.new.self c.in-Some.word.now c.in_err-init.field-0.0 c.in-Some.ensures.is c.in_ok-declare.ensures.ok c.in_err-init.ensures)

pub returns : goal.returns
returns c = (
  c.in_ok-init.ensures.0,
  decl_read c.args.declared c.args.tokens.now c.args.at c.declare.new.self c.in-Some.word.now c.in_ok-init.init c.push.new.self c.in_ok-init.next c.in-Some.ensures.is c.in_ok-declare.ensures.ok c.in_ok-init.ensures.1 c.in_ok-push.ensures.ok,
)
