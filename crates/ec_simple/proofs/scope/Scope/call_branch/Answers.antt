use Rattle.std.proofs.Common.{◌∙◌, ap, ◌++◌}
use Rattle.ec_resolve.specs.Erased as erased
use Rattle.ec_simple.specs.declared.form.SStmt.TheViews.{rolls-struct-SBranch}
use Rattle.ec_simple.specs.Puts.{call_of}
use Rattle.ec_simple.specs.Seen.{scope}
use Rattle.ec_simple.specs.Statements.{uses}
use Rattle.ec_simple.specs.Used.{used}
use Rattle.ec_simple.specs.Uses.{call_reads}
use Rattle.ec_simple.proofs.puts.Branches.{direct_puts}
use Rattle.ec_simple.proofs.scope.Scope.call_branch.Goals as goal

pub returns : goal.returns
returns c =
    let here = scope c.args.self.now in
    let i = c.args.d.now.call.now in
    let found = c.in_ok-call_reads.ensures ∙ ap (λ l. used l ++ call_reads (erased.invocation i)) c.new-reads.ensures in
    let call = call_of c.in_ok-callee.callee in
    let reads = c.in_ok-reads.ensures ∙ ap (λ l. uses here (used l)) c.as_slice.ensures ∙ ap (uses here) found in
    direct_puts here c.call.new.code c.args.vars.now c.call.new.vars c.results.new.vars c.in_ok-callee.callee c.in_ok-to.to
    c.in_ok-reads.reads c.in_ok-result_uses.field-0 c.args.d.now.to i c.new-before.result c.in_ok-call.call _ c.new-before.ensures
    c.in_ok-callee.ensures c.in_ok-to.ensures reads c.in_ok-result_uses.ensures
    (c.in_ok-call.ensures ∙ ap (λ l. call l c.in_ok-reads.reads c.in_ok-result_uses.field-0) c.to.view_is)
    (rolls-struct-SBranch (record { before = c.call.new.code; call = c.in_ok-call.call }))
