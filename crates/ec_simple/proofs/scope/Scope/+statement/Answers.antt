use Rattle.std.proofs.Common.{◌≡◌, ◌∙◌, ap, subst, ◌++◌, map, option_map, length, pos, add-one}
use Rattle.ec_resolve.specs.Erased.{expression, optional, assignment, declaration, statement, statements, block}
use Rattle.ec_simple.specs.declared.form.FuncKind.TheVariants as kind
use Rattle.ec_simple.specs.Around.{Outlines, within}
use Rattle.ec_simple.specs.Expressions.{low_part, of_variable, variable_at}
use Rattle.ec_simple.specs.Puts.{PutsStmt}
use Rattle.ec_simple.specs.Seen.{scope}
use Rattle.ec_simple.specs.Statements.{low_optional, low_declarations, low_stmt, low_stmts}
use Rattle.ec_simple.specs.Used.{used}
use Rattle.ec_simple.specs.Uses.{assignment_writes}
use Rattle.ec_simple.proofs.puts.Actions.{is_For, is_Forall, is_braced}
use Rattle.ec_simple.proofs.puts.Functionless.{of_declarations}
use Rattle.ec_simple.proofs.puts.Outlined.{becomes, forall_puts}
use Rattle.ec_simple.proofs.puts.Sequences.{stands_for, block_puts, for_puts}
use Rattle.ec_types.specs.Meaning.Tree as t
use Rattle.ec_simple.proofs.scope.Scope.+statement.Goals as goal

pub statement-returns-in-For : goal.statement-returns-in-For
statement-returns-in-For u c =
    let h = c.get-in-For.result.now in
    let x = c.get-in-For-2.result.now in
    stands_for c.for_loop.result (scope c.args.self.now) (statement c.args.s.now)
    (t.For c.in-For.at (option_map assignment h.first) (optional h.test) (option_map assignment h.last) (statement x))
    c.args.code.now c.for_loop.new.code c.args.vars.now c.for_loop.new.vars c.args.funcs.now c.for_loop.new.funcs
    (is_For c.args.s.now c.in-For.at c.in-For.header h c.in-For.s x c.in-For.is c.get-in-For.ensures c.get-in-For-2.ensures) c.for_loop.ensures

pub statement-returns-in-Forall : goal.statement-returns-in-Forall
statement-returns-in-Forall u c =
    let h = c.get-in-Forall.result.now in
    let x = c.get-in-Forall-2.result.now in
    stands_for c.forall_loop.result (scope c.args.self.now) (statement c.args.s.now)
    (t.Forall c.in-Forall.at (assignment h.first) (expression h.test) (assignment h.last) (statement x))
    c.args.code.now c.forall_loop.new.code c.args.vars.now c.forall_loop.new.vars c.args.funcs.now c.forall_loop.new.funcs
    (is_Forall c.args.s.now c.in-Forall.at c.in-Forall.header h c.in-Forall.s x c.in-Forall.is c.get-in-Forall.ensures c.get-in-Forall-2.ensures)
    c.forall_loop.ensures

pub block-returns : goal.block-returns
block-returns u c =
    let k = scope c.args.self.now in
    let ds = map declaration c.as_slice.result.now in
    let ss = statements c.as_slice-2.result.now in
    stands_for c.statements.result k (t.Block (block c.args.b.now).0 (block c.args.b.now).1) (t.Block ds ss)
    c.args.code.now c.statements.new.code c.args.vars.now c.statements.new.vars c.args.funcs.now c.statements.new.funcs
    (is_braced c.args.b.now c.as_slice.result.now c.as_slice-2.result.now c.as_slice.ensures c.as_slice-2.ensures)
    (block_puts c.statements.result (low_declarations k ds c.args.vars.now.next) (λ n. low_stmts k ss n c.args.funcs.now.next)
    c.args.code.now c.declarations.new.code c.statements.new.code c.args.vars.now c.declarations.new.vars c.statements.new.vars
    c.args.funcs.now c.statements.new.funcs (of_declarations k ds c.args.vars.now.next) c.in_ok-declarations.ensures c.statements.ensures)

pub for_loop-returns : goal.for_loop-returns
for_loop-returns u c =
    let k = scope c.args.self.now in
    let h = c.args.header.now in
    for_puts (low_optional k (option_map assignment h.first)) (low_optional k (option_map assignment h.last)) (low_part k c.args.at (pos 1) (optional h.test))
    (low_stmt k (statement c.args.s.now)) c.args.vars.now c.args.funcs.now
    c.push.result c.args.code.now c.optional.new.code c.push.new.self c.new-before.result c.part.new.code c.in_ok-inside.inside c.optional-2.new.code
    c.optional.new.vars c.part.new.vars c.apart.new.vars c.optional-2.new.vars c.apart.new.funcs c.in_ok-test.test
    c.in_ok-optional.ensures c.new-before.ensures c.in_ok-test.ensures c.in_ok-inside.ensures c.in_ok-optional-2.ensures
    c.push.ensures.ok

pub forall_loop-returns : goal.forall_loop-returns
forall_loop-returns u c =
    let k = scope c.args.self.now in
    let h = c.args.header.now in
    let s = statement c.args.s.now in
    let set = c.assignment_writes.new.found in
    forall_puts c.push.result k c.args.at (assignment h.first) (expression h.test) (assignment h.last) s c.new-set.result set
    c.in_ok-body.body c.in_ok-forall.forall c.args.code.now c.push.new.self c.args.vars.now c.forall.new.vars c.args.funcs.now c.outline.new.funcs
    c.new-set.ensures
    (c.in_ok-assignment_writes.ensures ∙ ap (λ z. used c.new-set.result ++ assignment_writes (assignment z)) c.get.ensures)
    (subst (λ z. Outlines k c.args.at kind.Body (used z) s c.in_ok-body.body c.args.funcs.now c.outline.new.funcs) c.as_slice.ensures
    c.in_ok-body.ensures)
    c.in_ok-forall.ensures c.push.ensures.ok

pub inner-returns : goal.inner-returns
inner-returns u c =
    let k = scope c.args.self.now in
    let a = c.args.around.now in
    let places : c.in_ok-places.places ≡ a.own = c.in_ok-places.ensures ∙ c.in_ok-own.ensures ∙ c.as_slice-2.ensures in
    becomes c.append.result k c.args.kind (statement c.args.s.now) a (scope c.inside-scope.result) c.in_ok-vars.vars c.statement.new.vars
    (record { all = c.new.result; next = c.in_ok-sum.field-0 }) c.statement.new.funcs c.statement.new.code c.in_ok-f.f
    c.args.funcs.now c.push.new.self c.append.new.self
    (record {
      scope = c.inside-scope.ensures ∙ ap (within k) places;
      all = c.in_ok-vars.ensures.all ∙ ap (map (λ y. of_variable (variable_at k y))) c.as_slice.ensures;
      next = c.in_ok-vars.ensures.next ∙ ap (λ z. length z) c.as_slice.ensures;
      none = c.new.ensures;
      after = c.in_ok-sum.ensures ∙ add-one c.args.funcs.now.next;
      puts = subst (λ z. PutsStmt (low_stmt (scope c.inside-scope.result) (statement c.args.s.now) c.in_ok-vars.vars.next c.in_ok-sum.field-0) z c.statement.new.code
          c.in_ok-vars.vars c.statement.new.vars (record { all = c.new.result; next = c.in_ok-sum.field-0 }) c.statement.new.funcs)
          c.new-code.ensures c.in_ok-statement.ensures;
      made = c.in_ok-f.ensures;
    })
    c.in_ok-push.ensures.behind c.append.ensures
