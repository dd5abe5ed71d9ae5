use Rattle.std.proofs.Common.{ap, ◌∙◌, Ok}
use Rattle.ec_driver.specs.declared.command.Command.TheVariants.{Check, Print, Means, Run}
use Rattle.ec_driver.proofs.Endings.{accepted, refuses}
use Rattle.ec_driver.proofs.Words.{given_run}
use Rattle.ec_driver.proofs.top.perform.Goals as goal

-- ---- a check

pub returns-in-Check-clause-end : goal.returns-in-Check-clause-end
returns-in-Check-clause-end g c = rw c.in-Check.is c.check.ensures.end

pub returns-in-Check-clause-refused : goal.returns-in-Check-clause-refused
returns-in-Check-clause-refused g c =
    let law = c.sources_are_refused_once.ensures in
    let all = refuses law (g.S.Shelf.has c.args.shelf.now) (g.O.Sink.has c.args.out.now) (g.O.Sink.has c.check.new.out) (g.E.Sink.has c.args.err.now) (g.E.Sink.has c.check.new.err) c.check.result in
    rw c.in-Check.is (all (Check c.in-Check.file) c.check.ensures.end)

pub returns-in-Check-clause-accepted : goal.returns-in-Check-clause-accepted
returns-in-Check-clause-accepted g c =
    let law = c.sources_are_refused_once.ensures in
    let all = accepted law (g.S.Shelf.has c.args.shelf.now) (g.O.Sink.has c.args.out.now) (g.O.Sink.has c.check.new.out) (g.E.Sink.has c.args.err.now) (g.E.Sink.has c.check.new.err) c.check.result in
    rw c.in-Check.is (all (Check c.in-Check.file) c.check.ensures.end)

-- ---- a print

pub returns-in-Print-clause-end : goal.returns-in-Print-clause-end
returns-in-Print-clause-end g c = rw c.in-Print.is c.print.ensures.end

pub returns-in-Print-clause-refused : goal.returns-in-Print-clause-refused
returns-in-Print-clause-refused g c =
    let law = c.sources_are_refused_once.ensures in
    let all = refuses law (g.S.Shelf.has c.args.shelf.now) (g.O.Sink.has c.args.out.now) (g.O.Sink.has c.print.new.out) (g.E.Sink.has c.args.err.now) (g.E.Sink.has c.print.new.err) c.print.result in
    rw c.in-Print.is (all (Print c.in-Print.file) c.print.ensures.end)

pub returns-in-Print-clause-accepted : goal.returns-in-Print-clause-accepted
returns-in-Print-clause-accepted g c =
    let law = c.sources_are_refused_once.ensures in
    let all = accepted law (g.S.Shelf.has c.args.shelf.now) (g.O.Sink.has c.args.out.now) (g.O.Sink.has c.print.new.out) (g.E.Sink.has c.args.err.now) (g.E.Sink.has c.print.new.err) c.print.result in
    rw c.in-Print.is (all (Print c.in-Print.file) c.print.ensures.end)

-- ---- a run

pub run-requires : goal.run-requires
run-requires g c = given_run c.requires.0 c.in-Run.words (c.requires.1 ∙ ap Ok c.in-Run.is)

pub returns-in-Run-clause-end : goal.returns-in-Run-clause-end
returns-in-Run-clause-end g c = rw c.in-Run.is c.run.ensures.end

pub returns-in-Run-clause-refused : goal.returns-in-Run-clause-refused
returns-in-Run-clause-refused g c =
    let law = c.sources_are_refused_once.ensures in
    let all = refuses law (g.S.Shelf.has c.args.shelf.now) (g.O.Sink.has c.args.out.now) (g.O.Sink.has c.run.new.out) (g.E.Sink.has c.args.err.now) (g.E.Sink.has c.run.new.err) c.run.result in
    rw c.in-Run.is (all (Run c.in-Run.words) c.run.ensures.end)

pub returns-in-Run-clause-accepted : goal.returns-in-Run-clause-accepted
returns-in-Run-clause-accepted g c =
    let law = c.sources_are_refused_once.ensures in
    let all = accepted law (g.S.Shelf.has c.args.shelf.now) (g.O.Sink.has c.args.out.now) (g.O.Sink.has c.run.new.out) (g.E.Sink.has c.args.err.now) (g.E.Sink.has c.run.new.err) c.run.result in
    rw c.in-Run.is (all (Run c.in-Run.words) c.run.ensures.end)

-- ---- a meaning

pub returns-in-Means-clause-end : goal.returns-in-Means-clause-end
returns-in-Means-clause-end g c = rw c.in-Means.is c.means.ensures.end

pub returns-in-Means-clause-refused : goal.returns-in-Means-clause-refused
returns-in-Means-clause-refused g c =
    let law = c.sources_are_refused_once.ensures in
    let all = refuses law (g.S.Shelf.has c.args.shelf.now) (g.O.Sink.has c.args.out.now) (g.O.Sink.has c.means.new.out) (g.E.Sink.has c.args.err.now) (g.E.Sink.has c.means.new.err) c.means.result in
    rw c.in-Means.is (all (Means c.in-Means.file c.in-Means.args) c.means.ensures.end)

pub returns-in-Means-clause-accepted : goal.returns-in-Means-clause-accepted
returns-in-Means-clause-accepted g c =
    let law = c.sources_are_refused_once.ensures in
    let all = accepted law (g.S.Shelf.has c.args.shelf.now) (g.O.Sink.has c.args.out.now) (g.O.Sink.has c.means.new.out) (g.E.Sink.has c.args.err.now) (g.E.Sink.has c.means.new.err) c.means.result in
    rw c.in-Means.is (all (Means c.in-Means.file c.in-Means.args) c.means.ensures.end)
