use Rattle.ec_driver.specs.Command.{told_command}
use Rattle.ec_driver.proofs.Endings.{of_words, words_wanting}
use Rattle.ec_driver.proofs.top.earthc.Goals as goal

pub returns-then-is_threaded-clause-end : goal.returns-then-is_threaded-clause-end
returns-then-is_threaded-clause-end g c =
    of_words c.args.words.now c.in-Ok.command (g.S.Shelf.has c.args.shelf.now) (g.O.Sink.has c.args.out.now) (g.O.Sink.has c.threaded.new.out) (g.E.Sink.has c.args.err.now) (g.E.Sink.has c.threaded.new.err) c.threaded.result c.in-Ok.ensures c.threaded.ensures.end

pub returns-clause-end : goal.returns-clause-end
returns-clause-end g c =
    of_words c.args.words.now c.in-Ok.command (g.S.Shelf.has c.args.shelf.now) (g.O.Sink.has c.args.out.now) (g.O.Sink.has c.plain.new.out) (g.E.Sink.has c.args.err.now) (g.E.Sink.has c.plain.new.err) c.plain.result c.in-Ok.ensures c.plain.ensures.end

pub returns-in-Err-Memory-clause-end : goal.returns-in-Err-Memory-clause-end
returns-in-Err-Memory-clause-end g c =
    (_, words_wanting (told_command c.args.words.now) (g.S.Shelf.has c.args.shelf.now).told, c.stop.ensures)
