use Rattle.std.proofs.Common.{refl, arith}
use Rattle.ec_simple.proofs.puts.Numbering.{none_noted, noted_before}
use Rattle.ec_simple.proofs.places.places_in.Goals as goal

pub loop-i-init : goal.loop-i-init
loop-i-init c =
    none_noted c.in_ok-table.table c.args.own.now c.args.count c.in_ok-narrow.field-0 c.in_ok-table.ensures c.in_ok-narrow.ensures

pub loop-i-preserved : goal.loop-i-preserved
loop-i-preserved c =
    noted_before c.loop-i.table c.note.new.table c.args.own.now c.loop-i.i _ c.in_ok-narrow-2.field-0
    (omega (arith, c.loop-i-test.true)) refl c.in_ok-note.ensures.within c.in_ok-narrow-2.ensures c.in_ok-note.ensures.noted
    c.loop-i.invariant
