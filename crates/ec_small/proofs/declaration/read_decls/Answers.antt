use Rattle.std.proofs.Common.{◌≡◌, ◌+◌, ◌-◌, ◌∙◌, ap, sym, length, drop, arith}
use Rattle.ec_small.specs.Grammar.{kinds}
use Rattle.ec_small.specs.Descent.{and_then, decls_on}
use Rattle.ec_small.proofs.Steps.{decl_more, decls_goes}
use Rattle.ec_small.proofs.declaration.read_decls.Goals as goal

pub loop-turn-preserved : goal.loop-turn-preserved
loop-turn-preserved c =
    let declared = c.loop-turn.declared in
    let rest = kinds (drop c.in_ok-more.after c.args.tokens.now) in
    let more : length c.in_ok-more.more.names ≡ length declared.names + 1 =
    decl_more declared c.in_ok-more.more (kinds (drop (c.loop-turn.next + 1) c.args.tokens.now)) rest (omega arith) c.in_ok-more.ensures.1 in
    record {
      within = c.in_ok-more.ensures.0;
      turns = omega arith;
      goes_on =
          c.loop-turn.invariant.goes_on
          ∙ decls_goes 256 c.loop-turn.turn declared c.args.tokens.now c.loop-turn.next (omega arith) (sym c.if-not-word_at.ensures.is)
          ∙ ap (λ p. and_then p (decls_on (256 - (c.loop-turn.turn + 1)))) c.in_ok-more.ensures.1;
    }
