use Rattle.std.proofs.Common.{◌+◌, ◌∙◌, false, List, [], ◌∷◌, ◌++◌, sym, ap, subst, drop, arith, refl}
use Rattle.std.proofs.lemmas.List.{take_rest, length-drop}
use Rattle.ec_base.specs.declared.token.Token.{Token}
use Rattle.ec_lex.specs.declared.front.Front.{Front}
use Rattle.ec_base.specs.declared.token.TokenKind.TheVariants.{End}
use Rattle.ec_lex.specs.Front.{IsFrontOf, IsLexicalFront}
use Rattle.ec_lex.specs.Scan.{scanned_from, token}
use Rattle.ec_lex.proofs.AtFront.Lexicals.{lexical_push}
use Rattle.ec_lex.proofs.Cuts.Scanning.{joined, joined-put, scanned_from-skip, scanned_from-take}
use Rattle.ec_lex.proofs.Cuts.OneCut.{at_end, at_fault}
use Rattle.ec_lex.proofs.cut.scan.Goals as goal

pub loop-tokens-preserved-in-Skips : goal.loop-tokens-preserved-in-Skips
loop-tokens-preserved-in-Skips c =
    let text = c.args.text.now in
    let at = c.loop-tokens.at in
    let value = rw (take_rest text at) at (sym c.in-Skips.is ∙ c.in_ok-read_front.ensures.value) in
    let P : Front → Type 0 = IsFrontOf (drop at text) in
    let part = subst P c.in-Skips.is (rw (take_rest text at) at c.in_ok-read_front.ensures.part) in
    let goes = scanned_from-skip at c.in-Skips.count c.loop-tokens.fresh c.in-Skips.now text value part in
    (c.loop-tokens.invariant.0 ∙ ap (joined c.loop-tokens.tokens) goes, omega (arith, part.1, length-drop at text), c.loop-tokens.invariant.2)

pub loop-tokens-preserved : goal.loop-tokens-preserved
loop-tokens-preserved c =
    let text = c.args.text.now in
    let at = c.loop-tokens.at in
    let value = rw (take_rest text at) at (sym c.in-Takes.is ∙ c.in_ok-read_front.ensures.value) in
    let P : Front → Type 0 = IsFrontOf (drop at text) in
    let part = subst P c.in-Takes.is (rw (take_rest text at) at c.in_ok-read_front.ensures.part) in
    let lexical = subst IsLexicalFront c.in-Takes.is c.in_ok-read_front.ensures.lexical in
    let goes = scanned_from-take at c.in-Takes.count c.loop-tokens.fresh c.in-Takes.kind text value part in
    let tokens = c.in_ok-push-in-Takes.ensures.ok ∙ ap (λ (t : Token). c.loop-tokens.tokens ++ t ∷ []) c.token-in-Takes.ensures in
    let all = c.loop-tokens.invariant.0 ∙ ap (joined c.loop-tokens.tokens) goes ∙ joined-put c.loop-tokens.tokens _ _ in
    (all ∙ ap (λ (l : List Token). joined l (scanned_from 0 (at + c.in-Takes.count) false (drop (at + c.in-Takes.count) text))) (sym tokens), omega (arith, part.1, length-drop at text), rw tokens (lexical_push c.loop-tokens.tokens (token at c.in-Takes.kind c.in-Takes.count) c.loop-tokens.invariant.2 lexical))

pub returns-in-Over : goal.returns-in-Over
returns-in-Over c =
    let text = c.args.text.now in
    let at = c.loop-tokens.at in
    let value = rw (take_rest text at) at (sym c.in-Over.is ∙ c.in_ok-read_front.ensures.value) in
    let P : Front → Type 0 = IsFrontOf (drop at text) in
    let part = subst P c.in-Over.is (rw (take_rest text at) at c.in_ok-read_front.ensures.part) in
    let is = at_end text c.loop-tokens.tokens c.push.new.self c.token.result at c.loop-tokens.fresh c.loop-tokens.invariant.0 value part c.token.ensures c.in_ok-push-in-Over.ensures.ok in
    record { cuts = is.cuts; only = is.only; lexical = rw (c.in_ok-push-in-Over.ensures.ok ∙ ap (λ (t : Token). c.loop-tokens.tokens ++ t ∷ []) c.token.ensures) (lexical_push c.loop-tokens.tokens (token at End 0) c.loop-tokens.invariant.2 refl) }

pub returns-in-Fails : goal.returns-in-Fails
returns-in-Fails c =
    let text = c.args.text.now in
    let at = c.loop-tokens.at in
    let value = rw (take_rest text at) at (sym c.in-Fails.is ∙ c.in_ok-read_front.ensures.value) in
    let P : Front → Type 0 = IsFrontOf (drop at text) in
    let part = subst P c.in-Fails.is (rw (take_rest text at) at c.in_ok-read_front.ensures.part) in
    let is = at_fault text c.loop-tokens.tokens c.refusal.result at c.loop-tokens.fresh c.in-Fails.reason c.in-Fails.from c.in-Fails.to c.loop-tokens.invariant.0 value part c.refusal.ensures in
    record { cuts = is.cuts; only = is.only; lexical = c.loop-tokens.invariant.2 }
