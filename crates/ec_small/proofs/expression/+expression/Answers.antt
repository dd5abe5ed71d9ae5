use Rattle.std.proofs.Common.{rules, ◌≡◌, ◌<◌, sym, ◌∙◌, ap, drop, get_or, ◌+◌, ◌-◌, arith}
use Rattle.ec_base.specs.declared.token.Mark.TheVariants as m
use Rattle.ec_base.specs.declared.token.TokenKind.TheVariants as kind
use Rattle.ec_small.specs.Grammar.{kinds}
use Rattle.ec_small.specs.Descent.{and_then, mark, item, product_by, sum}
use Rattle.ec_small.proofs.Levels.{reach_one, settled}
use Rattle.ec_small.proofs.Operators.{products, sums}
use Rattle.ec_small.proofs.Turns.{opened, answers_as, refused_too, turned, refused_behind, refused_first, later, short_item, short_product}
use Rattle.ec_small.proofs.expression.+expression.Goals as goal

pub read_item-returns-in_err-sum-in-Mark-OpenParen : goal.read_item-returns-in_err-sum-in-Mark-OpenParen
read_item-returns-in_err-sum-in-Mark-OpenParen t c =
    let opens : (get_or c.args.tokens.now c.args.at c.index-tokens-at.result).kind ≡ kind.Mark m.OpenParen = search rules in
    let is = opened c.args.nesting c.args.names.now c.args.room c.args.tokens.now c.args.at c.index-tokens-at.result (omega arith) opens c.if-nesting-eq0.false (omega arith) in
    record {
      answer =
          refused_too c.args.tokens.now c.from_residual.result c.in_err-sum-in-Mark-OpenParen.field-0.0
          (sum (c.args.nesting - 1) c.args.names.now (c.args.room - 2) (kinds (drop (c.args.at + 1) c.args.tokens.now)))
          (item c.args.nesting c.args.names.now c.args.room (kinds (drop c.args.at c.args.tokens.now))) c.from_residual.ensures.1
          (λ r h. is ∙ ap (λ p. and_then p (mark m.CloseParen)) h) c.in_err-sum-in-Mark-OpenParen.ensures.answer;
    }

pub read_item-returns-in_ok-sum-in-Mark-OpenParen : goal.read_item-returns-in_ok-sum-in-Mark-OpenParen
read_item-returns-in_ok-sum-in-Mark-OpenParen t c =
    let opens : (get_or c.args.tokens.now c.args.at c.index-tokens-at.result).kind ≡ kind.Mark m.OpenParen = search rules in
    let is = opened c.args.nesting c.args.names.now c.args.room c.args.tokens.now c.args.at c.index-tokens-at.result (omega arith) opens c.if-nesting-eq0.false (omega arith) in
    record {
      answer =
          answers_as c.args.tokens.now c.before_mark.result
          (mark m.CloseParen c.in_ok-sum-in-Mark-OpenParen.sum (kinds (drop c.in_ok-sum-in-Mark-OpenParen.next c.args.tokens.now)))
          (item c.args.nesting c.args.names.now c.args.room (kinds (drop c.args.at c.args.tokens.now)))
          (is ∙ ap (λ p. and_then p (mark m.CloseParen)) c.in_ok-sum-in-Mark-OpenParen.ensures.answer.1) c.before_mark.ensures;
    }

pub read_product-returns-in_err-product : goal.read_product-returns-in_err-product
read_product-returns-in_err-product t c = record {
  answer =
      refused_first (products (item c.args.nesting c.args.names.now)) c.args.tokens.now c.args.room (kinds (drop c.args.at c.args.tokens.now))
      c.from_residual.result c.in_err-product.field-0.0 c.from_residual.ensures.1 c.in_err-product.ensures.answer;
}

pub read_product-loop-operator-init : goal.read_product-loop-operator-init
read_product-loop-operator-init t c = record {
  within = c.in_ok-product.ensures.answer.0;
  reaches =
      reach_one (products (item c.args.nesting c.args.names.now)) c.args.room (kinds (drop c.args.at c.args.tokens.now))
      (c.in_ok-product.product, c.in_ok-product.left) (kinds (drop c.in_ok-product.next c.args.tokens.now)) c.in_ok-product.ensures.answer.1;
}

pub read_product-returns-in_err-factor : goal.read_product-returns-in_err-factor
read_product-returns-in_err-factor t c = record {
  answer =
      refused_behind (products (item c.args.nesting c.args.names.now)) c.args.tokens.now c.args.room (kinds (drop c.args.at c.args.tokens.now))
      c.loop-operator.left c.loop-operator.next c.in-Some.operator c.loop-operator.product c.from_residual-in_err-factor.result c.in_err-factor.field-0.0
      (sym c.in-Some.ensures.operator) c.loop-operator.invariant.reaches c.from_residual-in_err-factor.ensures.1 c.in_err-factor.ensures.answer;
}

pub read_product-loop-operator-smaller : goal.read_product-loop-operator-smaller
read_product-loop-operator-smaller t c =
    let within = c.in_ok-factor.ensures.answer.0 in
    let more : c.loop-operator.next < c.in_ok-factor.after =
    later c.args.tokens.now (item c.args.nesting c.args.names.now) (short_item c.args.nesting c.args.names.now) (c.loop-operator.left - 1) c.loop-operator.next c.in_ok-factor.after
    (c.in_ok-factor.factor, c.in_ok-factor.less) c.in_ok-factor.ensures.answer.0 c.in_ok-factor.ensures.answer.1 in
    omega arith

pub read_product-loop-operator-preserved : goal.read_product-loop-operator-preserved
read_product-loop-operator-preserved t c = record {
  within = c.in_ok-factor.ensures.answer.0;
  reaches =
      turned (products (item c.args.nesting c.args.names.now)) c.args.tokens.now c.args.room (kinds (drop c.args.at c.args.tokens.now))
      (short_item c.args.nesting c.args.names.now) c.loop-operator.left c.loop-operator.next c.in-Some.operator c.loop-operator.product
      (c.in_ok-factor.factor, c.in_ok-factor.less) c.in_ok-factor.after c.in_ok-new.field-0 c.in_ok-new-2.field-0
      (sym c.in-Some.ensures.operator) c.loop-operator.invariant.reaches c.in_ok-factor.ensures.answer.1 c.in_ok-new.ensures c.in_ok-new-2.ensures;
}

pub read_product-returns : goal.read_product-returns
read_product-returns t c = record {
  answer = (
    c.loop-operator.invariant.within,
    settled (products (item c.args.nesting c.args.names.now)) c.args.room (kinds (drop c.args.at c.args.tokens.now)) (c.loop-operator.product, c.loop-operator.left)
        (kinds (drop c.loop-operator.next c.args.tokens.now)) c.loop-operator.invariant.reaches (sym c.factor_at.ensures.operator ∙ c.in_default.is),
  );
}

pub read_sum-returns-in_err-sum : goal.read_sum-returns-in_err-sum
read_sum-returns-in_err-sum t c = record {
  answer =
      refused_first (sums (item c.args.nesting c.args.names.now)) c.args.tokens.now c.args.room (kinds (drop c.args.at c.args.tokens.now))
      c.from_residual.result c.in_err-sum.field-0.0 c.from_residual.ensures.1 c.in_err-sum.ensures.answer;
}

pub read_sum-loop-operator-init : goal.read_sum-loop-operator-init
read_sum-loop-operator-init t c = record {
  within = c.in_ok-sum.ensures.answer.0;
  reaches =
      reach_one (sums (item c.args.nesting c.args.names.now)) c.args.room (kinds (drop c.args.at c.args.tokens.now))
      (c.in_ok-sum.sum, c.in_ok-sum.left) (kinds (drop c.in_ok-sum.next c.args.tokens.now)) c.in_ok-sum.ensures.answer.1;
}

pub read_sum-returns-in_err-term : goal.read_sum-returns-in_err-term
read_sum-returns-in_err-term t c = record {
  answer =
      refused_behind (sums (item c.args.nesting c.args.names.now)) c.args.tokens.now c.args.room (kinds (drop c.args.at c.args.tokens.now))
      c.loop-operator.left c.loop-operator.next c.in-Some.operator c.loop-operator.sum c.from_residual-in_err-term.result c.in_err-term.field-0.0
      (sym c.in-Some.ensures.operator) c.loop-operator.invariant.reaches c.from_residual-in_err-term.ensures.1 c.in_err-term.ensures.answer;
}

pub read_sum-loop-operator-smaller : goal.read_sum-loop-operator-smaller
read_sum-loop-operator-smaller t c =
    let within = c.in_ok-term.ensures.answer.0 in
    let more : c.loop-operator.next < c.in_ok-term.after =
    later c.args.tokens.now (product_by (item c.args.nesting c.args.names.now)) (short_product c.args.nesting c.args.names.now) (c.loop-operator.left - 1) c.loop-operator.next c.in_ok-term.after
    (c.in_ok-term.term, c.in_ok-term.less) c.in_ok-term.ensures.answer.0 c.in_ok-term.ensures.answer.1 in
    omega arith

pub read_sum-loop-operator-preserved : goal.read_sum-loop-operator-preserved
read_sum-loop-operator-preserved t c = record {
  within = c.in_ok-term.ensures.answer.0;
  reaches =
      turned (sums (item c.args.nesting c.args.names.now)) c.args.tokens.now c.args.room (kinds (drop c.args.at c.args.tokens.now))
      (short_product c.args.nesting c.args.names.now) c.loop-operator.left c.loop-operator.next c.in-Some.operator c.loop-operator.sum
      (c.in_ok-term.term, c.in_ok-term.less) c.in_ok-term.after c.in_ok-new.field-0 c.in_ok-new-2.field-0
      (sym c.in-Some.ensures.operator) c.loop-operator.invariant.reaches c.in_ok-term.ensures.answer.1 c.in_ok-new.ensures c.in_ok-new-2.ensures;
}

pub read_sum-returns : goal.read_sum-returns
read_sum-returns t c = record {
  answer = (
    c.loop-operator.invariant.within,
    settled (sums (item c.args.nesting c.args.names.now)) c.args.room (kinds (drop c.args.at c.args.tokens.now)) (c.loop-operator.sum, c.loop-operator.left)
        (kinds (drop c.loop-operator.next c.args.tokens.now)) c.loop-operator.invariant.reaches (sym c.term_at.ensures.operator ∙ c.in_default.is),
  );
}
