use Rattle.std.proofs.Common.{◌≡◌, ◌∙◌, ◌≤◌, ◌+◌, ℕ, Bool, true, false, true≢false, sym, subst, arith}
use Rattle.std.proofs.lemmas.List.{get_or_default}
use Rattle.std.proofs.lemmas.List.Elements.{Contains-get_or}
use Rattle.ec_calls.specs.Numbers.{one_if}
use Rattle.ec_calls.proofs.Lowering.{untouched, and_this, one_kept}
use Rattle.ec_calls.proofs.reach.sweep.Goals.{then-relax, else-relax}
use Rattle.ec_calls.proofs.reach.sweep.Goals as goal

counted :
    (taken now before : Bool) (n m k : ℕ) → taken ≡ true → now ≡ true → n + one_if taken ≤ m → m + one_if before ≤ k
    → n + one_if now ≤ k
counted taken now before n m k t is h g =
    let h : n + 1 ≤ m = subst (λ v. n + one_if v ≤ m) t h in
    let r : n + 1 ≤ k = omega arith in
    subst (λ v. n + one_if v ≤ k) (sym is) r

still_counted :
    (taken now before : Bool) (n m k : ℕ) → taken ≡ false → now ≡ before → n + one_if taken ≤ m
    → m + one_if before ≤ k → n + one_if now ≤ k
still_counted taken now before n m k t is h g =
    subst (λ v. n + one_if v ≤ k) (sym is) (let h : n + one_if taken ≤ m = h in omega arith)

pub loop-call-init : goal.loop-call-init
loop-call-init c = record {
  lowers = untouched c.args.calls.now c.args.places.now;
  falls = omega arith;
  kept = λ _ k d h. absurd (omega arith);
}

pub loop-call-preserved : goal.loop-call-preserved
loop-call-preserved c = record {
  lowers =
      and_this c.args.calls.now _ c.args.places.now c.loop-call.places c.relax.new.places
      (Contains-get_or c.args.calls.now c.loop-call.call-index _ c.loop-call-test.true) c.loop-call.invariant.lowers
      c.relax.ensures.lowers;
  falls = elim c.if-relax.branch [
    | then-relax w ↦ counted c.relax.result c.if-relax.changed c.loop-call.changed _ _ _ w.if-relax.true
        w.changed-is c.relax.ensures.falls c.loop-call.invariant.falls
    | else-relax w ↦ still_counted c.relax.result c.if-relax.changed c.loop-call.changed _ _ _ w.if-relax.false
        w.changed-is c.relax.ensures.falls c.loop-call.invariant.falls
  ];
  kept = λ still. elim c.if-relax.branch [
    | then-relax w ↦ absurd (true≢false (sym w.changed-is ∙ still))
    | else-relax w ↦
        one_kept c.loop-call.places c.relax.new.places c.args.calls.now c.loop-call.call-index _ _ (omega arith)
        c.loop-call-test.true
        (get_or_default c.args.calls.now c.loop-call.call-index _ _ c.loop-call-test.true)
        (c.relax.ensures.same w.if-relax.false) (c.loop-call.invariant.kept (sym w.changed-is ∙ still))
        (c.relax.ensures.kept w.if-relax.false)
  ];
}
