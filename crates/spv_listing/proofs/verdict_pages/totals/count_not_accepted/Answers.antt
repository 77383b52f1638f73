use Rattle.std.proofs.Common.{ℕ, ◌≤◌, ◌+◌, ap, ◌∙◌, arith}
use Rattle.std.specs.Prelude.{cond}
use Rattle.spv_listing.specs.verdict_pages.Totals.{is_not_accepted}
use Rattle.spv_listing.proofs.verdict_pages.Counted.{tallied, tallied_all}
use Rattle.spv_listing.proofs.verdict_pages.totals.count_not_accepted.Goals as goal

pub loop-decided-preserved : goal.loop-decided-preserved
loop-decided-preserved c =
    (tallied is_not_accepted c.args.verdicts.now c.loop-decided.decided-index c.loop-decided.number c.one_if-number.result c.decided-item.result c.loop-decided-test.true c.decided-item.is c.loop-decided.invariant.0 (c.one_if-number.ensures.number ∙ ap (λ b. cond b 1 0) c.is_not_accepted.ensures), at_most c.loop-decided.number c.loop-decided.decided-index c.one_if-number.result c.loop-decided.invariant.1 c.one_if-number.ensures.small)
  where
    at_most : (n k m : ℕ) → n ≤ k → m ≤ 1 → n + m ≤ k + 1
    at_most n k m a b = omega (arith, a, b)

pub returns : goal.returns
returns c = tallied_all is_not_accepted c.args.verdicts.now c.loop-decided.decided-index c.loop-decided.number c.loop-decided-test.false c.loop-decided.invariant.0
