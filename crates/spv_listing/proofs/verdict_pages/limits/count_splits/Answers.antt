use Rattle.std.proofs.Common.{ℕ, ◌≤◌, ◌+◌, ap, ◌∙◌, arith}
use Rattle.std.specs.Prelude.{cond}
use Rattle.spv_listing.specs.verdict_pages.Counting.{is_split}
use Rattle.spv_listing.proofs.verdict_pages.Counted.{tallied, tallied_all}
use Rattle.spv_listing.proofs.verdict_pages.limits.count_splits.Goals as goal

pub loop-node-preserved : goal.loop-node-preserved
loop-node-preserved c =
    (tallied is_split c.args.nodes.now c.loop-node.node-index c.loop-node.number c.one_if-number.result c.node-item.result c.loop-node-test.true c.node-item.is c.loop-node.invariant.0 (c.one_if-number.ensures.number ∙ ap (λ b. cond b 1 0) c.is_split.ensures), at_most c.loop-node.number c.loop-node.node-index c.one_if-number.result c.loop-node.invariant.1 c.one_if-number.ensures.small)
  where
    at_most : (n k m : ℕ) → n ≤ k → m ≤ 1 → n + m ≤ k + 1
    at_most n k m a b = omega (arith, a, b)

pub returns : goal.returns
returns c = tallied_all is_split c.args.nodes.now c.loop-node.node-index c.loop-node.number c.loop-node-test.false c.loop-node.invariant.0
