use Rattle.spv_listing.proofs.verdict_pages.Splits.{splits_counted}
use Rattle.spv_listing.proofs.verdict_pages.limits.splits_of.Goals as goal

pub returns : goal.returns
returns c = λ at. splits_counted at _ c.nodes-nodes.result.now c.args.kept.now c.count_splits.ensures c.nodes-nodes.ensures.nodes c.nodes-nodes.ensures.tree
