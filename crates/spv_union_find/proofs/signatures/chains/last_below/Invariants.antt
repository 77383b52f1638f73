use Rattle.std.proofs.Common.{length}
use Rattle.spv_union_find.proofs.signatures.ChainLemmas.{Walks, height}
use Rattle.spv_union_find.proofs.signatures.chains.last_below.Given as goal

abbrev pub invariant-loop-at : goal.invariant-loop-at
invariant-loop-at l = Walks l.links (length l.buckets) l.below l.hash l.at

abbrev pub decreases-loop-at : goal.decreases-loop-at
decreases-loop-at l = height l.at
