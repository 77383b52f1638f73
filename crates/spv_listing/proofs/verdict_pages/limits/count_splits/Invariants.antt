use Rattle.std.proofs.Common.{◌≡◌, ◌≤◌, take}
use Rattle.std.specs.List.{count_by}
use Rattle.spv_listing.specs.verdict_pages.Counting.{is_split}
use Rattle.spv_listing.proofs.verdict_pages.limits.count_splits.Given as goal

abbrev pub invariant-loop-node : goal.invariant-loop-node
invariant-loop-node l = (l.number ≡ count_by is_split (take l.node-index l.nodes)) × (l.number ≤ l.node-index)
