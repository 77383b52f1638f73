use Rattle.std.proofs.Common.{◌≡◌, ◌≤◌, ◌++◌, length, drop}
use Rattle.spv_rules.specs.making.Sketching.{visits}
use Rattle.spv_rules.proofs.making.sketching.push_visits.Given as goal

abbrev pub invariant-loop-left : goal.invariant-loop-left
invariant-loop-left l = record {
  within : l.left ≤ length l.args;
  same : l.works.items ≡ l.fn.works.items ++ visits (drop l.left l.args);
}

abbrev pub decreases-loop-left : goal.decreases-loop-left
decreases-loop-left l = l.left
