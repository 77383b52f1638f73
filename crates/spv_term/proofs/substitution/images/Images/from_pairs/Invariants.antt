use Rattle.std.proofs.Common.{◌≤◌, length, drop}
use Rattle.spv_term.specs.substitution.Images.{SameImages}
use Rattle.spv_term.proofs.substitution.images.Images.from_pairs.Given as goal

abbrev pub invariant-loop-left : goal.invariant-loop-left
invariant-loop-left l = record {
  within : l.left ≤ length l.pairs;
  same : SameImages l.images (drop l.left l.pairs);
}

abbrev pub decreases-loop-left : goal.decreases-loop-left
decreases-loop-left l = l.left
