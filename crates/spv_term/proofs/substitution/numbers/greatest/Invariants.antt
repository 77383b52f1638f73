use Rattle.std.proofs.Common.{◌≡◌, ◌≤◌, length, drop}
use Rattle.spv_term.specs.substitution.Fresh.{greatest}
use Rattle.spv_term.proofs.substitution.numbers.greatest.Given as goal

abbrev pub invariant-loop-left : goal.invariant-loop-left
invariant-loop-left l = record {
  within : l.left ≤ length l.terms.nodes;
  same : l.most ≡ greatest l.name l.sort (drop l.left l.terms.nodes);
}

abbrev pub decreases-loop-left : goal.decreases-loop-left
decreases-loop-left l = l.left
