use Rattle.std.proofs.Common.{◌≡◌, ◌≤◌, length}
use Rattle.spv_dictionary.specs.pivoting.Trail.{first_of}
use Rattle.spv_dictionary.proofs.pivoting.trail.Trail.keep.Given as goal

abbrev pub invariant-loop-self : goal.invariant-loop-self
invariant-loop-self l = record {
  enough : l.count ≤ length l.self.bounds;
  kept : l.self ≡ first_of l.initial.self (length l.self.bounds);
}

abbrev pub decreases-loop-self : goal.decreases-loop-self
decreases-loop-self l = length l.self.bounds
