use Rattle.std.proofs.Common.{◌≡◌, ◌≤◌, ◌+◌, ◌-◌}
use Rattle.spv_congruence.proofs.adding.grow_classes.Given as goal

abbrev pub invariant-loop-classes : goal.invariant-loop-classes
invariant-loop-classes l = record {
  is : l.classes ≡ record l.fn.classes { count = l.classes.count };
  more : l.fn.classes.count ≤ l.classes.count;
}

abbrev pub decreases-loop-classes : goal.decreases-loop-classes
decreases-loop-classes l = l.place + 1 - l.classes.count
