use Rattle.std.proofs.Common.{◌≡◌, ◌≢◌, ◌-◌, ◌<◌, ◌≤◌, ◌⊎◌, take, length}
use Rattle.spv_union_find.specs.classes.Classes.{label}
use Rattle.spv_union_find.proofs.classes.classes.Classes.latest.Given as goal

abbrev pub invariant-loop-a : goal.invariant-loop-a
invariant-loop-a l = record {
  a_is : l.a ≡ label (take l.time l.self.joins) l.fn.x;
  b_is : l.b ≡ label (take l.time l.self.joins) l.fn.y;
  within : l.time ≤ length l.self.joins;
  seen : (l.time ≡ 0) ⊎ ((0 < l.time) × (label (take (l.time - 1) l.self.joins) l.fn.x ≢ label (take (l.time - 1) l.self.joins) l.fn.y));
}

abbrev pub decreases-loop-a : goal.decreases-loop-a
decreases-loop-a l = length l.self.joins - l.time
