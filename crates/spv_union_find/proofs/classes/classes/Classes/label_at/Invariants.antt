use Rattle.std.proofs.Common.{◌≡◌, suc, ◌-◌, ◌<◌, take, length}
use Rattle.spv_union_find.specs.classes.Classes.{label, taken_at}
use Rattle.spv_union_find.proofs.classes.Moments.{place_or}
use Rattle.spv_union_find.proofs.classes.classes.Classes.label_at.Given as goal

abbrev pub invariant-loop-place : goal.invariant-loop-place
invariant-loop-place l = record {
  within : l.at < l.self.count;
  same : label (take l.time l.self.joins) l.at ≡ label (take l.time l.self.joins) l.fn.x;
}

abbrev pub decreases-loop-place : goal.decreases-loop-place
decreases-loop-place l = suc (length l.self.joins) - place_or (taken_at l.self.joins l.at) (length l.self.joins)
