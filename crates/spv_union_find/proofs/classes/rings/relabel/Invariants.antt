use Rattle.std.proofs.Common.{◌≡◌, ℕ, ◌<◌, ◌-◌, length}
use Rattle.spv_union_find.specs.classes.Classes.{point_at, relabelled}
use Rattle.spv_union_find.proofs.classes.rings.relabel.Given as goal

abbrev pub invariant-loop : goal.invariant-loop
invariant-loop l = record {
  at : l.at < length l.points;
  next : (x : ℕ) → x < length l.points → (point_at l.points x).next < length l.points;
  whole : relabelled l.points l.at (l.count - l.counter) l.label ≡ relabelled l.fn.points l.fn.start l.fn.count l.fn.label;
}
