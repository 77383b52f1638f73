use Rattle.std.proofs.Common.{◌≡◌, ◌++◌, ◌-◌, ◌<◌}
use Rattle.spv_union_find.specs.classes.Classes.{ring_from, size}
use Rattle.spv_union_find.proofs.classes.classes.Classes.members.Given as goal

abbrev pub invariant-loop : goal.invariant-loop
invariant-loop l = record {
  at : l.at < l.self.count;
  whole : l.members.items ++ ring_from l.self.joins l.at (size l.self.joins l.label - l.counter) ≡ ring_from l.self.joins l.label (size l.self.joins l.label);
}
