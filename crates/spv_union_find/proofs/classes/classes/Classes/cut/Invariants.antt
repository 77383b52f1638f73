use Rattle.std.proofs.Common.{◌≡◌, take, length}
use Rattle.spv_union_find.proofs.classes.classes.Classes.cut.Given as goal

abbrev pub invariant-loop-self : goal.invariant-loop-self
invariant-loop-self l = record {
  count : l.self.count ≡ l.fn.self.count;
  joins : take l.count l.self.joins ≡ take l.count l.fn.self.joins;
}

abbrev pub decreases-loop-self : goal.decreases-loop-self
decreases-loop-self l = length l.self.joins
