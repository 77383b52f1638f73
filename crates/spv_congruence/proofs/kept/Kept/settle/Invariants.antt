use Rattle.std.proofs.Common.{◌-◌, length, []}
use Rattle.spv_congruence.specs.Keep.{Fits, GoesOn, IsNow}
use Rattle.spv_congruence.proofs.kept.Kept.settle.Given as goal

abbrev pub invariant-loop-equal : goal.invariant-loop-equal
invariant-loop-equal l = record {
  fits : Fits l.self;
  level : IsNow l.self (length l.self.added) l.equals.items [];
  goes : GoesOn l.fn.self l.self;
}

abbrev pub decreases-loop-equal : goal.decreases-loop-equal
decreases-loop-equal l = l.self.classes.count - length l.self.classes.joins
