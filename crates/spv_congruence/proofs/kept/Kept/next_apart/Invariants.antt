use Rattle.std.proofs.Common.{length, []}
use Rattle.spv_congruence.specs.Keep.{IsNow}
use Rattle.spv_congruence.proofs.kept.Kept.next_apart.Given as goal

abbrev pub invariant-loop-equal : goal.invariant-loop-equal
invariant-loop-equal l = record {
  level : IsNow l.self (length l.self.added) l.equals.items [];
}

abbrev pub decreases-loop-equal : goal.decreases-loop-equal
decreases-loop-equal l = length l.equals.items
