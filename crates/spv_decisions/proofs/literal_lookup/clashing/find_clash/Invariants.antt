use Rattle.spv_decisions.proofs.literal_lookup.Turns.{AreBefore}
use Rattle.spv_decisions.proofs.literal_lookup.Opposed.{NoClash}
use Rattle.spv_decisions.proofs.literal_lookup.clashing.find_clash.Given as goal

abbrev pub invariant-loop-k : goal.invariant-loop-k
invariant-loop-k l = AreBefore (NoClash l.terms l.added) l.known l.k-index
