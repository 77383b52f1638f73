use Rattle.std.proofs.Common.{◌≡◌, length}
use Rattle.spv_decisions.proofs.heuristic.heuristic.own_values.Given as goal

abbrev pub invariant-loop-t : goal.invariant-loop-t
invariant-loop-t l = length l.own.items ≡ l.t-index
