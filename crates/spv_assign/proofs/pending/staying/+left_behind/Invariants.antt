use Rattle.std.proofs.Common.{◌<◌, drop}
use Rattle.spv_assign.specs.pending.Staying.{AllStay}
use Rattle.spv_assign.proofs.pending.staying.+left_behind.Given as goal

abbrev pub decreases-left_behind : goal.decreases-left_behind
decreases-left_behind l = l.most

abbrev pub invariant-loop-arg : goal.invariant-loop-arg
invariant-loop-arg l = (l.left < l.most) × (AllStay l.terms l.pairs (drop l.arg-index l.args) → AllStay l.terms l.pairs l.args)
