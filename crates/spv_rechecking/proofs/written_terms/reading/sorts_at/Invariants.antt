use Rattle.std.proofs.Common.{◌≡◌, take}
use Rattle.spv_rechecking.specs.written_terms.Read.{sorts_of}
use Rattle.spv_rechecking.proofs.written_terms.reading.sorts_at.Given as goal

abbrev pub invariant-loop-arg : goal.invariant-loop-arg
invariant-loop-arg l = l.list.items ≡ sorts_of l.sorts (take l.arg-index l.args)
