use Rattle.std.proofs.Common.{drop, fold}
use Rattle.spv_term.specs.Arena.{tree}
use Rattle.spv_assign.specs.limited_steps.Labels.{or_number}
use Rattle.spv_assign.proofs.limited_steps.Joining.{JoinedSoFar}
use Rattle.spv_assign.proofs.limited_steps.labels.or_numbers.Given as goal

abbrev pub invariant-loop-z : goal.invariant-loop-z
invariant-loop-z l = JoinedSoFar l.fn.terms l.terms l.t l.all (fold (or_number (tree l.fn.terms l.t)) (tree l.fn.terms l.fn.test) l.numbers) (drop l.z-index l.numbers)
