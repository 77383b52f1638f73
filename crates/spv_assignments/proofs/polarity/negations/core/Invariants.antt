use Rattle.spv_atoms.specs.Order.{size}
use Rattle.spv_term.specs.Arena.{tree}
use Rattle.spv_assignments.proofs.polarity.Turns.{IsReached}
use Rattle.spv_assignments.proofs.polarity.negations.core.Given as goal

abbrev pub invariant-loop-inner : goal.invariant-loop-inner
invariant-loop-inner l = IsReached l.terms l.fn.t l.at l.is_even

abbrev pub decreases-loop-inner : goal.decreases-loop-inner
decreases-loop-inner l = size (tree l.terms l.at)
