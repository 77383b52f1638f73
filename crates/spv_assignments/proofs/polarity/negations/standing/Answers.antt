use Rattle.std.proofs.Common.{not, ap}
use Rattle.spv_assignments.proofs.polarity.Standings.{stands_true, stands_false}
use Rattle.spv_assignments.proofs.polarity.negations.standing.Goals as goal

pub returns-then-truth : goal.returns-then-truth
returns-then-truth c =
    stands_true c.args.terms.now c.args.t c.core-is_even.result.0 c.core-is_even.result.1 c.core-is_even.ensures.core c.args.truth (not c.is_double_negation.result) c.if-truth.true (ap not c.is_double_negation.ensures)

pub returns-else-truth : goal.returns-else-truth
returns-else-truth c =
    stands_false c.args.terms.now c.args.t c.core-is_even.result.0 c.core-is_even.result.1 c.core-is_even.ensures.core c.args.truth (not c.is_negation.result) c.if-truth.false (ap not c.is_negation.ensures)
