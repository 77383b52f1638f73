use Rattle.spv_frac.proofs.Added.{positive_pos}
use Rattle.spv_frac.proofs.Turned.{whole_inside}
use Rattle.std.proofs.Common.{arith}
use Rattle.spv_frac.proofs.frac.Frac.whole.Goals as goal

pub invariant_of-result : goal.invariant_of-result
invariant_of-result c = (positive_pos 1 (omega arith), whole_inside c.args.n c.from.result c.ranges.n c.from.ensures)
