use Rattle.std.proofs.Common.{arith}
use Rattle.spv_frac.proofs.Added.{positive_pos}
use Rattle.spv_atoms.proofs.Sums.{narrow}
use Rattle.spv_table.proofs.Keeping.{frac_of}
use Rattle.spv_rules.proofs.matching.values.numeral.Goals as goal

pub invariant_of-result : goal.invariant_of-result
invariant_of-result c = (positive_pos 1 (omega arith), frac_of c.args.number _ (narrow c.args.number c.requires) c.requires)
