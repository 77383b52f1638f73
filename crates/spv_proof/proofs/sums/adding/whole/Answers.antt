use Rattle.std.proofs.Common.{sym, subst, ℤ, arith}
use Rattle.std.proofs.lemmas.Int.{ints}
use Rattle.spv_whole.specs.Fraction.{whole}
use Rattle.spv_frac.specs.Range.{IsFrac}
use Rattle.spv_atoms.proofs.Sums.{narrow}
use Rattle.spv_proof.proofs.sums.Numeric.{whole-IsFrac}
use Rattle.spv_proof.proofs.sums.adding.whole.Goals as goal

pub invariant_of-result : goal.invariant_of-result
invariant_of-result c = (omega (arith, ints), subst (λ (z : ℤ). IsFrac (whole z)) (sym (narrow c.args.n c.requires)) (whole-IsFrac c.args.n c.requires))
