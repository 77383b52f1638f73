use Rattle.spv_proof.specs.sums.Readings.{number_in}
use Rattle.spv_arithmetic_side.proofs.bounds.Pairing.{not_two}
use Rattle.spv_arithmetic_side.proofs.bounds.relation.number_pair.Goals as goal

pub returns-then-args-ne2 : goal.returns-then-args-ne2
returns-then-args-ne2 c = not_two c.args.terms.now (number_in c.args.terms.now) c.args.args.now c.if-args-ne2.true
