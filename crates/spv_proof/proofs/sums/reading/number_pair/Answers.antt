use Rattle.spv_proof.specs.sums.Readings.{number_in}
use Rattle.spv_proof.proofs.sums.Pairs.{not-two}
use Rattle.spv_proof.proofs.sums.reading.number_pair.Goals as goal

pub returns-then-args-ne2-clause-value : goal.returns-then-args-ne2-clause-value
returns-then-args-ne2-clause-value c = not-two c.args.terms.now (number_in c.args.terms.now) c.args.args.now c.if-args-ne2.true
