use Rattle.spv_verdicts.proofs.candidate_models.Apart.{one_not_apart}
use Rattle.spv_verdicts.proofs.candidate_models.agreeing.find_apart.Goals as goal

pub loop-place-preserved : goal.loop-place-preserved
loop-place-preserved c = one_not_apart c.args.terms.now c.args.pairs.now c.args.keys.now c.loop-place.place c.loop-place.invariant (rw c.in-None.is at c.apart_before-found.ensures.none)
