use Rattle.std.proofs.Common.{sym, ◌∙◌}
use Rattle.spv_verdicts.proofs.candidate_models.Apart.{apart_from_one}
use Rattle.spv_verdicts.proofs.candidate_models.agreeing.apart_before.Goals as goal

pub loop-j-preserved : goal.loop-j-preserved
loop-j-preserved c = apart_from_one c.args.terms.now c.args.pairs.now c.args.keys.now c.args.place c.loop-j.j c.loop-j.invariant (sym c.are_apart.ensures ∙ c.if-are_apart.false)
