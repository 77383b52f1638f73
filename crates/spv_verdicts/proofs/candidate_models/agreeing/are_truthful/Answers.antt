use Rattle.std.proofs.Common.{ap, length, sym, ◌∙◌, arith}
use Rattle.spv_verdicts.proofs.candidate_models.Apart.{one_truthful}
use Rattle.spv_verdicts.proofs.candidate_models.Worths.{pair_in_as}
use Rattle.spv_verdicts.specs.candidate_models.Trying.{is_truthful}
use Rattle.spv_verdicts.proofs.candidate_models.agreeing.are_truthful.Goals as goal

pub is_truthful-requires : goal.is_truthful-requires
is_truthful-requires c = pair_in_as c.args.terms.now c.args.pairs.now c.loop-place.place c.index-pairs-place.result c.requires (omega (arith, c.loop-place-test.true)) c.index-pairs-place.is

pub loop-place-preserved : goal.loop-place-preserved
loop-place-preserved c =
    one_truthful c.args.terms.now c.args.pairs.now c.loop-place.place c.index-pairs-place.result (omega (arith, c.loop-place-test.true)) c.loop-place.invariant
    (ap (is_truthful c.args.terms.now) (sym c.index-pairs-place.is) ∙ (sym c.is_truthful.ensures ∙ c.if-not-is_truthful.false))
