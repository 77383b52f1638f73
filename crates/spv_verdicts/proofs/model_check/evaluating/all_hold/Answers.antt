use Rattle.std.proofs.Common.{length, arith}
use Rattle.spv_verdicts.proofs.model_check.LoopLemmas.{item_in}
use Rattle.spv_verdicts.proofs.model_check.evaluating.all_hold.Goals as goal

pub holds-requires-clause-f : goal.holds-requires-clause-f
holds-requires-clause-f c = item_in (length c.args.terms.now.nodes) c.args.fs.now c.loop-f.f-index (record { 0 = 0 }) c.requires.fs (omega (arith, c.loop-f-test.true))
