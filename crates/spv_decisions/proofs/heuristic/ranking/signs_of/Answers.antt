use Rattle.std.proofs.Common.{length, arith}
use Rattle.spv_decisions.proofs.heuristic.Places.{one_in}
use Rattle.spv_decisions.proofs.heuristic.ranking.signs_of.Goals as goal

pub subterms-requires : goal.subterms-requires
subterms-requires c = one_in (length c.args.terms.now.nodes) c.args.formulas.now c.loop-f.f-index (record { 0 = 0 }) c.requires (omega (arith, c.loop-f-test.true))
