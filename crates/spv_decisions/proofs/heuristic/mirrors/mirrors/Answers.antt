use Rattle.std.proofs.Common.{length, arith}
use Rattle.spv_decisions.proofs.heuristic.Places.{item_in}
use Rattle.spv_decisions.proofs.heuristic.mirrors.mirrors.Goals as goal

pub mirror_of-requires : goal.mirror_of-requires
mirror_of-requires c = item_in (length c.args.terms.now.nodes) c.args.ids.now c.loop-t.t-index (record { 0 = 0 }) c.requires (omega (arith, c.loop-t-test.true))
