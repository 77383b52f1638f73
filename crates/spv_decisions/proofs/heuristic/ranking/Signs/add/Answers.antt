use Rattle.std.proofs.Common.{length, arith}
use Rattle.spv_decisions.proofs.heuristic.Places.{item_in}
use Rattle.spv_decisions.proofs.heuristic.ranking.Signs.add.Goals as goal

pub is_view-requires : goal.is_view-requires
is_view-requires c = item_in (length c.args.terms.now.nodes) c.args.ids.now c.loop-t.t-index (record { 0 = 0 }) c.requires (omega (arith, c.loop-t-test.true))

pub is_name-requires : goal.is_name-requires
is_name-requires c = item_in (length c.args.terms.now.nodes) c.args.ids.now c.loop-t.t-index (record { 0 = 0 }) c.requires (omega (arith, c.loop-t-test.true))
