use Rattle.std.proofs.Common.{length, arith}
use Rattle.spv_decisions.proofs.heuristic.Places.{item_in}
use Rattle.spv_decisions.proofs.heuristic.parts.spread_marks.Goals as goal

pub mark_sides-requires : goal.mark_sides-requires
mark_sides-requires c = item_in (length c.args.terms.now.nodes) c.args.ids.now _ (record { 0 = 0 }) c.requires (omega (arith, c.loop-k-test.true))
