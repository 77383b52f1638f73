use Rattle.std.proofs.Common.{length, arith}
use Rattle.spv_decisions.proofs.heuristic.Places.{item_in}
use Rattle.spv_decisions.proofs.heuristic.parts.with_marked.Goals as goal

pub is_conjunction-requires : goal.is_conjunction-requires
is_conjunction-requires c = item_in (length c.args.terms.now.nodes) c.args.ids.now c.loop-place.place (record { 0 = 0 }) c.requires.ids (omega (arith, c.loop-place-test.true))

pub push_if-requires-in-loop-place : goal.push_if-requires-in-loop-place
push_if-requires-in-loop-place c = item_in (length c.args.terms.now.nodes) c.args.ids.now c.loop-place.place (record { 0 = 0 }) c.requires.ids (omega (arith, c.loop-place-test.true))
