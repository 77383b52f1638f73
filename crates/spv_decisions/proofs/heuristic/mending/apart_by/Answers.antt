use Rattle.std.proofs.Common.{length, arith}
use Rattle.spv_decisions.proofs.heuristic.Places.{item_in}
use Rattle.spv_decisions.proofs.heuristic.mending.apart_by.Goals as goal

pub equates-requires : goal.equates-requires
equates-requires c = item_in (length c.args.terms.now.nodes) c.args.atoms.now c.loop-place.place (record { 0 = 0 }) c.requires.atoms (omega (arith, c.loop-place-test.true))
