use Rattle.std.proofs.Common.{length, arith}
use Rattle.spv_decisions.proofs.heuristic.Places.{item_in}
use Rattle.spv_decisions.proofs.heuristic.mending.shown_false.Goals as goal

pub is_shown-requires-clause-t : goal.is_shown-requires-clause-t
is_shown-requires-clause-t c = item_in (length c.args.terms.now.nodes) c.args.atoms.now c.loop-place.place (record { 0 = 0 }) c.requires.atoms (omega (arith, c.loop-place-test.true))
