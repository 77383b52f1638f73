use Rattle.std.proofs.Common.{length, arith}
use Rattle.spv_decisions.proofs.heuristic.Places.{item_in}
use Rattle.spv_decisions.proofs.heuristic.heuristic.with_places.Goals as goal

pub places_of-requires : goal.places_of-requires
places_of-requires c = item_in (length c.args.terms.now.nodes) c.args.formulas.now c.loop-f.f-index (record { 0 = 0 }) c.requires (omega (arith, c.loop-f-test.true))
