use Rattle.spv_listing_values.proofs.Marks.{Stands}
use Rattle.spv_listing_values.proofs.scanning.Line.read.Given as goal

abbrev pub invariant-loop-at : goal.invariant-loop-at
invariant-loop-at l = Stands l.bytes l.self l.from l.start l.at
