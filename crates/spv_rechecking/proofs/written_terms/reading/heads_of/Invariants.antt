use Rattle.std.proofs.Common.{take}
use Rattle.spv_listing_values.specs.Places.{trees}
use Rattle.spv_rechecking.specs.written_terms.Words.{vocabulary}
use Rattle.spv_rechecking.specs.written_terms.Read.{AreRead}
use Rattle.spv_rechecking.proofs.written_terms.reading.heads_of.Given as goal

abbrev pub invariant-loop-place : goal.invariant-loop-place
invariant-loop-place l = AreRead (vocabulary l.names l.titles l.leaves l.shapes l.decls) (take l.place (trees l.texts)) l.heads.items l.sorts.items
