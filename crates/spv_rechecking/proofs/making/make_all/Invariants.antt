use Rattle.spv_listing_values.specs.Places.{trees}
use Rattle.spv_rechecking.proofs.MakeLemmas.{IsMaking}
use Rattle.spv_rechecking.proofs.making.make_all.Given as goal

abbrev pub invariant-loop-place : goal.invariant-loop-place
invariant-loop-place l = IsMaking l.names l.titles l.leaves l.fn.terms (trees l.texts) l.terms l.images.items l.place
