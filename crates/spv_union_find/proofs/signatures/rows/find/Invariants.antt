use Rattle.std.proofs.Common.{map}
use Rattle.spv_union_find.specs.signatures.Signatures.{signature}
use Rattle.spv_union_find.proofs.signatures.RowLemmas.{Seeks}
use Rattle.spv_union_find.proofs.signatures.rows.find.Given as goal

abbrev pub invariant-loop-place : goal.invariant-loop-place
invariant-loop-place l = Seeks (map (signature l.cells) l.rows) l.hashes.hashes l.head l.labels l.hash l.below

abbrev pub decreases-loop-place : goal.decreases-loop-place
decreases-loop-place l = l.below
