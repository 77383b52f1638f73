use Rattle.std.proofs.Common.{drop}
use Rattle.spv_proof.proofs.sums.Tallies.{AddingParts}
use Rattle.spv_proof.proofs.sums.adding.add_parts.Given as goal

abbrev pub invariant-loop-part : goal.invariant-loop-part
invariant-loop-part l = AddingParts l.fn.m l.fn.parts (drop l.part-index l.fn.parts) l.fn.sum l.sum
