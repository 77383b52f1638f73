use Rattle.std.proofs.Common.{drop}
use Rattle.spv_proof.proofs.sums.Multiples.{Summing}
use Rattle.spv_proof.proofs.sums.adding.sum_of.Given as goal

abbrev pub invariant-loop-multiple : goal.invariant-loop-multiple
invariant-loop-multiple l = Summing l.terms l.facts l.claim l.multiples (drop l.multiple-index l.multiples) l.sum
