use Rattle.std.proofs.Common.{◌≡◌, length}
use Rattle.spv_verdicts.specs.candidate_models.Trying.{numbers_eq}
use Rattle.spv_verdicts.proofs.candidate_models.agreeing.same_numbers.Given as goal

abbrev pub invariant-loop-rest : goal.invariant-loop-rest
invariant-loop-rest l = numbers_eq l.rest l.others ≡ numbers_eq l.left l.right

abbrev pub decreases-loop-rest : goal.decreases-loop-rest
decreases-loop-rest l = length l.rest
