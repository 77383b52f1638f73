use Rattle.std.proofs.Common.{refl}
use Rattle.spv_worked.proofs.Correct.{swapping_correct, clearing_correct}
use Rattle.spv_worked.proofs.doubts.law_correct.Goals as goal

pub returns-clause-swapping : goal.returns-clause-swapping
returns-clause-swapping c = swapping_correct

pub returns-clause-clear : goal.returns-clause-clear
returns-clause-clear c = refl

pub returns-clause-clearing : goal.returns-clause-clearing
returns-clause-clearing c = clearing_correct
