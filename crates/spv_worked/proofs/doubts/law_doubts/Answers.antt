use Rattle.spv_worked.proofs.Untrue.{wrong_not_correct, fact_is_one, promising_not_correct}
use Rattle.spv_worked.proofs.doubts.law_doubts.Goals as goal

pub returns-clause-wrong : goal.returns-clause-wrong
returns-clause-wrong c = wrong_not_correct

pub returns-clause-about_fact : goal.returns-clause-about_fact
returns-clause-about_fact c = fact_is_one

pub returns-clause-promising : goal.returns-clause-promising
returns-clause-promising c = promising_not_correct
