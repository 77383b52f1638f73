use Rattle.spv_assignments.proofs.polarity.Denials.{core_says, core_truth, stands_alone, not_itself}
use Rattle.spv_assignments.proofs.polarity.laws.law_cores.Goals as goal

pub returns-clause-same : goal.returns-clause-same
returns-clause-same c = core_says

pub returns-clause-truths : goal.returns-clause-truths
returns-clause-truths c = core_truth

pub returns-clause-one : goal.returns-clause-one
returns-clause-one c = stands_alone

pub returns-clause-itself : goal.returns-clause-itself
returns-clause-itself c = not_itself
