use Rattle.spv_models.proofs.leaf_models.Points.{literal-met, above-met}
use Rattle.spv_models.proofs.leaf_models.laws.law_point.Goals as goal

pub returns-clause-literals : goal.returns-clause-literals
returns-clause-literals c = literal-met

pub returns-clause-above : goal.returns-clause-above
returns-clause-above c = above-met
