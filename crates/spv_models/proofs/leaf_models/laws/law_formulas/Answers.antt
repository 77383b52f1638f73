use Rattle.spv_models.proofs.leaf_models.Falsifying.{formula-holds}
use Rattle.spv_models.proofs.leaf_models.laws.law_formulas.Goals as goal

pub returns : goal.returns
returns c = formula-holds
