use Rattle.spv_models.proofs.leaf_models.Falsifying.{table-falsifies}
use Rattle.spv_models.proofs.leaf_models.laws.law_survives.Goals as goal

pub returns : goal.returns
returns c = table-falsifies
