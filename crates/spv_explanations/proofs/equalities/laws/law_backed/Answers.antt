use Rattle.spv_explanations.proofs.equalities.Backed.{stays-backed}
use Rattle.spv_explanations.proofs.equalities.laws.law_backed.Goals as goal

pub returns : goal.returns
returns c = stays-backed
