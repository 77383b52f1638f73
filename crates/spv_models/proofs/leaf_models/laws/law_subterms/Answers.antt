use Rattle.spv_models.proofs.leaf_models.Closed.{subterms-has}
use Rattle.spv_models.proofs.leaf_models.Covering.{part-arguments}
use Rattle.spv_models.proofs.leaf_models.Once.{subterms-once}
use Rattle.spv_models.proofs.leaf_models.laws.law_subterms.Goals as goal

pub returns-clause-formulas : goal.returns-clause-formulas
returns-clause-formulas c = subterms-has

pub returns-clause-arguments : goal.returns-clause-arguments
returns-clause-arguments c = part-arguments

pub returns-clause-once : goal.returns-clause-once
returns-clause-once c = subterms-once
