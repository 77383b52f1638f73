use Rattle.spv_call_evaluation.proofs.Supplies.{test_supplied, place_supplied, argued_supplied}
use Rattle.spv_call_evaluation.proofs.LeafSupplies.{leaf_supplied}
use Rattle.spv_call_evaluation.proofs.laws.law_supplies.Goals as goal

pub returns-clause-expressions : goal.returns-clause-expressions
returns-clause-expressions c p world here e n = test_supplied p world here e n

pub returns-clause-places : goal.returns-clause-places
returns-clause-places c p world here d n = place_supplied p world here d n

pub returns-clause-arguments : goal.returns-clause-arguments
returns-clause-arguments c p world here given n = argued_supplied p world here given n

pub returns-clause-leaves : goal.returns-clause-leaves
returns-clause-leaves c p world here s leaf q ignores = leaf_supplied p world here s leaf q ignores
