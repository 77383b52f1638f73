use Rattle.spv_proof_rules.proofs.Outcomes.{outcome-accepts}
use Rattle.spv_proof_rules.proofs.Growing.{outcome-first}
use Rattle.spv_proof_rules.proofs.laws.law_outcome.Goals as goal

pub returns-clause-exact : goal.returns-clause-exact
returns-clause-exact c most q known nodes b h = outcome-accepts most q known nodes b h

pub returns-clause-terms_stay : goal.returns-clause-terms_stay
returns-clause-terms_stay c most q known nodes = outcome-first most q known nodes
