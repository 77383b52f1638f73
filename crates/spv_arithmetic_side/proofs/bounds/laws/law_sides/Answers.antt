use Rattle.spv_arithmetic_side.proofs.bounds.Finding.{lower_found, upper_found}
use Rattle.spv_arithmetic_side.proofs.bounds.laws.law_sides.Goals as goal

pub returns-clause-lower : goal.returns-clause-lower
returns-clause-lower c = λ row b. lower_found row b.lower b.upper

pub returns-clause-upper : goal.returns-clause-upper
returns-clause-upper c = λ row b. upper_found row b.lower b.upper
