use Rattle.spv_arithmetic_side.proofs.constraint_rows.Asserting.{asserted_none}
use Rattle.spv_arithmetic_side.proofs.constraint_rows.standing.Standing.open.Goals as goal

pub returns-clause-asserted : goal.returns-clause-asserted
returns-clause-asserted c = λ known. asserted_none c.law_asserted.ensures.open known _ _ _ _ c.in_ok-tableau.ensures
