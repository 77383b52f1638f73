use Rattle.spv_arithmetic_side.proofs.constraint_rows.Asserting.{stopped_evidence}
use Rattle.spv_arithmetic_side.proofs.constraint_rows.standing.Standing.check.Goals as goal

pub returns-clause-evidence : goal.returns-clause-evidence
returns-clause-evidence c = λ known h stopped. stopped_evidence known c.args.self.now.tableau c.check.new.self c.check.result c.law_tableau.ensures h c.check.ensures.checked stopped
