use Rattle.spv_simplex.proofs.Held.{opens_with_none, asserts_one, undoes_none}
use Rattle.spv_simplex.proofs.laws.law_asserted.Goals as goal

pub returns-clause-open : goal.returns-clause-open
returns-clause-open c = opens_with_none

pub returns-clause-assert : goal.returns-clause-assert
returns-clause-assert c = asserts_one

pub returns-clause-undo : goal.returns-clause-undo
returns-clause-undo c = undoes_none
