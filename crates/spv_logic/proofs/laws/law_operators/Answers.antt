use Rattle.std.proofs.Common.{ap, cond}
use Rattle.spv_logic.specs.Values.{no_rows, row, ArrayOf}
use Rattle.spv_logic.proofs.Equality.{value_eq-refl}
use Rattle.spv_logic.proofs.laws.law_operators.Goals as goal

pub returns-clause-default_has_no_row : goal.returns-clause-default_has_no_row
returns-clause-default_has_no_row c d i symbols v = ap (λ b. ArrayOf d (cond b no_rows (row i d no_rows))) (value_eq-refl d)
