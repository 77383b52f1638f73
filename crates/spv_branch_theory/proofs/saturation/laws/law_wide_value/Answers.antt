use Rattle.spv_branch_theory.proofs.saturation.Wide.{wide_reached}
use Rattle.spv_branch_theory.proofs.saturation.laws.law_wide_value.Goals as goal

pub returns : goal.returns
returns c = wide_reached c.law_full_table.ensures
