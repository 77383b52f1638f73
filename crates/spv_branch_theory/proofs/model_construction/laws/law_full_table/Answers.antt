use Rattle.spv_branch_theory.proofs.model_construction.LeafTable.{table_is}
use Rattle.spv_branch_theory.proofs.model_construction.laws.law_full_table.Goals as goal

pub returns : goal.returns
returns c = table_is
