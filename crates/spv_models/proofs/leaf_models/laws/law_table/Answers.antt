use Rattle.spv_models.proofs.leaf_models.Alike.{alike-same}
use Rattle.spv_models.proofs.leaf_models.Falsifying.{table-terms, is-table}
use Rattle.spv_models.proofs.leaf_models.laws.law_table.Goals as goal

pub returns-clause-lists : goal.returns-clause-lists
returns-clause-lists c = table-terms

pub returns-clause-alike : goal.returns-clause-alike
returns-clause-alike c = alike-same

pub returns-clause-table : goal.returns-clause-table
returns-clause-table c = is-table
