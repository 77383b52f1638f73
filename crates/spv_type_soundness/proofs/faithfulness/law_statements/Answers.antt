use Rattle.spv_type_soundness.proofs.faithfulness.Constants.{constants_have_their_numbers}
use Rattle.spv_type_soundness.proofs.faithfulness.Statements.{statements_come, blocks_come}
use Rattle.spv_type_soundness.proofs.faithfulness.law_statements.Goals as goal

pub returns-clause-constants : goal.returns-clause-constants
returns-clause-constants c = constants_have_their_numbers

pub returns-clause-statements : goal.returns-clause-statements
returns-clause-statements c = statements_come

pub returns-clause-blocks : goal.returns-clause-blocks
returns-clause-blocks c = blocks_come
