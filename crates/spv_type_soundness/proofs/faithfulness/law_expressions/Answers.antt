use Rattle.spv_type_soundness.proofs.faithfulness.Expressions.{expressions_come, places_come, calls_come}
use Rattle.spv_type_soundness.proofs.faithfulness.law_expressions.Goals as goal

pub returns-clause-expressions : goal.returns-clause-expressions
returns-clause-expressions c = expressions_come

pub returns-clause-places : goal.returns-clause-places
returns-clause-places c = places_come

pub returns-clause-calls : goal.returns-clause-calls
returns-clause-calls c = calls_come
