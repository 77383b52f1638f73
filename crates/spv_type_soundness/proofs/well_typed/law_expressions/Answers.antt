use Rattle.spv_type_soundness.proofs.well_typed.Expressions.{expressions_are_well_typed, places_are_well_typed}
use Rattle.spv_type_soundness.proofs.well_typed.law_expressions.Goals as goal

pub returns-clause-expressions : goal.returns-clause-expressions
returns-clause-expressions c = expressions_are_well_typed

pub returns-clause-places : goal.returns-clause-places
returns-clause-places c = places_are_well_typed
