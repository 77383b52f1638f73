use Rattle.std.proofs.Common.{drop}
use Rattle.spv_environments.specs.Fields.{FieldsSoFar}
use Rattle.spv_environments.proofs.fields.fields_of.Given as goal

abbrev pub invariant-loop-field : goal.invariant-loop-field
invariant-loop-field l = FieldsSoFar l.fields (drop l.field-index l.fields) l.table
