use Rattle.spv_environments.specs.Fields.{FieldsTo}
use Rattle.spv_environments.proofs.fields.tables.Given as goal

abbrev pub invariant-loop-form : goal.invariant-loop-form
invariant-loop-form l = FieldsTo l.form-index l.forms l.tables.items
