use Rattle.spv_environments.proofs.FieldTables.{field_new}
use Rattle.spv_environments.proofs.fields.note_field.Goals as goal

pub returns : goal.returns
returns c = field_new c.args.table.now c.insert.new.self c.args.field c.in_ok-insert.ensures.ok
