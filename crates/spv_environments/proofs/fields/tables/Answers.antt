use Rattle.spv_environments.proofs.FieldTables.{table_more}
use Rattle.spv_environments.proofs.fields.tables.Goals as goal

pub loop-form-preserved : goal.loop-form-preserved
loop-form-preserved c =
    table_more c.loop-form.form-index c.args.forms.now c.loop-form.tables.items c.push.new.self.items c.in_ok-table.table c.form-item.result
    c.loop-form-test.true c.form-item.is c.loop-form.invariant c.in_ok-table.ensures c.in_ok-push.ensures.items
