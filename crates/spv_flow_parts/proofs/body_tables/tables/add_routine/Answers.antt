use Rattle.spv_flow_parts.proofs.body_tables.Putting.{on_ok}
use Rattle.spv_flow_parts.proofs.body_tables.Scoping.{routine_put_of}
use Rattle.spv_flow_parts.proofs.body_tables.tables.add_routine.Goals as goal

pub returns : goal.returns
returns c =
    on_ok c.add_names.result c.add_names.ensures
    (routine_put_of c.args.forms.now c.args.routine.now c.as_slice.result.now c.as_slice-2.result.now c.args.table.now c.add_formals.new.table c.add_result.new.table c.add_names.new.table c.as_slice.ensures c.as_slice-2.ensures c.in_ok-add_formals.ensures
    c.in_ok-add_result.ensures)
