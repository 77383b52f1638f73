use Rattle.std.proofs.Common.{List, ap, subst, ◌∙◌}
use Rattle.spv_logic.specs.declared.names.names.Symbol.{Symbol}
use Rattle.spv_program.specs.declared.types.Item.{Item}
use Rattle.spv_program.specs.Programs.{Program}
use Rattle.spv_program.specs.typed.ProgramViews.{routine_of}
use Rattle.spv_flow_parts.specs.body_tables.Tables.{Puts, initial_sorts}
use Rattle.spv_flow_parts.proofs.body_tables.Scoping.{formals_put, result_put, exit_found}
use Rattle.spv_flow_parts.proofs.calls.callees.exit_names.Goals as goal

pub returns : goal.returns
returns c =
    let p = c.args.program.now in
    let forms = c.as_slice-forms.ensures ∙ ap (λ (q : Program). q.forms) (c.behind-program.view_is ∙ c.program.ensures) in
    exit_found p c.new-own.result c.sorts.result.now c.in_front.result c.new-own.ensures c.sorts.ensures (routine_of c.args.routine.now) c.args.variables.now c.add_formals.new.table c.add_result.new.table c.add_initial.new.table
    c.requires
    (formals_put p c.as_slice-forms.result.now c.args.routine.now c.as_slice.result.now c.new-own.result c.add_formals.new.table forms c.as_slice.ensures c.in_ok-add_formals.ensures)
    (result_put p c.as_slice-forms.result.now (routine_of c.args.routine.now) c.add_formals.new.table c.add_result.new.table forms c.in_ok-add_result.ensures)
    (subst (λ (items : List (Symbol × Item)). Puts c.add_result.new.table c.add_initial.new.table (initial_sorts c.args.variables.now items)) c.as_slice-2.ensures c.in_ok-add_initial.ensures)
    c.in_front.ensures
