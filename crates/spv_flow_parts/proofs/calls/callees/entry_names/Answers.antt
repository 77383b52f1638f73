use Rattle.std.proofs.Common.{ap, ◌∙◌}
use Rattle.spv_program.specs.Programs.{Program}
use Rattle.spv_program.specs.typed.ProgramViews.{routine_of}
use Rattle.spv_flow_parts.proofs.body_tables.Scoping.{formals_put, entry_found}
use Rattle.spv_flow_parts.proofs.calls.callees.entry_names.Goals as goal

pub returns : goal.returns
returns c =
    let p = c.args.program.now in
    let forms = c.as_slice-forms.ensures ∙ ap (λ (q : Program). q.forms) (c.behind-program.view_is ∙ c.program.ensures) in
    entry_found p c.new-own.result c.sorts.result.now c.in_front.result c.new-own.ensures c.sorts.ensures (routine_of c.args.routine.now) c.add_formals.new.table
    (formals_put p c.as_slice-forms.result.now c.args.routine.now c.as_slice.result.now c.new-own.result c.add_formals.new.table forms c.as_slice.ensures c.in_ok-add_formals.ensures) c.in_front.ensures
