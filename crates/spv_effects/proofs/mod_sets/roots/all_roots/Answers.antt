use Rattle.std.proofs.Common.{ap, ◌∙◌}
use Rattle.spv_program.specs.Programs.{Program, routine_in}
use Rattle.spv_effects.specs.mod_sets.Roots.{rows_of}
use Rattle.spv_effects.proofs.mod_sets.Tests.{if_ok}
use Rattle.spv_effects.proofs.mod_sets.Rows.{all_are}
use Rattle.spv_effects.proofs.mod_sets.roots.all_roots.Goals as goal

pub returns : goal.returns
returns c =
    if_ok c.with_own.result c.with_own.ensures (λ roots h. ap rows_of h
    ∙ all_are c.as_slice-forms.result.now c.new-rows.result.items c.add_names.new.rows.items c.add_names-2.new.rows.items c.add_classes.new.rows.items c.args.program.now
    (routine_in c.args.program.now c.args.here) c.as_slice.result.now c.as_slice-2.result.now c.as_slice-3.result.now
    c.new-rows.ensures.items
    (c.as_slice-forms.ensures ∙ ap (λ (p : Program). p.forms) c.program.view_is)
    (c.as_slice.ensures.value ∙ c.in_ok-own.ensures)
    (c.as_slice-2.ensures ∙ ap (λ (p : Program). p.variables) c.program.view_is)
    (c.as_slice-3.ensures ∙ c.in_ok-types.ensures)
    c.in_ok-add_names.ensures c.in_ok-add_names-2.ensures c.in_ok-add_classes.ensures)
