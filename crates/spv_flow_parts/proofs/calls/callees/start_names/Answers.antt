use Rattle.std.proofs.Common.{map, ap, ◌∙◌}
use Rattle.std.specs.List.{list_any}
use Rattle.std.proofs.lemmas.List.{drop_more, drop_all}
use Rattle.spv_program.specs.typed.ProgramViews.{formal_of}
use Rattle.spv_flow_parts.proofs.calls.Starts.{is_start, starts_begin, starts_next, starts_end}
use Rattle.spv_flow_parts.proofs.calls.callees.start_names.Goals as goal

pub loop-formal-init : goal.loop-formal-init
loop-formal-init c = starts_begin c.new-table.result _ c.new-table.ensures

pub loop-formal-preserved : goal.loop-formal-preserved
loop-formal-preserved c =
    starts_next c.loop-formal.table c.put_start.new.table _ _ _ _ (ap (map formal_of) (drop_more c.as_slice-formals.result.now c.loop-formal.formal-index _ c.loop-formal-test.true)) c.loop-formal.invariant c.in_ok-put_start.ensures

pub returns : goal.returns
returns c = λ x.
    starts_end c.loop-formal.table _ _ (ap (map formal_of) (drop_all c.loop-formal.formal-index c.as_slice-formals.result.now c.loop-formal-test.false)) c.loop-formal.invariant x
    ∙ ap (λ formals. list_any (is_start x) (map formal_of formals)) c.as_slice-formals.ensures
