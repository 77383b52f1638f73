use Rattle.std.proofs.Common.{List, ◌++◌, ap, ◌∙◌}
use Rattle.spv_program.specs.Programs.{routine_in}
use Rattle.spv_effects.specs.frame_walk.Events.{statement_events}
use Rattle.spv_effects.specs.declared.frame_events.events.Event.{Event}
use Rattle.spv_effects.specs.frame_events.EventViews.{events_of}
use Rattle.spv_effects.specs.frame_events.Names.{named}
use Rattle.spv_effects.specs.mod_sets.Roots.{rows_of}
use Rattle.spv_effects.specs.mod_sets.Sets.{has_root}
use Rattle.spv_effects.proofs.mod_sets.Tests.{if_ok}
use Rattle.spv_effects.proofs.mod_sets.Rows.{own_of_all}
use Rattle.spv_effects.proofs.mod_sets.Events.{statement_changes, heads_are}
use Rattle.spv_effects.proofs.mod_sets.changing.changed.Goals as goal

pub returns : goal.returns
returns c =
    let p = c.args.program.now in
    let here = routine_in c.args.program.now c.args.here in
    let s = c.args.statement.now in
    if_ok c.kept.result c.kept.ensures (λ v h. h
    ∙ heads_are p here s (has_root c.in_ok-changed.changed) c.as_slice-2.result.now
    (c.in_ok-changed.ensures
    ∙ statement_changes p here (named c.own.result.now) s (events_of c.as_slice.result.now) (c.own.ensures ∙ own_of_all p here c.args.roots.now c.requires)
    (ap events_of c.as_slice.ensures.value ∙ c.in_ok-gather_statement.ensures
    ∙ ap (λ (es : List Event). events_of es ++ statement_events (named c.own.result.now) s) c.new-events.ensures.items))
    (ap rows_of c.as_slice-2.ensures ∙ c.requires))
