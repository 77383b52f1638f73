use Rattle.std.proofs.Common.{Ok, Err, option_map}
use Rattle.spv_program.specs.Changes.{changed_heads}
use Rattle.spv_program.specs.Programs.{routine_in}
use Rattle.spv_program.specs.typed.FormulaViews.{annotation_of}
use Rattle.spv_term.specs.Arena.{tree}
use Rattle.spv_program.specs.typed.StatementViews.{counting_of}
use Rattle.spv_assign.specs.supply.Numbers.{supply_of}
use Rattle.spv_assign.specs.Conditions.{conditions_of}
use Rattle.spv_assign.specs.creation_trace.StatementEvents.{loop_names}
use Rattle.spv_flow_parts.proofs.Roots.{changed_there}
use Rattle.spv_flow.proofs.statement_rules.LoopEnds.{heads_there}
use Rattle.spv_flow.proofs.statement_rules.ForLemmas.{ended_so, for_never, for_end_stops, for_end_comes}
use Rattle.spv_flow.proofs.statement_rules.counting.end_for.Goals as goal

pub changed-requires-clause-body : goal.changed-requires-clause-body
changed-requires-clause-body g c = c.requires.stands.body

pub returns-in_err-heads-clause-made : goal.returns-in_err-heads-clause-made
returns-in_err-heads-clause-made g c =
    λ w u first last. for_never c.args.program.now c.args.body.now.here (option_map annotation_of c.args.f.now) (counting_of c.args.count.now) c.args.t.now w u (loop_names c.args.program.now c.args.body.now.here c.args.whole.now (supply_of c.args.supply.now)) (conditions_of c.args.terms.now c.args.turn.now.items) (conditions_of c.args.terms.now c.args.rest.now.items) c.args.terms.now c.args.terms.now (supply_of c.args.supply.now) c.from_residual.result c.in_err-heads.field-0.0 c.from_residual.ensures.1 c.in_err-heads.ensures.err

pub end_of_for-requires-clause-heads : goal.end_of_for-requires-clause-heads
end_of_for-requires-clause-heads g c =
    heads_there c.args.terms.now.shapes (changed_heads c.args.program.now (routine_in c.args.program.now c.args.body.now.here) c.args.whole.now) c.in_ok-heads.heads.items c.as_slice.result.now c.in_ok-heads.ensures.heads c.as_slice.ensures.value (changed_there c.args.program.now c.args.body.now c.args.terms.now c.args.whole.now c.requires.stands)

pub end_of_for-requires-clause-note : goal.end_of_for-requires-clause-note
end_of_for-requires-clause-note g c = c.requires.known.note

pub end_of_for-requires-clause-variable : goal.end_of_for-requires-clause-variable
end_of_for-requires-clause-variable g c = c.requires.known.variable

pub end_of_for-requires-clause-number : goal.end_of_for-requires-clause-number
end_of_for-requires-clause-number g c = c.requires.known.variable_number

pub end_of_for-requires-clause-first : goal.end_of_for-requires-clause-first
end_of_for-requires-clause-first g c = c.requires.known.first

pub end_of_for-requires-clause-first_sort : goal.end_of_for-requires-clause-first_sort
end_of_for-requires-clause-first_sort g c = c.requires.known.first_number

pub end_of_for-requires-clause-end : goal.end_of_for-requires-clause-end
end_of_for-requires-clause-end g c = c.requires.known.last

pub end_of_for-requires-clause-end_sort : goal.end_of_for-requires-clause-end_sort
end_of_for-requires-clause-end_sort g c = c.requires.known.last_number

pub returns-in_err-made-clause-made : goal.returns-in_err-made-clause-made
returns-in_err-made-clause-made g c =
    λ w u first last.
    for_end_stops c.args.program.now c.args.body.now.here (option_map annotation_of c.args.f.now) (counting_of c.args.count.now) c.args.t.now w u (loop_names c.args.program.now c.args.body.now.here c.args.whole.now (supply_of c.args.supply.now)) (conditions_of c.args.terms.now c.args.turn.now.items) (conditions_of c.args.terms.now c.args.rest.now.items) c.args.terms.now c.end_of_for.new.terms (supply_of c.end_of_for.new.supply) c.from_residual-in_err-made.result c.in_err-made.field-0.0 c.from_residual-in_err-made.ensures.1
    (ended_so (Err c.in_err-made.field-0.0) c.args.program.now c.args.body.now.here (option_map annotation_of c.args.f.now) (counting_of c.args.count.now) (changed_heads c.args.program.now (routine_in c.args.program.now c.args.body.now.here) c.args.whole.now) c.in_ok-heads.heads.items c.as_slice.result.now (tree c.args.terms.now c.args.t.now.first.term) (tree c.args.terms.now c.args.t.now.last.term) w.term u.term (supply_of c.args.supply.now) (supply_of c.end_of_for.new.supply) (conditions_of c.args.terms.now c.args.turn.now.items) (conditions_of c.args.terms.now c.args.rest.now.items) c.args.terms.now c.end_of_for.new.terms
    c.in_ok-heads.ensures.heads c.as_slice.ensures.value first.term.is_tree last.term.is_tree c.in_err-made.ensures)

pub returns-clause-made : goal.returns-clause-made
returns-clause-made g c =
    λ w u first last.
    for_end_comes c.args.program.now c.args.body.now.here (option_map annotation_of c.args.f.now) (counting_of c.args.count.now) c.args.t.now w u (loop_names c.args.program.now c.args.body.now.here c.args.whole.now (supply_of c.args.supply.now)) (conditions_of c.args.terms.now c.args.turn.now.items) (conditions_of c.args.terms.now c.args.rest.now.items) c.args.terms.now c.end_of_for.new.terms (supply_of c.end_of_for.new.supply) c.behind_ends.result c.in_ok-made.made first last
    (ended_so (Ok c.in_ok-made.made) c.args.program.now c.args.body.now.here (option_map annotation_of c.args.f.now) (counting_of c.args.count.now) (changed_heads c.args.program.now (routine_in c.args.program.now c.args.body.now.here) c.args.whole.now) c.in_ok-heads.heads.items c.as_slice.result.now (tree c.args.terms.now c.args.t.now.first.term) (tree c.args.terms.now c.args.t.now.last.term) w.term u.term (supply_of c.args.supply.now) (supply_of c.end_of_for.new.supply) (conditions_of c.args.terms.now c.args.turn.now.items) (conditions_of c.args.terms.now c.args.rest.now.items) c.args.terms.now c.end_of_for.new.terms
    c.in_ok-heads.ensures.heads c.as_slice.ensures.value first.term.is_tree last.term.is_tree c.in_ok-made.ensures) c.behind_ends.ensures.made
