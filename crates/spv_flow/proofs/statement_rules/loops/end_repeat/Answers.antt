use Rattle.std.proofs.Common.{option_map}
use Rattle.spv_program.specs.Changes.{changed_heads}
use Rattle.spv_program.specs.Programs.{routine_in}
use Rattle.spv_program.specs.typed.FormulaViews.{annotation_of}
use Rattle.spv_assign.specs.supply.Numbers.{supply_of}
use Rattle.spv_assign.specs.Conditions.{conditions_of}
use Rattle.spv_assign.specs.creation_trace.StatementEvents.{loop_names}
use Rattle.spv_flow_parts.proofs.Roots.{changed_there}
use Rattle.spv_flow.proofs.statement_rules.LoopEnds.{heads_there, ended_as, ended_never}
use Rattle.spv_flow.proofs.statement_rules.loops.end_repeat.Goals as goal

pub changed-requires-clause-body : goal.changed-requires-clause-body
changed-requires-clause-body g c = c.requires.stands.body

pub returns-in_err-heads-clause-made : goal.returns-in_err-heads-clause-made
returns-in_err-heads-clause-made g c =
    ended_never c.from_residual.result c.args.program.now c.args.body.now.here (option_map annotation_of c.args.f.now) (loop_names c.args.program.now c.args.body.now.here c.args.whole.now (supply_of c.args.supply.now)) (supply_of c.args.supply.now) (conditions_of c.args.terms.now c.args.uses.items) c.args.terms.now c.in_err-heads.field-0.0 c.from_residual.ensures.1 c.in_err-heads.ensures.err

pub end_of_loop-requires-clause-heads : goal.end_of_loop-requires-clause-heads
end_of_loop-requires-clause-heads g c =
    heads_there c.args.terms.now.shapes (changed_heads c.args.program.now (routine_in c.args.program.now c.args.body.now.here) c.args.whole.now) c.in_ok-heads.heads.items c.as_slice.result.now c.in_ok-heads.ensures.heads c.as_slice.ensures.value (changed_there c.args.program.now c.args.body.now c.args.terms.now c.args.whole.now c.requires.stands)

pub returns-clause-made : goal.returns-clause-made
returns-clause-made g c =
    ended_as c.end_of_loop.result c.args.program.now c.args.body.now.here (option_map annotation_of c.args.f.now) (changed_heads c.args.program.now (routine_in c.args.program.now c.args.body.now.here) c.args.whole.now) c.in_ok-heads.heads.items c.as_slice.result.now (supply_of c.args.supply.now) (supply_of c.end_of_loop.new.supply) (conditions_of c.args.terms.now c.args.uses.items) c.args.terms.now c.end_of_loop.new.terms c.in_ok-heads.ensures.heads c.as_slice.ensures.value c.end_of_loop.ensures
