use Rattle.std.proofs.Common.{drop, map}
use Rattle.spv_flow_parts.specs.calls.Arguments.{initial_pair}
use Rattle.spv_flow_parts.proofs.calls.Building.{PairsSoFar}
use Rattle.spv_flow_parts.proofs.calls.at_call.add_initial_items.Given as goal

abbrev pub ghost-add_initial_item : goal.ghost-add_initial_item
ghost-add_initial_item g a = g.at

abbrev pub invariant-loop-x : goal.invariant-loop-x
invariant-loop-x g l =
    PairsSoFar l.fn.terms l.terms (map (initial_pair g.at.program g.at.routine g.at.arguments) g.at.routine.initial) (map (initial_pair g.at.program g.at.routine g.at.arguments) (drop l.x-index l.fn.initial)) l.fn.pairs.items l.pairs.items
