use Rattle.std.proofs.Common.{drop}
use Rattle.spv_meaning.specs.ProgramConditions.{initial_pairs}
use Rattle.spv_flow_parts.proofs.calls.Building.{PairsSoFar}
use Rattle.spv_conditions.proofs.Beginning.{initials}
use Rattle.spv_conditions.proofs.routines.add_items.Given as goal

abbrev pub ghost-add_item : goal.ghost-add_item
ghost-add_item g a = g.of

abbrev pub invariant-loop-x : goal.invariant-loop-x
invariant-loop-x g l =
    PairsSoFar l.fn.terms l.terms (initial_pairs g.of.program g.of.routine) (initials g.of.program g.of.routine (drop l.x-index l.fn.initial)) l.fn.pairs.items l.pairs.items
