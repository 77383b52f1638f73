use Rattle.std.proofs.Common.{drop}
use Rattle.spv_meaning.specs.ProgramConditions.{start_pairs}
use Rattle.spv_flow_parts.proofs.calls.Building.{PairsSoFar}
use Rattle.spv_conditions.proofs.Beginning.{starts}
use Rattle.spv_conditions.proofs.routines.add_starts.Given as goal

abbrev pub ghost-add_start : goal.ghost-add_start
ghost-add_start g a = g.of.program

abbrev pub invariant-loop-formal : goal.invariant-loop-formal
invariant-loop-formal g l =
    PairsSoFar l.fn.terms l.terms (start_pairs g.of.program g.of.routine) (starts g.of.program (drop l.formal-index l.fn.formals)) l.fn.pairs.items l.pairs.items
