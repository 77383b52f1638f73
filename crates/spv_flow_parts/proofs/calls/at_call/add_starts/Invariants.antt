use Rattle.std.proofs.Common.{drop, map}
use Rattle.spv_program.specs.typed.ProgramViews.{formal_of}
use Rattle.spv_program.specs.Calls.{starts_at_call}
use Rattle.spv_flow_parts.proofs.calls.Building.{PairsSoFar}
use Rattle.spv_flow_parts.proofs.calls.at_call.add_starts.Given as goal

abbrev pub ghost-add_start : goal.ghost-add_start
ghost-add_start g a = g.at.program

abbrev pub invariant-loop-place : goal.invariant-loop-place
invariant-loop-place g l =
    PairsSoFar l.fn.terms l.terms (starts_at_call g.at.program g.at.routine.formals g.at.arguments) (starts_at_call g.at.program (map formal_of (drop l.place l.formals)) (drop l.place g.at.arguments)) l.fn.pairs.items l.pairs.items
