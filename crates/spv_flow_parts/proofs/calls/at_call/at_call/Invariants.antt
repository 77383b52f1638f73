use Rattle.std.proofs.Common.{[], drop, map}
use Rattle.spv_program.specs.typed.ProgramViews.{formal_of}
use Rattle.spv_program.specs.Calls.{at_call}
use Rattle.spv_flow_parts.proofs.calls.Building.{PairsSoFar}
use Rattle.spv_flow_parts.proofs.calls.at_call.at_call.Given as goal

abbrev pub invariant-loop-place : goal.invariant-loop-place
invariant-loop-place g l =
    PairsSoFar l.fn.terms l.terms (at_call g.at.program g.at.routine.formals g.at.arguments) (at_call g.at.program (map formal_of (drop l.place l.formals)) (drop l.place g.at.arguments)) [] l.pairs.items
