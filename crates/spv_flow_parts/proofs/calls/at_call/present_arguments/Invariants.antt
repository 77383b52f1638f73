use Rattle.spv_flow_parts.proofs.calls.Presenting.{PresentSoFar}
use Rattle.spv_flow_parts.proofs.calls.at_call.present_arguments.Given as goal

abbrev pub invariant-loop-argument : goal.invariant-loop-argument
invariant-loop-argument g l = PresentSoFar l.fn.terms l.terms g.at.arguments l.argument-index l.ids
