use Rattle.spv_program.specs.Calls.{at_call, replacing}
use Rattle.spv_flow_parts.proofs.calls.at_call.item_at_call.Given as goal

abbrev pub ghost-passed : goal.ghost-passed
ghost-passed g a = g.at

abbrev pub ghost-passed_or_itself : goal.ghost-passed_or_itself
ghost-passed_or_itself g a = replacing (at_call g.at.program g.at.routine.formals g.at.arguments) a.head
