use Rattle.spv_flow_parts.proofs.calls.CallWith.{calling}
use Rattle.spv_flow_parts.proofs.calls.values.call_with.Given as goal

abbrev pub ghost-function_call : goal.ghost-function_call
ghost-function_call a = calling a.program.now a.terms.now a.call.now a.given.now
