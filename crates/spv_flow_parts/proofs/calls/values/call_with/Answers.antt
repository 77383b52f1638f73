use Rattle.spv_assign.specs.supply.Numbers.{supply_of}
use Rattle.spv_flow_parts.proofs.calls.CallWith.{at_routine, call_as_made}
use Rattle.spv_flow_parts.proofs.calls.values.call_with.Goals as goal

pub function_call-requires : goal.function_call-requires
function_call-requires c = (at_routine c.args.program.now c.args.terms.now c.args.call.now c.args.given.now c.requires.function, (c.requires.function.there, c.requires.there))

pub returns : goal.returns
returns c =
    call_as_made c.args.program.now c.args.terms.now c.args.call.now c.args.given.now c.requires.function c.function_call.result (supply_of c.args.supply.now) c.function_call.new.terms c.args.variables.now c.function_call.new.variables
    c.args.calls.now c.function_call.new.calls (supply_of c.function_call.new.supply) c.function_call.ensures
