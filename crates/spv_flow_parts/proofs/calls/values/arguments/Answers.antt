use Rattle.spv_assign.specs.supply.Numbers.{supply_of}
use Rattle.spv_flow_parts.proofs.calls.Whole.{given_fits, arguments_whole, arguments_fail}
use Rattle.spv_flow_parts.proofs.calls.values.arguments.Goals as goal

pub add_arguments-requires-clause-typed : goal.add_arguments-requires-clause-typed
add_arguments-requires-clause-typed g c =
    given_fits c.args.program.now c.args.body.now.here c.args.call.now c.call.inside.routine c.call.inside.line c.call.inside.arguments.items c.as_slice.result.now c.call.view_is c.as_slice.ensures.value g.routine c.requires.1

pub returns-in_err-arguments : goal.returns-in_err-arguments
returns-in_err-arguments g c =
    arguments_fail c.args.program.now c.args.body.now.here c.args.call.now c.call.inside.routine c.call.inside.line c.call.inside.arguments.items c.as_slice.result.now c.call.view_is c.as_slice.ensures.value
    (supply_of c.args.supply.now) c.args.terms.now c.add_arguments.new.terms c.new-calls.result c.add_arguments.new.calls (supply_of c.add_arguments.new.supply) c.from_residual.result c.in_err-arguments.field-0.0 c.from_residual.ensures.1 c.in_err-arguments.ensures

pub returns : goal.returns
returns g c =
    arguments_whole c.args.program.now c.args.body.now.here c.args.call.now c.call.inside.routine c.call.inside.line c.call.inside.arguments.items c.as_slice.result.now c.call.view_is c.as_slice.ensures.value
    (supply_of c.args.supply.now) c.args.terms.now c.add_arguments.new.terms c.new-calls.result c.add_arguments.new.calls (supply_of c.add_arguments.new.supply) c.in_ok-arguments.arguments c.new-calls.ensures c.in_ok-arguments.ensures
