use Rattle.std.proofs.Common.{[], map}
use Rattle.spv_assign.specs.supply.Numbers.{supply_of}
use Rattle.spv_flow_parts.specs.calls.Arguments.{argued_at, argument_in, called_routine}
use Rattle.spv_flow_parts.proofs.calls.Performed.{routine_of_call}
use Rattle.spv_flow_parts.proofs.calls.entering.before_call.Given as goal

abbrev pub ghost-arguments : goal.ghost-arguments
ghost-arguments a = routine_of_call a.program.now a.call.now

abbrev pub ghost-before_entered : goal.ghost-before_entered
ghost-before_entered a = record {
  program = a.program.now;
  number = called_routine a.call.now;
  routine = routine_of_call a.program.now a.call.now;
  arguments = map (argument_in a.terms.now) a.argued.now.arguments;
  given = argued_at [] (supply_of a.supply.now);
  after = [];
}
