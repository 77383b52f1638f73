use Rattle.std.proofs.Common.{false}
use Rattle.spv_flow_parts.proofs.calls.Passing.{NoneBefore}
use Rattle.spv_flow_parts.proofs.calls.at_call.passed_by_name.Given as goal

abbrev pub invariant-loop-place : goal.invariant-loop-place
invariant-loop-place g l = NoneBefore l.name l.formals (record { name = record { 0 = 0 }; of = record { 0 = 0 }; by_place = false; line = 0 }) l.place
