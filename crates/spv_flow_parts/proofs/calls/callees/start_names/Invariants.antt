use Rattle.std.proofs.Common.{drop, map}
use Rattle.spv_program.specs.typed.ProgramViews.{formal_of}
use Rattle.spv_flow_parts.proofs.calls.Starts.{StartsSoFar}
use Rattle.spv_flow_parts.proofs.calls.callees.start_names.Given as goal

abbrev pub invariant-loop-formal : goal.invariant-loop-formal
invariant-loop-formal l = StartsSoFar l.table (map formal_of (drop l.formal-index l.formals)) (map formal_of l.formals)
