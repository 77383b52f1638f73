use Rattle.std.proofs.Common.{drop}
use Rattle.spv_flow_parts.specs.body_tables.Tables.{initial_sorts}
use Rattle.spv_flow_parts.proofs.body_tables.Scoping.{PutSoFar}
use Rattle.spv_flow_parts.proofs.body_tables.tables.add_initial.Given as goal

abbrev pub invariant-loop-x : goal.invariant-loop-x
invariant-loop-x l = PutSoFar l.initial.table l.table (initial_sorts l.variables l.items) (initial_sorts l.variables (drop l.x-index l.items))
