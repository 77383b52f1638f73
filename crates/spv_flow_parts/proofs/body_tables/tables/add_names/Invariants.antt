use Rattle.std.proofs.Common.{drop}
use Rattle.spv_flow_parts.specs.body_tables.Tables.{sorts_of}
use Rattle.spv_flow_parts.proofs.body_tables.Scoping.{PutSoFar}
use Rattle.spv_flow_parts.proofs.body_tables.tables.add_names.Given as goal

abbrev pub invariant-loop-x : goal.invariant-loop-x
invariant-loop-x l = PutSoFar l.initial.table l.table (sorts_of l.forms l.names) (sorts_of l.forms (drop l.x-index l.names))
