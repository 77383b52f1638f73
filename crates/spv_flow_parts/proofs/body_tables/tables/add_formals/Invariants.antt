use Rattle.std.proofs.Common.{drop, map}
use Rattle.spv_program.specs.typed.ProgramViews.{formal_of}
use Rattle.spv_flow_parts.specs.body_tables.Tables.{formal_name, sorts_of}
use Rattle.spv_flow_parts.proofs.body_tables.Scoping.{PutSoFar}
use Rattle.spv_flow_parts.proofs.body_tables.tables.add_formals.Given as goal

abbrev pub invariant-loop-formal : goal.invariant-loop-formal
invariant-loop-formal l =
    PutSoFar l.initial.table l.table (sorts_of l.forms (map formal_name (map formal_of l.formals))) (sorts_of l.forms (map formal_name (map formal_of (drop l.formal-index l.formals))))
