use Rattle.std.proofs.Common.{subst}
use Rattle.spv_program.specs.Programs.{Program, routine_in}
use Rattle.spv_program.specs.Scopes.{own_names_in}
use Rattle.spv_flow_parts.specs.body_tables.Tables.{Puts, sorts_of}
use Rattle.spv_flow_parts.proofs.body_tables.Scoping.{variables_found}
use Rattle.spv_flow_parts.proofs.body_tables.bodies.variables_of.Goals as goal

pub returns : goal.returns
returns c =
    let p = c.args.program.now in
    variables_found p c.new-own.result c.sorts.result.now c.in_front.result c.new-own.ensures c.sorts.ensures (routine_in p c.args.here) c.add_own.new.table
    (subst (λ (q : Program). Puts c.new-own.result c.add_own.new.table (sorts_of q.forms (own_names_in (routine_in q c.args.here)))) c.program.ensures c.in_ok-add_own.ensures) c.in_front.ensures
