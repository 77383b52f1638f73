use Rattle.std.proofs.Common.{subst}
use Rattle.spv_program.specs.Programs.{Program, routine_in}
use Rattle.spv_program.specs.Scopes.{own_names_in}
use Rattle.spv_flow_parts.specs.body_tables.Tables.{Puts, initial_in, sorts_of}
use Rattle.spv_flow_parts.proofs.body_tables.Scoping.{initial_put, names_found}
use Rattle.spv_flow_parts.proofs.body_tables.bodies.names_of.Goals as goal

pub returns : goal.returns
returns c =
    let p = c.args.program.now in
    let here = routine_in p c.args.here in
    let own = c.add_own.new.table in
    let all = c.add_initial_in.new.table in
    names_found p c.new-own.result c.sorts.result.now c.in_front.result c.new-own.ensures c.sorts.ensures here own all
    (subst (λ (q : Program). Puts c.new-own.result own (sorts_of q.forms (own_names_in (routine_in q c.args.here)))) c.program.ensures c.in_ok-add_own.ensures)
    (initial_put p here c.args.variables.now own all c.requires.variables
    (subst (λ (q : Program). Puts own all (initial_in c.args.variables.now (routine_in q c.args.here))) c.program-2.ensures c.in_ok-add_initial_in.ensures))
    c.in_front.ensures
