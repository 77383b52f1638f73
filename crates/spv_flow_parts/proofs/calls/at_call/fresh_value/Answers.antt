use Rattle.spv_program.specs.Supplies.{fresh_variable}
use Rattle.spv_assign.specs.supply.Numbers.{supply_of}
use Rattle.spv_flow_parts.proofs.calls.FunctionCall.{fresh_made}
use Rattle.spv_flow_parts.proofs.calls.at_call.fresh_value.Goals as goal

pub returns-clause-made : goal.returns-clause-made
returns-clause-made c =
    let made = c.fresh_variable-fresh.ensures in
    fresh_made c.args.terms.now c.fresh_variable-fresh.new.terms c.fresh_variable-fresh.new.self (fresh_variable c.args.name c.args.sort (supply_of c.args.supply.now)) c.fresh_variable-fresh.result c.limited.result made.fresh made.grows made.only
    (made.size c.requires.there) c.limited.ensures.same c.limited.ensures.walk
