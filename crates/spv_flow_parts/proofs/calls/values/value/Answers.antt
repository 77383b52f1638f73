use Rattle.spv_assign.specs.supply.Numbers.{supply_of}
use Rattle.spv_flow_parts.proofs.calls.Whole.{value_whole, value_fails}
use Rattle.spv_flow_parts.proofs.calls.values.value.Goals as goal

pub returns-in_err-term-clause-made : goal.returns-in_err-term-clause-made
returns-in_err-term-clause-made c =
    value_fails _ c.args.terms.now c.add_value.new.terms c.new-calls.result c.add_value.new.calls (supply_of c.add_value.new.supply) _ c.from_residual.result c.in_err-term.field-0.0 c.from_residual.ensures.1 c.in_err-term.ensures.made

pub returns-clause-made : goal.returns-clause-made
returns-clause-made c =
    value_whole _ c.args.terms.now c.add_value.new.terms c.new-calls.result c.add_value.new.calls (supply_of c.add_value.new.supply) _ c.in_ok-term.term c.new-calls.ensures c.in_ok-term.ensures.made
