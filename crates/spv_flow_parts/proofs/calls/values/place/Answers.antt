use Rattle.spv_assign.specs.supply.Numbers.{supply_of}
use Rattle.spv_flow_parts.proofs.calls.Whole.{place_whole, place_fails}
use Rattle.spv_flow_parts.proofs.calls.values.place.Goals as goal

pub returns-in_err-target : goal.returns-in_err-target
returns-in_err-target c =
    place_fails _ c.args.terms.now c.add_place.new.terms c.new-calls.result c.add_place.new.calls (supply_of c.add_place.new.supply) _ c.from_residual.result c.in_err-target.field-0.0 c.from_residual.ensures.1 c.in_err-target.ensures

pub returns : goal.returns
returns c =
    place_whole _ c.args.terms.now c.add_place.new.terms c.new-calls.result c.add_place.new.calls (supply_of c.add_place.new.supply) _ c.in_ok-target.target c.new-calls.ensures c.in_ok-target.ensures
