use Rattle.std.proofs.Common.{refl, ◌+◌, length}
use Rattle.spv_assign.specs.supply.Numbers.{supply_of}
use Rattle.spv_assign.specs.creation_trace.StatementEvents.{counted}
use Rattle.spv_flow_parts.specs.Walks.{made_of}
use Rattle.spv_conditions.specs.Making.{after_main, main_events, main_made}
use Rattle.spv_conditions.proofs.Mains.{joined_behind, joined_stops}
use Rattle.spv_conditions.proofs.making.with_main.Goals as goal

pub returns-in_err-last : goal.returns-in_err-last
returns-in_err-last c =
    let p = c.args.program.now in
    let n = supply_of c.args.supply.now in
    joined_stops (after_main p (made_of c.args.terms.now c.args.so_far.items n)) (main_made p n) (supply_of c.main_conditions.new.supply) (supply_of c.main_conditions.new.supply) (main_events p n) (counted (length c.args.so_far.items + length (main_made p n).conditions)) c.args.terms.now c.main_conditions.new.terms
    c.from_residual.result c.in_err-last.field-0.0 c.from_residual.ensures.1 c.in_err-last.ensures

pub returns : goal.returns
returns c =
    let p = c.args.program.now in
    let n = supply_of c.args.supply.now in
    joined_behind (after_main p (made_of c.args.terms.now c.args.so_far.items n)) (main_made p n) (supply_of c.main_conditions.new.supply) (main_events p n) c.args.terms.now c.main_conditions.new.terms c.args.so_far.items c.in_ok-last.last.items
    c.joined.result c.in_ok-last.last refl c.in_ok-last.ensures c.requires.so_far c.joined.ensures.items (c.joined.ensures.walk c.main_conditions.new.terms) refl
