use Rattle.std.proofs.Common.{refl, ◌+◌, length}
use Rattle.spv_program.specs.typed.ProgramViews.{routine_of}
use Rattle.spv_meaning.specs.ProgramConditions.{routine_conditions}
use Rattle.spv_assign.specs.creation_trace.StatementEvents.{counted}
use Rattle.spv_assign.specs.supply.Numbers.{supply_of}
use Rattle.spv_flow_parts.specs.Walks.{made_of}
use Rattle.spv_conditions.specs.Making.{after_routine, routine_events}
use Rattle.spv_conditions.proofs.Mains.{joined_behind, joined_stops}
use Rattle.spv_conditions.proofs.making.with_routine.Goals as goal

pub returns-in_err-one : goal.returns-in_err-one
returns-in_err-one c =
    let p = c.args.program.now in
    let r = routine_of c.args.routine.now in
    let n = supply_of c.args.supply.now in
    let made = routine_conditions p c.args.number r n in
    let k = supply_of c.routine_conditions.new.supply in
    joined_stops (after_routine p c.args.number r (made_of c.args.terms.now c.args.so_far.items n)) made k k (routine_events p c.args.number r n) (counted (length c.args.so_far.items + length made.conditions)) c.args.terms.now c.routine_conditions.new.terms
    c.from_residual.result c.in_err-one.field-0.0 c.from_residual.ensures.1 c.in_err-one.ensures

pub returns : goal.returns
returns c =
    let p = c.args.program.now in
    let r = routine_of c.args.routine.now in
    let n = supply_of c.args.supply.now in
    joined_behind (after_routine p c.args.number r (made_of c.args.terms.now c.args.so_far.items n)) (routine_conditions p c.args.number r n) (supply_of c.routine_conditions.new.supply) (routine_events p c.args.number r n) c.args.terms.now
    c.routine_conditions.new.terms c.args.so_far.items c.in_ok-one.one.items c.joined.result c.in_ok-one.one refl c.in_ok-one.ensures c.requires.so_far c.joined.ensures.items (c.joined.ensures.walk c.routine_conditions.new.terms) refl
