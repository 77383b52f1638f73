use Rattle.spv_assign.specs.supply.Numbers.{supply_of}
use Rattle.spv_program.specs.typed.ProgramViews.{routine_of}
use Rattle.spv_conditions.proofs.Entering.{over_then, routine_comes, routine_stops}
use Rattle.spv_conditions.proofs.routines.routine_conditions.Goals as goal

pub at_beginning-requires-clause-over : goal.at_beginning-requires-clause-over
at_beginning-requires-clause-over c = over_then c.args.program.now c.in_ok-conditions.ensures.grows c.requires.may.over

pub at_beginning-requires-clause-conditions : goal.at_beginning-requires-clause-conditions
at_beginning-requires-clause-conditions c = c.in_ok-conditions.ensures.made.conditions.in_range

pub returns-in_err-conditions : goal.returns-in_err-conditions
returns-in_err-conditions c =
    routine_stops c.args.program.now c.args.number (routine_of c.args.routine.now) (supply_of c.args.supply.now) c.args.terms.now c.entered.new.terms c.from_residual-in_err-conditions.result c.in_err-conditions.field-0.0 _ (supply_of c.entered.new.supply)
    c.from_residual-in_err-conditions.ensures.1 c.in_err-conditions.ensures

pub returns : goal.returns
returns c =
    routine_comes c.args.program.now c.args.number (routine_of c.args.routine.now) (supply_of c.args.supply.now) c.args.terms.now c.entered.new.terms c.at_beginning.result c.in_ok-conditions.conditions c.at_beginning.new.terms (supply_of c.entered.new.supply)
    c.in_ok-conditions.ensures c.at_beginning.ensures
