use Rattle.spv_assign.specs.supply.Numbers.{supply_of}
use Rattle.spv_conditions.proofs.Entering.{over_then}
use Rattle.spv_conditions.proofs.Mains.{main_comes, main_stops}
use Rattle.spv_conditions.proofs.making.main_conditions.Goals as goal

pub under-requires-clause-over : goal.under-requires-clause-over
under-requires-clause-over c = over_then c.args.program.now c.in_ok-conditions.ensures.grows c.requires.may.over

pub under-requires-clause-conditions : goal.under-requires-clause-conditions
under-requires-clause-conditions c = c.in_ok-conditions.ensures.made.conditions.in_range

pub returns-in_err-conditions : goal.returns-in_err-conditions
returns-in_err-conditions c =
    main_stops c.args.program.now (supply_of c.args.supply.now) c.args.terms.now c.inside.new.terms c.from_residual-in_err-conditions.result c.in_err-conditions.field-0.0 _ (supply_of c.inside.new.supply) c.from_residual-in_err-conditions.ensures.1
    c.in_err-conditions.ensures

pub returns : goal.returns
returns c =
    main_comes c.args.program.now (supply_of c.args.supply.now) c.args.terms.now c.inside.new.terms c.under.result c.in_ok-conditions.conditions c.under.new.terms (supply_of c.inside.new.supply)
    c.in_ok-conditions.ensures c.under.ensures
