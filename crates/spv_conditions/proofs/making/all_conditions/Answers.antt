use Rattle.spv_assign.specs.supply.Numbers.{supply_of}
use Rattle.spv_conditions.proofs.Mains.{codes_end, codes_go_on, codes_stop}
use Rattle.spv_conditions.proofs.making.all_conditions.Goals as goal

pub loop-number-preserved : goal.loop-number-preserved
loop-number-preserved c =
    codes_go_on c.args.program.now c.as_slice-routines.result.now c.loop-number.number c.index-routines-number.result _ c.loop-number.all.items (supply_of c.loop-number.supply) (supply_of c.args.supply.now) c.loop-number.terms c.args.terms.now
    c.loop-number-test.true c.index-routines-number.is c.loop-number.invariant c.in-Some.id c.in-Some.ensures c.in_ok-all.all (supply_of c.with_routine.new.supply) c.with_routine.new.terms c.in_ok-all.ensures

pub returns-in_err-all : goal.returns-in_err-all
returns-in_err-all c =
    codes_stop c.args.program.now c.as_slice-routines.result.now c.loop-number.number c.index-routines-number.result _ c.loop-number.all.items (supply_of c.loop-number.supply) (supply_of c.args.supply.now) c.loop-number.terms c.args.terms.now
    c.loop-number-test.true c.index-routines-number.is c.loop-number.invariant c.in-Some.id c.in-Some.ensures c.from_residual.result c.in_err-all.field-0.0 (supply_of c.with_routine.new.supply) (supply_of c.with_routine.new.supply) c.with_routine.new.terms
    c.from_residual.ensures.1 c.in_err-all.ensures

pub returns : goal.returns
returns c =
    codes_end c.args.program.now c.as_slice-routines.result.now c.loop-number.number c.loop-number.all.items (supply_of c.loop-number.supply) (supply_of c.args.supply.now) c.loop-number.terms c.args.terms.now c.loop-number-test.false c.loop-number.invariant
    c.with_main.result (supply_of c.with_main.new.supply) c.with_main.new.terms c.with_main.ensures
