use Rattle.spv_assign.specs.supply.Numbers.{supply_of}
use Rattle.spv_program.specs.typed.ProgramViews.{routine_of}
use Rattle.spv_conditions.proofs.Entering.{body_right, inside_comes, inside_stops, routine_may}
use Rattle.spv_conditions.proofs.routines.inside.Goals as goal

pub before_body-requires-clause-may : goal.before_body-requires-clause-may
before_body-requires-clause-may c =
    let first = c.in_ok-exit.ensures (supply_of c.args.supply.now) c.requires.may.there in
    routine_may c.args.program.now c.args.body.now c.args.terms.now c.exit_condition.new.terms c.args.number (routine_of c.args.routine.now) (supply_of c.args.supply.now) c.requires.may first.grows c.requires.body c.requires.here c.requires.routine.there

pub before_body-requires-clause-typed : goal.before_body-requires-clause-typed
before_body-requires-clause-typed c =
    body_right c.args.program.now c.args.body.now.here c.args.number (routine_of c.args.routine.now) c.requires.may.over.typed c.requires.here c.requires.routine.there

pub before_body-requires-clause-rest : goal.before_body-requires-clause-rest
before_body-requires-clause-rest c = (c.in_ok-exit.ensures (supply_of c.args.supply.now) c.requires.may.there).made.conditions.in_range

pub returns-in_err-exit : goal.returns-in_err-exit
returns-in_err-exit c =
    inside_stops c.args.program.now c.args.number (routine_of c.args.routine.now) (supply_of c.args.supply.now) c.args.terms.now c.exit_condition.new.terms c.from_residual.result c.in_err-exit.field-0.0 _ c.from_residual.ensures.1
    (c.in_err-exit.ensures (supply_of c.args.supply.now) c.requires.may.there)

pub returns : goal.returns
returns c =
    inside_comes c.args.program.now c.args.number (routine_of c.args.routine.now) (supply_of c.args.supply.now) c.args.terms.now c.exit_condition.new.terms c.before_body.result c.in_ok-exit.exit c.args.body.now.here c.before_body.new.terms
    (supply_of c.before_body.new.supply) c.requires.here (c.in_ok-exit.ensures (supply_of c.args.supply.now) c.requires.may.there) c.before_body.ensures
