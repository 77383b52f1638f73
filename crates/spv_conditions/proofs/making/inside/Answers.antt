use Rattle.std.proofs.Common.{ap, ◌∙◌}
use Rattle.spv_assign.specs.supply.Numbers.{supply_of}
use Rattle.spv_program.specs.Programs.{Program}
use Rattle.spv_conditions.proofs.Mains.{block_as, inside_main_comes, inside_main_stops, main_may}
use Rattle.spv_conditions.proofs.making.inside.Goals as goal

pub before_body-requires-clause-may : goal.before_body-requires-clause-may
before_body-requires-clause-may c =
    let first = c.in_ok-exit.ensures (supply_of c.args.supply.now) c.requires.may.there in
    main_may c.args.program.now c.args.body.now c.args.terms.now c.exit_condition.new.terms (supply_of c.args.supply.now) c.requires.may first.grows c.requires.body c.requires.here

pub before_body-requires-clause-typed : goal.before_body-requires-clause-typed
before_body-requires-clause-typed c = block_as c.args.program.now c.requires.may.over.typed c.args.body.now.here c.requires.here _ (ap (λ (q : Program). q.main.body) (c.behind-program.view_is ∙ c.program.ensures))

pub before_body-requires-clause-rest : goal.before_body-requires-clause-rest
before_body-requires-clause-rest c = (c.in_ok-exit.ensures (supply_of c.args.supply.now) c.requires.may.there).made.conditions.in_range

pub returns-in_err-exit : goal.returns-in_err-exit
returns-in_err-exit c =
    inside_main_stops c.args.program.now (supply_of c.args.supply.now) c.args.terms.now c.exit_condition.new.terms c.from_residual.result c.in_err-exit.field-0.0 _ c.from_residual.ensures.1
    (c.in_err-exit.ensures (supply_of c.args.supply.now) c.requires.may.there)

pub returns : goal.returns
returns c =
    inside_main_comes c.args.program.now (supply_of c.args.supply.now) c.args.terms.now c.exit_condition.new.terms c.before_body.result c.in_ok-exit.exit c.args.body.now.here _ c.before_body.new.terms
    (supply_of c.before_body.new.supply) c.requires.here (ap (λ (q : Program). q.main.body) (c.behind-program.view_is ∙ c.program.ensures)) (c.in_ok-exit.ensures (supply_of c.args.supply.now) c.requires.may.there) c.before_body.ensures
