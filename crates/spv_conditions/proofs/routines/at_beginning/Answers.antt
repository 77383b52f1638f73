use Rattle.spv_program.specs.Supplies.{full_supply}
use Rattle.spv_program.specs.typed.ProgramViews.{routine_of}
use Rattle.spv_conditions.proofs.Entering.{beginning_comes, beginning_stops, beginning_within}
use Rattle.spv_conditions.proofs.routines.at_beginning.Goals as goal

pub returns-in_err-pairs : goal.returns-in_err-pairs
returns-in_err-pairs c =
    λ n numbers.
    beginning_stops c.args.program.now (routine_of c.args.routine.now) c.args.terms.now c.pairs_at_beginning.new.terms c.args.conditions.items n c.from_residual.result c.in_err-pairs.field-0.0 c.from_residual.ensures.1
    c.in_err-pairs.ensures.grows c.in_err-pairs.ensures.walk

pub replaced-requires-clause-rest : goal.replaced-requires-clause-rest
replaced-requires-clause-rest c =
    beginning_within c.args.program.now (routine_of c.args.routine.now) c.args.terms.now c.pairs_at_beginning.new.terms c.args.conditions.items full_supply c.in_ok-pairs.ensures.grows c.requires.conditions

pub returns : goal.returns
returns c =
    λ n numbers.
    let made = c.in_ok-pairs.ensures in
    beginning_comes c.args.program.now (routine_of c.args.routine.now) c.args.terms.now c.pairs_at_beginning.new.terms c.args.conditions.items n c.in_ok-pairs.pairs.items c.as_slice.result.now c.replaced.new.terms c.replaced.result
    c.as_slice.ensures.value made.grows made.walk made.pairs c.requires.conditions numbers c.replaced.ensures.conditions c.replaced.ensures.in_range c.replaced.ensures.grows c.replaced.ensures.walk
