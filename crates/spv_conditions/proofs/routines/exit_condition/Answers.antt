use Rattle.std.proofs.Common.{ap, refl}
use Rattle.spv_program.specs.typed.FormulaViews.{annotation_of}
use Rattle.std.proofs.Common.{option_map}
use Rattle.spv_program.specs.typed.ProgramViews.{routine_of}
use Rattle.spv_conditions.proofs.Entering.{exit_wanted, right_routine}
use Rattle.spv_conditions.proofs.routines.exit_condition.Goals as goal

pub exit_formula-requires-clause-right : goal.exit_formula-requires-clause-right
exit_formula-requires-clause-right c = right_routine c.args.program.now c.requires.over.typed c.args.number (routine_of c.args.routine.now) c.requires.routine.there

pub returns-in_ok-term-in-Some : goal.returns-in_ok-term-in-Some
returns-in_ok-term-in-Some c =
    λ n there.
    let made = c.exit_formula.ensures in
    exit_wanted c.args.program.now c.args.number (routine_of c.args.routine.now) _ (annotation_of c.in-Some.exit) c.in_ok-term-in-Some.term c.wanted.result c.args.terms.now c.exit_formula.new.terms n
    (ap (option_map annotation_of) c.in-Some.is) refl c.in_ok-term-in-Some.ensures.term made.grows c.in_ok-term-in-Some.ensures.walk there c.wanted.ensures.item c.wanted.ensures.err
