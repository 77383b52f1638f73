use Rattle.std.proofs.Common.{refl}
use Rattle.spv_program.specs.typed.ProgramViews.{routine_of}
use Rattle.spv_conditions.specs.Making.{beginning_pairs}
use Rattle.spv_conditions.proofs.Beginning.{pairs_made, pairs_unmade, variables_as}
use Rattle.spv_conditions.proofs.Entering.{right_routine}
use Rattle.spv_conditions.proofs.routines.pairs_at_beginning.Goals as goal

pub add_beginning-requires : goal.add_beginning-requires
add_beginning-requires c = (
  refl,
  (
    refl,
    (
      c.requires.over,
      (
        right_routine c.args.program.now c.requires.over.typed c.args.number (routine_of c.args.routine.now) c.requires.routine.there,
        variables_as c.args.program.now c.args.body.now.here c.args.number (routine_of c.args.routine.now) c.args.body.now.variables c.requires.here c.requires.routine.there c.requires.body.variables,
      ),
    ),
  ),
)

pub returns-in_err-add_beginning : goal.returns-in_err-add_beginning
returns-in_err-add_beginning c =
    pairs_unmade (beginning_pairs c.args.program.now (routine_of c.args.routine.now)) c.args.terms.now c.add_beginning.new.terms c.new-pairs.result.items c.from_residual.result c.in_err-add_beginning.field-0.0
    c.add_beginning.new.pairs.items c.from_residual.ensures.1 c.in_err-add_beginning.ensures

pub returns : goal.returns
returns c =
    pairs_made (beginning_pairs c.args.program.now (routine_of c.args.routine.now)) c.args.terms.now c.add_beginning.new.terms c.new-pairs.result.items c.add_beginning.new.pairs tt c.new-pairs.ensures.items
    c.in_ok-add_beginning.ensures
