use Rattle.spv_conditions.proofs.Taken.{well_typed_taken}
use Rattle.spv_conditions.proofs.blocks.before_body.Goals as goal

pub before-requires-clause-taken : goal.before-requires-clause-taken
before-requires-clause-taken c = well_typed_taken c.args.program.now c.args.body.now.here c.args.s.now c.requires.typed
