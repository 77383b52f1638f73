use Rattle.spv_atoms.proofs.Steps.{if_same, same_numbers}
use Rattle.spv_atoms.proofs.copies.same_step.Goals as goal

pub returns : goal.returns
returns c = if_same c.renumbered.result _ c.args.step.now (same_numbers c.args.step.now) c.renumbered.ensures
