use Rattle.spv_program_soundness.proofs.Assigning.{assign_right}
use Rattle.spv_program_soundness.proofs.laws.law_assignment.Goals as goal

pub returns-clause-every_world : goal.returns-clause-every_world
returns-clause-every_world g c world = λ p framed here entry d e ok calls uses turns correct. assign_right p framed world here entry d e ok calls uses turns correct

pub returns-clause-this_world : goal.returns-clause-this_world
returns-clause-this_world g c = λ p framed here entry d e ok calls uses turns correct. assign_right p framed (g.W.World.apply c.args.world.now) here entry d e ok calls uses turns correct
