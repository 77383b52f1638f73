use Rattle.spv_program_soundness.proofs.Performing.{calls_right}
use Rattle.spv_program_soundness.proofs.laws.law_call.Goals as goal

pub returns-clause-every_world : goal.returns-clause-every_world
returns-clause-every_world g c world = calls_right world

pub returns-clause-this_world : goal.returns-clause-this_world
returns-clause-this_world g c = calls_right (g.W.World.apply c.args.world.now)
