use Rattle.spv_program_soundness.proofs.Performing.{enterings_right}
use Rattle.spv_program_soundness.proofs.laws.law_entered.Goals as goal

pub returns-clause-every_world : goal.returns-clause-every_world
returns-clause-every_world g c world = enterings_right world

pub returns-clause-this_world : goal.returns-clause-this_world
returns-clause-this_world g c = enterings_right (g.W.World.apply c.args.world.now)
