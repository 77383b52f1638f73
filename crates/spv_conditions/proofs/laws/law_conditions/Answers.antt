use Rattle.spv_conditions.proofs.Correct.{conditions_correct}
use Rattle.spv_conditions.proofs.laws.law_conditions.Goals as goal

pub returns-clause-every_world : goal.returns-clause-every_world
returns-clause-every_world g c world = conditions_correct world

pub returns-clause-this_world : goal.returns-clause-this_world
returns-clause-this_world g c = conditions_correct (g.W.World.apply c.args.world.now)
