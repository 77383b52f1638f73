use Rattle.spv_meaning.proofs.AssignedPrograms.{conditions_correct}
use Rattle.spv_meaning.proofs.laws.law_conditions.Goals as goal

pub returns-clause-every_world : goal.returns-clause-every_world
returns-clause-every_world g c m p ok simple h = conditions_correct p m ok simple h

pub returns-clause-this_world : goal.returns-clause-this_world
returns-clause-this_world g c p ok simple h = conditions_correct p (g.W.World.apply c.args.world.now) ok simple h
