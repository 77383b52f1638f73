use Rattle.spv_program_soundness.proofs.laws.law_value.Goals as goal

pub returns-clause-every_world : goal.returns-clause-every_world
returns-clause-every_world g c world = c.law_functions.ensures.tests world

pub returns-clause-this_world : goal.returns-clause-this_world
returns-clause-this_world g c = c.law_functions.ensures.tests (g.W.World.apply c.args.world.now)
