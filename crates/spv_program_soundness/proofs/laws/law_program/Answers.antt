use Rattle.spv_program_soundness.proofs.Programs.{program_correct}
use Rattle.spv_program_soundness.proofs.laws.law_program.Goals as goal

pub returns-clause-every_world : goal.returns-clause-every_world
returns-clause-every_world g c world = λ p framed h. program_correct p framed world h

pub returns-clause-this_world : goal.returns-clause-this_world
returns-clause-this_world g c = λ p framed h. program_correct p framed (g.W.World.apply c.args.world.now) h
