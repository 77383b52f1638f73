use Rattle.spv_rule_soundness.proofs.control.Programs.{control_correct}
use Rattle.spv_rule_soundness.proofs.control.laws.law_control.Goals as goal

pub returns-clause-every_world : goal.returns-clause-every_world
returns-clause-every_world g c world p typed control h = control_correct p world typed control h

pub returns-clause-this_world : goal.returns-clause-this_world
returns-clause-this_world g c p typed control h = control_correct p (g.W.World.apply c.args.world.now) typed control h
