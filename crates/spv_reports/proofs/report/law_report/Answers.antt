use Rattle.spv_reports.proofs.Reports.{proved_correct}
use Rattle.spv_reports.proofs.report.law_report.Goals as goal

pub returns-clause-every_world : goal.returns-clause-every_world
returns-clause-every_world g c world = proved_correct c.args.report.now world

pub returns-clause-this_world : goal.returns-clause-this_world
returns-clause-this_world g c = proved_correct c.args.report.now (g.W.World.apply c.args.world.now)
