use Rattle.std.proofs.Common.{option_copied}
use Rattle.spv_reports.specs.Reports.{Findings}
use Rattle.spv_verify.proofs.tree_reports.Causes.{listed_causes, ruled_reports}
use Rattle.spv_verify.proofs.tree_reports.walks.ruled_report.Goals as goal

pub returns-clause-report : goal.returns-clause-report
returns-clause-report c =
    ruled_reports c.args.names c.args.program.now (option_copied c.args.rules) (option_copied c.args.listing) (λ (f : Findings). f) c.rules_for.new.names c.in-Ok.rules c.args.mode c.listed_report.result
    c.in-Ok.ensures.names c.in-Ok.ensures.rules c.listed_report.ensures.report

pub returns-clause-cause : goal.returns-clause-cause
returns-clause-cause c =
    listed_causes c.args.names c.args.program.now (option_copied c.args.rules) (option_copied c.args.listing) c.in-Ok.rules c.listed_report.result c.in-Ok.ensures.rules c.listed_report.ensures.cause
