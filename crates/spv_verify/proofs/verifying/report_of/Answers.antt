use Rattle.std.proofs.Common.{option_copied, subst}
use Rattle.spv_reports.specs.Reports.{Findings}
use Rattle.spv_verify.specs.declared.texts.TextKind.{TextKind}
use Rattle.spv_verify.specs.texts.Trees.{kind_of}
use Rattle.spv_verify.specs.Refusals.{IsTextTree}
use Rattle.spv_verify.proofs.Found.{tree_causes, reports_are}
use Rattle.spv_verify.proofs.verifying.report_of.Goals as goal

pub returns-clause-report : goal.returns-clause-report
returns-clause-report c =
    let is = subst (λ (k : TextKind). IsTextTree k c.args.text.now c.in-Ok.tree) c.kind_of.ensures c.in-Ok.ensures.tree in
    reports_are c.args.mode (kind_of c.args.mode) c.args.text.now (option_copied c.args.rules) (option_copied c.args.listing) c.in-Ok.tree is _ c.in-Ok.ensures.names (λ (f : Findings). f) c.report_of-report.result c.report_of-report.ensures.report

pub returns-clause-cause : goal.returns-clause-cause
returns-clause-cause c =
    let is = subst (λ (k : TextKind). IsTextTree k c.args.text.now c.in-Ok.tree) c.kind_of.ensures c.in-Ok.ensures.tree in
    tree_causes c.args.mode (kind_of c.args.mode) c.args.text.now (option_copied c.args.rules) (option_copied c.args.listing) c.in-Ok.tree is _ c.in-Ok.ensures.names c.report_of-report.result c.report_of-report.ensures.cause
