use Rattle.spv_listing.proofs.Findings.{decided_in}
use Rattle.spv_listing.proofs.listing.listing.Goals as goal

pub verdicts_page-requires-clause-verdicts : goal.verdicts_page-requires-clause-verdicts
verdicts_page-requires-clause-verdicts c = decided_in c.args.report.now c.conditions.result.now c.verdicts.result.now c.law_findings.ensures c.requires c.conditions.ensures c.verdicts.ensures
