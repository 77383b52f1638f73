use Rattle.spv_listing.proofs.Findings.{decided_in}
use Rattle.spv_listing.proofs.listing.checked.Goals as goal

pub checked_page-requires : goal.checked_page-requires
checked_page-requires c = decided_in c.args.report.now c.conditions.result.now c.verdicts.result.now c.law_findings.ensures c.requires c.conditions.ensures c.verdicts.ensures
