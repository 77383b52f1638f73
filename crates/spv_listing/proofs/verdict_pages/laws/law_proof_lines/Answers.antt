use Rattle.std.proofs.Common.{refl}
use Rattle.std.specs.Fmt.{digits}
use Rattle.spv_listing.proofs.verdict_pages.laws.law_proof_lines.Goals as goal

pub returns-clause-gap : goal.returns-clause-gap
unfolding digits
returns-clause-gap c = refl

pub returns-clause-bare : goal.returns-clause-bare
returns-clause-bare c = refl

pub returns-clause-cases : goal.returns-clause-cases
unfolding digits
returns-clause-cases c = refl
