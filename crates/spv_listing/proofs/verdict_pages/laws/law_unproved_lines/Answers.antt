use Rattle.std.proofs.Common.{refl}
use Rattle.std.specs.Fmt.{digits}
use Rattle.spv_listing.proofs.verdict_pages.laws.law_unproved_lines.Goals as goal

pub returns-clause-half : goal.returns-clause-half
unfolding digits
returns-clause-half c = refl

pub returns-clause-turn : goal.returns-clause-turn
unfolding digits
returns-clause-turn c = refl

pub returns-clause-instance : goal.returns-clause-instance
unfolding digits
returns-clause-instance c = refl
