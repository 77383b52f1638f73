use Rattle.std.proofs.Common.{refl}
use Rattle.std.specs.Fmt.{digits}
use Rattle.spv_listing.proofs.verdict_pages.laws.law_totals.Goals as goal

pub returns-clause-no_conditions : goal.returns-clause-no_conditions
unfolding digits
returns-clause-no_conditions c = refl

pub returns-clause-counts : goal.returns-clause-counts
unfolding digits
returns-clause-counts c = refl

pub returns-clause-unproved : goal.returns-clause-unproved
returns-clause-unproved c = refl

pub returns-clause-given_up : goal.returns-clause-given_up
returns-clause-given_up c = refl

pub returns-clause-nothing_checked : goal.returns-clause-nothing_checked
unfolding digits
returns-clause-nothing_checked c = refl

pub returns-clause-not_accepted : goal.returns-clause-not_accepted
unfolding digits
returns-clause-not_accepted c = (refl, refl)
