use Rattle.spv_listing_values.proofs.Exact.{listing_one, listing_again, listing_only, listing_none}
use Rattle.spv_listing_values.proofs.laws.law_exact.Goals as goal

pub returns-clause-one : goal.returns-clause-one
returns-clause-one c = λ a b h k e. listing_one a b h k e

pub returns-clause-again : goal.returns-clause-again
returns-clause-again c = λ cs h. listing_again cs h

pub returns-clause-only : goal.returns-clause-only
returns-clause-only c = λ bytes cs e. listing_only bytes cs e

pub returns-clause-none : goal.returns-clause-none
returns-clause-none c = λ bytes none cs h e. listing_none bytes none cs h e
