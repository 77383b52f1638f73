use Rattle.std.proofs.Common.{refl}
use Rattle.std.specs.Fmt.{digits}
use Rattle.spv_listing.proofs.verdict_pages.laws.law_limit_lines.Goals as goal

pub returns-clause-no_splits : goal.returns-clause-no_splits
unfolding digits
returns-clause-no_splits c = refl

pub returns-clause-two_splits : goal.returns-clause-two_splits
unfolding digits
returns-clause-two_splits c = refl

pub returns-clause-many_terms : goal.returns-clause-many_terms
unfolding digits
returns-clause-many_terms c = refl

pub returns-clause-wide_relation : goal.returns-clause-wide_relation
unfolding digits
returns-clause-wide_relation c = refl

pub returns-clause-wide_quotient : goal.returns-clause-wide_quotient
unfolding digits
returns-clause-wide_quotient c = refl

pub returns-clause-no_pivots : goal.returns-clause-no_pivots
unfolding digits
returns-clause-no_pivots c = λ start. refl

pub returns-clause-instances : goal.returns-clause-instances
unfolding digits
returns-clause-instances c = λ i. refl

pub returns-clause-wide_product : goal.returns-clause-wide_product
unfolding digits
returns-clause-wide_product c = λ nodes. refl
