use Rattle.std.proofs.Common.{refl}
use Rattle.std.specs.Fmt.{digits}
use Rattle.spv_rechecking.proofs.written_terms.laws.law_examples.Goals as goal

pub returns-clause-written : goal.returns-clause-written
unfolding digits
returns-clause-written c = refl

pub returns-clause-sum : goal.returns-clause-sum
unfolding digits
returns-clause-sum c = refl

pub returns-clause-symbol : goal.returns-clause-symbol
unfolding digits
returns-clause-symbol c = refl

pub returns-clause-sort : goal.returns-clause-sort
unfolding digits
returns-clause-sort c = refl

pub returns-clause-zeros : goal.returns-clause-zeros
unfolding digits
returns-clause-zeros c = refl

pub returns-clause-nothing : goal.returns-clause-nothing
unfolding digits
returns-clause-nothing c = refl
