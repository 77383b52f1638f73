use Rattle.spv_assignments.proofs.kleene.Same.{computed_same, valued_same, clash_same}
use Rattle.spv_assignments.proofs.kleene.laws.law_same.Goals as goal

pub returns-clause-computed : goal.returns-clause-computed
returns-clause-computed c = computed_same

pub returns-clause-values : goal.returns-clause-values
returns-clause-values c = valued_same

pub returns-clause-clashes : goal.returns-clause-clashes
returns-clause-clashes c = clash_same
