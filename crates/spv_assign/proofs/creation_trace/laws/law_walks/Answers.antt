use Rattle.spv_assign.proofs.creation_trace.Walks.{walked_behind, stopped_first, stopped_behind}
use Rattle.spv_assign.proofs.creation_trace.laws.law_walks.Goals as goal

pub returns-clause-join : goal.returns-clause-join
returns-clause-join c = λ xs ys a b d first rest. walked_behind xs ys first rest

pub returns-clause-first : goal.returns-clause-first
returns-clause-first c = stopped_first

pub returns-clause-behind : goal.returns-clause-behind
returns-clause-behind c = stopped_behind
