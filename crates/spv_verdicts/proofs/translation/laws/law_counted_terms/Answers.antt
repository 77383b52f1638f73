use Rattle.spv_verdicts.proofs.translation.CountLemmas.{few-terms, one-more, none-more}
use Rattle.spv_verdicts.proofs.translation.laws.law_counted_terms.Goals as goal

pub returns-clause-close : goal.returns-clause-close
returns-clause-close c = few-terms

pub returns-clause-one_more : goal.returns-clause-one_more
returns-clause-one_more c = one-more

pub returns-clause-none_more : goal.returns-clause-none_more
returns-clause-none_more c = none-more
