use Rattle.spv_expression_terms.proofs.postfix.Stacks.{postfix-unique}
use Rattle.spv_expression_terms.proofs.postfix.laws.law_unique.Goals as goal

pub returns : goal.returns
returns c = postfix-unique
