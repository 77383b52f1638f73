use Rattle.spv_expression_terms.proofs.postfix.Postfixes.{postfix_alone, postfix_unary, postfix_binary, postfix_ternary}
use Rattle.spv_expression_terms.proofs.postfix.laws.law_parts.Goals as goal

pub returns-clause-none : goal.returns-clause-none
returns-clause-none c = postfix_alone

pub returns-clause-one : goal.returns-clause-one
returns-clause-one c = postfix_unary

pub returns-clause-two : goal.returns-clause-two
returns-clause-two c = postfix_binary

pub returns-clause-three : goal.returns-clause-three
returns-clause-three c = postfix_ternary
