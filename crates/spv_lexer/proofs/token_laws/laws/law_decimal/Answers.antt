use Rattle.spv_lexer.proofs.token_laws.Decimals.{decimal-front, decimal-alone}
use Rattle.spv_lexer.proofs.token_laws.laws.law_decimal.Goals as goal

pub returns-clause-front : goal.returns-clause-front
returns-clause-front c = decimal-front

pub returns-clause-alone : goal.returns-clause-alone
returns-clause-alone c = decimal-alone
