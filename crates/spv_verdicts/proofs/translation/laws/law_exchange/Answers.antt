use Rattle.spv_verdicts.proofs.translation.ExchangeLemmas.{walk-exchanged, closes-exchanged, accepts-exchanged}
use Rattle.spv_verdicts.proofs.translation.laws.law_exchange.Goals as goal

pub returns-clause-leads : goal.returns-clause-leads
returns-clause-leads c e q table x = walk-exchanged e q table x

pub returns-clause-closes : goal.returns-clause-closes
returns-clause-closes c e q table x = closes-exchanged e q table x

pub returns-clause-accepted : goal.returns-clause-accepted
returns-clause-accepted c e q table x = accepts-exchanged e q table x
