use Rattle.spv_rounds.proofs.Exchanging.{answered-under}
use Rattle.spv_rounds.proofs.laws.law_proved.Goals as goal

pub returns : goal.returns
returns c = answered-under c.law_exchange.ensures.accepted
