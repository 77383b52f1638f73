use Rattle.spv_rounds.proofs.Kept.{kept-under}
use Rattle.spv_rounds.proofs.laws.law_kept.Goals as goal

pub returns : goal.returns
returns c = kept-under c.law_exchange.ensures.leads
