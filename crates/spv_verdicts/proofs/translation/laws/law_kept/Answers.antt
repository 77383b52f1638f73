use Rattle.spv_verdicts.proofs.translation.ExchangedTreeLemmas.{kept-on}
use Rattle.spv_verdicts.proofs.translation.laws.law_kept.Goals as goal

pub returns : goal.returns
returns c q table x = kept-on q table x
