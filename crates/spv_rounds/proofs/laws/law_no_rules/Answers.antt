use Rattle.spv_rounds.proofs.NoRules.{no-rounds}
use Rattle.spv_rounds.proofs.laws.law_no_rules.Goals as goal

pub returns : goal.returns
returns c = no-rounds
