use Rattle.spv_share.proofs.combination_laws.Growth.{both_on, level_on}
use Rattle.spv_share.proofs.combination_laws.growing.law_growing.Goals as goal

pub returns-clause-both : goal.returns-clause-both
returns-clause-both c = λ old new ok more b h. both_on old new ok more b h

pub returns-clause-levels : goal.returns-clause-levels
returns-clause-levels c = λ old new ok more b h l k. level_on old new ok more b h l k
