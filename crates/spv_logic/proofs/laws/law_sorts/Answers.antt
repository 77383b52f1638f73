use Rattle.spv_logic.proofs.Sorting.{eval-fits}
use Rattle.spv_logic.proofs.laws.law_sorts.Goals as goal

pub returns : goal.returns
returns c shapes ok decls world v val t s e = eval-fits shapes ok decls world v val t s e
