use Rattle.spv_derivations.proofs.derivation.Growth.{derivation-Extends}
use Rattle.spv_derivations.proofs.derivation.laws.law_grows.Goals as goal

pub returns : goal.returns
returns c old new more es f = derivation-Extends more es f
