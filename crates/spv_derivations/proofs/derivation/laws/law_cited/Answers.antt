use Rattle.spv_derivations.proofs.derivation.Renumbering.{effect-renumbered}
use Rattle.spv_derivations.proofs.derivation.laws.law_cited.Goals as goal

pub returns : goal.returns
returns c q old new f s h = effect-renumbered old new f q s h
