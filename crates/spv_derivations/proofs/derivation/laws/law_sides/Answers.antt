use Rattle.spv_derivations.proofs.derivation.Equations.{sides-state}
use Rattle.spv_derivations.proofs.derivation.laws.law_sides.Goals as goal

pub returns : goal.returns
returns c a es n s t ok f h = sides-state a ok es n s t f h
