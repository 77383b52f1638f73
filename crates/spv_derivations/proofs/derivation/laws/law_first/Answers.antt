use Rattle.spv_derivations.proofs.derivation.Growth.{derivation-take, fact_at-more}
use Rattle.spv_derivations.proofs.derivation.laws.law_first.Goals as goal

pub returns-clause-first : goal.returns-clause-first
returns-clause-first c a es n f = derivation-take a es n f

pub returns-clause-facts : goal.returns-clause-facts
returns-clause-facts c a es more n t h = fact_at-more a es more n t h
