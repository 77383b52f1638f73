use Rattle.spv_branch_theory.proofs.search_invariant.Fewer.{fewer_are_live}
use Rattle.spv_branch_theory.proofs.search_invariant.laws.law_fewer_facts.Goals as goal

pub returns : goal.returns
returns c = record { live = fewer_are_live }
