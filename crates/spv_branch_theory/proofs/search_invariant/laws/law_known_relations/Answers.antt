use Rattle.spv_branch_theory.proofs.search_invariant.Relations.{relations_are_told}
use Rattle.spv_branch_theory.proofs.search_invariant.laws.law_known_relations.Goals as goal

pub returns : goal.returns
returns c = record { told = relations_are_told }
