use Rattle.spv_branch_theory.proofs.search_invariant.Adding.{subterms_added}
use Rattle.spv_branch_theory.proofs.search_invariant.laws.law_added_parts.Goals as goal

pub returns : goal.returns
returns c = record { added = subterms_added }
