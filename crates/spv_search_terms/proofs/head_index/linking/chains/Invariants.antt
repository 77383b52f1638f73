use Rattle.spv_search_terms.specs.head_index.Chains.{heads, IsChaining}
use Rattle.spv_search_terms.proofs.head_index.linking.chains.Given as goal

abbrev pub invariant-loop-left : goal.invariant-loop-left
invariant-loop-left l = IsChaining (heads l.terms l.found) l.left l.next.items l.places

abbrev pub decreases-loop-left : goal.decreases-loop-left
decreases-loop-left l = l.left
