use Rattle.spv_search_terms.proofs.condition_copy.CopyLemmas.{IsCopying}
use Rattle.spv_search_terms.proofs.condition_copy.copying.copy_all.Given as goal

abbrev pub invariant-loop-t : goal.invariant-loop-t
invariant-loop-t l = IsCopying l.terms l.order l.fn.new l.new l.images.items l.t-index
