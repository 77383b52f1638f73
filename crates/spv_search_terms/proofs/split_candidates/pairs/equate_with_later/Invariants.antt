use Rattle.std.proofs.Common.{◌-◌, length}
use Rattle.spv_search_terms.proofs.split_candidates.PairLemmas.{IsPairing}
use Rattle.spv_search_terms.proofs.split_candidates.pairs.equate_with_later.Given as goal

abbrev pub invariant-loop-later : goal.invariant-loop-later
invariant-loop-later l = IsPairing l.fn.terms l.found l.place l.fn.out l.terms l.out l.later

abbrev pub decreases-loop-later : goal.decreases-loop-later
decreases-loop-later l = length l.found - l.later
