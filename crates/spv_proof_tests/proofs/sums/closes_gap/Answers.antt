use Rattle.std.proofs.Common.{◌∙◌}
use Rattle.spv_term.proofs.ArenaLemmas.{Extends-trans, sort_at-Extends}
use Rattle.spv_proof_tests.proofs.sums.closes_gap.Goals as goal

pub is_accepted-answer-requires-clause-first_sort : goal.is_accepted-answer-requires-clause-first_sort
is_accepted-answer-requires-clause-first_sort c =
    sort_at-Extends (Extends-trans c.in_ok-right.ensures.grows c.in_ok-zero.ensures.grows) c.in_ok-left.left c.in_ok-left.ensures.in_range ∙ c.in_ok-left.ensures.sort
