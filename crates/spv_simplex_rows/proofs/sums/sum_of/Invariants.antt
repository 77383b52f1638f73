use Rattle.std.proofs.Common.{◌≡◌, ◌<◌, length}
use Rattle.spv_logic.specs.declared.types.Sort.TheVariants as sort
use Rattle.spv_term.specs.Arena.{sort_at}
use Rattle.spv_simplex_rows.proofs.sums.sum_of.Given as goal

abbrev pub invariant-loop-rest : goal.invariant-loop-rest
invariant-loop-rest l = record {
  in_range : l.sum.0 < length l.terms.nodes;
  int : sort_at l.terms l.sum ≡ sort.Int;
}

abbrev pub decreases-loop-rest : goal.decreases-loop-rest
decreases-loop-rest l = length l.rest
