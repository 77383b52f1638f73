use Rattle.std.proofs.Common.{◌≡◌, take, map}
use Rattle.std.specs.List.{filter}
use Rattle.spv_rechecking.specs.written_terms.Standing.{is_leaf}
use Rattle.spv_rechecking.specs.written_terms.Leaves.{HaveLeaves}
use Rattle.spv_rechecking.proofs.written_terms.leaves.leaves_of.Given as goal

abbrev pub invariant-loop-place : goal.invariant-loop-place
invariant-loop-place l = record {
  heads : l.leaves.heads.items ≡ filter is_leaf (map (λ n. n.head) (take l.place l.terms.nodes));
  have : HaveLeaves l.names l.titles l.leaves;
}
