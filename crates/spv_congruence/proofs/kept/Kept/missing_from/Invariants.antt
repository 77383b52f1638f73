use Rattle.std.proofs.Common.{◌≡◌, ℕ, ◌<◌, ◌≤◌, Some, slice_get}
use Rattle.spv_logic.specs.declared.conditions.TermId.{TermId}
use Rattle.spv_congruence.specs.Keep.{IsNode}
use Rattle.spv_congruence.proofs.kept.Kept.missing_from.Given as goal

abbrev pub invariant-loop-place : goal.invariant-loop-place
invariant-loop-place l = record {
  before : (i : ℕ) (u : TermId) → l.from ≤ i → i < l.place → slice_get l.args i ≡ Some u → IsNode l.self.nodes u;
}
