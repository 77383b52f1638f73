use Rattle.std.proofs.Common.{◌≡◌, ◌&&◌, ℕ, ◌<◌, false, not, Some, slice_get}
use Rattle.spv_congruence.specs.declared.facts.Fact.{Fact}
use Rattle.spv_congruence.specs.Graph.{are_same}
use Rattle.spv_congruence.specs.Keep.{graph}
use Rattle.spv_congruence.proofs.kept.Kept.separate_clash.Given as goal

abbrev pub invariant-loop-fact : goal.invariant-loop-fact
invariant-loop-fact l = record {
  none : (i : ℕ) (x : Fact) → i < l.fact-index → slice_get l.self.told i ≡ Some x → (not x.equal && are_same (graph l.self) x.left x.right) ≡ false;
}
