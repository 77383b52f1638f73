use Rattle.std.proofs.Common.{◌≤◌, ◌+◌, ◌*◌, ◌^◌, [], ◌∷◌, drop, map}
use Rattle.spv_listing_values.specs.declared.texts.Text.{Text}
use Rattle.spv_listing_values.specs.Written.{Written}
use Rattle.spv_listing_values.specs.Forms as spec
use Rattle.spv_listing_values.specs.Mapped.{node_at}
use Rattle.spv_listing_values.proofs.Judging.{IsWaiting}
use Rattle.spv_listing_values.proofs.forms.is_tree.Given as goal

abbrev pub invariant-loop-node : goal.invariant-loop-node
invariant-loop-node l = record {
  few : l.waiting ≤ 1 + l.node-index * 2 ^ 32;
  left : (f : Text → Written) → IsWaiting f (drop l.node-index l.nodes) (spec.is_tree (0 ∷ []) (map (node_at f) l.nodes)) l.waiting;
}
