use Rattle.std.proofs.Common.{ℕ, ◌-◌, ◌+◌, ◌∷◌, [], drop, map, sym, ap, subst, ◌∙◌, le_refl, arith}
use Rattle.std.proofs.lemmas.List.{drop_more}
use Rattle.spv_listing_values.specs.declared.data.ProofNode.{ProofNode}
use Rattle.spv_listing_values.specs.declared.texts.Text.{Text}
use Rattle.spv_listing_values.specs.Forms.{is_tree}
use Rattle.spv_listing_values.specs.Mapped.{node_at}
use Rattle.spv_listing_values.proofs.Judging.{IsWaiting, waiting_first, waiting_more}
use Rattle.spv_listing_values.proofs.forms.is_tree.Goals as goal

pub loop-node-init : goal.loop-node-init
loop-node-init c = record { few = le_refl 1; left = λ f. waiting_first f c.args.nodes.now }

pub loop-node-preserved : goal.loop-node-preserved
loop-node-preserved c = record {
  few = omega (arith, c.loop-node.invariant.few, c.from.ensures);
  left = λ f. subst (λ (n : ℕ). IsWaiting f (drop (c.loop-node.node-index + 1) c.args.nodes.now) (is_tree (0 ∷ []) (map (node_at f) c.args.nodes.now)) (c.loop-node.waiting - 1 + n))
      (sym (c.from.ensures ∙ c.count_cases.ensures))
      (waiting_more f (drop c.loop-node.node-index c.args.nodes.now) (drop (c.loop-node.node-index + 1) c.args.nodes.now) (is_tree (0 ∷ []) (map (node_at f) c.args.nodes.now)) c.loop-node.waiting c.node-item.result
      (drop_more c.args.nodes.now c.loop-node.node-index c.node-item.result c.loop-node-test.true
      ∙ ap (λ (n : ProofNode Text). n ∷ drop (c.loop-node.node-index + 1) c.args.nodes.now) (sym c.node-item.is)) (c.loop-node.invariant.left f) c.if-waiting-eq0.false);
}
