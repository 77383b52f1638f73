use Rattle.std.proofs.Common.{◌<◌, List, Option, slice_get, ap, subst, ◌∙◌}
use Rattle.spv_term.specs.declared.nodes.Node.{Node}
use Rattle.spv_union_find.specs.classes.Classes.{next}
use Rattle.spv_congruence.specs.Keep.{Kept}
use Rattle.spv_congruence.specs.Rings.{comparable_with}
use Rattle.spv_congruence.proofs.ClashLemmas.{ring_on}
use Rattle.spv_congruence.proofs.kept.Kept.next_comparable.Goals as goal

pub loop-preserved : goal.loop-preserved
loop-preserved c = record {
  at = subst (λ (k : Kept). c.next-at.result < k.classes.count) c.self.view_is c.next-at.ensures.within;
  rest =
      ring_on (λ x. comparable_with c.args.head (slice_get c.args.self.now.nodes x)) c.args.self.now.classes.joins c.loop.at c.args.steps c.loop.counter c.next-at.result c.is_comparable.result c.loop-test.true
      (c.next-at.ensures.next ∙ ap (λ (k : Kept). next k.classes.joins c.loop.at) c.self.view_is)
      (c.is_comparable.ensures ∙ ap (λ (ns : List (Option Node)). comparable_with c.args.head (slice_get ns c.next-at.result)) (c.as_slice.ensures.value ∙ ap (λ (k : Kept). k.nodes) c.self.view_is))
      c.if-is_comparable.false
      ∙ c.loop.invariant.rest;
}
