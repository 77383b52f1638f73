use Rattle.spv_union_find.proofs.classes.RingLemmas.{turn_at, turn_whole, turn_next}
use Rattle.spv_union_find.proofs.classes.rings.relabel.Goals as goal

pub loop-preserved : goal.loop-preserved
loop-preserved c =
    let i = c.loop.invariant in
    let next = turn_next c.loop.points c.loop.at c.args.label c.point-here.result c.with_label.result i.at c.point-here.ensures c.with_label.ensures i.next in
    record {
      at = turn_at c.loop.points c.loop.at c.point-here.result c.with_label.result i.at c.point-here.ensures i.next;
      next = next;
      whole = turn_whole c.loop.points c.loop.at c.args.label c.args.count c.loop.counter c.point-here.result c.with_label.result _ c.loop-test.true c.point-here.ensures c.with_label.ensures i.whole;
    }
