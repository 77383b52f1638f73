use Rattle.spv_assignments.proofs.kleene.Marking.{arguments_next, arguments_all}
use Rattle.spv_assignments.proofs.kleene.connectives.arguments_of.Goals as goal

pub loop-t-preserved : goal.loop-t-preserved
loop-t-preserved c =
    arguments_next c.args.terms.now c.loop-t.marks.items c.mark_all.new.marks.items c.args.ids.now c.loop-t.t-index (record { 0 = 0 }) c.node.result.now c.as_slice.result.now c.loop-t-test.true c.loop-t.invariant
    c.node.ensures c.as_slice.ensures c.mark_all.ensures.all c.mark_all.ensures.kept

pub returns : goal.returns
returns c = record { arguments = arguments_all c.args.terms.now c.loop-t.marks.items c.args.ids.now c.loop-t.t-index c.requires.ids c.loop-t-test.false c.loop-t.invariant }
