use Rattle.std.proofs.Common.{arith}
use Rattle.spv_assignments.proofs.kleene.Marking.{marked_none, marked_next, marked_all}
use Rattle.spv_assignments.proofs.kleene.connectives.mark_all.Goals as goal

pub loop-t-init : goal.loop-t-init
loop-t-init c = marked_none c.args.marks.now.items c.args.ids.now

pub loop-t-preserved : goal.loop-t-preserved
loop-t-preserved c =
    marked_next c.args.marks.now.items c.loop-t.marks.items _ c.args.ids.now c.loop-t.t-index (record { 0 = 0 }) (omega (arith, c.loop-t-test.true)) c.loop-t.invariant c.mark.ensures

pub returns-clause-all : goal.returns-clause-all
returns-clause-all c = marked_all c.args.marks.now.items c.loop-t.marks.items c.args.ids.now c.loop-t.t-index (omega (arith, c.loop-t-test.false)) c.loop-t.invariant

pub returns-clause-kept : goal.returns-clause-kept
returns-clause-kept c = c.loop-t.invariant.kept
