use Rattle.std.proofs.Common.{◌≤◌, length, refl, arith}
use Rattle.spv_assign.proofs.pending.Unchanged.{item_there, marks_all}
use Rattle.spv_assign.proofs.pending.staying.marks.Goals as goal

pub may_change-requires-clause-t : goal.may_change-requires-clause-t
may_change-requires-clause-t c =
    item_there c.args.terms.now c.args.list.now c.loop-t.t-index _ _ c.requires.list c.loop-t-test.true refl

pub returns : goal.returns
returns c =
    let past : length c.args.list.now ≤ c.loop-t.t-index = omega (arith, c.loop-t-test.false) in
    marks_all c.args.terms.now c.args.pairs.now c.args.list.now c.loop-t.t-index c.loop-t.marks.items past c.loop-t.invariant
