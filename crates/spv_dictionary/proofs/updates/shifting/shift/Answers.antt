use Rattle.std.proofs.Common.{rules, ◌<◌, length}
use Rattle.spv_dictionary.proofs.updates.Going.{next_can, gone_more}
use Rattle.spv_dictionary.proofs.updates.shifting.shift.Goals as goal

pub shift_row-requires-clause-can : goal.shift_row-requires-clause-can
shift_row-requires-clause-can c =
    let below : c.loop-row.row < length c.args.dictionary.now.basic = search rules in
    next_can c.args.dictionary.now c.args.values.now c.loop-row.values c.args.slot c.args.distance c.args.skip c.loop-row.row c.law_dictionary.ensures below c.loop-row.invariant c.requires.can

pub loop-row-preserved : goal.loop-row-preserved
loop-row-preserved c =
    let below : c.loop-row.row < length c.args.dictionary.now.basic = search rules in
    gone_more c.args.dictionary.now c.args.values.now c.loop-row.values c.shift_row.new.values c.args.slot c.args.distance c.args.skip c.loop-row.row c.law_dictionary.ensures below c.loop-row.invariant c.shift_row.ensures
