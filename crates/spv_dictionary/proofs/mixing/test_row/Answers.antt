use Rattle.std.proofs.Common.{rules, ◌<◌, length}
use Rattle.spv_dictionary.specs.Mixing.{mixing}
use Rattle.spv_dictionary.proofs.Mixed.{can_more}
use Rattle.spv_dictionary.proofs.mixing.test_row.Goals as goal

pub returns-in-Err-clause-refused : goal.returns-in-Err-clause-refused
returns-in-Err-clause-refused c =
    let below : c.loop-place.place < length c.args.row.now = search rules in
    mixing c.loop-place.place c.in-Err.refused below c.in-Err.ensures.refused

pub loop-place-preserved : goal.loop-place-preserved
loop-place-preserved c = can_more c.args.row.now c.args.solved.now c.args.slot c.loop-place.place c.loop-place.invariant c.in-Ok.ensures.ok
