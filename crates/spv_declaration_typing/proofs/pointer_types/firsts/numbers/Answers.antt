use Rattle.spv_declaration_typing.proofs.pointer_types.Alike.{numbers_more}
use Rattle.spv_declaration_typing.proofs.pointer_types.firsts.numbers.Goals as goal

pub loop-place-preserved : goal.loop-place-preserved
loop-place-preserved c =
    numbers_more c.args.targets.now c.loop-place.place c.loop-place.numbers.items c.push.new.items.items _ c.loop-place-test.true c.in_ok-push.ensures c.loop-place.invariant
