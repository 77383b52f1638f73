use Rattle.std.proofs.Common.{◌≤◌, arith}
use Rattle.spv_typing.specs.Merging.{kinds_before}
use Rattle.spv_declaration_typing.proofs.pointer_types.Counts.{kinds_few, counted_more}
use Rattle.spv_declaration_typing.proofs.pointer_types.counting.counted.Goals as goal

pub one_more_if-count-requires : goal.one_more_if-count-requires
one_more_if-count-requires c =
    let few : kinds_before c.loop-place.place c.args.base c.args.firsts.now ≤ c.loop-place.place = kinds_few c.loop-place.place c.args.base c.args.firsts.now in
    omega (arith, few, c.loop-place.invariant.last)

pub loop-place-preserved : goal.loop-place-preserved
loop-place-preserved c =
    counted_more c.args.base c.args.firsts.now c.loop-place.place c.loop-place.before.items c.push-in-loop-place.new.items.items c.loop-place.count c.one_more_if-count.result
    c.loop-place-test.true c.one_more_if-count.ensures c.in_ok-push-2.ensures c.loop-place.invariant
