use Rattle.std.proofs.Common.{◌++◌}
use Rattle.spv_listing_values.specs.Blanks.{numbers_down}
use Rattle.spv_listing_values.proofs.Cases.{put_more, put_all}
use Rattle.spv_listing_values.proofs.nodes.put_cases.Goals as goal

pub loop-place-preserved : goal.loop-place-preserved
loop-place-preserved c =
    put_more (c.args.waiting.now.items ++ numbers_down c.args.count) c.loop-place.waiting.items c.push.new.self.items c.args.count c.loop-place.place c.loop-place-test.true c.loop-place.invariant c.in_ok-push.ensures.items

pub returns : goal.returns
returns c = put_all (c.args.waiting.now.items ++ numbers_down c.args.count) c.loop-place.waiting.items c.args.count c.loop-place.place c.loop-place-test.false c.loop-place.invariant
