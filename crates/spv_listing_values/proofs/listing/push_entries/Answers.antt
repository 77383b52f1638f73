use Rattle.spv_listing_values.proofs.Numbered.{entries_more}
use Rattle.spv_listing_values.proofs.listing.push_entries.Goals as goal

pub loop-place-preserved : goal.loop-place-preserved
loop-place-preserved c =
    entries_more c.args.entries.now c.loop-place.place c.index-entries-place.result c.args.out.now.items c.loop-place.out.items _ c.loop-place-test.true c.index-entries-place.is c.loop-place.invariant
    c.in_ok-push.ensures
