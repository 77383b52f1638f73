use Rattle.spv_listing_values.proofs.Pieces.{reached-more, fewer-left}
use Rattle.spv_listing_values.proofs.push.push_term.Goals as goal

pub loop-args-smaller : goal.loop-args-smaller
loop-args-smaller c = fewer-left c.args.texts.now _ _ _ _ _ c.in-Some.args c.in-Some.ensures.items c.in_ok-push_next.ensures

pub loop-args-preserved : goal.loop-args-preserved
loop-args-preserved c = reached-more c.args.texts.now _ _ _ _ _ c.in-Some.args c.in-Some.ensures.items c.in_ok-push_next.ensures _ c.loop-args.invariant
