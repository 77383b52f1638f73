use Rattle.spv_listing_values.proofs.Pieces.{on_ok, begins-next, first_of}
use Rattle.spv_listing_values.proofs.push.push_next.Goals as goal

pub returns-in_ok-push-in-len1-up-2 : goal.returns-in_ok-push-in-len1-up-2
returns-in_ok-push-in-len1-up-2 c =
    on_ok c.push_front.result c.push_front.ensures
    (begins-next c.args.texts.now _ _ _ _ _ _ c.args.args.now _ _ (first_of c.args.args.now _ c.in-len1-up.len_at_least)
    c.in_ok-push-in-len1-up-2.ensures.items c.in_ok-push-in-len1-up.ensures.items)
