use Rattle.spv_listing_values.proofs.Codes.{put_there_by}
use Rattle.spv_listing_values.proofs.interning.put.Goals as goal

pub returns : goal.returns
returns c other =
    put_there_by (λ k. k.items) c.args.places.now c.insert.new.self c.args.key.now c.in_ok-owned.owned.items c.args.place c.in_ok-owned.ensures.items c.in_ok-_none.ensures.updates other
