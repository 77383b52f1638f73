use Rattle.std.proofs.Common.{refl}
use Rattle.spv_listing_values.proofs.Codes.{put_there_by}
use Rattle.spv_rechecking.proofs.written_terms.leaves.put.Goals as goal

pub returns : goal.returns
returns c other =
    put_there_by (λ k. k.items) c.args.places.now c.insert.new.self c.args.word.items c.args.word.items c.args.place refl c.in_ok-_none.ensures.updates other
