use Rattle.std.proofs.Common.{length, get_or}
use Rattle.std.proofs.lemmas.Option.{slice_get-get_or}
use Rattle.spv_term.proofs.TreeLemmas.{AllBelow-at}
use Rattle.spv_listing.proofs.listing.push_givens.Goals as goal

pub push_given-requires : goal.push_given-requires
push_given-requires c =
    AllBelow-at (length c.args.terms.now.nodes) c.args.given.now c.loop-t.t-index (get_or c.args.given.now c.loop-t.t-index (record { 0 = 0 })) c.requires
    (slice_get-get_or c.args.given.now c.loop-t.t-index (record { 0 = 0 }) c.loop-t-test.true)
