use Rattle.std.proofs.Common.{length}
use Rattle.spv_atoms.proofs.Places.{place_there, place_below, beside, looked_up, if_some}
use Rattle.spv_atoms.proofs.forms.found_of.Goals as goal

pub unwrap-place-requires : goal.unwrap-place-requires
unwrap-place-requires c = place_there c.args.t c.args.order.now (length c.args.known.now) c.place.result c.requires c.place.ensures

pub unwrap-requires : goal.unwrap-requires
unwrap-requires c =
    c.get.ensures.lookup.2 (place_below c.args.t c.args.order.now (length c.args.known.now) c.place.result c.requires c.place.ensures c.unwrap-place.result c.unwrap-place.ensures)

pub returns : goal.returns
returns c =
    beside c.args.t c.args.order.now (length c.args.known.now) c.place.result c.requires c.place.ensures c.args.known.now c.unwrap-place.result c.unwrap.result.now c.unwrap-place.ensures
    (looked_up c.args.known.now c.unwrap-place.result c.unwrap.result.now
    (place_below c.args.t c.args.order.now (length c.args.known.now) c.place.result c.requires c.place.ensures c.unwrap-place.result c.unwrap-place.ensures)
    (if_some c.get.result _ c.unwrap.result c.unwrap.ensures c.get.ensures.lookup.1))
