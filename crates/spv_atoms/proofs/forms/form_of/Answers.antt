use Rattle.std.proofs.Common.{length}
use Rattle.spv_atoms.specs.Found.{IsReady}
use Rattle.spv_atoms.proofs.Places.{order_behind, order_ready, place_there, place_below, beside, looked_up, found_form}
use Rattle.spv_atoms.proofs.forms.form_of.Goals as goal

pub all_found-requires-clause-behind : goal.all_found-requires-clause-behind
all_found-requires-clause-behind c = order_behind c.args.terms.now c.law_arena.ensures c.in_ok-order.order c.args.t c.in_ok-order.ensures.in_range c.in_ok-order.ensures.order

pub unwrap-place-requires : goal.unwrap-place-requires
unwrap-place-requires c =
    place_there c.args.t c.in_ok-order.order (length c.in_ok-known.known.items) c.place.result
    (order_ready c.args.terms.now c.law_arena.ensures c.in_ok-order.order c.args.t c.in_ok-order.ensures.in_range c.in_ok-order.ensures.order c.requires (length c.in_ok-known.known.items) c.in_ok-known.ensures.length)
    c.place.ensures

pub returns : goal.returns
returns c =
    let ready : IsReady c.in_ok-order.order (length c.in_ok-known.known.items) c.args.t =
    order_ready c.args.terms.now c.law_arena.ensures c.in_ok-order.order c.args.t c.in_ok-order.ensures.in_range c.in_ok-order.ensures.order c.requires (length c.in_ok-known.known.items) c.in_ok-known.ensures.length in
    found_form c.args.terms.now c.in_ok-order.order c.in_ok-known.known.items c.args.t c.swap_remove.result c.in_ok-known.ensures.found
    (beside c.args.t c.in_ok-order.order (length c.in_ok-known.known.items) c.place.result ready c.place.ensures c.in_ok-known.known.items c.unwrap-place.result c.swap_remove.result c.unwrap-place.ensures
    (looked_up c.in_ok-known.known.items c.unwrap-place.result c.swap_remove.result
    (place_below c.args.t c.in_ok-order.order (length c.in_ok-known.known.items) c.place.result ready c.place.ensures c.unwrap-place.result c.unwrap-place.ensures) c.swap_remove.ensures.value))
