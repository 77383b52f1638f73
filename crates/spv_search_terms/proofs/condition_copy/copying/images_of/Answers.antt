use Rattle.std.proofs.Common.{refl, arith}
use Rattle.spv_search_terms.proofs.subterms.PlaceLemmas.{item_next}
use Rattle.spv_search_terms.specs.condition_copy.Copies.{image_in}
use Rattle.spv_search_terms.proofs.condition_copy.copying.images_of.Goals as goal

pub loop-t-preserved : goal.loop-t-preserved
loop-t-preserved c =
    item_next (image_in c.args.order.now c.args.images.now) c.args.list.now c.args.list.now c.loop-t.t-index (record { 0 = 0 }) c.loop-t.found.items c.push.new.self.items c.image.result refl (omega (arith, c.loop-t-test.true)) c.loop-t.invariant
    c.image.ensures c.in_ok-push.ensures.items
