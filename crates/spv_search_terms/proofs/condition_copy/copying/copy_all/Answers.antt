use Rattle.std.proofs.Common.{length, ap, arith}
use Rattle.std.specs.Prelude.{Err}
use Rattle.spv_term.specs.declared.nodes.TermFault.TheVariants.{Size}
use Rattle.spv_search_terms.proofs.subterms.PlaceLemmas.{item_in, item_at}
use Rattle.spv_search_terms.proofs.condition_copy.Exits.{same_fault}
use Rattle.spv_search_terms.proofs.condition_copy.CopyLemmas.{images_so_far, ready_so_far, one_more, one_stops}
use Rattle.spv_search_terms.proofs.condition_copy.copying.copy_all.Goals as goal

pub copy_one-requires-clause-t : goal.copy_one-requires-clause-t
copy_one-requires-clause-t c =
    item_in (length c.args.terms.now.nodes) c.args.order.now c.as_slice-t-items.result.now c.loop-t.t-index (record { 0 = 0 }) c.as_slice-t-items.ensures c.requires.in_range (omega (arith, c.loop-t-test.true))

pub copy_one-requires-clause-images : goal.copy_one-requires-clause-images
copy_one-requires-clause-images c =
    images_so_far c.args.terms.now c.args.order.now c.args.new.now c.loop-t.new c.loop-t.images.items c.as_slice.result.now c.loop-t.t-index c.loop-t.invariant c.as_slice.ensures.value

pub copy_one-requires-clause-ready : goal.copy_one-requires-clause-ready
copy_one-requires-clause-ready c =
    λ n at.
    ready_so_far c.args.terms.now c.args.order.now c.args.new.now c.loop-t.new c.loop-t.images.items c.as_slice.result.now c.loop-t.t-index c.loop-t.invariant c.as_slice.ensures.value n.args
    (c.requires.behind.before c.loop-t.t-index _ n
    (item_at c.args.order.now c.as_slice-t-items.result.now c.loop-t.t-index (record { 0 = 0 }) c.as_slice-t-items.ensures (omega (arith, c.loop-t-test.true))) at)

pub returns-in_err-one-clause-size : goal.returns-in_err-one-clause-size
returns-in_err-one-clause-size c =
    λ is.
    one_stops c.args.terms.now c.args.order.now c.as_slice-t-items.result.now c.as_slice-t-items.ensures c.args.new.now c.loop-t.new c.loop-t.images.items c.loop-t.t-index (record { 0 = 0 }) c.loop-t.invariant
    (omega (arith, c.loop-t-test.true)) (c.in_err-one.ensures.size (ap Err (same_fault c.in_err-one.field-0.0 c.from_residual.result c.from_residual.ensures.1 Size is)))

pub loop-t-preserved : goal.loop-t-preserved
loop-t-preserved c =
    one_more c.args.terms.now c.args.order.now c.as_slice-t-items.result.now c.as_slice-t-items.ensures c.args.new.now c.loop-t.new c.loop-t.images.items c.loop-t.t-index (record { 0 = 0 }) c.loop-t.invariant
    (omega (arith, c.loop-t-test.true)) c.copy_one.new.new c.push.new.images.items c.in_ok-one.one c.in_ok-one.ensures.gains c.in_ok-one.ensures.grows c.in_ok-one.ensures.tree c.in_ok-one.ensures.in_range c.in_ok-push.ensures
