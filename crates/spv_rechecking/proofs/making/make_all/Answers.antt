use Rattle.std.proofs.Common.{ap, arith}
use Rattle.std.specs.Prelude.{Err}
use Rattle.spv_term.specs.declared.nodes.TermFault.TheVariants.{Size}
use Rattle.spv_listing_values.specs.Places.{trees}
use Rattle.spv_search_terms.proofs.condition_copy.Exits.{same_fault}
use Rattle.spv_rechecking.proofs.written_terms.Levels.{so_many_trees}
use Rattle.spv_rechecking.proofs.MakeLemmas.{begins, heads_now, count_now, images_now, inside_now, more_now, stops_now, all_gained, all_images}
use Rattle.spv_rechecking.proofs.making.make_all.Goals as goal

pub loop-place-init : goal.loop-place-init
loop-place-init c = begins c.args.names.now c.args.titles.now c.args.leaves.now c.args.terms.now (trees c.args.texts.now) c.new-images.result.items c.new-images.ensures.items

pub make_one-requires-clause-heads : goal.make_one-requires-clause-heads
make_one-requires-clause-heads c = heads_now c.args.names.now c.args.titles.now c.args.leaves.now c.args.terms.now (trees c.args.texts.now) c.loop-place.terms c.loop-place.images.items c.loop-place.place c.loop-place.invariant c.args.heads.now c.requires

pub make_one-requires-clause-count : goal.make_one-requires-clause-count
make_one-requires-clause-count c = count_now c.args.names.now c.args.titles.now c.args.leaves.now c.args.terms.now (trees c.args.texts.now) c.loop-place.terms c.loop-place.images.items c.loop-place.place c.loop-place.invariant c.as_slice.result.now c.as_slice.ensures.value c.in_ok-t.t.0 c.in_ok-t.ensures

pub make_one-requires-clause-images : goal.make_one-requires-clause-images
make_one-requires-clause-images c = images_now c.args.names.now c.args.titles.now c.args.leaves.now c.args.terms.now (trees c.args.texts.now) c.loop-place.terms c.loop-place.images.items c.loop-place.place c.loop-place.invariant c.as_slice.result.now c.as_slice.ensures.value c.in_ok-t.t.0 c.in_ok-t.ensures

pub make_one-requires-clause-in_range : goal.make_one-requires-clause-in_range
make_one-requires-clause-in_range c = inside_now c.args.names.now c.args.titles.now c.args.leaves.now c.args.terms.now (trees c.args.texts.now) c.loop-place.terms c.loop-place.images.items c.loop-place.place c.loop-place.invariant c.as_slice.result.now c.as_slice.ensures.value

pub returns-in_err-one-clause-size : goal.returns-in_err-one-clause-size
returns-in_err-one-clause-size c =
    λ is.
    stops_now c.args.names.now c.args.titles.now c.args.leaves.now c.args.terms.now (trees c.args.texts.now) c.loop-place.terms c.loop-place.images.items c.loop-place.place c.loop-place.invariant c.in_ok-t.t.0 c.in_ok-t.ensures (omega (arith, c.in_ok-t.ensures, c.loop-place-test.true, c.len-place-end.ensures, so_many_trees c.args.texts.now))
    (c.in_err-one.ensures.size (ap Err (same_fault c.in_err-one.field-0.0 c.from_residual-in_err-one.result c.from_residual-in_err-one.ensures.1 Size is)))

pub loop-place-preserved : goal.loop-place-preserved
loop-place-preserved c =
    more_now c.args.names.now c.args.titles.now c.args.leaves.now c.args.terms.now (trees c.args.texts.now) c.loop-place.terms c.loop-place.images.items c.loop-place.place c.loop-place.invariant c.in_ok-t.t.0 c.in_ok-t.ensures (omega (arith, c.in_ok-t.ensures, c.loop-place-test.true, c.len-place-end.ensures, so_many_trees c.args.texts.now)) c.make_one.new.terms c.push.new.images.items c.in_ok-one.one c.in_ok-one.ensures.gains c.in_ok-one.ensures.grows c.in_ok-one.ensures.tree
    c.in_ok-one.ensures.in_range c.in_ok-push.ensures

pub returns-clause-gains : goal.returns-clause-gains
returns-clause-gains c =
    all_gained c.args.names.now c.args.titles.now c.args.leaves.now c.args.terms.now (trees c.args.texts.now) c.loop-place.terms c.loop-place.images.items c.loop-place.place c.loop-place.invariant (omega (arith, c.loop-place-test.false, c.len-place-end.ensures, so_many_trees c.args.texts.now))

pub returns-clause-images : goal.returns-clause-images
returns-clause-images c =
    all_images c.args.names.now c.args.titles.now c.args.leaves.now c.args.terms.now (trees c.args.texts.now) c.loop-place.terms c.loop-place.images.items c.loop-place.place c.loop-place.invariant (omega (arith, c.loop-place-test.false, c.len-place-end.ensures, so_many_trees c.args.texts.now))
