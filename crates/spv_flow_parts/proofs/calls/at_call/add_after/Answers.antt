use Rattle.std.proofs.Common.{get_or}
use Rattle.spv_flow_parts.proofs.calls.Building.{pairs_begin, pairs_end}
use Rattle.spv_flow_parts.proofs.calls.After.{after_here, after_next, after_past, after_stop, no_after}
use Rattle.spv_flow_parts.proofs.calls.at_call.add_after.Goals as goal

pub loop-head-init : goal.loop-head-init
loop-head-init g c = pairs_begin c.args.terms.now g.at.after c.args.pairs.now.items

pub add_pair-requires-clause-variable : goal.add_pair-requires-clause-variable
add_pair-requires-clause-variable g c =
    let h = after_here g.at.program c.args.terms.now c.loop-head.terms c.args.after.now g.at.after c.requires.0 c.requires.1.0 c.requires.1.1.0 c.requires.1.1.1 c.loop-head.invariant.walked.grows c.loop-head.head-index no_after c.loop-head-test.true in
    h.variable

pub add_pair-requires-clause-types : goal.add_pair-requires-clause-types
add_pair-requires-clause-types g c =
    let h = after_here g.at.program c.args.terms.now c.loop-head.terms c.args.after.now g.at.after c.requires.0 c.requires.1.0 c.requires.1.1.0 c.requires.1.1.1 c.loop-head.invariant.walked.grows c.loop-head.head-index no_after c.loop-head-test.true in
    h.range

pub add_pair-requires-clause-t : goal.add_pair-requires-clause-t
add_pair-requires-clause-t g c =
    let h = after_here g.at.program c.args.terms.now c.loop-head.terms c.args.after.now g.at.after c.requires.0 c.requires.1.0 c.requires.1.1.0 c.requires.1.1.1 c.loop-head.invariant.walked.grows c.loop-head.head-index no_after c.loop-head-test.true in
    h.there

pub add_pair-requires-clause-sort : goal.add_pair-requires-clause-sort
add_pair-requires-clause-sort g c =
    let h = after_here g.at.program c.args.terms.now c.loop-head.terms c.args.after.now g.at.after c.requires.0 c.requires.1.0 c.requires.1.1.0 c.requires.1.1.1 c.loop-head.invariant.walked.grows c.loop-head.head-index no_after c.loop-head-test.true in
    h.sort

pub loop-head-preserved : goal.loop-head-preserved
loop-head-preserved g c =
    let h = after_here g.at.program c.args.terms.now c.loop-head.terms c.args.after.now g.at.after c.requires.0 c.requires.1.0 c.requires.1.1.0 c.requires.1.1.1 c.loop-head.invariant.walked.grows c.loop-head.head-index no_after c.loop-head-test.true in
    after_next c.args.terms.now c.loop-head.terms c.add_pair.new.terms g.at.after c.loop-head.head-index (get_or c.args.after.now c.loop-head.head-index no_after).0 (get_or c.args.after.now c.loop-head.head-index no_after).1
    c.args.pairs.now.items c.loop-head.pairs.items h c.loop-head.invariant tt c.add_pair.new.pairs.items c.in_ok-add_pair.ensures

pub returns-in_err-add_pair : goal.returns-in_err-add_pair
returns-in_err-add_pair g c =
    let h = after_here g.at.program c.args.terms.now c.loop-head.terms c.args.after.now g.at.after c.requires.0 c.requires.1.0 c.requires.1.1.0 c.requires.1.1.1 c.loop-head.invariant.walked.grows c.loop-head.head-index no_after c.loop-head-test.true in
    after_stop c.args.terms.now c.loop-head.terms c.add_pair.new.terms g.at.after c.loop-head.head-index (get_or c.args.after.now c.loop-head.head-index no_after).0 (get_or c.args.after.now c.loop-head.head-index no_after).1
    c.args.pairs.now.items c.loop-head.pairs.items h c.loop-head.invariant c.from_residual.result c.in_err-add_pair.field-0.0 c.add_pair.new.pairs.items c.add_pair.new.pairs.items c.from_residual.ensures.1 c.in_err-add_pair.ensures

pub returns : goal.returns
returns g c =
    pairs_end g.at.after _ c.args.pairs.now.items c.loop-head.pairs.items
    (after_past g.at.program c.args.terms.now c.loop-head.terms c.args.after.now g.at.after c.requires.0 c.requires.1.0 c.requires.1.1.0 c.requires.1.1.1 c.loop-head.head-index c.loop-head-test.false) c.loop-head.invariant tt
