use Rattle.std.proofs.Common.{ap, refl}
use Rattle.spv_conditions.proofs.Beginning.{each_begin, each_end, each_next, each_stop, initials, initials_both, item_there, no_item}
use Rattle.spv_conditions.proofs.routines.add_items.Goals as goal

pub loop-x-init : goal.loop-x-init
loop-x-init g c =
    each_begin (initials g.of.program g.of.routine) (initials_both g.of.program g.of.routine) refl c.args.initial.now _ c.args.terms.now c.args.pairs.now.items (ap (initials g.of.program g.of.routine) c.requires.1.1.1)

pub add_item-requires : goal.add_item-requires
add_item-requires g c = (
  c.requires.1.1.0,
  item_there g.of.program g.of.routine c.args.terms.now c.requires.0 c.requires.1.0 c.loop-x.terms c.loop-x.invariant.walked.grows c.args.initial.now c.loop-x.x-index no_item c.requires.1.1.1 c.loop-x-test.true,
)

pub loop-x-preserved : goal.loop-x-preserved
loop-x-preserved g c =
    each_next (initials g.of.program g.of.routine) (initials_both g.of.program g.of.routine) refl c.args.initial.now _ c.args.terms.now c.loop-x.terms c.add_item.new.terms c.loop-x.x-index no_item c.args.pairs.now.items
    c.loop-x.pairs.items c.loop-x-test.true c.loop-x.invariant tt c.add_item.new.pairs.items c.in_ok-add_item.ensures

pub returns-in_err-add_item : goal.returns-in_err-add_item
returns-in_err-add_item g c =
    each_stop (initials g.of.program g.of.routine) (initials_both g.of.program g.of.routine) refl c.args.initial.now _ c.args.terms.now c.loop-x.terms c.add_item.new.terms c.loop-x.x-index no_item c.args.pairs.now.items
    c.loop-x.pairs.items c.loop-x-test.true c.loop-x.invariant c.from_residual.result c.in_err-add_item.field-0.0 c.add_item.new.pairs.items c.add_item.new.pairs.items c.from_residual.ensures.1 c.in_err-add_item.ensures

pub returns : goal.returns
returns g c =
    each_end (initials g.of.program g.of.routine) (initials_both g.of.program g.of.routine) refl c.args.initial.now _ c.args.terms.now c.loop-x.terms c.loop-x.x-index c.args.pairs.now.items c.loop-x.pairs.items c.loop-x-test.false
    c.loop-x.invariant tt
