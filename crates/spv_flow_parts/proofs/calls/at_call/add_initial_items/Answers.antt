use Rattle.spv_flow_parts.proofs.calls.Initial.{initial_begin, initial_end, initial_next, initial_stop, initial_there, no_item}
use Rattle.spv_flow_parts.proofs.calls.Passing.{ArePresent-Extends}
use Rattle.spv_flow_parts.proofs.calls.Zipping.{IsAtCall-Extends}
use Rattle.spv_flow_parts.proofs.calls.at_call.add_initial_items.Goals as goal

pub loop-x-init : goal.loop-x-init
loop-x-init g c = initial_begin g.at.program g.at.routine g.at.arguments c.args.initial.now c.args.terms.now c.args.pairs.now.items c.requires.1.1.1.1

pub add_initial_item-requires : goal.add_initial_item-requires
add_initial_item-requires g c =
    let at = IsAtCall-Extends g.at.program c.args.terms.now g.at.number g.at.routine g.at.arguments c.requires.0 c.loop-x.terms c.loop-x.invariant.walked.grows in (
      at,
      (
        c.requires.1.0,
        (
          c.requires.1.1.0,
          (
            ArePresent-Extends c.loop-x.invariant.walked.grows c.args.now.now g.at.arguments c.requires.1.1.1.0,
            initial_there g.at.program c.loop-x.terms g.at.number g.at.routine g.at.arguments at c.args.initial.now c.loop-x.x-index no_item c.requires.1.1.1.1 c.loop-x-test.true,
          ),
        ),
      ),
    )

pub loop-x-preserved : goal.loop-x-preserved
loop-x-preserved g c =
    initial_next g.at.program g.at.routine g.at.arguments c.args.initial.now c.args.terms.now c.loop-x.terms c.add_initial_item.new.terms c.loop-x.x-index no_item c.args.pairs.now.items c.loop-x.pairs.items c.loop-x-test.true
    c.loop-x.invariant tt c.add_initial_item.new.pairs.items c.in_ok-add_initial_item.ensures

pub returns-in_err-add_initial_item : goal.returns-in_err-add_initial_item
returns-in_err-add_initial_item g c =
    initial_stop g.at.program g.at.routine g.at.arguments c.args.initial.now c.args.terms.now c.loop-x.terms c.add_initial_item.new.terms c.loop-x.x-index no_item c.args.pairs.now.items c.loop-x.pairs.items c.loop-x-test.true
    c.loop-x.invariant c.from_residual.result c.in_err-add_initial_item.field-0.0 c.add_initial_item.new.pairs.items c.add_initial_item.new.pairs.items c.from_residual.ensures.1 c.in_err-add_initial_item.ensures

pub returns : goal.returns
returns g c =
    initial_end g.at.program g.at.routine g.at.arguments c.args.initial.now c.args.terms.now c.loop-x.terms c.loop-x.x-index c.args.pairs.now.items c.loop-x.pairs.items c.loop-x-test.false c.loop-x.invariant tt
