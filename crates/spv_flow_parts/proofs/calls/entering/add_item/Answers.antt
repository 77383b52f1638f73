use Rattle.spv_program.specs.typed.ProgramViews.{global_of}
use Rattle.spv_assign.specs.supply.Numbers.{supply_of}
use Rattle.spv_flow_parts.proofs.calls.Fresh.{item_renewed}
use Rattle.spv_flow_parts.proofs.calls.entering.add_item.Goals as goal

pub returns : goal.returns
returns g c =
    item_renewed g.at.program g.at.routine (global_of c.args.global.now) (supply_of c.args.supply.now) c.args.terms.now c.if-not-global.false c.item_head-head.result (c.item_head-head.ensures g.at.program g.at.routine c.requires.0)
    c.fresh_pair.new.terms c.fresh_pair.new.supply (c.in_ok-name.name, c.in_ok-name.y) c.args.changed.now c.push.new.changed c.in_ok-name.ensures.fresh c.in_ok-name.ensures.grows c.in_ok-name.ensures.walk c.in_ok-name.ensures.there
    c.in_ok-push.ensures.in_exit c.in_ok-push.ensures.after
