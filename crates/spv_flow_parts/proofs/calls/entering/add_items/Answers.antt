use Rattle.std.proofs.Common.{List, map, ap, subst}
use Rattle.std.proofs.lemmas.List.{drop_more, drop_all}
use Rattle.spv_program.specs.declared.typed.programs.GlobalItem.{GlobalItem as GlobalText}
use Rattle.spv_program.specs.Changes.{var_items}
use Rattle.spv_program.specs.typed.ProgramViews.{global_of}
use Rattle.spv_assign.specs.supply.Numbers.{supply_of}
use Rattle.spv_meaning.specs.Before.{changed_items}
use Rattle.spv_flow_parts.proofs.calls.Each.{ItemsSoFar, items_begin, item_types, item_stopped, item_done, items_end}
use Rattle.spv_flow_parts.proofs.calls.entering.add_items.Goals as goal

pub loop-global-init : goal.loop-global-init
loop-global-init g c = items_begin g.at.program c.args.terms.now g.at.number g.at.routine g.at.arguments (supply_of c.args.supply.now) c.args.changed.now (map global_of c.args.globals.now) c.requires.0 c.requires.1.1.0 c.requires.1.1.1

pub add_item-requires : goal.add_item-requires
add_item-requires g c = (c.requires.1.0, (item_types g.at.program g.at.routine c.args.terms.now c.loop-global.terms (supply_of c.loop-global.supply) c.args.changed.now c.loop-global.changed (changed_items g.at.program g.at.routine (var_items g.at.routine.globals) (supply_of c.args.supply.now)) _ _ (subst (λ (gs : List GlobalText). ItemsSoFar g.at.program g.at.routine c.args.terms.now c.loop-global.terms (supply_of c.loop-global.supply) c.args.changed.now c.loop-global.changed (changed_items g.at.program g.at.routine (var_items g.at.routine.globals) (supply_of c.args.supply.now)) (map global_of gs)) (drop_more c.args.globals.now c.loop-global.global-index _ c.loop-global-test.true) c.loop-global.invariant), c.loop-global.invariant.added.adds.there))

pub returns-in_err-add_item : goal.returns-in_err-add_item
returns-in_err-add_item g c = item_stopped g.at.program g.at.routine c.args.terms.now c.loop-global.terms (supply_of c.loop-global.supply) c.args.changed.now c.loop-global.changed (changed_items g.at.program g.at.routine (var_items g.at.routine.globals) (supply_of c.args.supply.now)) _ _ (subst (λ (gs : List GlobalText). ItemsSoFar g.at.program g.at.routine c.args.terms.now c.loop-global.terms (supply_of c.loop-global.supply) c.args.changed.now c.loop-global.changed (changed_items g.at.program g.at.routine (var_items g.at.routine.globals) (supply_of c.args.supply.now)) (map global_of gs)) (drop_more c.args.globals.now c.loop-global.global-index _ c.loop-global-test.true) c.loop-global.invariant) c.add_item.new.terms (supply_of c.add_item.new.supply) c.add_item.new.changed c.from_residual.result c.in_err-add_item.field-0.0 c.from_residual.ensures.1 c.in_err-add_item.ensures

pub loop-global-preserved : goal.loop-global-preserved
loop-global-preserved g c = item_done g.at.program g.at.routine c.args.terms.now c.loop-global.terms (supply_of c.loop-global.supply) c.args.changed.now c.loop-global.changed (changed_items g.at.program g.at.routine (var_items g.at.routine.globals) (supply_of c.args.supply.now)) _ _ (subst (λ (gs : List GlobalText). ItemsSoFar g.at.program g.at.routine c.args.terms.now c.loop-global.terms (supply_of c.loop-global.supply) c.args.changed.now c.loop-global.changed (changed_items g.at.program g.at.routine (var_items g.at.routine.globals) (supply_of c.args.supply.now)) (map global_of gs)) (drop_more c.args.globals.now c.loop-global.global-index _ c.loop-global-test.true) c.loop-global.invariant) c.add_item.new.terms (supply_of c.add_item.new.supply) c.add_item.new.changed c.in_ok-add_item.ensures

pub returns : goal.returns
returns g c =
    items_end g.at.program g.at.routine c.args.terms.now c.loop-global.terms (supply_of c.loop-global.supply) c.args.changed.now c.loop-global.changed (changed_items g.at.program g.at.routine (var_items g.at.routine.globals) (supply_of c.args.supply.now)) _
    (ap (map global_of) (drop_all c.loop-global.global-index c.args.globals.now c.loop-global-test.false)) c.loop-global.invariant
