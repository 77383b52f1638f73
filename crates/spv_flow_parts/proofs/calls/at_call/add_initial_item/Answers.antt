use Rattle.std.proofs.Common.{◌∙◌}
use Rattle.spv_flow_parts.proofs.body_tables.Scoping.{item_is}
use Rattle.spv_flow_parts.proofs.calls.Initial.{item_added, item_range_in, item_sorted, item_stops}
use Rattle.spv_flow_parts.proofs.calls.Zipping.{IsAtCall-Extends}
use Rattle.spv_flow_parts.proofs.calls.at_call.add_initial_item.Goals as goal

pub returns-in_err-t : goal.returns-in_err-t
returns-in_err-t g c =
    item_stops g.at.program g.at.number g.at.routine g.at.arguments c.args.name c.args.item c.args.terms.now c.item_at_call.new.terms c.from_residual.result c.in_err-t.field-0.0 c.args.pairs.now.items c.args.pairs.now.items
    c.from_residual.ensures.1 c.in_err-t.ensures

pub add_pair-requires-clause-types : goal.add_pair-requires-clause-types
add_pair-requires-clause-types g c =
    item_range_in g.at.program g.at.routine c.args.terms.now c.item_at_call.new.terms c.args.item c.item_sort.result (c.item_sort.ensures ∙ item_is g.at.program g.at.routine c.args.variables.now c.requires.1.1.0 c.args.item)
    c.in_ok-t.ensures.grows c.requires.1.1.1.1

pub add_pair-requires-clause-sort : goal.add_pair-requires-clause-sort
add_pair-requires-clause-sort g c =
    item_sorted g.at.program g.at.number g.at.routine g.at.arguments c.args.name c.args.item c.item_at_call.new.terms c.in_ok-t.t c.in_ok-t.ensures.term c.item_sort.result
    (c.item_sort.ensures ∙ item_is g.at.program g.at.routine c.args.variables.now c.requires.1.1.0 c.args.item)
    (IsAtCall-Extends g.at.program c.args.terms.now g.at.number g.at.routine g.at.arguments c.requires.0 c.item_at_call.new.terms c.in_ok-t.ensures.grows)

pub returns : goal.returns
returns g c =
    item_added g.at.program g.at.number g.at.routine g.at.arguments c.args.name c.args.item c.item_at_call.new.terms c.in_ok-t.t c.in_ok-t.ensures.term c.item_sort.result
    (c.item_sort.ensures ∙ item_is g.at.program g.at.routine c.args.variables.now c.requires.1.1.0 c.args.item)
    c.args.terms.now c.add_pair.new.terms c.add_pair.result c.args.pairs.now.items c.add_pair.new.pairs.items c.in_ok-t.ensures c.add_pair.ensures
