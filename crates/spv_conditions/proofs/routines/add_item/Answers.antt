use Rattle.std.proofs.Common.{◌∙◌}
use Rattle.spv_flow_parts.proofs.body_tables.Scoping.{item_is}
use Rattle.spv_conditions.proofs.Beginning.{item_added, item_in_range, item_sorts}
use Rattle.spv_conditions.proofs.routines.add_item.Goals as goal

pub add_names-requires-clause-from_types : goal.add_names-requires-clause-from_types
add_names-requires-clause-from_types g c =
    item_in_range g.of.program g.of.routine c.args.name c.args.item c.item_sort.result (c.item_sort.ensures ∙ item_is g.of.program g.of.routine c.args.variables.now c.requires.0 c.args.item) c.args.terms.now.shapes c.requires.1

pub add_names-requires-clause-sorts : goal.add_names-requires-clause-sorts
add_names-requires-clause-sorts g c =
    item_sorts g.of.program g.of.routine c.args.name c.args.item c.item_sort.result (c.item_sort.ensures ∙ item_is g.of.program g.of.routine c.args.variables.now c.requires.0 c.args.item) c.item_head.result
    (c.item_head.ensures g.of.program g.of.routine c.requires.0)

pub returns : goal.returns
returns g c =
    item_added g.of.program g.of.routine c.args.name c.args.item c.item_sort.result (c.item_sort.ensures ∙ item_is g.of.program g.of.routine c.args.variables.now c.requires.0 c.args.item) c.item_head.result
    (c.item_head.ensures g.of.program g.of.routine c.requires.0) c.add_names.result c.args.terms.now c.add_names.new.terms c.args.pairs.now.items c.add_names.new.pairs.items c.add_names.ensures
