use Rattle.spv_flow_parts.proofs.calls.entering.changes.Given as goal

abbrev pub ghost-add_places : goal.ghost-add_places
ghost-add_places g a = g.at

abbrev pub ghost-add_items : goal.ghost-add_items
ghost-add_items g a = g.at
