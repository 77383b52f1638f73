use Rattle.spv_flow_parts.proofs.calls.at_call.add_initial_item.Given as goal

abbrev pub ghost-item_at_call : goal.ghost-item_at_call
ghost-item_at_call g a = g.at
