use Rattle.spv_flow_parts.proofs.calls.at_call.exit_pairs.Given as goal

abbrev pub ghost-add_starts : goal.ghost-add_starts
ghost-add_starts g a = g.at

abbrev pub ghost-add_initial_items : goal.ghost-add_initial_items
ghost-add_initial_items g a = g.at

abbrev pub ghost-add_after : goal.ghost-add_after
ghost-add_after g a = g.at
