use Rattle.spv_flow_parts.proofs.calls.at_call.entry_at_call.Given as goal

abbrev pub ghost-at_call : goal.ghost-at_call
ghost-at_call g a = g.at
