use Rattle.spv_flow_parts.proofs.calls.at_call.gives_of.Given as goal

abbrev pub ghost-exit_at_call : goal.ghost-exit_at_call
ghost-exit_at_call g a = g.at
