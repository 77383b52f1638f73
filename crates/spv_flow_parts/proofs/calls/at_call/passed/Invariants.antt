use Rattle.spv_flow_parts.proofs.calls.at_call.passed.Given as goal

abbrev pub ghost-passed_by_name : goal.ghost-passed_by_name
ghost-passed_by_name g a = g.at
