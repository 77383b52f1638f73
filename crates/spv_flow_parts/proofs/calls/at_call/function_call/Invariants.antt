use Rattle.std.proofs.Common.{map}
use Rattle.spv_term.specs.Arena.{tree}
use Rattle.spv_flow_parts.proofs.calls.at_call.function_call.Given as goal

abbrev pub ghost-called : goal.ghost-called
ghost-called g a = record { program = a.program.now; number = a.number; routine = g.at.routine; arguments = g.at.arguments; given = g.at.given; after = map (λ q. (q.0, tree a.terms.now q.1)) a.after.now }
