use Rattle.std.proofs.Common.{[]}
use Rattle.spv_flow_parts.proofs.calls.Each.{after_in}
use Rattle.spv_flow_parts.proofs.calls.entering.before_entered.Given as goal

abbrev pub ghost-changes : goal.ghost-changes
ghost-changes g a = record { program = a.program.now; number = a.number; routine = g.at.routine; arguments = g.at.arguments; given = g.at.given; after = [] }

abbrev pub ghost-called : goal.ghost-called
ghost-called g a = record { program = a.program.now; number = a.number; routine = g.at.routine; arguments = g.at.arguments; given = g.at.given; after = after_in a.terms.now a.after.now }
