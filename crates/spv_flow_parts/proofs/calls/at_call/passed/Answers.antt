use Rattle.spv_flow_parts.proofs.calls.Passing.{class_passed}
use Rattle.spv_flow_parts.proofs.calls.at_call.passed.Goals as goal

pub returns-in-Class : goal.returns-in-Class
returns-in-Class g c = λ a present. class_passed g.at.program g.at.routine g.at.arguments c.args.item c.in-Class.field-0 a c.in-Class.is
