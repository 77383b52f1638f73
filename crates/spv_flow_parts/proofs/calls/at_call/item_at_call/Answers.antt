use Rattle.std.proofs.Common.{Some}
use Rattle.spv_program.specs.Calls.{at_call, replacing}
use Rattle.spv_program.specs.Terms.{item_head}
use Rattle.spv_flow_parts.proofs.calls.Initial.{item_put, item_variable}
use Rattle.spv_flow_parts.proofs.calls.Zipping.{passed_count}
use Rattle.spv_flow_parts.proofs.calls.at_call.item_at_call.Goals as goal

pub passed-given-requires : goal.passed-given-requires
passed-given-requires g c =
    (c.requires.1.0, passed_count g.at.program c.args.terms.now g.at.number g.at.routine g.at.arguments c.requires.0 c.args.formals.now c.args.now.now c.requires.1.0 c.requires.1.1.1.0)

pub returns : goal.returns
returns g c =
    item_put c.passed_or_itself.result c.args.terms.now c.passed_or_itself.new.terms (replacing (at_call g.at.program g.at.routine.formals g.at.arguments)) c.item_head.result (item_head g.at.program (Some g.at.routine) c.args.item)
    (c.item_head.ensures g.at.program g.at.routine c.requires.1.1.0) (item_variable g.at.program g.at.routine c.args.item) c.passed_or_itself.ensures
