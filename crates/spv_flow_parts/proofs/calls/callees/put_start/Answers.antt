use Rattle.spv_flow_parts.proofs.calls.Starts.{start_put}
use Rattle.spv_flow_parts.proofs.calls.callees.put_start.Goals as goal

pub returns : goal.returns
returns c = start_put c.insert.result c.args.table.now c.insert.new.self c.args.formal.now.name tt c.args.formal.now.by_place c.if-formal.false c.insert.ensures.ok
