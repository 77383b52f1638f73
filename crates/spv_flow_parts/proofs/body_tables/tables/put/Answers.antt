use Rattle.spv_flow_parts.proofs.body_tables.Putting.{put_inserted}
use Rattle.spv_flow_parts.proofs.body_tables.tables.put.Goals as goal

pub returns-else-has : goal.returns-else-has
returns-else-has c =
    put_inserted c.insert.result c.args.table.now c.insert.new.self c.args.x c.args.s c.insert.ensures.ok
