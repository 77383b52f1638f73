use Rattle.spv_types.proofs.Tops.{read_at_top, stops_at_top}
use Rattle.spv_types.proofs.main_block.annotation_at_top.Goals as goal

pub returns-clause-ok : goal.returns-clause-ok
returns-clause-ok c = read_at_top c.args.known.now c.new-none.result c.new-none.ensures c.args.tree.now c.annotation.result c.annotation.ensures.ok

pub returns-clause-err : goal.returns-clause-err
returns-clause-err c = stops_at_top c.args.known.now c.new-none.result c.new-none.ensures c.args.tree.now c.annotation.result c.annotation.ensures.err
