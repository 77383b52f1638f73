use Rattle.spv_assign.proofs.structures.Cells.{read_cell_sorts, read_cell_stopped, content_steps, read_behind_sorts, read_cell_done}
use Rattle.spv_assign.proofs.structures.places.read_in_cell.Goals as goal

pub cell-requires-clause-sorts : goal.cell-requires-clause-sorts
cell-requires-clause-sorts c = read_cell_sorts c.args.terms.now c.args.class c.args.q c.args.path.now c.requires.path c.requires.sorts

pub returns-in_err-content : goal.returns-in_err-content
returns-in_err-content c =
    read_cell_stopped c.args.terms.now c.args.class c.args.q c.args.path.now c.requires.path c.cell.new.terms c.from_residual.result c.in_err-content.field-0.0 c.from_residual.ensures.1 c.in_err-content.ensures

pub read_path-requires-clause-path : goal.read_path-requires-clause-path
read_path-requires-clause-path c = content_steps c.args.terms.now c.args.class c.args.q c.args.path.now c.requires.path c.cell.new.terms c.in_ok-content.content c.in_ok-content.ensures

pub read_path-requires-clause-sorts : goal.read_path-requires-clause-sorts
read_path-requires-clause-sorts c =
    read_behind_sorts c.args.terms.now c.args.class c.args.q c.args.path.now c.requires.path c.cell.new.terms c.in_ok-content.content c.in_ok-content.ensures c.requires.sorts

pub returns : goal.returns
returns c =
    read_cell_done c.args.terms.now c.args.class c.args.q c.args.path.now c.requires.path c.cell.new.terms c.in_ok-content.content c.in_ok-content.ensures
    c.read_path.new.terms c.read_path.result c.read_path.ensures
