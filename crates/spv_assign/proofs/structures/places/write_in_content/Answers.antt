use Rattle.spv_assign.proofs.structures.Cells.{write_cell_sorts, write_cell_stopped, content_steps, changed_sorts, changed_stopped, set_sorts, set_done}
use Rattle.spv_assign.proofs.structures.places.write_in_content.Goals as goal

pub cell-requires-clause-sorts : goal.cell-requires-clause-sorts
cell-requires-clause-sorts c =
    write_cell_sorts c.args.terms.now c.args.class c.args.q c.args.path.now c.requires.path c.args.v c.requires.steps c.requires.class c.requires.q c.requires.v c.requires.sorts

pub returns-in_err-content : goal.returns-in_err-content
returns-in_err-content c =
    write_cell_stopped c.args.terms.now c.args.class c.args.q c.args.path.now c.requires.path c.args.v c.requires.steps c.requires.class c.requires.q c.requires.v
    c.cell.new.terms c.from_residual.result c.in_err-content.field-0.0 c.from_residual.ensures.1 c.in_err-content.ensures

pub write_path-requires-clause-path : goal.write_path-requires-clause-path
write_path-requires-clause-path c = content_steps c.args.terms.now c.args.class c.args.q c.args.path.now c.requires.path c.cell.new.terms c.in_ok-content.content c.in_ok-content.ensures

pub write_path-requires-clause-sorts : goal.write_path-requires-clause-sorts
write_path-requires-clause-sorts c =
    changed_sorts c.args.terms.now c.args.class c.args.q c.args.path.now c.requires.path c.args.v c.requires.steps c.requires.class c.requires.q c.requires.v
    c.cell.new.terms c.in_ok-content.content c.in_ok-content.ensures c.requires.sorts

pub returns-in_err-changed : goal.returns-in_err-changed
returns-in_err-changed c =
    changed_stopped c.args.terms.now c.args.class c.args.q c.args.path.now c.requires.path c.args.v c.requires.steps c.requires.class c.requires.q c.requires.v
    c.cell.new.terms c.in_ok-content.content c.in_ok-content.ensures c.write_path.new.terms c.from_residual-in_err-changed.result c.in_err-changed.field-0.0 c.from_residual-in_err-changed.ensures.1 c.in_err-changed.ensures

pub set_cell-requires-clause-sorts : goal.set_cell-requires-clause-sorts
set_cell-requires-clause-sorts c =
    set_sorts c.args.terms.now c.args.class c.args.q c.args.path.now c.requires.path c.args.v c.requires.steps c.requires.class c.requires.q c.requires.v
    c.cell.new.terms c.in_ok-content.content c.in_ok-content.ensures c.write_path.new.terms c.in_ok-changed.changed c.in_ok-changed.ensures c.requires.sorts

pub returns : goal.returns
returns c =
    set_done c.args.terms.now c.args.class c.args.q c.args.path.now c.requires.path c.args.v c.requires.steps c.requires.class c.requires.q c.requires.v
    c.cell.new.terms c.in_ok-content.content c.in_ok-content.ensures c.write_path.new.terms c.in_ok-changed.changed c.in_ok-changed.ensures c.set_cell.new.terms c.set_cell.result c.set_cell.ensures
