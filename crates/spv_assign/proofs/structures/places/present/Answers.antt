use Rattle.spv_assign.proofs.structures.Cells.{present_of_variable, present_of_cell, sorted_as, makes_as}
use Rattle.spv_assign.proofs.structures.places.present.Goals as goal

pub read_path-requires-clause-sorts : goal.read_path-requires-clause-sorts
read_path-requires-clause-sorts c =
    sorted_as c.args.terms.now _ _ (present_of_variable c.args.terms.now c.law_arena.ensures c.args.d.now c.requires.target.root c.requires.target.variable c.as_slice-path.result.now c.as_slice-path.ensures c.in-None.is) c.requires.sorts

pub returns-in-None : goal.returns-in-None
returns-in-None c =
    makes_as c.args.terms.now c.read_path.new.terms c.read_path.result _ _
    (present_of_variable c.args.terms.now c.law_arena.ensures c.args.d.now c.requires.target.root c.requires.target.variable c.as_slice-path.result.now c.as_slice-path.ensures c.in-None.is) c.read_path.ensures

pub read_in_cell-requires-clause-sorts : goal.read_in_cell-requires-clause-sorts
read_in_cell-requires-clause-sorts c =
    sorted_as c.args.terms.now _ _ (present_of_cell c.args.terms.now c.law_arena.ensures c.args.d.now c.requires.target.root c.requires.target.variable c.as_slice-path.result.now c.as_slice-path.ensures c.in-Some.q c.in-Some.is) c.requires.sorts

pub returns-in-Some : goal.returns-in-Some
returns-in-Some c =
    makes_as c.args.terms.now c.read_in_cell.new.terms c.read_in_cell.result _ _
    (present_of_cell c.args.terms.now c.law_arena.ensures c.args.d.now c.requires.target.root c.requires.target.variable c.as_slice-path.result.now c.as_slice-path.ensures c.in-Some.q c.in-Some.is) c.read_in_cell.ensures
