use Rattle.spv_assign.proofs.structures.Cells.{whole_of_variable, whole_of_cell, sorted_as, makes_as}
use Rattle.spv_assign.proofs.structures.places.whole_with.Goals as goal

pub write_path-requires-clause-sorts : goal.write_path-requires-clause-sorts
write_path-requires-clause-sorts c =
    sorted_as c.args.terms.now _ _ (whole_of_variable c.args.terms.now c.law_arena.ensures c.args.d.now c.requires.target.root c.requires.target.variable c.as_slice-path.result.now c.as_slice-path.ensures c.args.v c.in-None.is) c.requires.sorts

pub returns-in-None : goal.returns-in-None
returns-in-None c =
    makes_as c.args.terms.now c.write_path.new.terms c.write_path.result _ _
    (whole_of_variable c.args.terms.now c.law_arena.ensures c.args.d.now c.requires.target.root c.requires.target.variable c.as_slice-path.result.now c.as_slice-path.ensures c.args.v c.in-None.is) c.write_path.ensures

pub write_in_cell-requires-clause-sorts : goal.write_in_cell-requires-clause-sorts
write_in_cell-requires-clause-sorts c =
    sorted_as c.args.terms.now _ _ (whole_of_cell c.args.terms.now c.law_arena.ensures c.args.d.now c.requires.target.root c.requires.target.variable c.as_slice-path.result.now c.as_slice-path.ensures c.args.v c.in-Some.q c.in-Some.is) c.requires.sorts

pub returns-in-Some : goal.returns-in-Some
returns-in-Some c =
    makes_as c.args.terms.now c.write_in_cell.new.terms c.write_in_cell.result _ _
    (whole_of_cell c.args.terms.now c.law_arena.ensures c.args.d.now c.requires.target.root c.requires.target.variable c.as_slice-path.result.now c.as_slice-path.ensures c.args.v c.in-Some.q c.in-Some.is) c.write_in_cell.ensures
