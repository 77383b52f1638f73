use Rattle.spv_simplex.specs.Cells.{IsRowTo}
use Rattle.spv_simplex.proofs.cells.row.Given as goal

abbrev pub invariant-loop-place : goal.invariant-loop-place
invariant-loop-place l = IsRowTo l.form l.parts l.place l.row
