use Rattle.std.proofs.Common.{◌≡◌, length}
use Rattle.spv_simplex.specs.Cells.{AreRowsTo}
use Rattle.spv_simplex.proofs.cells.rows.Given as goal

abbrev pub invariant-loop-form : goal.invariant-loop-form
invariant-loop-form l = record {
  count : length l.rows.items ≡ l.form-index;
  rows : AreRowsTo l.forms l.parts l.rows.items;
}
